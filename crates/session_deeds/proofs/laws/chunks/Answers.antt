use Rattle.session_deeds.proofs.Taking.{data_goes}
use Rattle.session_deeds.proofs.Hearing.{hearing_goes, probing_goes, rejecting_goes}
use Rattle.session_deeds.proofs.Chunks.{chunk_goes}
use Rattle.session_deeds.proofs.laws.chunks.Goals as goal

pub returns-clause-data_taken : goal.returns-clause-data_taken
returns-clause-data_taken c = data_goes

pub returns-clause-heard : goal.returns-clause-heard
returns-clause-heard c = hearing_goes

pub returns-clause-probed : goal.returns-clause-probed
returns-clause-probed c = probing_goes

pub returns-clause-rejected : goal.returns-clause-rejected
returns-clause-rejected c = rejecting_goes

pub returns-clause-any : goal.returns-clause-any
returns-clause-any c = chunk_goes
