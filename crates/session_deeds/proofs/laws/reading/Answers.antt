use Rattle.rtmfp_data_chunks.proofs.Fitting.{what_is_read_fits}
use Rattle.session_deeds.proofs.Fitting.{what_is_put_is_read}
use Rattle.session_deeds.proofs.laws.reading.Goals as goal

pub returns-clause-packet : goal.returns-clause-packet
returns-clause-packet c = what_is_put_is_read

pub returns-clause-numbers : goal.returns-clause-numbers
returns-clause-numbers c = what_is_read_fits
