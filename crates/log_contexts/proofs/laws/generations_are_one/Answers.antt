use Rattle.endpoint_laws.proofs.Unique.{event_one, keying_one}
use Rattle.log_contexts.proofs.Standing.{begun_one}
use Rattle.log_contexts.proofs.laws.generations_are_one.Goals as goal

pub returns : goal.returns
returns c = record { keying = keying_one; event = event_one; begun = begun_one }
