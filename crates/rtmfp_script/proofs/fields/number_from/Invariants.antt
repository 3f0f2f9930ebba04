use Rattle.std.proofs.Common.{◌≡◌, drop}
use Rattle.rtmfp_script.specs.Fields.{number_from}
use Rattle.rtmfp_script.proofs.fields.number_from.Given as goal

abbrev pub invariant-loop-digit : goal.invariant-loop-digit
invariant-loop-digit l = number_from l.number (drop l.digit-index l.digits) ≡ number_from 0 l.digits
