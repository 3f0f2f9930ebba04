use Rattle.std.proofs.Common.{refl, inl, inr}
use Rattle.rtmfp_cli.proofs.top_call.pass_on.Goals as goal

pub returns-in-Done : goal.returns-in-Done
returns-in-Done g c = record { written = c.in-Done.ensures.bytes; answer = inl (refl, record { passed = c.in-Done.ensures.passed; faults = c.in-Done.ensures.faults }) }

pub returns-in-Failed : goal.returns-in-Failed
returns-in-Failed g c = record { written = c.in-Failed.ensures.bytes; answer = inr (refl, c.in-Failed.ensures.faults.0) }
