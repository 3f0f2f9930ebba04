use Rattle.std.proofs.Common.{ℕ, ◌+◌, nat_lt, refl, ap}
use Rattle.rtmfp_vlu.specs.Vlu.{vlu, groups_before}
use Rattle.session_flows.proofs.edges.acks.Goals as goal

pub returns-clause-both : goal.returns-clause-both
unfolding vlu groups_before
returns-clause-both c = refl

pub returns-clause-none_owed : goal.returns-clause-none_owed
unfolding vlu groups_before
returns-clause-none_owed c = refl

pub returns-clause-fits : goal.returns-clause-fits
unfolding vlu groups_before
returns-clause-fits c = λ packet e. ap (λ (n : ℕ). nat_lt 1164 (n + 3 + 4)) e

pub returns-clause-full : goal.returns-clause-full
unfolding vlu groups_before
returns-clause-full c = λ packet e. ap (λ (n : ℕ). nat_lt 1164 (n + 3 + 4)) e
