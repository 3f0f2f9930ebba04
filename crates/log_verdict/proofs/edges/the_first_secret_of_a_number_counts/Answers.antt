use Rattle.std.proofs.Common.{[], ◌∷◌, arith}
use Rattle.log_packets.specs.Secrets.{with_secret}
use Rattle.log_verdict.proofs.Rows.{no_secrets, two, beside, neither, kept_first}
use Rattle.log_verdict.proofs.edges.the_first_secret_of_a_number_counts.Goals as goal

pub returns-clause-first : goal.returns-clause-first
returns-clause-first c = two 0 (7 ∷ []) (8 ∷ [])

pub returns-clause-other : goal.returns-clause-other
returns-clause-other c = beside 0 1 (7 ∷ []) (8 ∷ []) (λ e. absurd (omega (arith, e)))

pub returns-clause-none : goal.returns-clause-none
returns-clause-none c = neither 0 1 (7 ∷ []) (λ e. absurd (omega (arith, e)))

pub returns-clause-learnt : goal.returns-clause-learnt
returns-clause-learnt c = beside 0 1 (7 ∷ []) (9 ∷ []) (λ e. absurd (omega (arith, e)))

pub returns-clause-earlier : goal.returns-clause-earlier
returns-clause-earlier c = kept_first (with_secret 1 (9 ∷ []) (with_secret 0 (7 ∷ []) no_secrets)) 1 (5 ∷ []) 1 (9 ∷ []) (beside 0 1 (7 ∷ []) (9 ∷ []) (λ e. absurd (omega (arith, e))))

pub returns-clause-given : goal.returns-clause-given
returns-clause-given c = two 1 (7 ∷ []) (9 ∷ [])
