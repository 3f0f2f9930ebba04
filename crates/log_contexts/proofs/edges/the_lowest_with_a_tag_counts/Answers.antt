use Rattle.std.proofs.Common.{◌≡◌, ◌≤◌, ◌∷◌, [], Some, None, sym, ap, ◌∙◌, arith}
use Rattle.std.specs.Ordering.{nat_cmp}
use Rattle.std.specs.FinMap.{get-empty}
use Rattle.log_contexts.specs.declared.threads.Thread.{Thread}
use Rattle.log_contexts.specs.Kept.{tag_in}
use Rattle.log_contexts.proofs.edges.the_lowest_with_a_tag_counts.Goals as goal

pub returns-clause-lower : goal.returns-clause-lower
returns-clause-lower c = λ threads d under tagged least. let at : 3 ≤ 2 = least 2 under tagged in omega (arith, at)

pub returns-clause-itself : goal.returns-clause-itself
returns-clause-itself c = λ threads d alone other under tagged. let same : other ≡ 3 = alone other tagged in omega (arith, same)

pub returns-clause-over : goal.returns-clause-over
returns-clause-over c = λ threads d alone other under tagged. let same : other ≡ 3 = alone other under in omega (arith, same)

pub returns-clause-none : goal.returns-clause-none
returns-clause-none c = λ d other under tagged. absurd (let clash : None ≡ Some (1 ∷ []) = sym (ap tag_in (get-empty {X = Thread} nat_cmp other)) ∙ tagged in cc)
