use Rattle.std.proofs.Common.{◌∙◌, ◌<◌, List, length, sym, ap, subst, arith}
use Rattle.startup.specs.declared.marks.Mark.{Mark}
use Rattle.std.specs.FinMap.{get, get-empty}
use Rattle.std.specs.Ordering.{nat_cmp}
use Rattle.std.proofs.lemmas.Option.{none-some}
use Rattle.startup.specs.State.{Attempts}
use Rattle.startup.proofs.indexed.IndexedAttempts.new.Goals as goal

pub invariant_of-result : goal.invariant_of-result
invariant_of-result c = (
  λ whole near a w there has. absurd (none-some a (sym (get-empty nat_cmp near) ∙ sym (ap (λ (m : Attempts). get m near) c.new.ensures) ∙ there)),
  λ whole near a w there has. absurd (none-some a (sym (get-empty nat_cmp near) ∙ sym (ap (λ (m : Attempts). get m near) c.new.ensures) ∙ there)),
  λ whole near a mark there has. absurd (none-some a (sym (get-empty nat_cmp near) ∙ sym (ap (λ (m : Attempts). get m near) c.new.ensures) ∙ there)),
  λ near a there. absurd (none-some a (sym (get-empty nat_cmp near) ∙ sym (ap (λ (m : Attempts). get m near) c.new.ensures) ∙ there)),
  λ mark stands. absurd (let inside = subst (λ (l : List Mark). stands.at < length l) c.new-4.ensures.marks stands.inside in omega (arith, inside)),
)
