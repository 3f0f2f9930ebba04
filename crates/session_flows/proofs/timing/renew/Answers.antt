use Rattle.std.proofs.Common.{◌≡◌, false, None, sym, subst, rules}
use Rattle.std.specs.List.{list_any, position}
use Rattle.session_flows.specs.declared.bound.Bound.{Bound}
use Rattle.session_flows.specs.declared.kept.Kept.{Kept}
use Rattle.session_flows.specs.Timing.{has_overdue}
use Rattle.session_flows.specs.Bound.{any_waits, bound_at, no_bound}
use Rattle.session_flows.specs.Kept.{IsKept}
use Rattle.session_flows.proofs.Milds.{mild_no_bound, mild_bound_at}
use Rattle.session_flows.proofs.Settled.{rebound}
use Rattle.session_flows.proofs.timing.renew.Goals as goal

pub returns-then-not-any_waits : goal.returns-then-not-any_waits
returns-then-not-any_waits c =
    let k : Kept = c.args.kept.now in
    let none : list_any any_waits c.args.sending.now ≡ false = search rules in
    subst (λ (b : Bound). IsKept c.args.sending.now (record k { bound = b })) (sym c.new-kept.ensures) (rebound c.args.sending.now k no_bound c.requires (λ at f there. mild_no_bound c.args.sending.now at f none there))

pub returns-then-is_none : goal.returns-then-is_none
returns-then-is_none c =
    let k : Kept = c.args.kept.now in
    let limited : k.bound.limited ≡ false = search rules in
    let none : position (has_overdue c.args.moment) c.args.sending.now ≡ None = search rules in
    subst (λ (b : Bound). IsKept c.args.sending.now (record k { bound = b })) (sym c.at-kept.ensures)
    (rebound c.args.sending.now k (bound_at c.args.moment) c.requires (λ at f there. mild_bound_at k.bound c.args.moment c.args.sending.now at f limited none there (c.requires.within at f there).mild))
