use Rattle.std.proofs.Common.{◌≡◌, ℕ, ◌+◌, false, Option, sym, ap, rules}
use Rattle.std.specs.Prelude.{is_some}
use Rattle.session_flows.specs.Bound.{may_pass}
use Rattle.session_flows.proofs.Milds.{mild_none, no_flow_overdue}
use Rattle.session_flows.proofs.timing.overdue_at.Goals as goal

pub returns-then-not-may_pass : goal.returns-then-not-may_pass
returns-then-not-may_pass c =
    let none : may_pass c.args.kept.now.bound c.args.moment ≡ false = search rules in
    sym (no_flow_overdue c.args.moment c.args.sending.now
    (λ at f there. ap (λ (o : Option ℕ). is_some o) (mild_none c.args.kept.now.bound c.args.moment (f.sender.forward + 1) f.sender.rows f.sender.waiting none (c.requires.within at f there).mild)))
