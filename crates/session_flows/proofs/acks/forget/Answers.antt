use Rattle.std.proofs.lemmas.Grind.{common_steps}
use Rattle.std.proofs.Common.{arith, ◌≡◌, map, List, sym, subst}
use Rattle.session_flows.specs.declared.taking.TakingFlow.{TakingFlow}
use Rattle.session_flows.specs.Owing.{paid}
use Rattle.session_flows.specs.Laws.{Rise}
use Rattle.session_flows.proofs.Acked.{rise_paid}
use Rattle.session_flows.proofs.acks.forget.Goals as goal

pub returns-clause-rise : goal.returns-clause-rise
returns-clause-rise c =
    let after : c.loop-flow.taking ≡ map paid c.args.taking.now = grind (arith, common_steps) in
    subst (λ (ts : List TakingFlow). Rise 0 ts) (sym after) (rise_paid 0 c.args.taking.now c.requires)
