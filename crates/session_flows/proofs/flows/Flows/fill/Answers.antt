use Rattle.std.proofs.lemmas.Grind.{common_steps}
use Rattle.std.proofs.Common.{arith, ◌≡◌, ◌++◌, List, take, drop, length, ap, ◌∙◌}
use Rattle.flow_send.specs.Flow.{Flow}
use Rattle.session_flows.specs.Keeping.{FlowsState}
use Rattle.session_flows.specs.Packing.{filled}
use Rattle.session_flows.specs.Waiting.{waiting_in}
use Rattle.session_flows.proofs.Waits.{filled_waits}
use Rattle.session_flows.proofs.flows.Flows.fill.Goals as goal

pub returns-clause-waits : goal.returns-clause-waits
returns-clause-waits c =
    let before : FlowsState = record { sending = c.self.inside.sending.items; taking = c.self.inside.taking.items } in
    let written : take c.self.inside.sending.len (c.fill.new.sending ++ drop (length c.fill.new.sending) c.self.inside.sending.items) ≡ (filled c.pace_of.result before.sending c.args.out.now).sending = grind (arith, common_steps) in
    ap (λ (fs : List Flow). waiting_in fs) written ∙ filled_waits c.pace_of.result before.sending c.args.out.now c.self.invariant.sound.numbered ∙ ap (λ (s : FlowsState). waiting_in s.sending) c.self.view_is
