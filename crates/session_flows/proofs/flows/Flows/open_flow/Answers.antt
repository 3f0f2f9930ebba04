use Rattle.std.proofs.Common.{◌≡◌, ℕ, ◌<◌, ◌≤◌, ◌++◌, ◌∷◌, [], length, rules, sym, subst}
use Rattle.flow_send.specs.Flow.{Flow}
use Rattle.session_flows.specs.Keeping.{FlowsState}
use Rattle.flow_send.specs.Sender.{new_sender}
use Rattle.session_flows.specs.Kept.{IsWhole}
use Rattle.session_flows.proofs.Sounds.{room_left, priority_low}
use Rattle.session_flows.proofs.Settled.{whole_push}
use Rattle.std.specs.Prelude.{List}
use Rattle.session_flows.proofs.flows.Flows.open_flow.Goals as goal

pub invariant_of-self-2 : goal.invariant_of-self-2
invariant_of-self-2 c =
    let before : FlowsState = record { sending = c.self.inside.sending.items; taking = c.self.inside.taking.items } in
    let pushed : c.push.new.self.items ≡ c.self.inside.sending.items ++ c.in-Ok.flow ∷ [] = search rules in
    let few : length c.self.inside.sending.items < 256 = room_left before (length c.args.metadata.now) c.args.priority (search rules) in
    let id : c.in-Ok.flow.id ≡ length c.self.inside.sending.items = search rules in
    let low : c.in-Ok.flow.priority ≤ 7 = subst (λ (n : ℕ). n ≤ 7) (search rules) (priority_low before (length c.args.metadata.now) c.args.priority (search rules)) in
    let new : c.in-Ok.flow.sender ≡ new_sender 1 = search rules in
    subst (λ (xs : List Flow). IsWhole (record { sending = xs; taking = c.self.inside.taking.items }) c.self.inside.kept) (sym pushed) (whole_push before c.self.inside.kept c.in-Ok.flow few id low new c.self.invariant)
