use Rattle.std.proofs.Common.{◌≡◌, ◌++◌, List, length, take, drop, sym, subst, arith}
use Rattle.std.proofs.lemmas.Grind.{common_steps}
use Rattle.session_flows.specs.declared.taking.TakingFlow.{TakingFlow}
use Rattle.session_flows.specs.Keeping.{FlowsState}
use Rattle.session_flows.specs.Owing.{acks_put}
use Rattle.session_flows.specs.Laws.{IsSound}
use Rattle.session_flows.proofs.Acked.{sound_put}
use Rattle.session_flows.proofs.flows.Flows.put_acks.Goals as goal

pub invariant_of-self : goal.invariant_of-self
invariant_of-self c =
    let before : FlowsState = record { sending = c.self.inside.sending.items; taking = c.self.inside.taking.items } in
    let after : take c.self.inside.taking.len (c.put_acks.new.taking ++ drop (length c.put_acks.new.taking) c.self.inside.taking.items) ≡ (acks_put c.self.inside.taking.items c.args.out.now).taking = grind (arith, common_steps) in
    record { sound = subst (λ (ts : List TakingFlow). IsSound (record { sending = c.self.inside.sending.items; taking = ts })) (sym after) (sound_put before c.args.out.now c.self.invariant.sound); kept = c.self.invariant.kept }
