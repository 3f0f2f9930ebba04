use Rattle.std.proofs.Common.{ℕ, ◌≡◌, ◌≤◌, ◌+◌, ◌++◌, List, length, map, Option, sym, ap, ◌∙◌, arith}
use Rattle.std.proofs.lemmas.List.{append-nil, take_all}
use Rattle.std.specs.FinMap.{get}
use Rattle.session_flows.specs.Keeping.{Abandoned}
use Rattle.session_flows.specs.Chunks.{finished_at}
use Rattle.endpoint_model.specs.Added.{Added}
use Rattle.endpoint_model.specs.OnFlows.{flow_entry}
use Rattle.endpoint_model.specs.State.{Done}
use Rattle.end_chunks.specs.FlowChunks.{rejected}
use Rattle.end_chunks.proofs.FlowTaken.{rejected_done}
use Rattle.end_chunks.proofs.flows.reject.Goals as goal
use Rattle.end_chunks.proofs.flows.reject.Goals.{in-Some, in_default}

pub returns-clause-ok : goal.returns-clause-ok
returns-clause-ok c =
    let s = c.args.end.now in
    let near = c.args.near in
    let flow = c.args.flow in
    let before : Added = c.args.out.now in
    let between : Added = c.loop-index.out in
    let after : Added = c.match-last.out in
    let last : Option ℕ = c.in-Ok.rejection.last in
    let numbers : List ℕ = c.in-Ok.rejection.numbers.items in
    let all = take_all c.loop-index.index c.as_slice-numbers.result.now c.loop-index-test.false ∙ c.as_slice-numbers.ensures.value in
    let told : between.entries ≡ before.entries ++ map (flow_entry near) (map (Abandoned flow) numbers) =
    c.loop-index.invariant.entries ∙ ap (λ (xs : List ℕ). before.entries ++ map (flow_entry near) (map (Abandoned flow) xs)) all in
    let done : after.entries ≡ between.entries ++ map (flow_entry near) (finished_at flow last) → between.free ≤ after.free + length (finished_at flow last) → after.room ≡ between.room →
    Done (rejected s near flow (get s.sessions near)) c.take_exception.new.end before after =
    λ entries free room.
    rejected_done s c.take_exception.new.end near flow numbers last before between after c.in-Ok.ensures.state c.in-Ok.ensures.stated told entries
    (omega (arith, free, c.loop-index.invariant.free, c.loop-index.auto.index-end, ap (λ (xs : List ℕ). length xs) c.as_slice-numbers.ensures.value))
    (room ∙ c.loop-index.invariant.room) in
    elim c.match-last.branch [
      | in-Some w ↦ done
          (ap (λ (o : Added). o.entries) w.out-is ∙ w.add-in-Some.ensures.entries ∙ ap (λ (o : Option ℕ). between.entries ++ map (flow_entry near) (finished_at flow o)) (sym w.in-Some.is))
          (omega (arith, ap (λ (o : Added). o.free) w.out-is, w.add-in-Some.ensures.free, ap (λ (o : Option ℕ). length (finished_at flow o)) w.in-Some.is))
          (ap (λ (o : Added). o.room) w.out-is ∙ w.add-in-Some.ensures.room)
      | in_default w ↦ done
          (ap (λ (o : Added). o.entries) w.out-is ∙ sym (append-nil between.entries) ∙ ap (λ (o : Option ℕ). between.entries ++ map (flow_entry near) (finished_at flow o)) (sym w.in_default.is))
          (omega (arith, ap (λ (o : Added). o.free) w.out-is))
          (ap (λ (o : Added). o.room) w.out-is)
    ]
