use Rattle.std.proofs.Common.{ℕ, suc, ◌≡◌, ◌+◌, ◌-◌, ◌∙◌, ap, subst, arith, rules}
use Rattle.std.specs.Prelude.{option_to_list, IfSome}
use Rattle.std.specs.FinMap.{get}
use Rattle.rtmfp_data_chunks.specs.Chunk.{Data, user_parts}
use Rattle.endpoint_model.specs.FlowChunks.{flow_taken_by}
use Rattle.session_flows.specs.Judged.{IsJudged}
use Rattle.endpoint_model.specs.State.{State, Done}
use Rattle.end_state.proofs.Endings.{made_room}
use Rattle.end_chunks.specs.FlowChunks.{handed_by}
use Rattle.end_chunks.proofs.FlowTaken.{data_by, hand_more, hand_no_more, hand_zero, handed_none, handed_one, most_judged}
use Rattle.end_chunks.proofs.flows.take_data.Goals as goal

pub loop-init : goal.loop-init
loop-init c =
    let all : c.in-Ok.judged.most - 0 ≡ c.in-Ok.judged.most = omega arith in
    let found : IfSome (get c.args.end.now.sessions c.args.near) (λ row. IsJudged c.in-Ok.judged row.flows (user_parts c.args.user.now)) =
    subst (λ (s : State). IfSome (get s.sessions c.args.near) (λ row. IsJudged c.in-Ok.judged row.flows (user_parts c.args.user.now))) c.end.view_is c.in-Ok.ensures.judged in
    record {
      rest = λ u after done.
          made_room (flow_taken_by c.args.end.now c.args.near (Data (user_parts c.args.user.now)) (get c.args.end.now.sessions c.args.near)) u c.args.out.now c.make_room.new.self after
          c.make_room.ensures.entries c.make_room.ensures.free c.make_room.ensures.room
          (data_by c.args.end.now c.keep_data.new.end u c.args.near c.in-Ok.judged.most (user_parts c.args.user.now) c.make_room.new.self after (most_judged (get c.args.end.now.sessions c.args.near) c.in-Ok.judged (user_parts c.args.user.now) found) c.in-Ok-keep_data.ensures.ok
          (subst (λ (n : ℕ). Done (handed_by c.keep_data.new.end c.args.near c.args.user.now.flow n (get c.keep_data.new.end.sessions c.args.near)) u c.make_room.new.self after) all done));
      room = omega (arith, c.in-Ok-make_room.ensures.ok);
    }

pub returns-in_default-clause-ok : goal.returns-in_default-clause-ok
returns-in_default-clause-ok c =
    c.loop.invariant.rest c.hand_next.new.end c.loop.out
    (hand_no_more c.args.near c.args.user.now.flow (c.in-Ok.judged.most - c.loop.counter) c.loop.end c.hand_next.new.end c.loop.out c.loop.out (c.hand_next.ensures.none c.in_default.is)
    (handed_none c.args.near c.args.user.now.flow c.loop.end c.hand_next.new.end c.loop.out c.hand_next.ensures.state (c.hand_next.ensures.entry ∙ ap option_to_list c.in_default.is)))

pub add-requires-clause-room : goal.add-requires-clause-room
add-requires-clause-room c = omega (arith, c.loop.invariant.room, c.loop-test.true)

pub loop-preserved : goal.loop-preserved
loop-preserved c =
    let left : suc (c.in-Ok.judged.most - (c.loop.counter + 1)) ≡ c.in-Ok.judged.most - c.loop.counter = omega (arith, c.loop-test.true) in
    let once = handed_one c.args.near c.args.user.now.flow c.loop.end c.hand_next.new.end c.in-Some.handed c.loop.out c.add.new.self c.hand_next.ensures.state
    (c.hand_next.ensures.entry ∙ ap option_to_list c.in-Some.is) c.add.ensures.entries c.add.ensures.free c.add.ensures.room in
    record {
      rest = λ u after more.
          c.loop.invariant.rest u after
          (subst (λ (n : ℕ). Done (handed_by c.loop.end c.args.near c.args.user.now.flow n (get c.loop.end.sessions c.args.near)) u c.loop.out after) left
          (hand_more c.args.near c.args.user.now.flow (c.in-Ok.judged.most - (c.loop.counter + 1)) c.loop.end c.hand_next.new.end u c.loop.out c.add.new.self after once more));
      room = omega (arith, c.loop.invariant.room, c.add.ensures.free);
    }

pub returns-clause-ok : goal.returns-clause-ok
returns-clause-ok c =
    c.loop.invariant.rest c.loop.end c.loop.out
    (hand_zero c.args.near c.args.user.now.flow (c.in-Ok.judged.most - c.loop.counter) c.loop.end c.loop.out (omega (arith, c.loop-test.false)))

-- so that a wrong body is refused fast
pub returns-in-Err-make_room-clause-err : goal.returns-in-Err-make_room-clause-err
returns-in-Err-make_room-clause-err c = search rules
