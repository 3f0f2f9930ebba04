use Rattle.std.proofs.Common.{◌≡◌, ◌%◌, ◌^◌, ◌<◌, true, false, Some, length, refl, arith, rules}
use Rattle.std.specs.Prelude.{slice_get}
use Rattle.std.proofs.lemmas.Option.{slice_get_read}
use Rattle.session_flows.specs.Packing.{may_send}
use Rattle.flow_turns.specs.Turns.{IsFirst}
use Rattle.session_flows.proofs.Turned.{IsOf, turn_there, turn_passed, turn_sends, none_sends}
use Rattle.session_flows.proofs.packing.first_to_send.Goals as goal

pub returns-then-may_send : goal.returns-then-may_send
returns-then-may_send c =
    let within : c.args.pace.moment < 2 ^ 64 = search rules in
    let first : IsFirst c.args.kept.now.turns c.loop-turn.from c.in-Some.turn = c.in-Some.ensures in
    let of : IsOf c.args.sending.now c.in-Some.turn = turn_there c.args.sending.now c.args.kept.now c.in-Some.turn c.requires.numbered c.requires.kept first.there in
    let there : slice_get c.args.sending.now (c.in-Some.turn % 256) ≡ Some c.index-sending-at.result =
    slice_get_read c.args.sending.now (length c.args.sending.now) (c.in-Some.turn % 256) c.index-sending-at.result refl of.inside c.index-sending-at.is in
    let may : may_send c.args.pace c.index-sending-at.result ≡ true = search rules in
    turn_sends c.args.pace c.args.sending.now c.args.kept.now c.loop-turn.from c.in-Some.turn c.index-sending-at.result within c.requires.numbered c.requires.few c.requires.kept first there may c.loop-turn.invariant.none

pub overflow_add-from : goal.overflow_add-from
overflow_add-from c =
    let first : IsFirst c.args.kept.now.turns c.loop-turn.from c.in-Some.turn = c.in-Some.ensures in
    let below : c.in-Some.turn < 2048 = (turn_there c.args.sending.now c.args.kept.now c.in-Some.turn c.requires.numbered c.requires.kept first.there).below in
    omega (arith, below)

pub loop-turn-smaller : goal.loop-turn-smaller
loop-turn-smaller c =
    let first : IsFirst c.args.kept.now.turns c.loop-turn.from c.in-Some.turn = c.in-Some.ensures in
    let below : c.in-Some.turn < 2048 = (turn_there c.args.sending.now c.args.kept.now c.in-Some.turn c.requires.numbered c.requires.kept first.there).below in
    omega (arith, below, first.low)

pub loop-turn-preserved : goal.loop-turn-preserved
loop-turn-preserved c =
    let within : c.args.pace.moment < 2 ^ 64 = search rules in
    let first : IsFirst c.args.kept.now.turns c.loop-turn.from c.in-Some.turn = c.in-Some.ensures in
    let of : IsOf c.args.sending.now c.in-Some.turn = turn_there c.args.sending.now c.args.kept.now c.in-Some.turn c.requires.numbered c.requires.kept first.there in
    let there : slice_get c.args.sending.now (c.in-Some.turn % 256) ≡ Some c.index-sending-at.result =
    slice_get_read c.args.sending.now (length c.args.sending.now) (c.in-Some.turn % 256) c.index-sending-at.result refl of.inside c.index-sending-at.is in
    let never : may_send c.args.pace c.index-sending-at.result ≡ false = search rules in
    record {
      within = omega (arith, of.below);
      none = turn_passed c.args.pace c.args.sending.now c.args.kept.now c.loop-turn.from c.in-Some.turn c.index-sending-at.result within c.requires.numbered c.requires.few c.requires.kept first there never c.loop-turn.invariant.none;
    }

pub returns : goal.returns
returns c =
    let within : c.args.pace.moment < 2 ^ 64 = search rules in
    none_sends c.args.pace c.args.sending.now c.args.kept.now c.loop-turn.from within c.requires.numbered c.requires.few c.requires.kept c.in_default.ensures c.loop-turn.invariant.none
