use Rattle.std.proofs.Common.{◌≡◌, ◌+◌, ◌≤◌, ℕ, List, arith, subst, sym, refl}
use Rattle.rtmfp_lines.specs.Outside.{outside}
use Rattle.rtmfp_cli.specs.Script.{max_lines}
use Rattle.rtmfp_cli.proofs.Ending.{concluded}
use Rattle.rtmfp_cli.proofs.Going.{Going, none_done, going_none, going_more, going_ends, going_closed}
use Rattle.rtmfp_cli.proofs.script_run.run_script.Goals as goal

pub loop-before-init : goal.loop-before-init
loop-before-init g c =
    let start =
    outside (g.S.Source.seen c.args.source.now) (g.K.Sink.seen c.args.sink.now) in
    let P : List ℕ → Type 0 = λ bytes. Going c.args.doing c.args.doing start start 0 bytes in
    record { going = subst P (sym c.in-Ok.ensures.empty) (going_none c.args.doing start c.requires.holds); capacity = omega (arith, c.in-Ok.ensures.capacity, c.limit.ensures); next = c.requires.next }

pub loop-before-preserved : goal.loop-before-preserved
loop-before-preserved g c =
    let fits : c.loop-before.before + 1 ≤ max_lines = omega arith in
    record {
      going =
          going_more c.args.doing c.loop-before.doing c.next_turn.new.doing _ _ _ c.loop-before.before c.loop-before.buffer.bytes c.next_turn.new.buffer.bytes c.loop-before.invariant.going fits c.in-Went.ensures.limit
          c.in-Went.ensures.turned;
      capacity = omega (arith, c.in-Went.ensures.capacity, c.in-Went.ensures.limit, c.loop-before.invariant.capacity);
      next = c.in-Went.ensures.next refl (omega arith);
    }

pub returns-in-Ended : goal.returns-in-Ended
returns-in-Ended g c =
    let fits : c.loop-before.before + 1 ≤ max_lines = omega arith in
    let start =
    outside (g.S.Source.seen c.args.source.now) (g.K.Sink.seen c.args.sink.now) in
    let mid =
    outside (g.S.Source.seen c.next_turn.new.source) (g.K.Sink.seen c.next_turn.new.sink) in
    concluded c.in-Ended.status c.conclude.result c.args.doing c.next_turn.new.doing start mid (g.K.Sink.seen c.conclude.new.sink)
    (going_ends c.in-Ended.status c.args.doing c.loop-before.doing c.next_turn.new.doing start _ mid c.loop-before.before c.loop-before.buffer.bytes c.next_turn.new.buffer.bytes c.loop-before.invariant.going fits c.in-Ended.ensures.turned)
    c.conclude.ensures

pub returns : goal.returns
returns g c =
    let all : c.loop-before.before ≡ max_lines = omega arith in
    let start =
    outside (g.S.Source.seen c.args.source.now) (g.K.Sink.seen c.args.sink.now) in
    let now =
    outside (g.S.Source.seen c.loop-before.source) (g.K.Sink.seen c.loop-before.sink) in
    let P : ℕ → Type 0 = λ n. Going c.args.doing c.loop-before.doing start now n c.loop-before.buffer.bytes in
    let mid =
    outside (g.S.Source.seen c.close_script-status.new.source) (g.K.Sink.seen c.close_script-status.new.sink) in
    concluded c.close_script-status.result c.conclude-2.result c.args.doing c.loop-before.doing start mid (g.K.Sink.seen c.conclude-2.new.sink)
    (going_closed c.close_script-status.result c.args.doing c.loop-before.doing start now mid c.loop-before.buffer.bytes (subst P all c.loop-before.invariant.going) c.close_script-status.ensures)
    c.conclude-2.ensures

-- nothing was read
pub returns-in_default : goal.returns-in_default
returns-in_default g c = none_done c.args.doing _ c.requires.holds
