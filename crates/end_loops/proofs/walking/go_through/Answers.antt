use Rattle.std.proofs.Common.{List, ◌<◌, ◌^◌, ◌∷◌, length, ap, subst, arith}
use Rattle.std.specs.List.{AllByRecursion}
use Rattle.rtmfp_packet.specs.Walk.{Placed}
use Rattle.rtmfp_packet.specs.Chunks.{left, shown}
use Rattle.endpoint_model.specs.Effects.{WalkStep, outset, steps_of, with_gathered}
use Rattle.endpoint_model.proofs.Steps.{IsGone}
use Rattle.end_loops.proofs.Refusals.{IsRoomy, roomy_first}
use Rattle.end_loops.proofs.Chunks.{all_taken, chunk_gone, chunk_roomy, stops_at_chunk, walked_so}
use Rattle.end_loops.proofs.walking.go_through.Goals as goal

pub loop-chunk-preserved : goal.loop-chunk-preserved
loop-chunk-preserved c =
    let all : List WalkStep = steps_of c.args.place c.args.from.now c.args.draws.now outset c.args.end.now (left c.args.chunks) in
    let rest : List Placed = left c.next.new.self in
    let one : Placed = shown c.in-Some.chunk in
    let so_far : IsGone c.args.place c.args.from.now c.args.draws.now c.args.end.now all c.args.out.now c.loop-chunk.gone (steps_of c.args.place c.args.from.now c.args.draws.now c.loop-chunk.walk c.loop-chunk.end (one ∷ rest)) c.loop-chunk.end c.loop-chunk.out =
    subst (λ (cs : List Placed). IsGone c.args.place c.args.from.now c.args.draws.now c.args.end.now all c.args.out.now c.loop-chunk.gone (steps_of c.args.place c.args.from.now c.args.draws.now c.loop-chunk.walk c.loop-chunk.end cs) c.loop-chunk.end c.loop-chunk.out)
    c.in-Some.ensures.steps c.loop-chunk.invariant.so_far in
    record {
      so_far =
          chunk_gone c.args.place c.args.from.now c.args.draws.now c.args.end.now all c.loop-chunk.end c.go_on_with.new.end c.args.out.now c.loop-chunk.out c.go_on_with.new.out c.loop-chunk.gone c.in-Ok.count c.loop-chunk.walk c.go_on_with.new.walk one rest so_far c.in-Ok.ensures.ok c.go_on_with.ensures.walk;
      near = (subst (λ (cs : List Placed). AllByRecursion (λ (d : Placed). d.at < 2 ^ 32) cs) c.in-Some.ensures.steps c.loop-chunk.invariant.near).1;
      fits = omega (arith, c.loop-chunk.invariant.fits, ap length c.in-Some.ensures.steps, c.in-Ok.ensures.few);
      roomy = λ refused room.
          chunk_roomy c.args.place c.args.from.now c.args.draws.now c.loop-chunk.end c.go_on_with.new.end c.loop-chunk.out c.go_on_with.new.out c.in-Ok.count c.loop-chunk.walk c.go_on_with.new.walk one rest
          (subst (λ (cs : List Placed). IsRoomy c.args.place c.args.from.now c.args.draws.now c.loop-chunk.end (steps_of c.args.place c.args.from.now c.args.draws.now c.loop-chunk.walk c.loop-chunk.end cs) c.loop-chunk.out.free) c.in-Some.ensures.steps (c.loop-chunk.invariant.roomy refused room))
          c.in-Ok.ensures.ok c.go_on_with.ensures.walk;
    }

pub returns-in-Err-clause-stop : goal.returns-in-Err-clause-stop
returns-in-Err-clause-stop c =
    let all : List WalkStep = steps_of c.args.place c.args.from.now c.args.draws.now outset c.args.end.now (left c.args.chunks) in
    let rest : List Placed = left c.next.new.self in
    let one : Placed = shown c.in-Some.chunk in
    let so_far : IsGone c.args.place c.args.from.now c.args.draws.now c.args.end.now all c.args.out.now c.loop-chunk.gone (steps_of c.args.place c.args.from.now c.args.draws.now c.loop-chunk.walk c.loop-chunk.end (one ∷ rest)) c.loop-chunk.end c.loop-chunk.out =
    subst (λ (cs : List Placed). IsGone c.args.place c.args.from.now c.args.draws.now c.args.end.now all c.args.out.now c.loop-chunk.gone (steps_of c.args.place c.args.from.now c.args.draws.now c.loop-chunk.walk c.loop-chunk.end cs) c.loop-chunk.end c.loop-chunk.out)
    c.in-Some.ensures.steps c.loop-chunk.invariant.so_far in
    stops_at_chunk c.args.place c.args.from.now c.args.draws.now c.args.end.now all c.loop-chunk.gone c.in-Err.count c.loop-chunk.walk one rest c.loop-chunk.end c.go_on_with.new.end c.stop.new.end c.stop.result
    c.args.out.now c.loop-chunk.out c.go_on_with.new.out c.stop.ensures.stop so_far c.in-Err.ensures.stop c.stop.ensures.state

pub returns-in-Ok-test-clause-ok : goal.returns-in-Ok-test-clause-ok
returns-in-Ok-test-clause-ok c =
    let all : List WalkStep = steps_of c.args.place c.args.from.now c.args.draws.now outset c.args.end.now (left c.args.chunks) in
    walked_so c.args.place c.args.from.now c.args.draws.now c.args.end.now all c.loop-chunk.end c.send_acks.new.end c.test.new.end c.args.out.now c.loop-chunk.out c.send_acks.new.out c.test.new.out
    (all_taken c.args.place c.args.from.now c.args.draws.now c.args.end.now c.loop-chunk.end all c.args.out.now c.loop-chunk.out c.loop-chunk.gone _
    c.loop-chunk.invariant.so_far (ap (steps_of c.args.place c.args.from.now c.args.draws.now c.loop-chunk.walk c.loop-chunk.end) c.in_default.ensures.steps.0)).done
    c.in-Ok-send_acks.ensures.ok c.in-Ok-test.ensures.ok

pub returns-in-Err-clause-enough : goal.returns-in-Err-clause-enough
returns-in-Err-clause-enough c quiet ends room =
    let rest : List Placed = left c.next.new.self in
    let one : Placed = shown c.in-Some.chunk in
    let roomy : IsRoomy c.args.place c.args.from.now c.args.draws.now c.loop-chunk.end (steps_of c.args.place c.args.from.now c.args.draws.now c.loop-chunk.walk c.loop-chunk.end (one ∷ rest)) c.loop-chunk.out.free =
    subst (λ (cs : List Placed). IsRoomy c.args.place c.args.from.now c.args.draws.now c.loop-chunk.end (steps_of c.args.place c.args.from.now c.args.draws.now c.loop-chunk.walk c.loop-chunk.end cs) c.loop-chunk.out.free) c.in-Some.ensures.steps (c.loop-chunk.invariant.roomy quiet room) in
    let first = roomy_first c.args.place c.args.from.now c.args.draws.now c.loop-chunk.end (with_gathered c.args.place c.args.from.now c.loop-chunk.walk c.loop-chunk.end one) _ c.loop-chunk.out.free roomy in
    c.in-Err.ensures.enough first.refused first.room
