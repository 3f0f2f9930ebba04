use Rattle.std.proofs.Common.{List, ◌<◌, ◌+◌, ◌^◌, ◌∷◌, length, ap, sym, subst, arith}
use Rattle.std.specs.List.{AllByRecursion}
use Rattle.rtmfp_packet.specs.Walk.{Placed}
use Rattle.rtmfp_packet.specs.Chunks.{left, shown}
use Rattle.endpoint_model.specs.declared.walk.Walk.{Walk}
use Rattle.endpoint_model.specs.Effects.{WalkStep, in_order, inset, walk_step}
use Rattle.endpoint_model.proofs.Steps.{IsGone, one_gone}
use Rattle.end_loops.proofs.Refusals.{IsRoomy, one_refused}
use Rattle.end_loops.proofs.Chunks.{some_taken, all_taken}
use Rattle.end_loops.proofs.walking.go_through_gathered.Goals as goal

pub loop-chunk-preserved : goal.loop-chunk-preserved
loop-chunk-preserved c =
    let all : List WalkStep = in_order inset (left c.args.chunks) in
    let rest : List Placed = left c.next.new.self in
    let one : Placed = shown c.in-Some.chunk in
    let so_far : IsGone c.args.place c.args.from.now c.args.draws.now c.args.end.now all c.args.out.now c.loop-chunk.gone (in_order c.loop-chunk.walk (one ∷ rest)) c.loop-chunk.end c.loop-chunk.out =
    subst (λ (cs : List Placed). IsGone c.args.place c.args.from.now c.args.draws.now c.args.end.now all c.args.out.now c.loop-chunk.gone (in_order c.loop-chunk.walk cs) c.loop-chunk.end c.loop-chunk.out) c.in-Some.ensures.steps c.loop-chunk.invariant.so_far in
    record {
      so_far =
          subst (λ (k : Walk). IsGone c.args.place c.args.from.now c.args.draws.now c.args.end.now all c.args.out.now (c.loop-chunk.gone + 1) (in_order k rest) c.take_chunk.new.end c.take_chunk.new.out) (sym c.take_chunk.ensures.walk)
          (one_gone c.args.place c.args.from.now c.args.draws.now c.args.end.now c.loop-chunk.end c.take_chunk.new.end all c.args.out.now c.loop-chunk.out c.take_chunk.new.out c.loop-chunk.gone (walk_step c.loop-chunk.walk one) _ so_far c.in-Ok.ensures.ok);
      near = (subst (λ (cs : List Placed). AllByRecursion (λ (d : Placed). d.at < 2 ^ 32) cs) c.in-Some.ensures.steps c.loop-chunk.invariant.near).1;
      fits = omega (arith, c.loop-chunk.invariant.fits, ap length c.in-Some.ensures.steps);
      roomy = λ refused room.
          subst (λ (k : Walk). IsRoomy c.args.place c.args.from.now c.args.draws.now c.take_chunk.new.end (in_order k rest) c.take_chunk.new.out.free) (sym c.take_chunk.ensures.walk)
          (one_refused c.args.place c.args.from.now c.args.draws.now c.loop-chunk.end c.take_chunk.new.end (walk_step c.loop-chunk.walk one) _ c.loop-chunk.out c.take_chunk.new.out
          (subst (λ (cs : List Placed). IsRoomy c.args.place c.args.from.now c.args.draws.now c.loop-chunk.end (in_order c.loop-chunk.walk cs) c.loop-chunk.out.free) c.in-Some.ensures.steps (c.loop-chunk.invariant.roomy refused room)) c.in-Ok.ensures.ok);
    }

pub returns-in-Err-clause-stop : goal.returns-in-Err-clause-stop
returns-in-Err-clause-stop c =
    let all : List WalkStep = in_order inset (left c.args.chunks) in
    let rest : List Placed = left c.next.new.self in
    let one : Placed = shown c.in-Some.chunk in
    let so_far : IsGone c.args.place c.args.from.now c.args.draws.now c.args.end.now all c.args.out.now c.loop-chunk.gone (in_order c.loop-chunk.walk (one ∷ rest)) c.loop-chunk.end c.loop-chunk.out =
    subst (λ (cs : List Placed). IsGone c.args.place c.args.from.now c.args.draws.now c.args.end.now all c.args.out.now c.loop-chunk.gone (in_order c.loop-chunk.walk cs) c.loop-chunk.end c.loop-chunk.out) c.in-Some.ensures.steps c.loop-chunk.invariant.so_far in
    some_taken c.args.place c.args.from.now c.args.draws.now c.args.end.now c.loop-chunk.end c.take_chunk.new.end all c.args.out.now c.loop-chunk.out c.take_chunk.new.out c.loop-chunk.gone (walk_step c.loop-chunk.walk one) _ so_far c.in-Err.ensures.err

pub returns-clause-ok : goal.returns-clause-ok
returns-clause-ok c =
    all_taken c.args.place c.args.from.now c.args.draws.now c.args.end.now c.loop-chunk.end (in_order inset (left c.args.chunks)) c.args.out.now c.loop-chunk.out c.loop-chunk.gone (in_order c.loop-chunk.walk (left c.loop-chunk.chunks))
    c.loop-chunk.invariant.so_far (ap (in_order c.loop-chunk.walk) c.in_default.ensures.steps.0)
