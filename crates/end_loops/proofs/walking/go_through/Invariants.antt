use Rattle.std.proofs.Common.{◌+◌, ◌*◌, ◌<◌, ◌≤◌, ◌^◌, length}
use Rattle.std.specs.List.{AllByRecursion}
use Rattle.rtmfp_packet.specs.Chunks.{left}
use Rattle.endpoint_model.specs.Effects.{AreQuiet, discards_among, outset, steps_of}
use Rattle.endpoint_model.proofs.Steps.{IsGone}
use Rattle.end_loops.proofs.Refusals.{IsRoomy}
use Rattle.end_loops.proofs.walking.go_through.Given as goal

-- Behind each of at most 4,096 chunks come at most 4,096.
abbrev pub invariant-loop-chunk : goal.invariant-loop-chunk
invariant-loop-chunk l = record {
  so_far : IsGone l.place l.from l.draws l.fn.end (steps_of l.place l.from l.draws outset l.fn.end (left l.fn.chunks)) l.fn.out l.gone (steps_of l.place l.from l.draws l.walk l.end (left l.chunks)) l.end l.out;
  near : AllByRecursion (λ c. c.at < 2 ^ 32) (left l.chunks);
  fits : l.gone + 4097 * length (left l.chunks) ≤ 16781312;
  roomy : AreQuiet l.place l.from l.draws l.fn.end (steps_of l.place l.from l.draws outset l.fn.end (left l.fn.chunks)) →
      discards_among l.place l.from l.draws l.fn.end (steps_of l.place l.from l.draws outset l.fn.end (left l.fn.chunks)) ≤ l.fn.out.free →
      IsRoomy l.place l.from l.draws l.end (steps_of l.place l.from l.draws l.walk l.end (left l.chunks)) l.out.free;
}

abbrev pub decreases-loop-chunk : goal.decreases-loop-chunk
decreases-loop-chunk l = length (left l.chunks)
