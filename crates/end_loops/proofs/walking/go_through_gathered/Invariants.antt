use Rattle.std.proofs.Common.{◌≡◌, ◌+◌, ◌<◌, ◌≤◌, ◌^◌, length}
use Rattle.std.specs.List.{AllByRecursion}
use Rattle.rtmfp_packet.specs.Chunks.{left}
use Rattle.endpoint_model.specs.Effects.{AreQuiet, discards_among, in_order, inset}
use Rattle.endpoint_model.proofs.Steps.{IsGone}
use Rattle.end_loops.proofs.Refusals.{IsRoomy}
use Rattle.end_loops.proofs.walking.go_through_gathered.Given as goal

abbrev pub invariant-loop-chunk : goal.invariant-loop-chunk
invariant-loop-chunk l = record {
  so_far : IsGone l.place l.from l.draws l.fn.end (in_order inset (left l.fn.chunks)) l.fn.out l.gone (in_order l.walk (left l.chunks)) l.end l.out;
  near : AllByRecursion (λ c. c.at < 2 ^ 32) (left l.chunks);
  fits : l.gone + length (left l.chunks) ≡ length (left l.fn.chunks);
  roomy : AreQuiet l.place l.from l.draws l.fn.end (in_order inset (left l.fn.chunks)) → discards_among l.place l.from l.draws l.fn.end (in_order inset (left l.fn.chunks)) ≤ l.fn.out.free →
      IsRoomy l.place l.from l.draws l.end (in_order l.walk (left l.chunks)) l.out.free;
}

abbrev pub decreases-loop-chunk : goal.decreases-loop-chunk
decreases-loop-chunk l = length (left l.chunks)
