use Rattle.std.proofs.Common.{take}
use Rattle.rtmfp_node.specs.Outside.{Stays}
use Rattle.rtmfp_node.specs.Acting.{DrewSome, OpensAll}
use Rattle.rtmfp_node.proofs.turn_zero.open_all.Given as goal

abbrev pub invariant-loop-opening : goal.invariant-loop-opening
invariant-loop-opening g l = record {
  opens : OpensAll (take l.opening-index l.fn.openings) l.fn.moment (g.E.Entropy.seen l.fn.entropy).blocks (g.E.Entropy.seen l.entropy).blocks l.fn.end l.end l.fn.out.entries l.out.entries l.fn.notes l.notes;
  drawn : Stays (g.E.Entropy.seen l.fn.entropy).faults (g.E.Entropy.seen l.entropy).faults;
  drew : DrewSome l.opening-index (g.E.Entropy.seen l.fn.entropy).blocks (g.E.Entropy.seen l.entropy).blocks;
}
