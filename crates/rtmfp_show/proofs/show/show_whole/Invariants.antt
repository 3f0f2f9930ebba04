use Rattle.std.proofs.Common.{◌++◌}
use Rattle.rtmfp_packet.specs.Walk.{all_placed_from, visible}
use Rattle.rtmfp_packet.specs.Chunks.{left}
use Rattle.rtmfp_show.specs.ShowText.{head_text}
use Rattle.rtmfp_show.proofs.ChunkLines.{LinesSoFar}
use Rattle.rtmfp_show.proofs.show.show_whole.Given as goal

abbrev pub invariant-loop-chunk : goal.invariant-loop-chunk
invariant-loop-chunk l = LinesSoFar (visible (all_placed_from l.packet.start l.packet.chunks)) (left l.chunk-iterator) l.flows (l.fn.text ++ head_text l.packet.head) l.text
