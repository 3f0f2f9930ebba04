use Rattle.std.proofs.Common.{arith}
use Rattle.std.specs.Ordering.{nat_cmp}
use Rattle.std.specs.Cmp.Lexicographic.{slice_cmp}
use Rattle.std.specs.FinMap.{len-empty}
use Rattle.glare_core.specs.Ledger.{PeerRow}
use Rattle.glare_core.proofs.peers.Peers.new.Goals as goal

pub invariant_of-result : goal.invariant_of-result
invariant_of-result c = rw (c.new.ensures, len-empty (slice_cmp nat_cmp) PeerRow) (omega arith)
