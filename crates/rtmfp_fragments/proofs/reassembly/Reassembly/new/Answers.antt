use Rattle.rtmfp_fragments.proofs.Limits.{no_packets}
use Rattle.rtmfp_fragments.proofs.reassembly.Reassembly.new.Goals as goal

pub invariant_of-result : goal.invariant_of-result
invariant_of-result c = no_packets _ c.new.ensures.items
