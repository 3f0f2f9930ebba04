use Rattle.rtmfp_data_chunks.proofs.Bits.{PassedOver}
use Rattle.rtmfp_data_chunks.proofs.reading.passing_byte.Given as goal

abbrev pub invariant-loop-i : goal.invariant-loop-i
invariant-loop-i l = PassedOver l.fn.fitting l.room l.i l.bits
