-- What is done with any chunk of flows is deeds.
use Rattle.std.proofs.Common.{refl, inl, zero-le}
use Rattle.rtmfp_data_chunks.specs.Acked.{acked}
use Rattle.rtmfp_data_chunks.specs.Chunk.{Data, Next, AckBitmap, AckRanges, Probe, Exception}
use Rattle.flow_send.specs.Acks.{told}
use Rattle.session_deeds.specs.Laws.{ChunkGoes, TheFirstFlowsAreNone}
use Rattle.session_deeds.proofs.Taking.{data_goes}
use Rattle.session_deeds.proofs.Hearing.{hearing_goes, probing_goes, rejecting_goes}

pub chunk_goes : ChunkGoes
chunk_goes came session s (Data user) fits free has =
    data_goes came session s user fits free (has _ (inl refl))
chunk_goes came session s (Next user) fits free has =
    data_goes came session s user fits free (has _ (inl refl))
chunk_goes came session s (AckBitmap flow blocks upto bits) fits free has =
    hearing_goes came session s flow
    (told blocks upto (acked (AckBitmap flow blocks upto bits))) free (has _ (inl refl))
chunk_goes came session s (AckRanges flow blocks upto pairs) fits free has =
    hearing_goes came session s flow
    (told blocks upto (acked (AckRanges flow blocks upto pairs))) free (has _ (inl refl))
chunk_goes came session s (Probe flow) fits free has = probing_goes came s flow
chunk_goes came session s (Exception flow code) fits free has = rejecting_goes came s flow

pub none_at_first : TheFirstFlowsAreNone
none_at_first = record {
  opened = λ id. refl;
  made = λ id. refl;
  sound = record {
    numbered = tt;
    few = zero-le;
    rise = tt;
    few_taking =
        zero-le;
  };
  writable = tt;
  tellable = tt;
}
