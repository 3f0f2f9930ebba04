-- The text of a chunk begins with the name of its type.
use Rattle.std.proofs.Common.{refl, inl, inr}
use Rattle.rtmfp_chunks.specs.Chunk.{Chunk, kind_of, IHello, FIHello, RHello, Redirect, CookieChange, IIKeying, RIKeying, Ping, PingReply, Close, CloseAck, Fragment}
use Rattle.rtmfp_data_chunks.specs.Chunk.{DataChunk, Data, Next, AckBitmap, AckRanges, Probe, Exception}
use Rattle.rtmfp_data_chunks.specs.Spelling.{kind_of as data_kind}
use Rattle.rtmfp_text.specs.KindText.{kind_text}
use Rattle.rtmfp_show.specs.ChunkText.{chunk_text}
use Rattle.rtmfp_show.specs.DataText.{data_text, marks_text, user_text, ack_text}
use Rattle.rtmfp_show.specs.Laws.{BeginsWith}

pub chunk_named : (chunk : Chunk) → BeginsWith (kind_text (kind_of chunk)) (chunk_text chunk)
unfolding chunk_text kind_text
chunk_named (IHello epd tag) = inr (_, refl)
chunk_named (FIHello epd reply tag) = inr (_, refl)
chunk_named (RHello tag cookie cert) = inr (_, refl)
chunk_named (Redirect tag list) = inr (_, refl)
chunk_named (CookieChange old new) = inr (_, refl)
chunk_named (IIKeying near cookie cert part sign) = inr (_, refl)
chunk_named (RIKeying near part sign) = inr (_, refl)
chunk_named (Ping bytes) = inr (_, refl)
chunk_named (PingReply bytes) = inr (_, refl)
chunk_named Close = inl refl
chunk_named CloseAck = inl refl
chunk_named (Fragment more id number bytes) = inr (_, refl)

pub data_named : (chunk : DataChunk) → BeginsWith (kind_text (data_kind chunk)) (data_text chunk)
unfolding data_text user_text marks_text ack_text kind_text
data_named (Data user) = inr (_, refl)
data_named (Next user) = inr (_, refl)
data_named (AckBitmap flow blocks upto bits) = inr (_, refl)
data_named (AckRanges flow blocks upto pairs) = inr (_, refl)
data_named (Probe flow) = inr (_, refl)
data_named (Exception flow code) = inr (_, refl)
