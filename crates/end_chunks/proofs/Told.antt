-- What closes, their answers and answers to pings do, by what was read of them.
use Rattle.std.specs.Prelude.{◌==◌}
use Rattle.std.proofs.Common.{ℕ, ◌≡◌, List, Bool, true, false, not, if◌then◌else◌, Ok, sym, ap, ◌∙◌}
use Rattle.std.specs.FinMap.{get}
use Rattle.rtmfp_forms.specs.Address.{AddressParts}
use Rattle.rtmfp_chunks.specs.Chunk.{Chunk, PingReply, Close, CloseAck, kind_of, row_of}
use Rattle.rtmfp_chunks.specs.FieldReading.{chunk_reading}
use Rattle.rtmfp_chunks.specs.FieldReading as X
use Rattle.rtmfp_packet.specs.Walk.{Placed}
use Rattle.endpoint_model.specs.declared.place.Place.{Place}
use Rattle.endpoint_model.specs.State.{State}
use Rattle.endpoint_model.specs.Admission.{sid_at}
use Rattle.endpoint_model.specs.InSessions.{answers_by, told_in_session}
use Rattle.endpoint_model.specs.Effects.{adds_nothing, is_idle, is_told_in_session, read_done}
use Rattle.endpoint_model.specs.Gathering.{is_held_piece}
use Rattle.end_chunks.specs.Judging.{other_done, view_done, does_nothing}

-- an answer to a ping has the bytes of its payload
reply_has : (payload bytes : List ℕ) → chunk_reading 0x41 payload ≡ Ok (PingReply bytes) → bytes ≡ payload
unfolding chunk_reading row_of X.chunk_at X.row_at X.chunk_with
reply_has payload bytes e = cc

at_kind : Placed → ℕ → Placed
at_kind c kind = record { kind = kind; at = c.at; payload = c.payload }

pub done_as_read : (s : State) (place : Place) (from : AddressParts) (c : Placed) (chunk : Chunk) → chunk_reading c.kind c.payload ≡ Ok chunk → kind_of chunk ≡ c.kind →
    view_done s place from chunk ≡ other_done s place from c
unfolding at_kind
done_as_read s place from c Close reads kind = ap (λ k. other_done s place from (at_kind c k)) kind
done_as_read s place from c CloseAck reads kind = ap (λ k. other_done s place from (at_kind c k)) kind
done_as_read s place from c (PingReply bytes) reads kind =
    ap (λ (b : List ℕ). view_done s place from (PingReply b)) (reply_has c.payload bytes (ap (λ k. chunk_reading k c.payload) kind ∙ reads)) ∙ ap (λ k. other_done s place from (at_kind c k)) kind
done_as_read s place from c chunk reads kind =
    ap (read_done s place from) (sym reads) ∙ ap (λ b. if b then told_in_session s (sid_at place) from c else read_done s place from (chunk_reading c.kind c.payload)) (ap is_told_in_session kind)

-- the same of what does nothing
idle_is : (s : State) (place : Place) (from : AddressParts) (c : Placed) (chunk : Chunk) → chunk_reading c.kind c.payload ≡ Ok chunk → kind_of chunk ≡ c.kind → (c.kind == 0x7f) ≡ false →
    is_idle s place from c ≡ (if kind_of chunk == 0x41 then not (answers_by from c.payload (get s.sessions (sid_at place))) else if kind_of chunk == 0x71 then adds_nothing s from (Ok chunk) else false)
idle_is s place from c chunk reads kind apart =
    ap (λ (b : Bool). if c.kind == 0x41 then not (answers_by from c.payload (get s.sessions (sid_at place))) else if c.kind == 0x71 then adds_nothing s from (chunk_reading c.kind c.payload) else if b then is_held_piece s (sid_at place) (chunk_reading c.kind c.payload) else false) apart
    ∙ ap (λ r. if c.kind == 0x41 then not (answers_by from c.payload (get s.sessions (sid_at place))) else if c.kind == 0x71 then adds_nothing s from r else false) reads
    ∙ ap (λ (k : ℕ). if k == 0x41 then not (answers_by from c.payload (get s.sessions (sid_at place))) else if k == 0x71 then adds_nothing s from (Ok chunk) else false) (sym kind)

pub quiet_as_read : (s : State) (place : Place) (from : AddressParts) (c : Placed) (chunk : Chunk) → chunk_reading c.kind c.payload ≡ Ok chunk → kind_of chunk ≡ c.kind → (c.kind == 0x7f) ≡ false →
    is_idle s place from c ≡ true → does_nothing s place from chunk ≡ true
quiet_as_read s place from c (PingReply bytes) reads kind apart quiet =
    ap (λ (b : List ℕ). not (answers_by from b (get s.sessions (sid_at place)))) (reply_has c.payload bytes (ap (λ k. chunk_reading k c.payload) kind ∙ reads))
    ∙ sym (idle_is s place from c (PingReply bytes) reads kind apart) ∙ quiet
quiet_as_read s place from c chunk reads kind apart quiet = sym (idle_is s place from c chunk reads kind apart) ∙ quiet
