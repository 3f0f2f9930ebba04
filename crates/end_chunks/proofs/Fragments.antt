-- A chunk that is a fragment, and one that is none.
use Rattle.std.specs.Prelude.{IsSome, ◌==◌}
use Rattle.std.proofs.Common.{ℕ, ◌≡◌, ◌⊎◌, inl, inr, List, [], ◌∷◌, length, Bool, true, false, not, if◌then◌else◌, Option, Some, None, Result, Ok, Err, refl, sym, ap, ◌∙◌, subst}
use Rattle.std.proofs.lemmas.Bool.{eqb-true}
use Rattle.std.specs.FinMap.{get}
use Rattle.rtmfp_forms.specs.Address.{AddressParts}
use Rattle.rtmfp_chunks.specs.declared.reading.ChunkFault.{ChunkFault}
use Rattle.rtmfp_chunks.specs.declared.reading.ChunkFault.TheVariants.{Unknown, Malformed as BadField}
use Rattle.rtmfp_chunks.specs.Chunk.{Chunk, IHello, FIHello, RHello, Redirect, CookieChange, IIKeying, RIKeying, Ping, PingReply, Close, CloseAck, Fragment, row_of}
use Rattle.rtmfp_chunks.specs.Fields.{Counted, Number, SessionId, More, OneAddress, Parts, Then, Rest, AddressList, Ignored, Row as Form}
use Rattle.rtmfp_chunks.specs.FieldReading.{row_at, typed, typed_row, chunk_at, chunk_with, known_chunk, chunk_or_fault, chunk_reading}
use Rattle.rtmfp_packet.specs.Walk.{Placed}
use Rattle.rtmfp_base.specs.Reasons.{where_true, first_that_stands}
use Rattle.rtmfp_base.specs.declared.cause.Cause.{Cause}
use Rattle.rtmfp_base.specs.declared.cause.Cause.TheVariants.{WrongPlace, WrongState, Fragment as StrayFragment}
use Rattle.endpoint_model.specs.declared.config.Draws.{Draws}
use Rattle.endpoint_model.specs.declared.place.Place.{Place}
use Rattle.endpoint_model.specs.declared.place.Place.TheVariants.{Startup, Attempt, Session}
use Rattle.endpoint_model.specs.declared.walk.Walk.{Walk}
use Rattle.endpoint_model.specs.Admission.{sid_at}
use Rattle.endpoint_model.specs.Causes.{chunk_cause, has_state_for, is_stray, read_cause, read_fault, takes_in}
use Rattle.endpoint_model.specs.Effects.{IsQuiet, chunk_did, discarded_or, is_idle_after, whole_at}
use Rattle.endpoint_model.specs.Gathering.{is_held_piece, piece_taken, whole_in}
use Rattle.endpoint_model.specs.State.{State}
use Rattle.end_chunks.specs.Pieces.{part_cause, part_did, part_whole, read_cause_in}

-- ---- a chunk of another type completes no packet

module _ (s : State) (near : ℕ) where
  none_if : (kind : ℕ) (b : Bool) (chunk : Chunk) (o : Option Chunk) → whole_in s near (Ok chunk) ≡ None → whole_in s near (known_chunk kind o) ≡ None → whole_in s near (known_chunk kind (if b then Some chunk else o)) ≡ None
  none_if kind true chunk o one other = one
  none_if kind false chunk o one other = other

  none_with : (kind k : ℕ) (parts : Parts) → (k == 0x7f) ≡ false → whole_in s near (known_chunk kind (chunk_with k parts)) ≡ None
  unfolding chunk_with
  none_with kind k (Then (Counted x) (Rest y)) other = none_if kind (k == 0x30) (IHello x y) _ refl (none_if kind (k == 0x79) (CookieChange x y) None refl refl)
  none_with kind k (Then (Counted epd) (Then (OneAddress reply) (Rest tag))) other = none_if kind (k == 0x0f) (FIHello epd reply tag) None refl refl
  none_with kind k (Then (Counted tag) (Then (Counted cookie) (Rest cert))) other = none_if kind (k == 0x70) (RHello tag cookie cert) None refl refl
  none_with kind k (Then (Counted tag) (AddressList list)) other = none_if kind (k == 0x71) (Redirect tag list) None refl refl
  none_with kind k (Then (SessionId n) (Then (Counted cookie) (Then (Counted cert) (Then (Counted part) (Rest sign))))) other = none_if kind (k == 0x38) (IIKeying n cookie cert part sign) None refl refl
  none_with kind k (Then (SessionId n) (Then (Counted part) (Rest sign))) other = none_if kind (k == 0x78) (RIKeying n part sign) None refl refl
  none_with kind k (Rest bytes) other = none_if kind (k == 0x01) (Ping bytes) _ refl (none_if kind (k == 0x41) (PingReply bytes) None refl refl)
  none_with kind k Ignored other = none_if kind (k == 0x0c) Close _ refl (none_if kind (k == 0x4c) CloseAck None refl refl)
  none_with kind k (Then (More more) (Then (Number id) (Then (Number number) (Rest bytes)))) other =
      ap (λ (b : Bool). whole_in s near (known_chunk kind (if b then Some (Fragment more id number bytes) else None))) other
  none_with kind k parts other = refl

  none_typed : (kind : ℕ) (b : List ℕ) (r : Result Parts ℕ) → (kind == 0x7f) ≡ false → whole_in s near (chunk_or_fault kind b (Some (typed kind r))) ≡ None
  none_typed kind b (Ok parts) other = none_with kind kind parts other
  none_typed kind b (Err left) other = refl

  none_formed : (kind : ℕ) (b : List ℕ) (o : Option Form) → (kind == 0x7f) ≡ false → whole_in s near (chunk_or_fault kind b (typed_row kind b o)) ≡ None
  none_formed kind b None other = refl
  none_formed kind b (Some row) other = none_typed kind b (row_at row b) other

  none_read : (kind : ℕ) (b : List ℕ) → (kind == 0x7f) ≡ false → whole_in s near (chunk_reading kind b) ≡ None
  unfolding chunk_reading chunk_at
  none_read kind b other = none_formed kind b (row_of kind) other

pub no_whole : (s : State) (place : Place) (cause : Option Cause) (c : Placed) → (c.kind == 0x7f) ≡ false → None ≡ whole_at s place cause c
no_whole s place None c other = sym (none_read s (sid_at place) c.kind c.payload other)
no_whole s place (Some cause) c other = refl

pub another_kind : (kind : ℕ) → (kind ≡ 0x7f → ⊥) → (kind == 0x7f) ≡ false
another_kind kind other = go (kind == 0x7f) refl
  where
    go : (b : Bool) → (kind == 0x7f) ≡ b → (kind == 0x7f) ≡ false
    go true e = absurd (other (eqb-true kind 0x7f e))
    go false e = e

-- ---- a fragment

-- a payload of this type reads as a piece, or it can't be read
module _ (b : List ℕ) (P : Result Chunk ChunkFault → Type 0) (broken : (fault : ChunkFault) → P (Err fault)) (reads : (more : Bool) (id number : ℕ) (bytes : List ℕ) → P (Ok (Fragment more id number bytes))) where
  by_parts : (parts : Parts) → P (known_chunk 0x7f (chunk_with 0x7f parts))
  unfolding chunk_with
  by_parts (Then (Counted x) (Rest y)) = broken _
  by_parts (Then (Counted epd) (Then (OneAddress reply) (Rest tag))) = broken _
  by_parts (Then (Counted tag) (Then (Counted cookie) (Rest cert))) = broken _
  by_parts (Then (Counted tag) (AddressList list)) = broken _
  by_parts (Then (SessionId n) (Then (Counted cookie) (Then (Counted cert) (Then (Counted part) (Rest sign))))) = broken _
  by_parts (Then (SessionId n) (Then (Counted part) (Rest sign))) = broken _
  by_parts (Rest bytes) = broken _
  by_parts Ignored = broken _
  by_parts (Then (More more) (Then (Number id) (Then (Number number) (Rest bytes)))) = reads more id number bytes
  by_parts parts = broken _

  by_typed : (r : Result Parts ℕ) → P (chunk_or_fault 0x7f b (Some (typed 0x7f r)))
  by_typed (Ok parts) = by_parts parts
  by_typed (Err left) = broken _

  by_formed : (o : Option Form) → P (chunk_or_fault 0x7f b (typed_row 0x7f b o))
  by_formed None = broken _
  by_formed (Some row) = by_typed (row_at row b)

  pub as_piece : P (chunk_reading 0x7f b)
  unfolding chunk_reading chunk_at
  as_piece = by_formed (row_of 0x7f)

-- Its causes, in their order: a place that takes it takes it in each session.
module _ (s : State) (walk : Walk) (from : AddressParts) (payload : List ℕ) where
  abbrev with_read : Place → Bool → Result Chunk ChunkFault → Option Cause
  with_read place gathered read = first_that_stands (
      read_fault (length payload) read
      ∷ where_true (is_stray place (record walk { gathered = gathered }) 0x7f) StrayFragment
      ∷ where_true (not (takes_in place (record walk { gathered = gathered }) 0x7f)) WrongPlace
      ∷ first_that_stands (where_true (not (has_state_for s place 0x7f)) WrongState ∷ read_cause s place from read ∷ [])
      ∷ [])

  abbrev in_session : Place → Bool → Result Chunk ChunkFault → Option Cause
  in_session place gathered read = first_that_stands (
      read_fault (length payload) read
      ∷ where_true (is_stray place (record walk { gathered = gathered }) 0x7f) StrayFragment
      ∷ read_cause_in s.moment (get s.sessions (sid_at place)) read
      ∷ [])

  piece_order : (place : Place) (gathered more : Bool) (id number : ℕ) (bytes : List ℕ) →
      with_read place gathered (Ok (Fragment more id number bytes)) ≡ in_session place gathered (Ok (Fragment more id number bytes))
  piece_order (Startup generation) gathered more id number bytes = refl
  piece_order (Attempt near generation) gathered more id number bytes = refl
  piece_order (Session near) true more id number bytes = refl
  piece_order (Session near) false more id number bytes = refl

  fault_order : (place : Place) (gathered : Bool) (fault : ChunkFault) → with_read place gathered (Err fault) ≡ in_session place gathered (Err fault)
  fault_order place gathered (Unknown kind) = refl
  fault_order place gathered (BadField at) = refl

  pub in_order : (place : Place) → with_read place walk.gathered (chunk_reading 0x7f payload) ≡ part_cause s place walk payload
  in_order place =
      as_piece payload (λ read. with_read place walk.gathered read ≡ in_session place walk.gathered read)
      (fault_order place walk.gathered) (piece_order place walk.gathered)

module _ (s : State) (place : Place) (walk : Walk) (from : AddressParts) (draws : Draws) (c : Placed) (is : c.kind ≡ 0x7f) where
  abbrev typed_as : ℕ → Placed
  typed_as k = record { kind = k; at = c.at; payload = c.payload }

  pub fragment_cause : chunk_cause s place walk from c ≡ part_cause s place walk c.payload
  fragment_cause = ap (λ k. chunk_cause s place walk from (typed_as k)) is ∙ in_order s walk from c.payload place

  pub fragment_did : part_did s place walk c.at c.payload ≡ chunk_did place from draws walk s c
  fragment_did =
      ap (λ (o : Option Cause). discarded_or s c.at o (piece_taken s (sid_at place) c.at (chunk_reading 0x7f c.payload))) (sym (in_order s walk from c.payload place))
      ∙ sym (ap (λ k. chunk_did place from draws walk s (typed_as k)) is)

  whole_by_cause : (o : Option Cause) → part_whole s place o c.payload ≡ whole_at s place o (typed_as 0x7f)
  whole_by_cause None = refl
  whole_by_cause (Some cause) = refl

  pub fragment_whole : part_whole s place (part_cause s place walk c.payload) c.payload ≡ whole_at s place (chunk_cause s place walk from c) c
  fragment_whole =
      whole_by_cause (part_cause s place walk c.payload)
      ∙ ap (λ (o : Option Cause). whole_at s place o (typed_as 0x7f)) (sym fragment_cause)
      ∙ ap (λ k. whole_at s place (chunk_cause s place walk from c) (typed_as k)) (sym is)

  pub fragment_quiet : IsQuiet s place walk from c → IsSome (part_cause s place walk c.payload) ⊎ (is_held_piece s (sid_at place) (chunk_reading 0x7f c.payload) ≡ true)
  fragment_quiet (inl some) = inl (subst (λ (o : Option Cause). IsSome o) fragment_cause some)
  fragment_quiet (inr idle) = inr (sym (ap (λ k. is_idle_after s place walk from (typed_as k)) is) ∙ idle)
