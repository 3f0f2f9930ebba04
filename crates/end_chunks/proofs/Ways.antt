-- How a chunk is judged: its causes and what it does, by the way of its type.
use Rattle.std.specs.Prelude.{◌==◌, ◌&&◌, ◌||◌}
use Rattle.std.proofs.Common.{ℕ, ◌≡◌, [], ◌∷◌, length, Bool, true, false, not, if◌then◌else◌, Some, None, refl, sym, ap, ◌∙◌}
use Rattle.std.proofs.lemmas.Bool.{eqb-true}
use Rattle.std.specs.FinMap.{get}
use Rattle.rtmfp_forms.specs.Address.{AddressParts}
use Rattle.rtmfp_chunks.specs.FieldReading.{chunk_reading}
use Rattle.rtmfp_data_chunks.specs.Reader.{data_reading}
use Rattle.rtmfp_packet.specs.Walk.{Placed}
use Rattle.rtmfp_base.specs.Reasons.{where_true, first_that_stands}
use Rattle.rtmfp_base.specs.declared.cause.Cause.TheVariants.{UnknownChunk, WrongPlace, Fragment as FragmentCause}
use Rattle.startup.specs.Keyings.{keying_fault}
use Rattle.endpoint_model.specs.declared.config.Draws.{Draws}
use Rattle.endpoint_model.specs.declared.place.Place.{Place}
use Rattle.endpoint_model.specs.declared.walk.Walk.{Walk}
use Rattle.endpoint_model.specs.Admission.{sid_at}
use Rattle.endpoint_model.specs.Causes.{chunk_cause, form_cause, initiator_keying_cause, is_known, is_stray, last_cause, read_fault, responder_keying_cause, takes_in}
use Rattle.endpoint_model.specs.Effects.{effect, initiator_keyed, is_idle, is_told_in_session, read_done, responder_keyed, walked}
use Rattle.endpoint_model.specs.FlowChunks.{data_fault, flow_cause, flow_taken, is_of_flows, is_session}
use Rattle.endpoint_model.specs.Gathering.{piece_taken}
use Rattle.endpoint_model.specs.InSessions.{told_in_session}
use Rattle.endpoint_model.specs.State.{State, Did}
use Rattle.endpoint_model.proofs.FlowChunks.{skip_none}
use Rattle.end_chunks.specs.Judging.{judged_cause, other_cause, other_done}
use Rattle.endpoint_model.specs.declared.kinds.KindRow.{KindRow}
use Rattle.endpoint_model.specs.declared.kinds.Way.TheVariants.{InitiatorKeying, ResponderKeying, Fields}
use Rattle.endpoint_model.specs.Kinds.{IsRow, IsUnknown, is_initiator, is_responder, is_fragment}
use Rattle.end_chunks.proofs.FlowTaken.{gone_on}

-- the walk behind a chunk of a type with a row, and behind one of an unknown type
module _ (walk new : Walk) (c : Placed) (keying : Bool) (keyed : new.keyed ≡ (walk.keyed || keying)) (gathered : new.gathered ≡ walk.gathered) (cursor : new.cursor ≡ None) where
  pub gone_behind : (row : KindRow) → IsRow row → row.kind ≡ c.kind → keying ≡ is_initiator row.way → new ≡ walked walk c
  gone_behind row is same way =
      let kind : keying ≡ (c.kind == 0x38) = way ∙ sym is.initiator ∙ ap (λ k. k == 0x38) same in
      gone_on walk new c (ap is_of_flows (sym same) ∙ is.apart) (keyed ∙ ap (λ (b : Bool). walk.keyed || b) kind) gathered cursor

  pub gone_unknown : IsUnknown c.kind → keying ≡ false → new ≡ walked walk c
  gone_unknown is none = gone_on walk new c is.apart (keyed ∙ ap (λ (b : Bool). walk.keyed || b) (none ∙ sym is.initiator)) gathered cursor

-- and behind a fragment
pub gone_fragment : (walk new : Walk) (c : Placed) → c.kind ≡ 0x7f → new.keyed ≡ (walk.keyed || false) → new.gathered ≡ walk.gathered → new.cursor ≡ None → new ≡ walked walk c
gone_fragment walk new c is keyed gathered cursor = gone_on walk new c (ap is_of_flows is) (keyed ∙ ap (λ (k : ℕ). walk.keyed || (k == 0x38)) (sym is)) gathered cursor

module _ (s : State) (place : Place) (walk : Walk) (from : AddressParts) (c : Placed) where
  abbrev of_kind : ℕ → Placed
  of_kind k = record { kind = k; at = c.at; payload = c.payload }

  -- ---- an unknown type

  pub unknown_cause : is_known c.kind ≡ false → chunk_cause s place walk from c ≡ Some (UnknownChunk c.kind)
  unknown_cause unknown =
      λ i. first_that_stands (where_true (not (unknown i)) (UnknownChunk c.kind) ∷ form_cause walk.cursor c.kind c.payload ∷ where_true (is_stray place walk c.kind) FragmentCause
      ∷ where_true (not (takes_in place walk c.kind)) WrongPlace ∷ last_cause s place walk from c ∷ [])

  -- ---- a type with a row

  module _ (row : KindRow) (is : IsRow row) (same : row.kind ≡ c.kind) where
    busy : (k : ℕ) → c.kind ≡ k → is_idle s place from (of_kind k) ≡ false → is_idle s place from c ≡ true → ⊥
    busy k e not_idle idle = let clash : true ≡ false = sym idle ∙ ap (λ n. is_idle s place from (of_kind n)) e ∙ not_idle in absurd (cc)

    -- the keying of an initiator
    module _ (way : row.way ≡ InitiatorKeying) where
      initiator_kind : c.kind ≡ 0x38
      initiator_kind = sym same ∙ eqb-true row.kind 0x38 (is.initiator ∙ ap is_initiator way)

      pub initiator_cause : judged_cause place walk 0x38 (keying_fault 0x38 c.payload) (initiator_keying_cause s place walk from c.payload) ≡ chunk_cause s place walk from c
      initiator_cause =
          sym (skip_none (keying_fault 0x38 c.payload) (where_true (not (takes_in place walk 0x38)) WrongPlace ∷ initiator_keying_cause s place walk from c.payload ∷ []))
          ∙ sym (ap (λ k. chunk_cause s place walk from (of_kind k)) initiator_kind)

      pub initiator_does : ◌≡◌ {A = Draws → Did} (λ draws. initiator_keyed s place from draws c.payload) (λ draws. effect s place walk from draws c)
      initiator_does = sym (ap {B = Draws → Did} (λ (k : ℕ) (draws : Draws). effect s place walk from draws (of_kind k)) initiator_kind)

      pub initiator_busy : is_idle s place from c ≡ true → ⊥
      initiator_busy = busy 0x38 initiator_kind refl

    -- the keying of a responder
    module _ (way : row.way ≡ ResponderKeying) where
      responder_kind : c.kind ≡ 0x78
      responder_kind = sym same ∙ eqb-true row.kind 0x78 (is.responder ∙ ap is_responder way)

      pub responder_cause : judged_cause place walk 0x78 (keying_fault 0x78 c.payload) (responder_keying_cause s place c.payload) ≡ chunk_cause s place walk from c
      responder_cause =
          sym (skip_none (keying_fault 0x78 c.payload) (where_true (not (takes_in place walk 0x78)) WrongPlace ∷ responder_keying_cause s place c.payload ∷ []))
          ∙ sym (ap (λ k. chunk_cause s place walk from (of_kind k)) responder_kind)

      pub responder_does : ◌≡◌ {A = Draws → Did} (λ draws. responder_keyed s (sid_at place) from c.payload) (λ draws. effect s place walk from draws c)
      responder_does = sym (ap {B = Draws → Did} (λ (k : ℕ) (draws : Draws). effect s place walk from draws (of_kind k)) responder_kind)

      pub responder_busy : is_idle s place from c ≡ true → ⊥
      responder_busy = busy 0x78 responder_kind refl

    -- what is judged by its fields
    module _ (way : row.way ≡ Fields) where
      known : is_known c.kind ≡ true
      known = ap is_known (sym same) ∙ is.known

      apart : is_of_flows c.kind ≡ false
      apart = ap is_of_flows (sym same) ∙ is.apart

      initiator : (c.kind == 0x38) ≡ false
      initiator = ap (λ k. k == 0x38) (sym same) ∙ is.initiator ∙ ap is_initiator way

      responder : (c.kind == 0x78) ≡ false
      responder = ap (λ k. k == 0x78) (sym same) ∙ is.responder ∙ ap is_responder way

      fragment : (c.kind == 0x7f) ≡ false
      fragment = ap (λ k. k == 0x7f) (sym same) ∙ is.fragment ∙ ap is_fragment way

      as_fields : chunk_cause s place walk from c ≡ judged_cause place walk c.kind (read_fault (length c.payload) (chunk_reading c.kind c.payload)) (other_cause s place from c)
      as_fields =
          (λ i. first_that_stands (where_true (not (known i)) (UnknownChunk c.kind)
          ∷ (if initiator i || responder i then keying_fault c.kind c.payload
          else if apart i then data_fault (data_reading walk.cursor c.kind c.payload)
          else read_fault (length c.payload) (chunk_reading c.kind c.payload))
          ∷ where_true (fragment i && (not (is_session place) || walk.gathered)) FragmentCause
          ∷ where_true (not (takes_in place walk c.kind)) WrongPlace
          ∷ (if initiator i then initiator_keying_cause s place walk from c.payload
          else if responder i then responder_keying_cause s place c.payload
          else if apart i then flow_cause (get s.sessions (sid_at place)) (data_reading walk.cursor c.kind c.payload)
          else other_cause s place from c) ∷ []))
          ∙ skip_none (read_fault (length c.payload) (chunk_reading c.kind c.payload)) (where_true (not (takes_in place walk c.kind)) WrongPlace ∷ other_cause s place from c ∷ [])

      pub fields_cause : judged_cause place walk c.kind (read_fault (length c.payload) (chunk_reading c.kind c.payload)) (other_cause s place from c) ≡ chunk_cause s place walk from c
      fields_cause = sym as_fields

      as_other : ◌≡◌ {A = Draws → Did} (λ draws. effect s place walk from draws c) (λ draws. other_done s place from c)
      as_other =
          λ i draws. if initiator i then initiator_keyed s place from draws c.payload
          else if responder i then responder_keyed s (sid_at place) from c.payload
          else if is_told_in_session c.kind then told_in_session s (sid_at place) from c
          else if apart i then flow_taken s (sid_at place) (data_reading walk.cursor c.kind c.payload)
          else if fragment i then piece_taken s (sid_at place) c.at (chunk_reading c.kind c.payload)
          else read_done s place from (chunk_reading c.kind c.payload)

      pub fields_do : ◌≡◌ {A = Draws → Did} (λ draws. other_done s place from c) (λ draws. effect s place walk from draws c)
      fields_do = sym as_other
