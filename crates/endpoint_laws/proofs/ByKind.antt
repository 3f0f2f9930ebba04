-- What a chunk does, by its type, and what there being no cause says of it.
use Rattle.std.proofs.Common.{◌≡◌, ℕ, List, [], ◌∷◌, length, Bool, true, false, not, ◌||◌, ◌&&◌, if◌then◌else◌, Option, Some, None, inl, inr, ◌⊎◌, refl, sym, ap, ◌∙◌, arith}
use Rattle.std.specs.Prelude.{◌==◌}
use Rattle.std.specs.FinMap.{get}
use Rattle.std.proofs.lemmas.Bool.Decides.{nat_tests}
use Rattle.rtmfp_forms.specs.Address.{AddressParts}
use Rattle.rtmfp_packet.specs.Walk.{Placed}
use Rattle.rtmfp_chunks.specs.FieldReading.{chunk_reading}
use Rattle.rtmfp_data_chunks.specs.Reader.{data_reading}
use Rattle.rtmfp_base.specs.declared.cause.Cause.{Cause}
use Rattle.rtmfp_base.specs.declared.cause.Cause.TheVariants.{UnknownChunk, WrongPlace, WrongState, Fragment as FragmentCause}
use Rattle.startup_packets.specs.Readings.{initiator_keying_in, responder_keying_in}
use Rattle.startup.specs.Keyings.{fault_in}
use Rattle.rtmfp_base.specs.Reasons.{where_true, first_that_stands}
use Rattle.endpoint_model.specs.declared.walk.Walk.{Walk}
use Rattle.endpoint_model.specs.declared.config.Draws.{Draws}
use Rattle.endpoint_model.specs.declared.place.Place.{Place}
use Rattle.endpoint_model.specs.State.{State, Did}
use Rattle.endpoint_model.specs.Admission.{sid_at}
use Rattle.endpoint_model.specs.FlowChunks.{is_of_flows, data_fault, flow_cause, flow_taken}
use Rattle.endpoint_model.specs.Effects.{initiator_keyed, responder_keyed, is_told_in_session, read_done, effect, discarded, discarded_or, chunk_did}
use Rattle.endpoint_model.specs.Gathering.{may_be_gathered, piece_taken}
use Rattle.endpoint_model.specs.InSessions.{told_in_session}
use Rattle.endpoint_model.specs.Causes.{is_known, form_cause, read_fault, takes, takes_in, is_stray, initiator_keying_cause, responder_keying_cause, has_state_for, read_cause, last_cause, chunk_cause}
use Rattle.endpoint_model.proofs.Members.{tested}
use Rattle.endpoint_laws.proofs.Facts.{all_none, test_fails}

pub not_false : (b : Bool) → not b ≡ false → b ≡ true
not_false true e = refl
not_false false e = absurd (cc)

pub is_kind : (kind n : ℕ) → (kind == n) ≡ true → kind ≡ n
is_kind kind n e = grind (arith, nat_tests)

-- ---- what a place takes

pub and_is : (a b : Bool) → (a && b) ≡ true → (a ≡ true) × (b ≡ true)
and_is true b e = (refl, e)
and_is false b e = absurd (cc)

-- What it takes in some packet it takes.
pub is_taken : (place : Place) (walk : Walk) (kind : ℕ) → takes_in place walk kind ≡ true → takes place kind ≡ true
is_taken place walk kind taken = (and_is (takes place kind) (may_be_gathered kind || not walk.gathered) taken).0

-- But for the few types that it takes in one that was gathered, that packet is none.
pub not_gathered : (place : Place) (walk : Walk) (kind : ℕ) → may_be_gathered kind ≡ false → takes_in place walk kind ≡ true → walk.gathered ≡ false
not_gathered place walk kind few taken = by (may_be_gathered kind) walk.gathered few (and_is (takes place kind) (may_be_gathered kind || not walk.gathered) taken).1
  where
    by : (may gathered : Bool) → may ≡ false → (may || not gathered) ≡ true → gathered ≡ false
    by true gathered few e = absurd (cc)
    by false true few e = absurd (cc)
    by false false few e = refl

-- ---- chunks that are told in a session

pub told_kinds : (k : ℕ) → is_told_in_session k ≡ true → (k ≡ 0x0c) ⊎ ((k ≡ 0x4c) ⊎ (k ≡ 0x41))
told_kinds k told = elim (tested k 0x0c) [
  | inl is ↦ inl is.0
  | inr a ↦ elim (tested k 0x4c) [
    | inl is ↦ inr (inl is.0)
    | inr b ↦ elim (tested k 0x41) [
      | inl is ↦ inr (inr is.0)
      | inr c ↦ absurd (let clash : true ≡ false = sym told ∙ ap (λ t. t || (k == 0x4c) || (k == 0x41)) a.1 ∙ ap (λ t. t || (k == 0x41)) b.1 ∙ c.1 in cc)
    ]
  ]
]

told_no_flows : (k : ℕ) → (k ≡ 0x0c) ⊎ ((k ≡ 0x4c) ⊎ (k ≡ 0x41)) → is_of_flows k ≡ false
told_no_flows k (inl e) = ap is_of_flows e
told_no_flows k (inr (inl e)) = ap is_of_flows e
told_no_flows k (inr (inr e)) = ap is_of_flows e

-- the causes of its discard, in their order
abbrev pub causes : State → Place → Walk → AddressParts → Placed → List (Option Cause)
causes s place walk from c =
    where_true (not (is_known c.kind)) (UnknownChunk c.kind)
    ∷ form_cause walk.cursor c.kind c.payload
    ∷ where_true (is_stray place walk c.kind) FragmentCause
    ∷ where_true (not (takes_in place walk c.kind)) WrongPlace
    ∷ last_cause s place walk from c
    ∷ []

-- ---- by the type

-- What is so of a chunk that is discarded, and of one of each type that isn't, with what is known of it then.
pub record ByKind (R : Did → Type 0) (place : Place) (from : AddressParts) (draws : Draws) (walk : Walk) (s : State) (c : Placed) : Type 0 where
  pub discarded : (cause : Cause) → R (discarded s c.at cause)
  pub initiator : c.kind ≡ 0x38 → takes_in place walk 0x38 ≡ true → initiator_keying_cause s place walk from c.payload ≡ None → fault_in (initiator_keying_in c.payload) ≡ None → R (initiator_keyed s place from draws c.payload)
  pub responder : c.kind ≡ 0x78 → takes_in place walk 0x78 ≡ true → responder_keying_cause s place c.payload ≡ None → fault_in (responder_keying_in c.payload) ≡ None → R (responder_keyed s (sid_at place) from c.payload)
  pub told : is_told_in_session c.kind ≡ true → takes_in place walk c.kind ≡ true → has_state_for s place c.kind ≡ true → R (told_in_session s (sid_at place) from c)
  pub flows : is_of_flows c.kind ≡ true → takes_in place walk c.kind ≡ true → flow_cause (get s.sessions (sid_at place)) (data_reading walk.cursor c.kind c.payload) ≡ None → R (flow_taken s (sid_at place) (data_reading walk.cursor c.kind c.payload))
  pub piece : c.kind ≡ 0x7f → takes_in place walk 0x7f ≡ true → R (piece_taken s (sid_at place) c.at (chunk_reading c.kind c.payload))
  pub reads : takes_in place walk c.kind ≡ true → read_fault (length c.payload) (chunk_reading c.kind c.payload) ≡ None → read_cause s place from (chunk_reading c.kind c.payload) ≡ None → R (read_done s place from (chunk_reading c.kind c.payload))

module _ (R : Did → Type 0) (place : Place) (from : AddressParts) (draws : Draws) (walk : Walk) (s : State) (c : Placed) (k : ByKind R place from draws walk s c) where
  abbrev read_causes : List (Option Cause)
  read_causes = where_true (not (has_state_for s place c.kind)) WrongState ∷ read_cause s place from (chunk_reading c.kind c.payload) ∷ []

  effect_by_kind : (i r t f p : Bool) → (c.kind == 0x38) ≡ i → (c.kind == 0x78) ≡ r → is_told_in_session c.kind ≡ t → is_of_flows c.kind ≡ f → (c.kind == 0x7f) ≡ p → takes_in place walk c.kind ≡ true →
      (if i || r then (if i then fault_in (initiator_keying_in c.payload) else if r then fault_in (responder_keying_in c.payload) else None)
      else if f then data_fault (data_reading walk.cursor c.kind c.payload) else read_fault (length c.payload) (chunk_reading c.kind c.payload)) ≡ None →
      (if i then initiator_keying_cause s place walk from c.payload else if r then responder_keying_cause s place c.payload
      else if f then flow_cause (get s.sessions (sid_at place)) (data_reading walk.cursor c.kind c.payload) else first_that_stands read_causes) ≡ None →
      R (if i then initiator_keyed s place from draws c.payload else if r then responder_keyed s (sid_at place) from c.payload else if t then told_in_session s (sid_at place) from c
      else if f then flow_taken s (sid_at place) (data_reading walk.cursor c.kind c.payload) else if p then piece_taken s (sid_at place) c.at (chunk_reading c.kind c.payload)
      else read_done s place from (chunk_reading c.kind c.payload))
  effect_by_kind true r t f p is_i is_r is_t is_f is_p taken form last = let kind = is_kind c.kind 0x38 is_i in k.initiator kind (ap (takes_in place walk) (sym kind) ∙ taken) last form
  effect_by_kind false true t f p is_i is_r is_t is_f is_p taken form last = let kind = is_kind c.kind 0x78 is_r in k.responder kind (ap (takes_in place walk) (sym kind) ∙ taken) last form
  effect_by_kind false false true true p is_i is_r is_t is_f is_p taken form last = let clash : true ≡ false = sym is_f ∙ told_no_flows c.kind (told_kinds c.kind is_t) in absurd (cc)
  effect_by_kind false false true false p is_i is_r is_t is_f is_p taken form last =
      k.told is_t taken (not_false (has_state_for s place c.kind) (test_fails (not (has_state_for s place c.kind)) WrongState (all_none read_causes last).0))
  effect_by_kind false false false true p is_i is_r is_t is_f is_p taken form last = k.flows is_f taken last
  effect_by_kind false false false false true is_i is_r is_t is_f is_p taken form last = let kind = is_kind c.kind 0x7f is_p in k.piece kind (ap (takes_in place walk) (sym kind) ∙ taken)
  effect_by_kind false false false false false is_i is_r is_t is_f is_p taken form last = k.reads taken form (all_none read_causes last).1.0

  by_cause : (o : Option Cause) → chunk_cause s place walk from c ≡ o → R (discarded_or s c.at o (effect s place walk from draws c))
  by_cause (Some cause) e = k.discarded cause
  by_cause None e =
      let all = all_none (causes s place walk from c) e in
      effect_by_kind (c.kind == 0x38) (c.kind == 0x78) (is_told_in_session c.kind) (is_of_flows c.kind) (c.kind == 0x7f) refl refl refl refl refl (not_false (takes_in place walk c.kind) (test_fails (not (takes_in place walk c.kind)) WrongPlace all.1.1.1.0)) all.1.0 all.1.1.1.1.0

  pub chunk_by_kind : R (chunk_did place from draws walk s c)
  chunk_by_kind = by_cause (chunk_cause s place walk from c) refl
