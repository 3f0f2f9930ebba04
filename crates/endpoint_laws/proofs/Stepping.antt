-- The steps over the chunks of a datagram: those of its packet, and behind each piece that completes a packet those of that one.
use Rattle.std.proofs.Common.{◌≡◌, ℕ, ◌==◌, zero, suc, List, [], ◌∷◌, ◌++◌, take, Bool, true, false, ◌||◌, ◌&&◌, not, Option, Some, None, Result, Ok, inl, inr, ◌⊎◌, refl, sym, ap, subst, ◌∙◌, append_assoc}
use Rattle.std.specs.List.{AllByRecursion}
use Rattle.rtmfp_forms.specs.Address.{AddressParts}
use Rattle.rtmfp_packet.specs.Walk.{Placed}
use Rattle.rtmfp_packet.specs.Whole.{Whole}
use Rattle.rtmfp_chunks.specs.declared.reading.ChunkFault.{ChunkFault}
use Rattle.rtmfp_chunks.specs.Chunk.{Chunk, Fragment}
use Rattle.rtmfp_chunks.specs.FieldReading.{chunk_reading}
use Rattle.rtmfp_data_chunks.specs.Fitting.{AreSmall}
use Rattle.rtmfp_data_chunks.proofs.Fitting.{small_next}
use Rattle.rtmfp_base.specs.declared.cause.Cause.{Cause}
use Rattle.rtmfp_base.specs.declared.cause.Cause.TheVariants.{Fragment as FragmentCause}
use Rattle.endpoint_model.specs.declared.walk.Walk.{Walk}
use Rattle.endpoint_model.specs.declared.config.Draws.{Draws}
use Rattle.endpoint_model.specs.declared.place.Place.{Place}
use Rattle.endpoint_model.specs.State.{State}
use Rattle.endpoint_model.specs.Admission.{sid_at}
use Rattle.endpoint_model.specs.Keying.{IsAmong, IsFirst, chunks_of}
use Rattle.endpoint_model.specs.FlowChunks.{is_session}
use Rattle.endpoint_model.specs.Gathering.{may_be_gathered, whole_in, chunks_in}
use Rattle.endpoint_model.specs.Causes.{takes_in, is_stray, chunk_cause}
use Rattle.endpoint_model.specs.Effects.{WalkStep, outset, inset, walked, walk_step, in_order, steps_did, whole_at, with_gathered, steps_of, walk_of}
use Rattle.endpoint_model.proofs.Members.{tested}
use Rattle.endpoint_laws.proofs.Facts.{all_none, test_fails}
use Rattle.endpoint_laws.proofs.ByKind.{causes, not_gathered}
use Rattle.endpoint_laws.proofs.Spelled.{read_kind}

-- ---- what is so of every step

module _ (P : WalkStep → Type 0) where
  all_append : (xs ys : List WalkStep) → AllByRecursion P xs → AllByRecursion P ys → AllByRecursion P (xs ++ ys)
  all_append [] ys first later = later
  all_append (x ∷ xs) ys first later = (first.0, all_append xs ys first.1 later)

  -- what is so of all is so of the first of them
  pub all_taken : (count : ℕ) (xs : List WalkStep) → AllByRecursion P xs → AllByRecursion P (take count xs)
  all_taken zero xs all = tt
  all_taken (suc count) [] all = tt
  all_taken (suc count) (x ∷ xs) all = (all.0, all_taken count xs all.1)

-- The numbers that the chunk stands behind are of 64 bits.
abbrev pub AreAllSmall : List WalkStep → Type 0
AreAllSmall = AllByRecursion (λ x. AreSmall x.walk.cursor)

pub small_in_order : (walk : Walk) (cs : List Placed) → AreSmall walk.cursor → AreAllSmall (in_order walk cs)
small_in_order walk [] small = tt
small_in_order walk (c ∷ cs) small = (small, small_in_order (walked walk c) cs (small_next walk.cursor c.kind c.payload small))

-- ---- of which packet a chunk is

-- It is one of the datagram's packet, and the first initiator's keying there if it is one and none came before.
pub record IsOfPacket (packet : Whole) (walk : Walk) (c : Placed) : Type 0 where
  pub among : IsAmong c (chunks_of packet)
  pub first : walk.keyed ≡ false → c.kind ≡ 0x38 → IsFirst c (chunks_of packet)

-- Or it is one of a packet that was gathered.
abbrev pub IsFrom : Whole → Walk → Placed → Type 0
IsFrom packet walk c = IsOfPacket packet walk c ⊎ (walk.gathered ≡ true)

-- A chunk that is taken, of a type that isn't taken in such a packet, is one of the datagram's.
pub of_packet : (packet : Whole) (place : Place) (walk : Walk) (c : Placed) → IsFrom packet walk c → may_be_gathered c.kind ≡ false → takes_in place walk c.kind ≡ true → IsOfPacket packet walk c
of_packet packet place walk c (inl own) few taken = own
of_packet packet place walk c (inr gathered) few taken = absurd (let clash : true ≡ false = sym gathered ∙ not_gathered place walk c.kind few taken in cc)

-- a close and its answer aren't
pub close_apart : (kind : ℕ) → (kind ≡ 0x0c) ⊎ (kind ≡ 0x4c) → may_be_gathered kind ≡ false
close_apart kind (inl is) = ap may_be_gathered is
close_apart kind (inr is) = ap may_be_gathered is

pub record IsStepOf (packet : Whole) (x : WalkStep) : Type 0 where
  pub whence : IsFrom packet x.walk x.chunk
  pub small : AreSmall x.walk.cursor

abbrev pub AreStepsOf : Whole → List WalkStep → Type 0
AreStepsOf packet = AllByRecursion (IsStepOf packet)

pub small_steps : (packet : Whole) (xs : List WalkStep) → AreStepsOf packet xs → AreAllSmall xs
small_steps packet [] are = tt
small_steps packet (x ∷ xs) are = (are.0.small, small_steps packet xs are.1)

-- These chunks come after some, of which one is a keying where one was before.
pub record IsNext (packet : Whole) (walk : Walk) (before cs : List Placed) : Type 0 where
  pub whole : chunks_of packet ≡ before ++ cs
  pub keyed : walk.keyed ≡ false → (c : Placed) → IsAmong c before → c.kind ≡ 0x38 → ⊥
  pub small : AreSmall walk.cursor

among_back : (before : List Placed) (c : Placed) (cs : List Placed) → IsAmong c (before ++ c ∷ cs)
among_back [] c cs = inl refl
among_back (b ∷ before) c cs = inr (among_back before c cs)

first_back : (before : List Placed) (c : Placed) (cs : List Placed) → ((b : Placed) → IsAmong b before → b.kind ≡ 0x38 → ⊥) → c.kind ≡ 0x38 → IsFirst c (before ++ c ∷ cs)
first_back [] c cs none kind = inl refl
first_back (b ∷ before) c cs none kind = inr ((λ e. none b (inl refl) (e ∙ kind)), first_back before c cs (λ x among. none x (inr among)) kind)

among_end : (before : List Placed) (c b : Placed) → IsAmong b (before ++ c ∷ []) → IsAmong b before ⊎ (b ≡ c)
among_end [] c b (inl is) = inr is
among_end [] c b (inr none) = absurd none
among_end (x ∷ before) c b (inl is) = inl (inl is)
among_end (x ∷ before) c b (inr later) = elim (among_end before c b later) [ inl there ↦ inl (inr there) | inr is ↦ inr is ]

neither : (a b : Bool) → (a || b) ≡ false → (a ≡ false) × (b ≡ false)
neither true b e = absurd (cc)
neither false b e = (refl, e)

one_next : (packet : Whole) (walk : Walk) (before : List Placed) (c : Placed) (rest : List Placed) → IsNext packet walk before (c ∷ rest) → IsNext packet (walked walk c) (before ++ c ∷ []) rest
one_next packet walk before c rest next = record {
  whole = next.whole ∙ sym (append_assoc before (c ∷ []) rest);
  keyed = λ e b in_all kind.
      let both = neither walk.keyed (c.kind == 0x38) e in
      elim (among_end before c b in_all) [
        | inl there ↦ next.keyed both.0 b there kind
        | inr is ↦ elim (tested c.kind 0x38) [ inl same ↦ (let clash : true ≡ false = sym same.1 ∙ both.1 in cc) | inr other ↦ other.0 (ap (λ (p : Placed). p.kind) (sym is) ∙ kind) ]
      ];
  small = small_next walk.cursor c.kind c.payload next.small;
}

next_step : (packet : Whole) (walk : Walk) (before : List Placed) (c : Placed) (rest : List Placed) → IsNext packet walk before (c ∷ rest) → IsStepOf packet (walk_step walk c)
next_step packet walk before c rest next = record {
  whence = inl (record {
    among = subst (IsAmong c) (sym next.whole) (among_back before c rest);
    first = λ e kind. subst (IsFirst c) (sym next.whole) (first_back before c rest (next.keyed e) kind);
  });
  small = next.small;
}

-- the first chunks of the packet, one after another
pub packet_in_order : (packet : Whole) (walk : Walk) (before cs rest : List Placed) → IsNext packet walk before (cs ++ rest) → AreStepsOf packet (in_order walk cs)
packet_in_order packet walk before [] rest next = tt
packet_in_order packet walk before (c ∷ cs) rest next =
    (next_step packet walk before c (cs ++ rest) next, packet_in_order packet (walked walk c) (before ++ c ∷ []) cs rest (one_next packet walk before c (cs ++ rest) next))

gathered_in_order : (packet : Whole) (walk : Walk) (cs : List Placed) → walk.gathered ≡ true → AreSmall walk.cursor → AreStepsOf packet (in_order walk cs)
gathered_in_order packet walk [] gathered small = tt
gathered_in_order packet walk (c ∷ cs) gathered small =
    (record { whence = inr gathered; small = small }, gathered_in_order packet (walked walk c) cs gathered (small_next walk.cursor c.kind c.payload small))

module _ (packet : Whole) (place : Place) (from : AddressParts) (draws : Draws) where
  steps_are : (walk : Walk) (before cs : List Placed) (s : State) → IsNext packet walk before cs → AreStepsOf packet (steps_of place from draws walk s cs)
  steps_are walk before [] s next = tt
  steps_are walk before (c ∷ cs) s next =
      let these : List WalkStep = with_gathered place from walk s c in
      let inner : List Placed = chunks_in s (sid_at place) (whole_at s place (chunk_cause s place walk from c) c) in
      all_append (IsStepOf packet) these (steps_of place from draws (walked walk c) (steps_did place from draws s these).state cs)
      (next_step packet walk before c cs next, gathered_in_order packet inset inner refl tt)
      (steps_are (walked walk c) (before ++ c ∷ []) cs (steps_did place from draws s these).state (one_next packet walk before c cs next))

  pub walk_is : (s : State) → AreStepsOf packet (walk_of place from draws s packet)
  walk_is s = steps_are outset [] (chunks_of packet) s (record { whole = refl; keyed = λ e c none kind. none; small = tt })

  pub part_is : (s : State) (count : ℕ) → AreStepsOf packet (take count (walk_of place from draws s packet))
  part_is s count = all_taken (IsStepOf packet) count (walk_of place from draws s packet) (walk_is s)

-- ---- outside of sessions no chunk is a piece

pub fragment_apart : (s : State) (near : ℕ) (read : Result Chunk ChunkFault) → ((more : Bool) (id number : ℕ) (bytes : List ℕ) → read ≡ Ok (Fragment more id number bytes) → ⊥) → whole_in s near read ≡ None
fragment_apart s near (Ok (Fragment more id number bytes)) none = absurd (none more id number bytes refl)
fragment_apart s near read none = refl

module _ (place : Place) (outside : is_session place ≡ false) (from : AddressParts) where
  stray_outside : (walk : Walk) (kind : ℕ) → is_stray place walk kind ≡ false → (kind == 0x7f) ≡ false
  stray_outside walk kind none = by (kind == 0x7f) (is_session place) outside none
    where
      by : (fragment held : Bool) → held ≡ false → (fragment && (not held || walk.gathered)) ≡ false → fragment ≡ false
      by true true out e = absurd (cc)
      by true false out e = absurd (cc)
      by false held out e = refl

  pub none_completed : (walk : Walk) (s : State) (c : Placed) (o : Option Cause) → chunk_cause s place walk from c ≡ o → whole_at s place o c ≡ None
  none_completed walk s c (Some cause) is = refl
  none_completed walk s c None is =
      let other : (c.kind == 0x7f) ≡ false = stray_outside walk c.kind (test_fails (is_stray place walk c.kind) FragmentCause (all_none (causes s place walk from c) is).1.1.0) in
      fragment_apart s (sid_at place) (chunk_reading c.kind c.payload) (λ more id number bytes read.
      let clash : true ≡ false = ap (λ (k : ℕ). k == 0x7f) (sym (read_kind c.kind c.payload (Fragment more id number bytes) read)) ∙ other in cc)

  pub outside_sessions : (draws : Draws) (walk : Walk) (s : State) (cs : List Placed) → steps_of place from draws walk s cs ≡ in_order walk cs
  outside_sessions draws walk s [] = refl
  outside_sessions draws walk s (c ∷ cs) =
      let none = none_completed walk s c (chunk_cause s place walk from c) refl in
      ap (λ (o : Option (List ℕ)).
      let these : List WalkStep = walk_step walk c ∷ in_order inset (chunks_in s (sid_at place) o) in
      these ++ steps_of place from draws (walked walk c) (steps_did place from draws s these).state cs) none
      ∙ ap (λ (xs : List WalkStep). walk_step walk c ∷ xs) (outside_sessions draws (walked walk c) (steps_did place from draws s (walk_step walk c ∷ [])).state cs)

-- the first steps are those over the first chunks
pub take_in_order : (count : ℕ) (walk : Walk) (cs : List Placed) → take count (in_order walk cs) ≡ in_order walk (take count cs)
take_in_order zero walk cs = refl
take_in_order (suc count) walk [] = refl
take_in_order (suc count) walk (c ∷ cs) = ap (λ (xs : List WalkStep). walk_step walk c ∷ xs) (take_in_order count (walked walk c) cs)
