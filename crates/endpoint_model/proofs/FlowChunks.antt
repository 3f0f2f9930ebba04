-- Chunks of flows: their causes and what they do, by how they read; and the packets of acks after them.
use Rattle.std.specs.Prelude.{◌==◌, ◌||◌}
use Rattle.std.proofs.Common.{ℕ, zero, suc, ◌+◌, ◌≡◌, inl, inr, List, [], ◌∷◌, length, Option, Some, None, Result, Ok, Err, Bool, true, false, not, if◌then◌else◌, refl, sym, ap, ◌∙◌, subst, arith}
use Rattle.std.proofs.lemmas.Bool.{eqb-true}
use Rattle.std.proofs.lemmas.List.{length-map}
use Rattle.std.specs.FinMap.{get}
use Rattle.rtmfp_forms.specs.Address.{AddressParts}
use Rattle.rtmfp_chunks.specs.declared.kinds.TheConstants.{IIKEYING, RIKEYING, FRAGMENT}
use Rattle.rtmfp_chunks.specs.FieldReading.{chunk_reading}
use Rattle.rtmfp_packet.specs.Walk.{Placed}
use Rattle.session_flows.specs.Chunks.{rejecting}
use Rattle.rtmfp_data_chunks.specs.declared.user_data.Numbers.{Numbers}
use Rattle.rtmfp_data_chunks.specs.declared.view.DataFault.{DataFault}
use Rattle.rtmfp_data_chunks.specs.declared.view.DataFault.TheVariants.{Unknown}
use Rattle.rtmfp_forms.specs.OptionReading.{◌>>=◌}
use Rattle.rtmfp_data_chunks.specs.Chunk.{DataChunk, Data, Next, AckBitmap, AckRanges, Probe, Exception}
use Rattle.rtmfp_data_chunks.specs.Reader.{data_reading, data_then, next_then, bitmap_then, ack_ranges_then, probe_then, exception_then}
use Rattle.rtmfp_data_chunks.specs.Spelling.{before_next}
use Rattle.rtmfp_base.specs.Reasons.{where_true, first_that_stands}
use Rattle.rtmfp_base.specs.declared.cause.Cause.{Cause}
use Rattle.rtmfp_base.specs.declared.cause.Cause.TheVariants.{WrongPlace}
use Rattle.endpoint_model.specs.declared.config.Draws.{Draws}
use Rattle.endpoint_model.specs.declared.place.Place.{Place}
use Rattle.endpoint_model.specs.declared.place.Place.TheVariants.{Startup, Attempt, Session}
use Rattle.endpoint_model.specs.declared.walk.Walk.{Walk}
use Rattle.endpoint_model.specs.declared.row.Row.{Row}
use Rattle.endpoint_model.specs.Added.{Added}
use Rattle.endpoint_model.specs.State.{State, Did, Done, nothing, then_do, after_entries}
use Rattle.endpoint_model.specs.Admission.{sid_at}
use Rattle.endpoint_model.specs.Causes.{chunk_cause}
use Rattle.endpoint_model.specs.FlowChunks.{is_of_flows, is_session, data_fault, flow_cause, flow_taken, flow_taken_by, is_told_only, states_nothing, acked_by, owes_by, acked_if, acked_in}
use Rattle.endpoint_model.specs.InSessions.{told_in_session}
use Rattle.endpoint_model.specs.OnFlows.{flow_entry}
use Rattle.endpoint_model.specs.Gathering.{piece_taken}
use Rattle.endpoint_model.specs.Effects.{effect, initiator_keyed, responder_keyed, is_told_in_session, read_done}
use Rattle.endpoint_model.proofs.Members.{or_cases}
use Rattle.endpoint_model.proofs.Steps.{joined, done_nothing, then_nothing, then_then}

-- ---- the types of chunks of flows

-- what holds of a number, and of those before it
or_else : (P : ℕ → Type 0) (k n : ℕ) (rest : Bool) → (rest ≡ true → P k) → P n → (rest || (k == n)) ≡ true → P k
or_else P k n rest others one e = elim (or_cases rest (k == n) e) [ inl is ↦ others is | inr is ↦ subst P (sym (eqb-true k n is)) one ]

-- what holds of each of these types
pub of_flows : (P : ℕ → Type 0) → P 0x10 → P 0x11 → P 0x50 → P 0x51 → P 0x18 → P 0x5e → (k : ℕ) → is_of_flows k ≡ true → P k
of_flows P first next bitmap ranges probe exception k e =
    or_else P k 0x5e _ (or_else P k 0x18 _ (or_else P k 0x51 _ (or_else P k 0x50 _ (or_else P k 0x11 _ (λ is. subst P (sym (eqb-true k 0x10 is)) first) next) bitmap) ranges) probe) exception e

either_false : (a b : Bool) → (a || b) ≡ false → (a ≡ false) × (b ≡ false)
either_false true b e = absurd (cc)
either_false false b e = (refl, e)

-- A next chunk stands behind no chunk that is none of flows.
pub none_behind : (before : Option Numbers) (k : ℕ) (payload : List ℕ) → is_of_flows k ≡ false → before_next (data_reading before k payload) ≡ None
unfolding data_reading
none_behind before k payload e =
    let r5 = either_false _ (k == 0x5e) e in
    let r4 = either_false _ (k == 0x18) r5.0 in
    let r3 = either_false _ (k == 0x51) r4.0 in
    let r2 = either_false _ (k == 0x50) r3.0 in
    let r1 = either_false (k == 0x10) (k == 0x11) r2.0 in
    λ i. before_next (if r1.0 i then data_then payload >>= (λ user. Ok (Data user))
    else if r1.1 i then next_then before payload >>= (λ user. Ok (Next user))
    else if r2.1 i then bitmap_then payload
    else if r3.1 i then ack_ranges_then payload
    else if r4.1 i then probe_then payload
    else if r5.1 i then exception_then payload
    else Err (Unknown k))

-- ---- causes

pub skip_none : (o : Option Cause) (rest : List (Option Cause)) → first_that_stands (o ∷ None ∷ rest) ≡ first_that_stands (o ∷ rest)
skip_none None rest = refl
skip_none (Some cause) rest = refl

by_place : (Q : Place → Type 0) → ((generation : ℕ) → Q (Startup generation)) → ((near generation : ℕ) → Q (Attempt near generation)) → ((near : ℕ) → Q (Session near)) → (place : Place) → Q place
by_place Q startup attempt session (Startup generation) = startup generation
by_place Q startup attempt session (Attempt near generation) = attempt near generation
by_place Q startup attempt session (Session near) = session near

module _ (s : State) (walk : Walk) (from : AddressParts) (draws : Draws) (c : Placed) where
  abbrev of_kind : ℕ → Placed
  of_kind k = record { kind = k; at = c.at; payload = c.payload }

  abbrev read_as : ℕ → Result DataChunk DataFault
  read_as k = data_reading walk.cursor k c.payload

  -- the causes of a chunk of flows, by how it reads
  abbrev causes_at : Place → ℕ → Option Cause
  causes_at place k = first_that_stands (data_fault (read_as k) ∷ where_true (not (is_session place)) WrongPlace ∷ flow_cause (get s.sessions (sid_at place)) (read_as k) ∷ [])

  abbrev CauseIs : ℕ → Place → Type 0
  CauseIs k place = chunk_cause s place walk from (of_kind k) ≡ causes_at place k

  abbrev skipped : (k : ℕ) (place : Place) → first_that_stands (data_fault (read_as k) ∷ None ∷ where_true (not (is_session place)) WrongPlace ∷ flow_cause (get s.sessions (sid_at place)) (read_as k) ∷ []) ≡ causes_at place k
  skipped k place = skip_none (data_fault (read_as k)) (where_true (not (is_session place)) WrongPlace ∷ flow_cause (get s.sessions (sid_at place)) (read_as k) ∷ [])

  pub flows_cause : (place : Place) → is_of_flows c.kind ≡ true → chunk_cause s place walk from c ≡ causes_at place c.kind
  flows_cause place e = of_flows (λ k. CauseIs k place)
      (by_place (CauseIs 0x10) (λ g. skipped 0x10 (Startup g)) (λ n g. skipped 0x10 (Attempt n g)) (λ n. skipped 0x10 (Session n)) place)
      (by_place (CauseIs 0x11) (λ g. skipped 0x11 (Startup g)) (λ n g. skipped 0x11 (Attempt n g)) (λ n. skipped 0x11 (Session n)) place)
      (by_place (CauseIs 0x50) (λ g. skipped 0x50 (Startup g)) (λ n g. skipped 0x50 (Attempt n g)) (λ n. skipped 0x50 (Session n)) place)
      (by_place (CauseIs 0x51) (λ g. skipped 0x51 (Startup g)) (λ n g. skipped 0x51 (Attempt n g)) (λ n. skipped 0x51 (Session n)) place)
      (by_place (CauseIs 0x18) (λ g. skipped 0x18 (Startup g)) (λ n g. skipped 0x18 (Attempt n g)) (λ n. skipped 0x18 (Session n)) place)
      (by_place (CauseIs 0x5e) (λ g. skipped 0x5e (Startup g)) (λ n g. skipped 0x5e (Attempt n g)) (λ n. skipped 0x5e (Session n)) place)
      c.kind e

  -- what it does
  pub flows_effect : (place : Place) → is_of_flows c.kind ≡ true → effect s place walk from draws c ≡ flow_taken s (sid_at place) (read_as c.kind)
  flows_effect place e = of_flows (λ k. effect s place walk from draws (of_kind k) ≡ flow_taken s (sid_at place) (read_as k)) refl refl refl refl refl refl c.kind e

  -- and where it is none of flows
  pub other_effect : (place : Place) → is_of_flows c.kind ≡ false → effect s place walk from draws c ≡
      (if c.kind == IIKEYING then initiator_keyed s place from draws c.payload
      else if c.kind == RIKEYING then responder_keyed s (sid_at place) from c.payload
      else if is_told_in_session c.kind then told_in_session s (sid_at place) from c
      else if c.kind == FRAGMENT then piece_taken s (sid_at place) c.at (chunk_reading c.kind c.payload)
      else read_done s place from (chunk_reading c.kind c.payload))
  other_effect place e =
      ap (λ (b : Bool). if c.kind == IIKEYING then initiator_keyed s place from draws c.payload
      else if c.kind == RIKEYING then responder_keyed s (sid_at place) from c.payload
      else if is_told_in_session c.kind then told_in_session s (sid_at place) from c
      else if b then flow_taken s (sid_at place) (read_as c.kind)
      else if c.kind == FRAGMENT then piece_taken s (sid_at place) c.at (chunk_reading c.kind c.payload)
      else read_done s place from (chunk_reading c.kind c.payload)) e

-- ---- chunks that add nothing

told_only : (s : State) (near : ℕ) (row : Option Row) (chunk : DataChunk) → is_told_only row chunk ≡ true → length (flow_taken_by s near chunk row).entries ≡ 0
told_only s near None chunk e = refl
told_only s near (Some row) (Data user) e = absurd (cc)
told_only s near (Some row) (Next user) e = absurd (cc)
told_only s near (Some row) (AckBitmap flow blocks upto bits) e = refl
told_only s near (Some row) (AckRanges flow blocks upto pairs) e = refl
told_only s near (Some row) (Probe flow) e = absurd (cc)
told_only s near (Some row) (Exception flow code) e = length-map (rejecting row.flows flow).stated (flow_entry near) ∙ eqb-true (length (rejecting row.flows flow).stated) 0 e

pub adds_none : (s : State) (near : ℕ) (read : Result DataChunk DataFault) → states_nothing (get s.sessions near) read ≡ true → length (flow_taken s near read).entries ≡ 0
adds_none s near (Ok chunk) e = told_only s near (get s.sessions near) chunk e
adds_none s near (Err fault) e = absurd (cc)

-- ---- packets of acks

-- one packet more, where some are owed
abbrev pub once_more : ℕ → State → Did
once_more near t = acked_if t near (owes_by (get t.sessions near)) nothing

suc_by : (s : State) (near count : ℕ) (b : Bool) → owes_by (get s.sessions near) ≡ b → ((t : State) → acked_in (suc count) t near ≡ then_do (acked_in count t near) (once_more near)) →
    acked_if s near b (λ t. acked_in (suc count) t near) ≡ then_do (acked_if s near b (λ t. acked_in count t near)) (once_more near)
suc_by s near count false is more = sym (ap (λ (x : Bool). acked_if s near x nothing) is)
suc_by s near count true is more =
    let first : Did = acked_by s near (get s.sessions near) in
    ap (after_entries first.entries) (more first.state) ∙ sym (then_then first (λ t. acked_in count t near) (once_more near))

acked_suc : (count : ℕ) (s : State) (near : ℕ) → acked_in (suc count) s near ≡ then_do (acked_in count s near) (once_more near)
acked_suc zero s near = refl
acked_suc (suc count) s near = suc_by s near count (owes_by (get s.sessions near)) refl (λ t. acked_suc count t near)

pub acked_more : (count : ℕ) (s t u : State) (near : ℕ) (before between after : Added) → Done (acked_in count s near) t before between → owes_by (get t.sessions near) ≡ true →
    Done (acked_by t near (get t.sessions near)) u between after → Done (acked_in (suc count) s near) u before after
acked_more count s t u near before between after so_far owed once =
    let one : once_more near t ≡ acked_by t near (get t.sessions near) = ap (λ (b : Bool). acked_if t near b nothing) owed ∙ then_nothing (acked_by t near (get t.sessions near)) in
    subst (λ (d : Did). Done d u before after) (sym (acked_suc count s near))
    (joined (acked_in count s near) (once_more near) t u before between after so_far (subst (λ (d : Did). Done d u between after) (sym one) once))

abbrev further : ℕ → ℕ → ℕ
further zero count = count
further (suc more) count = suc (further more count)

further_is : (more count : ℕ) → further more count ≡ more + count
further_is zero count = omega arith
further_is (suc more) count = omega (arith, further_is more count)

still_further : (more count : ℕ) (s t : State) (near : ℕ) (before after : Added) → Done (acked_in count s near) t before after → owes_by (get t.sessions near) ≡ false →
    Done (acked_in (further more count) s near) t before after
still_further zero count s t near before after so_far none = so_far
still_further (suc more) count s t near before after so_far none =
    let one : once_more near t ≡ nothing t = ap (λ (b : Bool). acked_if t near b nothing) none in
    subst (λ (d : Did). Done d t before after) (sym (acked_suc (further more count) s near))
    (joined (acked_in (further more count) s near) (once_more near) t t before after after (still_further more count s t near before after so_far none) (subst (λ (d : Did). Done d t after after) (sym one) (done_nothing t after)))

-- where none are owed any more, further packets do nothing
pub acked_still : (more count : ℕ) (s t : State) (near : ℕ) (before after : Added) → Done (acked_in count s near) t before after → owes_by (get t.sessions near) ≡ false →
    Done (acked_in (more + count) s near) t before after
acked_still more count s t near before after so_far none =
    subst (λ (n : ℕ). Done (acked_in n s near) t before after) (further_is more count) (still_further more count s t near before after so_far none)
