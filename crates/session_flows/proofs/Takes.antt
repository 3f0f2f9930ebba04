-- What a chunk leaves of the flows.
use Prim.Native.Nat.{zero, suc}
use Rattle.std.proofs.Common.{◌≡◌, ℕ, ◌<◌, ◌==◌, Bool, true, false, cond, not, List, [], ◌∷◌, Option, Some, None, MatchOption, length, refl, sym, ap, ◌∙◌, subst, arith}
use Rattle.std.specs.Prelude.{slice_get, slice_set}
use Rattle.std.specs.Option.{unwrap_or}
use Rattle.std.specs.List.{insert}
use Rattle.std.specs.Option.{option_map}
use Rattle.rtmfp_data_chunks.specs.Chunk.{UserParts}
use Rattle.flow_recv.specs.Receiver.{Receiver, fresh, taken, after_final, beyond_buffer}
use Rattle.flow_recv.specs.Outcome.{refusal, after_or, beyond as beyond_by}
use Rattle.session_flows.specs.declared.taking.TakingFlow.{TakingFlow}
use Rattle.rtmfp_base.specs.declared.cause.Cause.{Cause}
use Rattle.rtmfp_data_chunks.specs.Fragments.{Message}
use Rattle.rtmfp_data_chunks.specs.Runs.{Run, message_of}
use Rattle.flow_recv.specs.Receiver.{first_of, without_first, may_hand, next_run, handed_next}
use Rattle.flow_recv.specs.Outcome.{message}
use Rattle.flow_send.specs.Flow.{Flow}
use Rattle.flow_send.specs.Acks.{Told, beyond}
use Rattle.rtmfp_base.specs.Reasons.{where_true, first_that_stands}
use Rattle.session_core.specs.Session.{SessionState}
use Rattle.session_core.specs.Closing.{is_held}
use Rattle.rtmfp_base.specs.declared.cause.Cause.TheVariants.{WrongState, UnknownFlow, AckBeyond}
use Rattle.session_flows.specs.Handing.{with_receiver, handed_run, hands_by, hands_once, handed_stated}
use Rattle.session_flows.specs.Causes.{flow_cause, beyond_of, ack_cause}
use Rattle.session_flows.proofs.Calls.{did}
use Rattle.session_flows.specs.Keeping.{sending_at, Handed}
use Rattle.session_flows.specs.Keeping.{FlowsState, in_taking, taking_at, with_taking, with_changed, new_taking}
use Rattle.session_flows.specs.Told.{first_byte}
use Rattle.session_flows.specs.Causes.{piece_of, metadata_of, order_of, receiver_by, receiver_for, receiver_cause, cause_of}
use Rattle.session_flows.specs.Chunks.{made_by, taken_of, data_taken}
use Rattle.session_flows.specs.Places.{IsAt, place_of}
use Rattle.session_flows.specs.Laws.{IsSound}
use Rattle.session_flows.proofs.Indexed.{added_at, longer, rise_added, changed_added}

-- the flow at an index, and it changed
pub at_there : (s : FlowsState) (id at : ℕ) (t : TakingFlow) → IsAt id s.taking at → slice_get s.taking at ≡ Some t → taking_at s id ≡ Some t
at_there s id at t h there = h.found ∙ there

pub at_changed : (s : FlowsState) (id at : ℕ) (t : TakingFlow) (f : TakingFlow → TakingFlow) → IsAt id s.taking at → slice_get s.taking at ≡ Some t → with_taking s (slice_set s.taking at (f t)) ≡ with_changed s id f
at_changed s id at t f h there = ap (λ (ts : List TakingFlow). with_taking s ts) (sym (h.change f t there))

-- a chunk of a flow that is there
pub taken_there : (s : FlowsState) (at : ℕ) (user : UserParts) (t : TakingFlow) (r : Receiver) → IsAt user.flow s.taking at → slice_get s.taking at ≡ Some t → r ≡ taken t.receiver (piece_of user) →
    with_taking s (slice_set s.taking at (record { id = t.id; receiver = r; owed = true })) ≡ data_taken s user
taken_there s at user t r h there e =
    ap (λ (x : Receiver). with_taking s (slice_set s.taking at (record { id = t.id; receiver = x; owed = true }))) e
    ∙ at_changed s user.flow at t (taken_of user) h there
    ∙ sym (ap (λ (o : Option TakingFlow). with_changed (made_by s user o) user.flow (taken_of user)) (at_there s user.flow at t h there))

-- the first chunk of a flow
pub taken_new : (s : FlowsState) (user : UserParts) (r : Receiver) → in_taking user.flow s.taking ≡ None → r ≡ taken (fresh (order_of (metadata_of user))) (piece_of user) →
    with_taking s (insert s.taking (place_of user.flow s.taking) (record { id = user.flow; receiver = r; owed = true })) ≡ data_taken s user
taken_new s user r none e =
    let fresh_one : TakingFlow = new_taking user.flow (fresh (order_of (metadata_of user))) in
    ap (λ (x : Receiver). with_taking s (insert s.taking (place_of user.flow s.taking) (record { id = user.flow; receiver = x; owed = true }))) e
    ∙ sym (ap (λ (ts : List TakingFlow). with_taking s ts) (changed_added (taken_of user) fresh_one s.taking refl none ∙ added_at (taken_of user fresh_one) s.taking))
    ∙ sym (ap (λ (o : Option TakingFlow). with_changed (made_by s user o) user.flow (taken_of user)) none)

-- the order by the first byte
pub order_by : (m : Option (List ℕ)) → (unwrap_or (option_map first_byte m) 0 == 97) ≡ order_of m
order_by None = refl
order_by (Some []) = refl
order_by (Some (b ∷ rest)) = refl

pub sound_added : (s : FlowsState) (t : TakingFlow) → in_taking t.id s.taking ≡ None → length s.taking < 256 → IsSound s → IsSound (with_taking s (insert s.taking (place_of t.id s.taking) t))
sound_added s t none few h =
    subst (λ (ts : List TakingFlow). IsSound (with_taking s ts)) (added_at t s.taking) (record {
      numbered = h.numbered;
      few = h.few;
      rise = rise_added 0 t s.taking (omega arith) none h.rise;
      few_taking = omega (arith, longer t s.taking);
    })

-- ---- causes

cause_none : (a b : Option ℕ) → cause_of (after_or a (beyond_by b)) ≡ None → after_or a (beyond_by b) ≡ None
cause_none None None h = refl
cause_none None (Some n) h = absurd cc
cause_none (Some n) b h = absurd cc

-- a chunk without a cause isn't refused by its receiver
pub not_refused : (s : FlowsState) (user : UserParts) (q : Receiver) → receiver_for s user ≡ q → receiver_cause s user ≡ None → refusal q (piece_of user) ≡ None
not_refused s user q same none =
    cause_none (after_final q (piece_of user)) (beyond_buffer q (piece_of user)) (sym (ap (λ (r : Receiver). cause_of (refusal r (piece_of user))) same) ∙ none)

-- what stands where there is no cause
pub no_cause : (o : Option Cause) (P : Type 0) (Q : Cause → Type 0) → o ≡ None → P → MatchOption o P Q
no_cause o P Q e p = subst (λ (x : Option Cause). MatchOption x P Q) (sym e) p

pub receiver_new : (s : FlowsState) (user : UserParts) → in_taking user.flow s.taking ≡ None → receiver_for s user ≡ fresh (order_of (metadata_of user))
receiver_new s user none = ap (λ (o : Option TakingFlow). receiver_by o user) none

pub receiver_there : (s : FlowsState) (at : ℕ) (user : UserParts) (t : TakingFlow) → IsAt user.flow s.taking at → slice_get s.taking at ≡ Some t → receiver_for s user ≡ t.receiver
receiver_there s at user t h there = ap (λ (o : Option TakingFlow). receiver_by o user) (at_there s user.flow at t h there)

-- ---- chunks without a fragment

held_and : (h b : Bool) → h ≡ true → b ≡ true → first_that_stands (where_true (not h) WrongState ∷ (where_true (not b) UnknownFlow ∷ [])) ≡ None
held_and true true e f = refl
held_and true false e f = absurd cc
held_and false b e f = absurd cc

-- the session is held, and the flow is there
pub flow_taken : (session : SessionState) (there : Bool) → is_held session.stage ≡ true → there ≡ true → flow_cause session there ≡ None
flow_taken session there h b = held_and (is_held session.stage) there h b

heard_by_none : (h : Bool) (f : Flow) (a : Told) → h ≡ true → beyond f.sender a ≡ None → first_that_stands (where_true (not h) WrongState ∷ (beyond_of (Some f) a ∷ [])) ≡ None
heard_by_none true f a e b = ap (λ (o : Option ℕ). first_that_stands (where_true (not true) WrongState ∷ (option_map AckBeyond o ∷ []))) b
heard_by_none false f a e b = absurd cc

pub ack_taken : (session : SessionState) (s : FlowsState) (id : ℕ) (a : Told) (f : Flow) → is_held session.stage ≡ true → sending_at s id ≡ Some f → beyond f.sender a ≡ None → ack_cause session s id a ≡ None
ack_taken session s id a f held there none =
    ap (λ (o : Option Flow). first_that_stands (where_true (not (is_held session.stage)) WrongState ∷ (beyond_of o a ∷ []))) there ∙ heard_by_none (is_held session.stage) f a held none

-- ---- a message is handed over

none_first : (test : Run → Bool) (y : Run) (later : List Run) (b : Bool) → (first_of test later ≡ None → without_first test later ≡ later) → cond b (Some y) (first_of test later) ≡ None →
    cond b later (y ∷ without_first test later) ≡ y ∷ later
none_first test y later true ih h = absurd cc
none_first test y later false ih h = ap (λ (ys : List Run). y ∷ ys) (ih h)

keeps_all : (test : Run → Bool) (runs : List Run) → first_of test runs ≡ None → without_first test runs ≡ runs
keeps_all test [] h = refl
keeps_all test (y ∷ later) h = none_first test y later (test y) (keeps_all test later) h

set_back : (ts : List TakingFlow) (at : ℕ) (t : TakingFlow) → slice_get ts at ≡ Some t → slice_set ts at t ≡ ts
set_back [] at t h = refl
set_back (y ∷ later) zero t h = cc
set_back (y ∷ later) (suc at) t h = ap (λ (l : List TakingFlow). y ∷ l) (set_back later at t h)

abbrev with_row : FlowsState → ℕ → TakingFlow → Receiver → FlowsState
with_row s at t r = with_taking s (slice_set s.taking at (record { id = t.id; receiver = r; owed = t.owed }))

same_message : {a b : Message} → ◌≡◌ {A = Option Message} (Some a) (Some b) → a ≡ b
same_message e = cc

no_message : {a : Message} → ◌≡◌ {A = Option Message} (Some a) None → ⊥
no_message e = absurd cc

no_run : {a : Message} → ◌≡◌ {A = Option Message} None (Some a) → ⊥
no_run e = absurd cc

handed_by : (s : FlowsState) (id at : ℕ) (t : TakingFlow) (o : Option Run) (found : Option (ℕ × List ℕ)) → IsAt id s.taking at → slice_get s.taking at ≡ Some t → next_run t.receiver ≡ o →
    option_map (λ (p : ℕ × List ℕ). message p.0 p.1) found ≡ option_map message_of o → handed_run s id o ≡ did (with_row s at t (handed_next t.receiver)) (handed_stated id found)
handed_by s id at t None None h there none e =
    sym (ap (λ (runs : List Run). did (with_row s at t (record { arriving = t.receiver.arriving; spans = t.receiver.spans; runs = runs; last = t.receiver.last; highest = t.receiver.highest })) [])
    (keeps_all (may_hand t.receiver) t.receiver.runs none)
    ∙ ap (λ (ts : List TakingFlow). did (with_taking s ts) []) (set_back s.taking at t there))
handed_by s id at t None (Some p) h there none e = absurd (no_message e)
handed_by s id at t (Some y) None h there none e = absurd (no_run e)
handed_by s id at t (Some y) (Some p) h there none e =
    sym (ap (λ (x : FlowsState). did x (Handed id p.0 p.1 ∷ [])) (at_changed s id at t (with_receiver handed_next) h there)
    ∙ ap (λ (m : Message). did (with_changed s id (with_receiver handed_next)) (Handed id m.number m.bytes ∷ [])) (same_message e))

pub hand_did : (s : FlowsState) (id at : ℕ) (t : TakingFlow) (r : Receiver) (found : Option (ℕ × List ℕ)) → IsAt id s.taking at → slice_get s.taking at ≡ Some t → r ≡ handed_next t.receiver →
    option_map (λ (p : ℕ × List ℕ). message p.0 p.1) found ≡ option_map message_of (next_run t.receiver) → hands_once s id ≡ did (with_row s at t r) (handed_stated id found)
hand_did s id at t r found h there e next =
    ap (λ (o : Option TakingFlow). hands_by s id o) (at_there s id at t h there)
    ∙ handed_by s id at t (next_run t.receiver) found h there refl next
    ∙ ap (λ (x : Receiver). did (with_row s at t x) (handed_stated id found)) (sym e)
