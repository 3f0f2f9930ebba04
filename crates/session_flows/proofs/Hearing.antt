-- What acks and exceptions leave of a sending flow.
use Rattle.std.proofs.Common.{◌≡◌, ℕ, ◌<◌, ◌++◌, Bool, true, false, cond, map, not, List, [], ◌∷◌, Option, Some, None, Result, Ok, Err, MatchOption, length, refl, sym, ap, ◌∙◌, ◌&&◌}
use Rattle.std.specs.Prelude.{slice_set, nat_le, IsOk}
use Rattle.std.proofs.lemmas.Bool.{leb-false}
use Rattle.rtmfp_data_chunks.specs.Chunk.{UserParts}
use Rattle.flow_send.specs.declared.outcome.Acked.{Acked}
use Rattle.flow_send.specs.declared.outcome.AckFault.{AckFault}
use Rattle.flow_send.specs.declared.outcome.AckFault.TheVariants.{AckBeyond as BeyondSent}
use Rattle.flow_send.specs.declared.waiting.Waiting.{Waiting}
use Rattle.flow_send.specs.Sender.{Sender, next_of, message_at, abandoned, abandoned_with, finish_by}
use Rattle.flow_send.specs.Acks.{Told, told_by}
use Rattle.flow_send.specs.Flow.{Flow, with_sender, is_finished}
use Rattle.rtmfp_base.specs.Reasons.{where_true, first_that_stands}
use Rattle.session_core.specs.Session.{SessionState}
use Rattle.session_core.specs.Closing.{is_held}
use Rattle.rtmfp_base.specs.declared.cause.Cause.TheVariants.{WrongState, UnknownFlow, FlowsFull}
use Rattle.session_flows.specs.Keeping.{FlowsState, sending_at, with_flow, with_sending, Abandoned}
use Rattle.session_flows.specs.Causes.{early_cause, is_there, is_unknown, is_one_too_many, flow_cause}
use Rattle.session_flows.specs.Chunks.{heard, heard_by, session_heard, opened_by, all_abandoned, without_messages, rejecting, rejecting_by, waiting_at, waiting_by, numbers_of, last_by, finished_at}
use Rattle.session_flows.proofs.Calls.{flow_put}

-- ---- an ack

pub heard_put : (s : FlowsState) (id at : ℕ) (a : Told) (f g : Flow) → at ≡ id → sending_at s id ≡ Some f → g ≡ with_sender f (told_by a f.sender) → with_sending s (slice_set s.sending at g) ≡ heard s id a
heard_put s id at a f g place there e =
    sym (ap (λ (o : Option Flow). heard_by s id a o) there ∙ ap (λ (x : Flow). with_flow s id x) (sym e) ∙ flow_put s id at g place)

pub heard_session : (session : SessionState) (s : FlowsState) (id : ℕ) (a : Told) (f : Flow) → sending_at s id ≡ Some f → opened_by session a (Some f) ≡ session_heard session s id a
heard_session session s id a f there = sym (ap (λ (o : Option Flow). opened_by session a o) there)

answers : {acked : Acked} {e : AckFault} → ◌≡◌ {A = Result Acked AckFault} (Ok acked) (Err e) → ⊥
answers e = absurd cc

-- an ack that is taken tells of nothing beyond
pub within_sent : (o : Option ℕ) (r : Result Acked AckFault) (acked : Acked) → MatchOption o (IsOk r) (λ n. r ≡ Err (BeyondSent n)) → r ≡ Ok acked → o ≡ None
within_sent None r acked h e = refl
within_sent (Some n) r acked h e = absurd (answers (sym e ∙ h))

-- ---- an exception

finish_with : (o : Option Waiting) (n : ℕ) (s : Sender) → (abandoned_with o n s).finish ≡ s.finish
finish_with None n s = refl
finish_with (Some w) n s = refl

finish_same : (ws : List Waiting) (s : Sender) → (all_abandoned ws s).finish ≡ s.finish
finish_same [] s = refl
finish_same (w ∷ later) s = finish_same later (abandoned w.number s) ∙ finish_with (message_at w.number s.waiting) w.number s

pub rejected_flow : (f m g : Flow) → m ≡ with_sender f (without_messages f.sender) → g ≡ with_sender m (finish_by m.sender m.sender.finish) →
    g ≡ with_sender f (finish_by (without_messages f.sender) f.sender.finish)
rejected_flow f m g e h =
    h ∙ ap (λ (x : Flow). with_sender x (finish_by x.sender x.sender.finish)) e
    ∙ ap (λ (o : Option ℕ). with_sender f (finish_by (without_messages f.sender) o)) (finish_same f.sender.waiting f.sender)

last_is : (s : Sender) (v : Option ℕ) → cond (is_finished v) None (Some (next_of s)) ≡ last_by s v
last_is s None = refl
last_is s (Some n) = refl

pub rejected_last : (f m : Flow) (o : Option ℕ) → m ≡ with_sender f (without_messages f.sender) → o ≡ cond (is_finished m.sender.finish) None (Some (next_of m.sender)) → o ≡ last_by (without_messages f.sender) f.sender.finish
rejected_last f m o e h =
    h ∙ ap (λ (x : Flow). cond (is_finished x.sender.finish) None (Some (next_of x.sender))) e
    ∙ last_is (without_messages f.sender) (without_messages f.sender).finish
    ∙ ap (λ (v : Option ℕ). last_by (without_messages f.sender) v) (finish_same f.sender.waiting f.sender)

pub rejected_put : (s : FlowsState) (id at : ℕ) (f g : Flow) → at ≡ id → sending_at s id ≡ Some f → g ≡ with_sender f (finish_by (without_messages f.sender) f.sender.finish) →
    with_sending s (slice_set s.sending at g) ≡ (rejecting s id).flows
rejected_put s id at f g place there e =
    sym (ap (λ (o : Option Flow). (rejecting_by s id o).flows) there ∙ ap (λ (x : Flow). with_flow s id x) (sym e) ∙ flow_put s id at g place)

pub waiting_there : (s : FlowsState) (id : ℕ) (f : Flow) → sending_at s id ≡ Some f → waiting_at s id ≡ numbers_of f.sender.waiting
waiting_there s id f there = ap (λ (o : Option Flow). waiting_by o) there

pub rejected_stated : (s : FlowsState) (id : ℕ) (f : Flow) (o : Option ℕ) → sending_at s id ≡ Some f → o ≡ last_by (without_messages f.sender) f.sender.finish →
    (rejecting s id).stated ≡ map (Abandoned id) (waiting_at s id) ++ finished_at id o
rejected_stated s id f o there e =
    ap (λ (x : Option Flow). (rejecting_by s id x).stated) there
    ∙ ap (λ (x : Option ℕ). map (Abandoned id) (numbers_of f.sender.waiting) ++ finished_at id x) (sym e)
    ∙ ap (λ (ns : List ℕ). map (Abandoned id) ns ++ finished_at id o) (sym (waiting_there s id f there))

-- ---- data

early_by : (a b d : Bool) → first_that_stands (where_true a WrongState ∷ (where_true b UnknownFlow ∷ (where_true d (FlowsFull 256) ∷ []))) ≡ None → d ≡ false
early_by true b d h = absurd cc
early_by false true d h = absurd cc
early_by false false true h = absurd cc
early_by false false false h = refl

room_by : (there : Bool) (n : ℕ) → there ≡ false → (not there && nat_le 256 n) ≡ false → n < 256
room_by false n e h = leb-false 256 n h
room_by true n e h = absurd cc

-- a chunk that makes a flow finds room for it
pub room_for : (session : SessionState) (s : FlowsState) (user : UserParts) → early_cause session s user ≡ None → is_there s user ≡ false → length s.taking < 256
room_for session s user h gone = room_by (is_there s user) (length s.taking) gone (early_by (not (is_held session.stage)) (is_unknown s user) (is_one_too_many s user) h)

-- ---- a flow that isn't there

held_not : (h b : Bool) → h ≡ true → b ≡ false → first_that_stands (where_true (not h) WrongState ∷ (where_true (not b) UnknownFlow ∷ [])) ≡ Some UnknownFlow
held_not true false e f = refl
held_not true true e f = absurd cc
held_not false b e f = absurd cc

pub flow_gone : (session : SessionState) (there : Bool) → is_held session.stage ≡ true → there ≡ false → flow_cause session there ≡ Some UnknownFlow
flow_gone session there h b = held_not (is_held session.stage) there h b
