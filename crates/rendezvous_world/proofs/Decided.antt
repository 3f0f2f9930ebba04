-- What a step that was done leaves is decided by the world before it, but for the room of the new line's outbox.
use Rattle.std.proofs.Common.{◌≡◌, ◌≢◌, ℕ, zero, suc, List, [], ◌∷◌, ◌++◌, length, map, slice_get, false, Option, Some, None, refl, sym, ap, subst, ◌∙◌}
use Rattle.std.specs.Prelude.{IsSome, IfSome, IfNone, is_some}
use Rattle.std.proofs.lemmas.List.{length-map, map-append}
use Rattle.rtmfp_forms.specs.Address.{AddressParts}
use Rattle.startup.specs.Attempts.{cancel_fact}
use Rattle.endpoint_model.specs.declared.config.Draws.{Draws}
use Rattle.endpoint_model.specs.declared.entry.Entry.{Entry}
use Rattle.endpoint_model.specs.declared.answers.OpenRefusal.{OpenRefusal}
use Rattle.endpoint_model.specs.declared.answers.OpenRefusal.TheVariants.{Memory as NoMemoryToOpen}
use Rattle.endpoint_model.specs.declared.answers.SeekRefusal.{SeekRefusal}
use Rattle.endpoint_model.specs.declared.answers.SeekRefusal.TheVariants.{Memory as NoMemoryToSeek}
use Rattle.session_flows.specs.declared.refusal.CallRefusal.{CallRefusal}
use Rattle.session_flows.specs.declared.refusal.CallRefusal.TheVariants.{NoAttempt, NoSession, Memory as NoMemoryToCall}
use Rattle.endpoint_model.specs.declared.answers.Stopped.{Stopped as Stop}
use Rattle.endpoint_model.specs.Event.{Call, Open as OpenCall, Seek as SeekCall, Unseek as UnseekCall, Cancel as CancelCall, Close as CloseCall, AddRow, Introduce as IntroduceCall, Narrow as NarrowCall, Learn as LearnCall, Advance as AdvanceCall, OnFlows, Receive, Tick as TickCall, Answer, Began, Searching, Succeeds, Done, NotOpened, NotSought, Refused as RefusedCall, NotAdded, Stopped, OutOfMemory, Event}
use Rattle.endpoint_model.specs.State.{State, Did, Does, after_entries, at_moment, narrowing, nothing, then_do}
use Rattle.endpoint_model.specs.Admission.{admission}
use Rattle.endpoint_model.specs.InSessions.{held_row, closing}
use Rattle.endpoint_model.specs.FlowCall.{FlowCall}
use Rattle.endpoint_model.specs.OnFlows.{flow_called}
use Rattle.endpoint_model.specs.FlowTimes.{all_late}
use Rattle.endpoint_model.specs.Effects.{cancelling, opening, seeking, unseeking, received, tick_once, ticks, first_due, item_done}
use Rattle.endpoint_model.specs.Introducing.{with_redirect, introducing}
use Rattle.endpoint_model.specs.Succession.{learning, advancing}
use Rattle.introducer.specs.declared.refusal.RowRefusal.{RowRefusal}
use Rattle.introducer.specs.declared.refusal.RowRefusal.TheVariants.{Memory as NoMemoryForRow}
use Rattle.endpoint_model.specs.Log.{Answers, Step as StepOf, not_opened, not_sought, not_added, not_called}
use Rattle.rendezvous_world.specs.declared.journal.JournalLine.{JournalLine}
use Rattle.rendezvous_world.specs.declared.journal.Refused.{Refused}
use Rattle.rendezvous_world.specs.declared.journal.Refused.TheVariants.{Open as OpenRefused, Seek as SeekRefused, Call as CallRefused, Row as RowRefused}
use Rattle.rendezvous_world.specs.declared.step.Step.{Step}
use Rattle.rendezvous_world.specs.Deed.{Opens, Seeks, Introduces, Narrows, Learns, Advances, Ticks, Deed, NewEnd, NewMoment, Calls, Brings, deed_of}
use Rattle.rendezvous_world.specs.Calls.{answer_to_call, answer_to_datagram, answer_to_open, answer_to_seek, answer_to_succession, answer_to_tick, IsDoneOrRefused}
use Rattle.rendezvous_world.specs.Seen.{EndSeen, Seen, generation_at}
use Rattle.rendezvous_world.specs.Same.{AreSameWorlds, without_room}
use Rattle.rendezvous_world.specs.Sent.{Sent, sent_among, sent_in}
use Rattle.rendezvous_world.specs.Datagrams.{datagram_from}
use Rattle.rendezvous_world.specs.Entering.{refused_in}
use Rattle.rendezvous_world.specs.History.{answer_by, answer_of, call_of, event_of, moment_given}
use Rattle.rendezvous_world.specs.Stepping.{Called, called_by, HasAnswer, HasItsAnswer, SteppedAs, Stepped, new_end, new_setup, with_end, with_moment, with_state}

-- ---- ticks

-- where nothing is due nothing more is done
idle : (s : State) → first_due s ≡ None → tick_once s ≡ nothing s
idle s e = ap (item_done s) e

ticks_idle : (count : ℕ) (s : State) → first_due s ≡ None → ticks count s ≡ nothing s
ticks_idle zero s e = refl
ticks_idle (suc count) s e = ap (λ (d : Did). then_do d (ticks count)) (idle s e) ∙ ap (λ (d : Did). after_entries [] d) (ticks_idle count s e)

-- so all that is due is done in one way
ticks_same : (count other : ℕ) (s : State) → first_due (ticks count s).state ≡ None → first_due (ticks other s).state ≡ None → ticks count s ≡ ticks other s
ticks_same zero other s e f = sym (ticks_idle other s e)
ticks_same (suc count) zero s e f = ticks_idle (suc count) s f
ticks_same (suc count) (suc other) s e f = ap (λ (d : Did). after_entries (tick_once s).entries d) (ticks_same count other (tick_once s).state e f)

-- ---- a call of an end

-- the answer isn't for want of memory
abbrev pub IsWhole : Answer → Type 0
IsWhole (Began n) = Unit {0}
IsWhole Done = Unit {0}
IsWhole (NotOpened refusal) = refusal ≢ NoMemoryToOpen
IsWhole (Searching near) = Unit {0}
IsWhole (Succeeds generation) = Unit {0}
IsWhole (NotSought refusal) = refusal ≢ NoMemoryToSeek
IsWhole (RefusedCall refusal) = refusal ≢ NoMemoryToCall
IsWhole (NotAdded refusal) = refusal ≢ NoMemoryForRow
IsWhole (Stopped stop) = ⊥
IsWhole OutOfMemory = ⊥

pub record SameAnswer (a b : Answer) (xs ys : List Entry) (t r : State) : Type 0 where
  pub answer : a ≡ b
  pub entries : xs ≡ ys
  pub state : t ≡ r

same_did : (a b : Answer) (d e : Did) (xs ys : List Entry) (t r : State) → a ≡ b → d ≡ e → Does d t [] xs → Does e r [] ys → SameAnswer a b xs ys t r
same_did a b d e xs ys t r answers same h k = record {
  answer = answers;
  entries = h.entries ∙ ap (λ (x : Did). [] ++ x.entries) same ∙ sym k.entries;
  state = h.state ∙ ap (λ (x : Did). x.state) same ∙ sym k.state;
}

one_open : (s : State) (peer : List ℕ) (candidates : List AddressParts) (draws : Draws) (a b : Answer) (xs ys : List Entry) (t r : State) → IsWhole a → IsWhole b →
    Answers s (OpenCall peer candidates draws) a xs t → Answers s (OpenCall peer candidates draws) b ys r → SameAnswer a b xs ys t r
one_open s peer candidates draws (Began n) (Began m) xs ys t r p q h k =
    same_did (Began n) (Began m) (opening s peer candidates draws) (opening s peer candidates draws) xs ys t r (ap Began (h.1 ∙ sym k.1)) refl h.2 k.2
one_open s peer candidates draws (Began n) (NotOpened refusal) xs ys t r p q h k = absurd (q (k.0 ∙ ap not_opened h.0))
one_open s peer candidates draws (Began n) other xs ys t r p q h k = absurd k
one_open s peer candidates draws (NotOpened refusal) (Began m) xs ys t r p q h k = absurd (p (h.0 ∙ ap not_opened k.0))
one_open s peer candidates draws (NotOpened refusal) (NotOpened other) xs ys t r p q h k =
    same_did (NotOpened refusal) (NotOpened other) (nothing s) (nothing s) xs ys t r (ap NotOpened (h.0 ∙ sym k.0)) refl h.1 k.1
one_open s peer candidates draws (NotOpened refusal) other xs ys t r p q h k = absurd k
one_open s peer candidates draws answer other xs ys t r p q h k = absurd h

one_seek : (s : State) (name : List ℕ) (candidates : List AddressParts) (draws : Draws) (a b : Answer) (xs ys : List Entry) (t r : State) → IsWhole a → IsWhole b →
    Answers s (SeekCall name candidates draws) a xs t → Answers s (SeekCall name candidates draws) b ys r → SameAnswer a b xs ys t r
one_seek s name candidates draws (Searching near) (Searching other) xs ys t r p q h k =
    same_did (Searching near) (Searching other) (seeking s name candidates draws) (seeking s name candidates draws) xs ys t r (ap Searching (h.1 ∙ sym k.1)) refl h.2 k.2
one_seek s name candidates draws (Searching near) (NotSought refusal) xs ys t r p q h k = absurd (q (k.0 ∙ ap not_sought h.0))
one_seek s name candidates draws (Searching near) other xs ys t r p q h k = absurd k
one_seek s name candidates draws (NotSought refusal) (Searching near) xs ys t r p q h k = absurd (p (h.0 ∙ ap not_sought k.0))
one_seek s name candidates draws (NotSought refusal) (NotSought other) xs ys t r p q h k =
    same_did (NotSought refusal) (NotSought other) (nothing s) (nothing s) xs ys t r (ap NotSought (h.0 ∙ sym k.0)) refl h.1 k.1
one_seek s name candidates draws (NotSought refusal) other xs ys t r p q h k = absurd k
one_seek s name candidates draws answer other xs ys t r p q h k = absurd h

one_unseek : (s : State) (near : ℕ) (a b : Answer) (xs ys : List Entry) (t r : State) → IsWhole a → IsWhole b → Answers s (UnseekCall near) a xs t → Answers s (UnseekCall near) b ys r → SameAnswer a b xs ys t r
one_unseek s near Done Done xs ys t r p q h k = same_did Done Done (unseeking s near) (unseeking s near) xs ys t r refl refl h.1 k.1
one_unseek s near Done (RefusedCall refusal) xs ys t r p q h k = absurd (q (k.0 ∙ ap not_called h.0))
one_unseek s near Done other xs ys t r p q h k = absurd k
one_unseek s near (RefusedCall refusal) Done xs ys t r p q h k = absurd (p (h.0 ∙ ap not_called k.0))
one_unseek s near (RefusedCall refusal) (RefusedCall other) xs ys t r p q h k =
    same_did (RefusedCall refusal) (RefusedCall other) (nothing s) (nothing s) xs ys t r (ap RefusedCall (h.0 ∙ sym k.0)) refl h.1 k.1
one_unseek s near (RefusedCall refusal) other xs ys t r p q h k = absurd k
one_unseek s near answer other xs ys t r p q h k = absurd h

-- a cancel or a close that isn't refused for want of memory is refused since there is none
only_without : {A : Type 0} (o : Option A) (refusal without : CallRefusal) → IfNone o (refusal ≡ without) → IfSome o (λ x. refusal ≡ NoMemoryToCall) → refusal ≢ NoMemoryToCall → refusal ≡ without
only_without None refusal without none some p = none
only_without (Some x) refusal without none some p = absurd (p some)

not_both : {A : Type 0} (o : Option A) (refusal : CallRefusal) → IsSome o → IfSome o (λ x. refusal ≡ NoMemoryToCall) → refusal ≢ NoMemoryToCall → ⊥
not_both None refusal is some p = absurd (cc)
not_both (Some x) refusal is some p = p some

one_cancel : (s : State) (n : ℕ) (a b : Answer) (xs ys : List Entry) (t r : State) → IsWhole a → IsWhole b → Answers s (CancelCall n) a xs t → Answers s (CancelCall n) b ys r → SameAnswer a b xs ys t r
one_cancel s n Done Done xs ys t r p q h k = same_did Done Done (cancelling s n) (cancelling s n) xs ys t r refl refl h.1 k.1
one_cancel s n Done (RefusedCall refusal) xs ys t r p q h k = absurd (not_both (cancel_fact s.startup n) refusal h.0 k.1 q)
one_cancel s n Done other xs ys t r p q h k = absurd k
one_cancel s n (RefusedCall refusal) Done xs ys t r p q h k = absurd (not_both (cancel_fact s.startup n) refusal k.0 h.1 p)
one_cancel s n (RefusedCall refusal) (RefusedCall other) xs ys t r p q h k =
    same_did (RefusedCall refusal) (RefusedCall other) (nothing s) (nothing s) xs ys t r
    (ap RefusedCall (only_without (cancel_fact s.startup n) refusal NoAttempt h.0 h.1 p ∙ sym (only_without (cancel_fact s.startup n) other NoAttempt k.0 k.1 q))) refl h.2 k.2
one_cancel s n (RefusedCall refusal) other xs ys t r p q h k = absurd k
one_cancel s n answer other xs ys t r p q h k = absurd h

one_close : (s : State) (near : ℕ) (a b : Answer) (xs ys : List Entry) (t r : State) → IsWhole a → IsWhole b → Answers s (CloseCall near) a xs t → Answers s (CloseCall near) b ys r → SameAnswer a b xs ys t r
one_close s near Done Done xs ys t r p q h k = same_did Done Done (closing s near) (closing s near) xs ys t r refl refl h.1 k.1
one_close s near Done (RefusedCall refusal) xs ys t r p q h k = absurd (not_both (held_row s near) refusal h.0 k.1 q)
one_close s near Done other xs ys t r p q h k = absurd k
one_close s near (RefusedCall refusal) Done xs ys t r p q h k = absurd (not_both (held_row s near) refusal k.0 h.1 p)
one_close s near (RefusedCall refusal) (RefusedCall other) xs ys t r p q h k =
    same_did (RefusedCall refusal) (RefusedCall other) (nothing s) (nothing s) xs ys t r
    (ap RefusedCall (only_without (held_row s near) refusal NoSession h.0 h.1 p ∙ sym (only_without (held_row s near) other NoSession k.0 k.1 q))) refl h.2 k.2
one_close s near (RefusedCall refusal) other xs ys t r p q h k = absurd k
one_close s near answer other xs ys t r p q h k = absurd h

-- a row that isn't refused for want of memory
one_row : (s : State) (print : List ℕ) (addresses : List AddressParts) (a b : Answer) (xs ys : List Entry) (t r : State) → IsWhole a → IsWhole b →
    Answers s (AddRow print addresses) a xs t → Answers s (AddRow print addresses) b ys r → SameAnswer a b xs ys t r
one_row s print addresses Done Done xs ys t r p q h k = same_did Done Done (nothing (with_redirect s print addresses)) (nothing (with_redirect s print addresses)) xs ys t r refl refl h.1 k.1
one_row s print addresses Done (NotAdded refusal) xs ys t r p q h k = absurd (q (k.0 ∙ ap not_added h.0))
one_row s print addresses Done other xs ys t r p q h k = absurd k
one_row s print addresses (NotAdded refusal) Done xs ys t r p q h k = absurd (p (h.0 ∙ ap not_added k.0))
one_row s print addresses (NotAdded refusal) (NotAdded other) xs ys t r p q h k =
    same_did (NotAdded refusal) (NotAdded other) (nothing s) (nothing s) xs ys t r (ap NotAdded (h.0 ∙ sym k.0)) refl h.1 k.1
one_row s print addresses (NotAdded refusal) other xs ys t r p q h k = absurd k
one_row s print addresses answer other xs ys t r p q h k = absurd h

one_introduce : (s : State) (a b : Answer) (xs ys : List Entry) (t r : State) → IsWhole a → IsWhole b → Answers s IntroduceCall a xs t → Answers s IntroduceCall b ys r → SameAnswer a b xs ys t r
one_introduce s Done Done xs ys t r p q h k = same_did Done Done (nothing (introducing s)) (nothing (introducing s)) xs ys t r refl refl h k
one_introduce s Done other xs ys t r p q h k = absurd k
one_introduce s answer other xs ys t r p q h k = absurd h

one_narrow : (s : State) (limit : ℕ) (a b : Answer) (xs ys : List Entry) (t r : State) → IsWhole a → IsWhole b → Answers s (NarrowCall limit) a xs t → Answers s (NarrowCall limit) b ys r → SameAnswer a b xs ys t r
one_narrow s limit Done Done xs ys t r p q h k = same_did Done Done (nothing (narrowing s limit)) (nothing (narrowing s limit)) xs ys t r refl refl h k
one_narrow s limit Done other xs ys t r p q h k = absurd k
one_narrow s limit answer other xs ys t r p q h k = absurd h

-- a call on the group's secrets that isn't refused for want of memory
one_learn : (s : State) (secret : List ℕ) (a b : Answer) (xs ys : List Entry) (t r : State) → IsWhole a → IsWhole b → Answers s (LearnCall secret) a xs t → Answers s (LearnCall secret) b ys r → SameAnswer a b xs ys t r
one_learn s secret (Succeeds n) (Succeeds m) xs ys t r p q h k =
    same_did (Succeeds n) (Succeeds m) (learning s secret) (learning s secret) xs ys t r (ap Succeeds (h.1 ∙ sym k.1)) refl h.2 k.2
one_learn s secret (Succeeds n) (RefusedCall refusal) xs ys t r p q h k = absurd (q (k.0 ∙ ap not_called h.0))
one_learn s secret (Succeeds n) other xs ys t r p q h k = absurd k
one_learn s secret (RefusedCall refusal) (Succeeds m) xs ys t r p q h k = absurd (p (h.0 ∙ ap not_called k.0))
one_learn s secret (RefusedCall refusal) (RefusedCall other) xs ys t r p q h k =
    same_did (RefusedCall refusal) (RefusedCall other) (nothing s) (nothing s) xs ys t r (ap RefusedCall (h.0 ∙ sym k.0)) refl h.1 k.1
one_learn s secret (RefusedCall refusal) other xs ys t r p q h k = absurd k
one_learn s secret answer other xs ys t r p q h k = absurd h

one_advance : (s : State) (a b : Answer) (xs ys : List Entry) (t r : State) → IsWhole a → IsWhole b → Answers s AdvanceCall a xs t → Answers s AdvanceCall b ys r → SameAnswer a b xs ys t r
one_advance s (Succeeds n) (Succeeds m) xs ys t r p q h k =
    let same : t ≡ r = h.2.state ∙ sym k.2.state in
    same_did (Succeeds n) (Succeeds m) (advancing s) (advancing s) xs ys t r (ap Succeeds (h.1 ∙ ap (λ (x : State). x.group.generation) same ∙ sym k.1)) refl h.2 k.2
one_advance s (Succeeds n) (RefusedCall refusal) xs ys t r p q h k = absurd (q (k.0 ∙ ap not_called h.0))
one_advance s (Succeeds n) other xs ys t r p q h k = absurd k
one_advance s (RefusedCall refusal) (Succeeds m) xs ys t r p q h k = absurd (p (h.0 ∙ ap not_called k.0))
one_advance s (RefusedCall refusal) (RefusedCall other) xs ys t r p q h k =
    same_did (RefusedCall refusal) (RefusedCall other) (nothing s) (nothing s) xs ys t r (ap RefusedCall (h.0 ∙ sym k.0)) refl h.1 k.1
one_advance s (RefusedCall refusal) other xs ys t r p q h k = absurd k
one_advance s answer other xs ys t r p q h k = absurd h

-- a call on flows that isn't refused for want of memory
one_flow : (s : State) (near : ℕ) (call : FlowCall) (a b : Answer) (xs ys : List Entry) (t r : State) → IsWhole a → IsWhole b →
    Answers s (OnFlows near call) a xs t → Answers s (OnFlows near call) b ys r → SameAnswer a b xs ys t r
one_flow s near call Done Done xs ys t r p q h k = same_did Done Done (flow_called s near call) (flow_called s near call) xs ys t r refl refl h.1 k.1
one_flow s near call Done (RefusedCall refusal) xs ys t r p q h k = absurd (q (k.0 ∙ ap not_called h.0))
one_flow s near call Done other xs ys t r p q h k = absurd k
one_flow s near call (RefusedCall refusal) Done xs ys t r p q h k = absurd (p (h.0 ∙ ap not_called k.0))
one_flow s near call (RefusedCall refusal) (RefusedCall other) xs ys t r p q h k =
    same_did (RefusedCall refusal) (RefusedCall other) (nothing s) (nothing s) xs ys t r (ap RefusedCall (h.0 ∙ sym k.0)) refl h.1 k.1
one_flow s near call (RefusedCall refusal) other xs ys t r p q h k = absurd k
one_flow s near call answer other xs ys t r p q h k = absurd h

one_receive : (s : State) (from : AddressParts) (datagram : List ℕ) (draws : Draws) (a b : Answer) (xs ys : List Entry) (t r : State) → IsWhole a → IsWhole b →
    Answers s (Receive from datagram draws) a xs t → Answers s (Receive from datagram draws) b ys r → SameAnswer a b xs ys t r
one_receive s from datagram draws Done Done xs ys t r p q h k =
    same_did Done Done (received from draws (admission s datagram)) (received from draws (admission s datagram)) xs ys t r refl refl h k
one_receive s from datagram draws Done (Stopped stop) xs ys t r p q h k = absurd q
one_receive s from datagram draws Done other xs ys t r p q h k = absurd k
one_receive s from datagram draws (Stopped stop) other xs ys t r p q h k = absurd p
one_receive s from datagram draws answer other xs ys t r p q h k = absurd h

one_tick : (s : State) (draws : Draws) (a b : Answer) (xs ys : List Entry) (t r : State) → IsWhole a → IsWhole b → Answers s (TickCall draws) a xs t → Answers s (TickCall draws) b ys r → SameAnswer a b xs ys t r
one_tick s draws Done Done xs ys t r p q h k =
    let u : State = all_late s in
    let e : first_due (ticks h.0.0 u).state ≡ None = subst (λ (x : State). first_due x ≡ None) h.0.1.state h.1 in
    let f : first_due (ticks k.0.0 u).state ≡ None = subst (λ (x : State). first_due x ≡ None) k.0.1.state k.1 in
    same_did Done Done (ticks h.0.0 u) (ticks k.0.0 u) xs ys t r refl (ticks_same h.0.0 k.0.0 u e f) h.0.1 k.0.1
one_tick s draws Done OutOfMemory xs ys t r p q h k = absurd q
one_tick s draws Done other xs ys t r p q h k = absurd k
one_tick s draws OutOfMemory other xs ys t r p q h k = absurd p
one_tick s draws answer other xs ys t r p q h k = absurd h

one_call : (s : State) (call : Call) (a b : Answer) (xs ys : List Entry) (t r : State) → IsWhole a → IsWhole b → Answers s call a xs t → Answers s call b ys r → SameAnswer a b xs ys t r
one_call s (OpenCall peer candidates draws) a b xs ys t r p q h k = one_open s peer candidates draws a b xs ys t r p q h k
one_call s (SeekCall name candidates draws) a b xs ys t r p q h k = one_seek s name candidates draws a b xs ys t r p q h k
one_call s (UnseekCall near) a b xs ys t r p q h k = one_unseek s near a b xs ys t r p q h k
one_call s (CancelCall n) a b xs ys t r p q h k = one_cancel s n a b xs ys t r p q h k
one_call s (CloseCall near) a b xs ys t r p q h k = one_close s near a b xs ys t r p q h k
one_call s (AddRow print addresses) a b xs ys t r p q h k = one_row s print addresses a b xs ys t r p q h k
one_call s IntroduceCall a b xs ys t r p q h k = one_introduce s a b xs ys t r p q h k
one_call s (NarrowCall limit) a b xs ys t r p q h k = one_narrow s limit a b xs ys t r p q h k
one_call s (LearnCall secret) a b xs ys t r p q h k = one_learn s secret a b xs ys t r p q h k
one_call s AdvanceCall a b xs ys t r p q h k = one_advance s a b xs ys t r p q h k
one_call s (OnFlows near call) a b xs ys t r p q h k = one_flow s near call a b xs ys t r p q h k
one_call s (Receive from datagram draws) a b xs ys t r p q h k = one_receive s from datagram draws a b xs ys t r p q h k
one_call s (TickCall draws) a b xs ys t r p q h k = one_tick s draws a b xs ys t r p q h k

-- ---- what a line tells of its answer

-- a call that isn't refused for want of memory
called_whole : (refused : Option Refused) → IsDoneOrRefused refused → IsWhole (answer_to_call refused)
called_whole None h = tt
called_whole (Some (OpenRefused refusal)) h = λ e. h.opened (ap (λ (x : OpenRefusal). Some (OpenRefused x)) e)
called_whole (Some (SeekRefused refusal)) h = λ e. h.sought (ap (λ (x : SeekRefusal). Some (SeekRefused x)) e)
called_whole (Some (CallRefused refusal)) h = λ e. h.called (ap (λ (x : CallRefusal). Some (CallRefused x)) e)
called_whole (Some (RowRefused refusal)) h = λ e. h.added (ap (λ (x : RowRefusal). Some (RowRefused x)) e)

opened_whole : (refused : Option Refused) (entries : List Entry) → IsDoneOrRefused refused → IsWhole (answer_to_open refused entries)
opened_whole None entries h = tt
opened_whole (Some (OpenRefused refusal)) entries h = λ e. h.opened (ap (λ (x : OpenRefusal). Some (OpenRefused x)) e)
opened_whole (Some (SeekRefused refusal)) entries h = λ e. h.sought (ap (λ (x : SeekRefusal). Some (SeekRefused x)) e)
opened_whole (Some (CallRefused refusal)) entries h = λ e. h.called (ap (λ (x : CallRefusal). Some (CallRefused x)) e)
opened_whole (Some (RowRefused refusal)) entries h = λ e. h.added (ap (λ (x : RowRefusal). Some (RowRefused x)) e)

sought_whole : (refused : Option Refused) (entries : List Entry) → IsDoneOrRefused refused → IsWhole (answer_to_seek refused entries)
sought_whole None entries h = tt
sought_whole (Some (OpenRefused refusal)) entries h = λ e. h.opened (ap (λ (x : OpenRefusal). Some (OpenRefused x)) e)
sought_whole (Some (SeekRefused refusal)) entries h = λ e. h.sought (ap (λ (x : SeekRefusal). Some (SeekRefused x)) e)
sought_whole (Some (CallRefused refusal)) entries h = λ e. h.called (ap (λ (x : CallRefusal). Some (CallRefused x)) e)
sought_whole (Some (RowRefused refusal)) entries h = λ e. h.added (ap (λ (x : RowRefusal). Some (RowRefused x)) e)

succeeded_whole : (refused : Option Refused) (entries : List Entry) → IsDoneOrRefused refused → IsWhole (answer_to_succession refused entries)
succeeded_whole None entries h = tt
succeeded_whole (Some (OpenRefused refusal)) entries h = λ e. h.opened (ap (λ (x : OpenRefusal). Some (OpenRefused x)) e)
succeeded_whole (Some (SeekRefused refusal)) entries h = λ e. h.sought (ap (λ (x : SeekRefusal). Some (SeekRefused x)) e)
succeeded_whole (Some (CallRefused refusal)) entries h = λ e. h.called (ap (λ (x : CallRefusal). Some (CallRefused x)) e)
succeeded_whole (Some (RowRefused refusal)) entries h = λ e. h.added (ap (λ (x : RowRefusal). Some (RowRefused x)) e)

ticked_whole : (stopped : Option Stop) → is_some stopped ≡ false → IsWhole (answer_to_tick stopped)
ticked_whole None none = tt
ticked_whole (Some stop) none = absurd (cc)

brought_whole : (stopped : Option Stop) → is_some stopped ≡ false → IsWhole (answer_to_datagram stopped)
brought_whole None none = tt
brought_whole (Some stop) none = absurd (cc)

whole : (deed : Deed) (refused : Option Refused) (stopped : Option Stop) (entries : List Entry) → HasAnswer deed refused stopped → is_some stopped ≡ false → IsWhole (answer_by deed refused stopped entries)
whole (Calls end (Opens peer list)) refused stopped entries h none = opened_whole refused entries h.1
whole (Calls end (Seeks name list)) refused stopped entries h none = sought_whole refused entries h.1
whole (Calls end Learns) refused stopped entries h none = succeeded_whole refused entries h.1
whole (Calls end Advances) refused stopped entries h none = succeeded_whole refused entries h.1
whole (Calls end Introduces) refused stopped entries h none = tt
whole (Calls end (Narrows limit)) refused stopped entries h none = tt
whole (Calls end Ticks) refused stopped entries h none = ticked_whole stopped none
whole (Calls end call) refused stopped entries h none = called_whole refused h.1
whole (Brings end from source) refused stopped entries h none = brought_whole stopped none
whole deed refused stopped entries h none = absurd h

-- why a call was refused, by its answer
called_for : (refused : Option Refused) → refused_in (answer_to_call refused) ≡ refused
called_for None = refl
called_for (Some (OpenRefused refusal)) = refl
called_for (Some (SeekRefused refusal)) = refl
called_for (Some (CallRefused refusal)) = refl
called_for (Some (RowRefused refusal)) = refl

opened_for : (refused : Option Refused) (entries : List Entry) → refused_in (answer_to_open refused entries) ≡ refused
opened_for None entries = refl
opened_for (Some (OpenRefused refusal)) entries = refl
opened_for (Some (SeekRefused refusal)) entries = refl
opened_for (Some (CallRefused refusal)) entries = refl
opened_for (Some (RowRefused refusal)) entries = refl

sought_for : (refused : Option Refused) (entries : List Entry) → refused_in (answer_to_seek refused entries) ≡ refused
sought_for None entries = refl
sought_for (Some (OpenRefused refusal)) entries = refl
sought_for (Some (SeekRefused refusal)) entries = refl
sought_for (Some (CallRefused refusal)) entries = refl
sought_for (Some (RowRefused refusal)) entries = refl

succeeded_for : (refused : Option Refused) (entries : List Entry) → refused_in (answer_to_succession refused entries) ≡ refused
succeeded_for None entries = refl
succeeded_for (Some (OpenRefused refusal)) entries = refl
succeeded_for (Some (SeekRefused refusal)) entries = refl
succeeded_for (Some (CallRefused refusal)) entries = refl
succeeded_for (Some (RowRefused refusal)) entries = refl

-- two answers that are the same were refused for the same
one_refusal : (deed : Deed) (a b : Option Refused) (p q : Option Stop) (xs ys : List Entry) → HasAnswer deed a p → HasAnswer deed b q → answer_by deed a p xs ≡ answer_by deed b q ys → a ≡ b
one_refusal (Calls end (Opens peer list)) a b p q xs ys h k e = sym (opened_for a xs) ∙ ap refused_in e ∙ opened_for b ys
one_refusal (Calls end (Seeks name list)) a b p q xs ys h k e = sym (sought_for a xs) ∙ ap refused_in e ∙ sought_for b ys
one_refusal (Calls end Learns) a b p q xs ys h k e = sym (succeeded_for a xs) ∙ ap refused_in e ∙ succeeded_for b ys
one_refusal (Calls end Advances) a b p q xs ys h k e = sym (succeeded_for a xs) ∙ ap refused_in e ∙ succeeded_for b ys
one_refusal (Calls end Introduces) a b p q xs ys h k e = h.0 ∙ sym k.0
one_refusal (Calls end (Narrows limit)) a b p q xs ys h k e = h.0 ∙ sym k.0
one_refusal (Calls end Ticks) a b p q xs ys h k e = h.0 ∙ sym k.0
one_refusal (Calls end call) a b p q xs ys h k e = sym (called_for a) ∙ ap refused_in e ∙ called_for b
one_refusal (Brings end from source) a b p q xs ys h k e = h ∙ sym k
one_refusal deed a b p q xs ys h k e = absurd h

none_is : (o : Option Stop) → is_some o ≡ false → o ≡ None
none_is None e = refl
none_is (Some stop) e = absurd (cc)

-- ---- a step that calls an end

same_some : (x y : EndSeen) → ◌≡◌ {A = Option EndSeen} (Some x) (Some y) → x ≡ y
same_some x y e = cc

-- Two lines of a journal tell the same.
pub record SameLine (k l : JournalLine) : Type 0 where
  pub line : k.line ≡ l.line
  pub end : k.end ≡ l.end
  pub moment : k.moment ≡ l.moment
  pub generation : k.generation ≡ l.generation
  pub step : k.step ≡ l.step
  pub datagram : k.datagram ≡ l.datagram
  pub refused : k.refused ≡ l.refused
  pub stopped : k.stopped ≡ l.stopped
  pub entries : k.out.entries ≡ l.out.entries

pub record SameCall (k l : JournalLine) (t s : Seen) : Type 0 where
  pub line : SameLine k l
  pub ends : t.ends ≡ s.ends

-- the event of a line whose step is known
whole_event : (ends : List EndSeen) (step : Step) (k : JournalLine) → k.step ≡ step → HasItsAnswer step k.refused k.stopped → is_some k.stopped ≡ false → IsWhole (event_of ends k).answer
whole_event ends step k e answer none = subst (λ (x : Step). IsWhole (answer_of x k.refused k.stopped k.out.entries)) (sym e) (whole (deed_of step) k.refused k.stopped k.out.entries answer none)

one_event : (s o : State) (e f : Event) (t r : State) → s ≡ o → e.moment ≡ f.moment → e.call ≡ f.call → IsWhole e.answer → IsWhole f.answer → StepOf s e t → StepOf o f r → SameAnswer e.answer f.answer e.entries f.entries t r
one_event s o e f t r states moments calls p q h k =
    let a : Answers (at_moment s f.moment) f.call f.answer f.entries r = subst (λ (x : State). Answers (at_moment x f.moment) f.call f.answer f.entries r) (sym states) k in
    let b : Answers (at_moment s e.moment) f.call f.answer f.entries r = subst (λ (m : ℕ). Answers (at_moment s m) f.call f.answer f.entries r) (sym moments) a in
    let c : Answers (at_moment s e.moment) e.call f.answer f.entries r = subst (λ (x : Call). Answers (at_moment s e.moment) x f.answer f.entries r) (sym calls) b in
    one_call (at_moment s e.moment) e.call e.answer f.answer e.entries f.entries t r p q h c

one_step : (w v : Seen) (n : ℕ) (step : Step) (k l : JournalLine) (t s : Seen) → w.moment ≡ v.moment → w.ends ≡ v.ends → sent_in w.lines ≡ sent_in v.lines → is_some k.stopped ≡ false → is_some l.stopped ≡ false →
    Called w n step k t → Called v n step l s → SameCall k l t s
one_step w v n step k l t s moments ends sent p q a b =
    let lines : k.line ≡ l.line = a.is_line.line ∙ sym b.is_line.line in
    let who : k.end ≡ l.end = a.is_line.end ∙ sym b.is_line.end in
    let when : k.moment ≡ l.moment = a.is_line.moment ∙ moments ∙ sym b.is_line.moment in
    let steps : k.step ≡ l.step = a.is_line.step ∙ sym b.is_line.step in
    let datagrams : k.datagram ≡ l.datagram = a.is_line.datagram ∙ ap (λ (x : List Sent). datagram_from x w.ends (deed_of step)) sent
    ∙ ap (λ (x : List EndSeen). datagram_from (sent_in v.lines) x (deed_of step)) ends ∙ sym b.is_line.datagram in
    let generations : k.generation ≡ l.generation = a.is_line.generation ∙ ap (λ (x : List EndSeen). generation_at x (called_by step)) ends ∙ sym b.is_line.generation in
    let found : slice_get w.ends k.end ≡ slice_get v.ends l.end = ap (λ (x : List EndSeen). slice_get x k.end) ends ∙ ap (λ (i : ℕ). slice_get v.ends i) who in
    let same_end : a.end ≡ b.end = same_some a.end b.end (sym a.is_end ∙ found ∙ b.is_end) in
    let given : moment_given k.moment (deed_of k.step) ≡ moment_given l.moment (deed_of l.step) = ap (λ (m : ℕ). moment_given m (deed_of k.step)) when ∙ ap (λ (x : Step). moment_given l.moment (deed_of x)) steps in
    let calls : call_of w.ends k.line k.generation k.datagram k.step ≡ call_of v.ends l.line l.generation l.datagram l.step =
    ap (λ (x : List EndSeen). call_of x k.line k.generation k.datagram k.step) ends
    ∙ ap (λ (x : ℕ). call_of v.ends x k.generation k.datagram k.step) lines
    ∙ ap (λ (x : ℕ). call_of v.ends l.line x k.datagram k.step) generations
    ∙ ap (λ (x : Option (List ℕ)). call_of v.ends l.line l.generation x k.step) datagrams
    ∙ ap (λ (x : Step). call_of v.ends l.line l.generation l.datagram x) steps in
    let done : SameAnswer (event_of w.ends k).answer (event_of v.ends l).answer k.out.entries l.out.entries a.state b.state =
    one_event a.end.state b.end.state (event_of w.ends k) (event_of v.ends l) a.state b.state (ap (λ (x : EndSeen). x.state) same_end) given calls
    (whole_event w.ends step k a.is_line.step a.is_line.answer p) (whole_event v.ends step l b.is_line.step b.is_line.answer q) a.event b.event in
    let answers : answer_of step k.refused k.stopped k.out.entries ≡ answer_of step l.refused l.stopped l.out.entries =
    ap (λ (x : Step). answer_of x k.refused k.stopped k.out.entries) (sym a.is_line.step) ∙ done.answer ∙ ap (λ (x : Step). answer_of x l.refused l.stopped l.out.entries) b.is_line.step in
    record {
      line = record {
        line = lines;
        end = who;
        moment = when;
        generation = generations;
        step = steps;
        datagram = datagrams;
        refused = one_refusal (deed_of step) k.refused l.refused k.stopped l.stopped k.out.entries l.out.entries a.is_line.answer b.is_line.answer answers;
        stopped = none_is k.stopped p ∙ sym (none_is l.stopped q);
        entries = done.entries;
      };
      ends = a.ends ∙ ap (λ (x : List EndSeen). with_state x k.end a.state) ends ∙ ap (λ (i : ℕ). with_state v.ends i a.state) who ∙ ap (λ (x : State). with_state v.ends l.end x) done.state ∙ sym b.ends;
    }

-- ---- lines of the journal

made : (line end moment generation : ℕ) (step : Step) (datagram : Option (List ℕ)) (refused : Option Refused) (stopped : Option Stop) (entries : List Entry) → JournalLine
made line end moment generation step datagram refused stopped entries = record {
  line = line;
  end = end;
  moment = moment;
  generation = generation;
  step = step;
  datagram = datagram;
  refused = refused;
  stopped = stopped;
  out = record { entries = entries; free = 0; room = 0 };
}

is_made : (k : JournalLine) → without_room k ≡ made k.line k.end k.moment k.generation k.step k.datagram k.refused k.stopped k.out.entries
unfolding made
is_made k = refl

same_made : (k l : JournalLine) → SameLine k l → made k.line k.end k.moment k.generation k.step k.datagram k.refused k.stopped k.out.entries ≡ made l.line l.end l.moment l.generation l.step l.datagram l.refused l.stopped l.out.entries
same_made k l same = cc

same_line : (k l : JournalLine) → SameLine k l → without_room k ≡ without_room l
same_line k l same = is_made k ∙ same_made k l same ∙ sym (is_made l)

sent_stays : (lines : List JournalLine) → sent_in (map without_room lines) ≡ sent_in lines
sent_stays [] = refl
sent_stays (line ∷ lines) = ap (λ (l : List Sent). sent_among line.end line.out.entries ++ l) (sent_stays lines)

pub same_sent : (lines others : List JournalLine) → map without_room lines ≡ map without_room others → sent_in lines ≡ sent_in others
same_sent lines others e = sym (sent_stays lines) ∙ ap sent_in e ∙ sent_stays others

pub same_length : (lines others : List JournalLine) → map without_room lines ≡ map without_room others → length lines ≡ length others
same_length lines others e = sym (length-map lines without_room) ∙ ap (λ (l : List JournalLine). length l) e ∙ length-map others without_room

-- ---- what a step leaves

same_called : (w v : Seen) (n : ℕ) (step : Step) (t s : Seen) → AreSameWorlds w v → (k : JournalLine) × (is_some k.stopped ≡ false) × Called w n step k t → (l : JournalLine) × (is_some l.stopped ≡ false) × Called v n step l s → AreSameWorlds t s
same_called w v n step t s before h k =
    let same : SameCall h.0 k.0 t s = one_step w v n step h.0 k.0 t s before.moment before.ends (same_sent w.lines v.lines before.lines) h.1 k.1 h.2 k.2 in
    record {
      moment = h.2.moment ∙ before.moment ∙ sym k.2.moment;
      ends = same.ends;
      lines =
          ap (λ (l : List JournalLine). map without_room l) h.2.lines
          ∙ map-append without_room w.lines (h.0 ∷ [])
          ∙ ap (λ (l : List JournalLine). l ++ without_room h.0 ∷ []) before.lines
          ∙ ap (λ (x : JournalLine). map without_room v.lines ++ x ∷ []) (same_line h.0 k.0 same.line)
          ∙ sym (map-append without_room v.lines (k.0 ∷ []))
          ∙ sym (ap (λ (l : List JournalLine). map without_room l) k.2.lines);
    }

pub same_by : (w v x y : Seen) → x ≡ w → y ≡ v → AreSameWorlds w v → AreSameWorlds x y
same_by w v x y e f same = subst (λ (a : Seen). AreSameWorlds a y) (sym e) (subst (λ (b : Seen). AreSameWorlds w b) (sym f) same)

same_as : (w v : Seen) (n : ℕ) (step : Step) (deed : Deed) (t s : Seen) → AreSameWorlds w v → SteppedAs w n step deed t → SteppedAs v n step deed s → AreSameWorlds t s
same_as w v n step (NewEnd name max_peers max_sessions cert) t s before h k =
    let new : EndSeen = new_end name (new_setup max_peers max_sessions cert) in
    same_by (with_end w new) (with_end v new) t s h k (record { moment = before.moment; ends = ap (λ (l : List EndSeen). l ++ new ∷ []) before.ends; lines = before.lines })
same_as w v n step (NewMoment moment) t s before h k = same_by (with_moment w moment) (with_moment v moment) t s h k (record { moment = refl; ends = before.ends; lines = before.lines })
same_as w v n step (Calls end call) t s before h k = same_called w v n step t s before h k
same_as w v n step (Brings end from source) t s before h k = same_called w v n step t s before h k

pub same_step : (w v : Seen) (n : ℕ) (step : Step) (t s : Seen) → AreSameWorlds w v → Stepped w n step t → Stepped v n step s → AreSameWorlds t s
same_step w v n step t s before h k = same_as w v n step (deed_of step) t s before h k
