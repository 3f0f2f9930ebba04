-- The events of steps: of one that makes a call, and of one that brings a datagram.
use Rattle.std.proofs.Common.{◌≡◌, ℕ, ◌≤◌, ◌==◌, ◌||◌, nat_lt, Bool, List, [], ◌∷◌, ◌++◌, length, Option, Some, None, IsSome, IfNone, true, false, max, refl, sym, ap, ◌∙◌, subst, arith}
use Rattle.std.proofs.lemmas.Bool.{or_parts}
use Rattle.std.proofs.lemmas.Bool.Decides.{nat_tests}
use Rattle.rtmfp_base.specs.Reasons.{first_that_stands, where_true}
use Rattle.rtmfp_forms.specs.Address.{AddressParts}
use Rattle.glare_core.specs.declared.answers.StartRefusal.{StartRefusal}
use Rattle.glare_core.specs.Calls.{start_refusal}
use Rattle.crypto_profile.specs.declared.group.GroupSecret.{GroupSecret}
use Rattle.endpoint_model.specs.Added.{Added}
use Rattle.endpoint_model.specs.declared.config.Draws.{Draws}
use Rattle.endpoint_model.specs.declared.entry.Entry.{Entry}
use Rattle.endpoint_model.specs.declared.answers.OpenRefusal.{OpenRefusal}
use Rattle.endpoint_model.specs.declared.answers.OpenRefusal.TheVariants.{Candidates, Memory as NoMemoryToOpen}
use Rattle.endpoint_model.specs.declared.answers.SeekRefusal.{SeekRefusal}
use Rattle.endpoint_model.specs.declared.answers.SeekRefusal.TheVariants.{Candidates as WrongCount, Memory as NoMemoryToSeek}
use Rattle.session_flows.specs.declared.refusal.CallRefusal.{CallRefusal}
use Rattle.session_flows.specs.declared.refusal.CallRefusal.TheVariants.{NoSession, Memory as NoMemoryToCall}
use Rattle.introducer.specs.declared.refusal.RowRefusal.{RowRefusal}
use Rattle.introducer.specs.declared.refusal.RowRefusal.TheVariants.{Memory as NoMemoryForRow}
use Rattle.endpoint_model.specs.declared.answers.Stopped.{Stopped as Stop}
use Rattle.endpoint_model.specs.Event.{Call, Narrow, Receive, Answer, Began, Searching, Done, Succeeds, NotOpened, NotSought, Refused as RefusedCall, NotAdded, OutOfMemory, Event}
use Rattle.endpoint_model.specs.State.{State, Does, at_moment, full}
use Rattle.endpoint_model.specs.Succession.{no_next, advancing_to}
use Rattle.endpoint_model.specs.InSessions.{held_row}
use Rattle.endpoint_model.specs.Effects.{candidates_refusal, start_refused, full_refused, places_refusal, no_place}
use Rattle.endpoint_model.specs.Log.{Answers, Step as StepOf, not_opened, not_sought}
use Rattle.endpoint.specs.declared.call.Answered.{Answered}
use Rattle.endpoint.specs.declared.call.EndCall.{EndCall}
use Rattle.endpoint.specs.declared.call.EndCall.TheVariants as end_call
use Rattle.endpoint.specs.Calls.{moment_given as given_to, answer_of as told_by, call_of, Called, IsWithin}
use Rattle.rendezvous_world.specs.declared.journal.Refused.{Refused}
use Rattle.rendezvous_world.specs.declared.journal.Refused.TheVariants.{Open as OpenRefused, Seek as SeekRefused, Call as CallRefused, Row as RowRefused}
use Rattle.rendezvous_world.specs.declared.step.Step.{Step}
use Rattle.rendezvous_world.specs.declared.step.DeedCall.{DeedCall}
use Rattle.rendezvous_world.specs.declared.step.DeedCall.TheVariants.{Plain as PlainBy}
use Rattle.rendezvous_world.specs.declared.step.Source.{Source}
use Rattle.rendezvous_world.specs.declared.step.Source.TheVariants.{Delivered, Turned, Injected, Sealed}
use Rattle.rendezvous_world.specs.Deed.{StepCall, Opens, Seeks, Unseeks, Cancels, Closes, CallsFlows, Introduces, Narrows, Redirects, Learns, Advances, Ticks, Deed, Calls, deed_of, narrows_beyond}
use Rattle.rendezvous_world.specs.Draws.{draws_of}
use Rattle.rendezvous_world.specs.Calls.{made, moment_in, number_started, near_sought, number_succeeded, answer_in, answer_to_datagram, IsDoneOrRefused, MayAnswer, LeavesUndone}
use Rattle.rendezvous_world.specs.History.{call_by, moment_given, answer_by}
use Rattle.rendezvous_world.specs.Stepping.{HasAnswer, HasItsAnswer}
use Rattle.rendezvous_world.specs.Entering.{bringing, made_by, IsCallBy, IsCallOf, IsWithinBy, peer_by, event_by, refused_in, stopped_in, FoundNone, IsUndoneIn, IsUndone}

-- ---- a call

-- the moment that it is given
moment_same : (call : StepCall) (print : List ℕ) (draws : Draws) (moment : ℕ) → given_to (made call print draws) moment ≡ moment_in moment call
moment_same (Opens peer list) print draws moment = refl
moment_same (Seeks name list) print draws moment = refl
moment_same (Unseeks near) print draws moment = refl
moment_same (Cancels n) print draws moment = refl
moment_same (Closes near) print draws moment = refl
moment_same (CallsFlows near call) print draws moment = refl
moment_same Introduces print draws moment = refl
moment_same (Narrows limit) print draws moment = refl
moment_same (Redirects peer list) print draws moment = refl
moment_same Learns print draws moment = refl
moment_same Advances print draws moment = refl
moment_same Ticks print draws moment = refl

-- an advance tells the number of the generation that is the current one then
advanced_number : (s t : State) (next : Option GroupSecret) (entries : List Entry) → no_next next ≡ None → Does (advancing_to s next) t [] entries → t.group.generation ≡ number_succeeded entries
advanced_number s t None entries known did = absurd (cc)
advanced_number s t (Some next) entries known did = ap (λ (x : State). x.group.generation) did.state ∙ ap number_succeeded (sym did.entries)

-- what a line tells of its answer says what it answered
fits : (call : StepCall) (print : List ℕ) (draws : Draws) (s t : State) (answer : Answer) (entries : List Entry) → Answers s (made call print draws) answer entries t →
    answer ≡ answer_in call (refused_in answer) (stopped_in answer) entries
fits (Opens peer list) print draws s t (Began n) entries h = ap Began h.1 ∙ ap (λ (es : List Entry). Began (number_started es)) (sym h.2.entries)
fits (Opens peer list) print draws s t (NotOpened refusal) entries h = refl
fits (Opens peer list) print draws s t answer entries h = absurd h
fits (Seeks name list) print draws s t (Searching near) entries h = ap Searching h.1 ∙ ap (λ (es : List Entry). Searching (near_sought es)) (sym h.2.entries)
fits (Seeks name list) print draws s t (NotSought refusal) entries h = refl
fits (Seeks name list) print draws s t answer entries h = absurd h
fits (Unseeks near) print draws s t Done entries h = refl
fits (Unseeks near) print draws s t (RefusedCall refusal) entries h = refl
fits (Unseeks near) print draws s t answer entries h = absurd h
fits (Cancels n) print draws s t Done entries h = refl
fits (Cancels n) print draws s t (RefusedCall refusal) entries h = refl
fits (Cancels n) print draws s t answer entries h = absurd h
fits (Closes near) print draws s t Done entries h = refl
fits (Closes near) print draws s t (RefusedCall refusal) entries h = refl
fits (Closes near) print draws s t answer entries h = absurd h
fits (CallsFlows near call) print draws s t Done entries h = refl
fits (CallsFlows near call) print draws s t (RefusedCall refusal) entries h = refl
fits (CallsFlows near call) print draws s t answer entries h = absurd h
fits Introduces print draws s t Done entries h = refl
fits Introduces print draws s t answer entries h = absurd h
fits (Narrows limit) print draws s t Done entries h = refl
fits (Narrows limit) print draws s t answer entries h = absurd h
fits (Redirects peer list) print draws s t Done entries h = refl
fits (Redirects peer list) print draws s t (NotAdded refusal) entries h = refl
fits (Redirects peer list) print draws s t answer entries h = absurd h
fits Learns print draws s t (Succeeds generation) entries h = ap Succeeds h.1 ∙ ap (λ (es : List Entry). Succeeds (number_succeeded es)) (sym h.2.entries)
fits Learns print draws s t (RefusedCall refusal) entries h = refl
fits Learns print draws s t answer entries h = absurd h
fits Advances print draws s t (Succeeds generation) entries h = ap Succeeds (h.1 ∙ advanced_number s t s.next entries h.0 h.2)
fits Advances print draws s t (RefusedCall refusal) entries h = refl
fits Advances print draws s t answer entries h = absurd h
fits Ticks print draws s t Done entries h = refl
fits Ticks print draws s t OutOfMemory entries h = refl
fits Ticks print draws s t answer entries h = absurd h

no_refusal : IsDoneOrRefused None
no_refusal = record { opened = λ e. absurd (cc); sought = λ e. absurd (cc); called = λ e. absurd (cc); added = λ e. absurd (cc) }

not_opened_for : (refusal : OpenRefusal) → (refusal ≡ NoMemoryToOpen → ⊥) → IsDoneOrRefused (Some (OpenRefused refusal))
not_opened_for refusal other = record { opened = λ e. other (cc); sought = λ e. absurd (cc); called = λ e. absurd (cc); added = λ e. absurd (cc) }

not_sought_for : (refusal : SeekRefusal) → (refusal ≡ NoMemoryToSeek → ⊥) → IsDoneOrRefused (Some (SeekRefused refusal))
not_sought_for refusal other = record { opened = λ e. absurd (cc); sought = λ e. other (cc); called = λ e. absurd (cc); added = λ e. absurd (cc) }

not_called_for : (refusal : CallRefusal) → (refusal ≡ NoMemoryToCall → ⊥) → IsDoneOrRefused (Some (CallRefused refusal))
not_called_for refusal other = record { opened = λ e. absurd (cc); sought = λ e. absurd (cc); called = λ e. other (cc); added = λ e. absurd (cc) }

not_added_for : (refusal : RowRefusal) → (refusal ≡ NoMemoryForRow → ⊥) → IsDoneOrRefused (Some (RowRefused refusal))
not_added_for refusal other = record { opened = λ e. absurd (cc); sought = λ e. absurd (cc); called = λ e. absurd (cc); added = λ e. other (cc) }

-- where it wasn't refused for want of memory a line can tell it
may : (call : StepCall) (print : List ℕ) (draws : Draws) (s t : State) (answer : Answer) (entries : List Entry) → Answers s (made call print draws) answer entries t → (FoundNone answer → ⊥) →
    MayAnswer call (refused_in answer) (stopped_in answer)
may (Opens peer list) print draws s t (Began n) entries h other = (refl, no_refusal)
may (Opens peer list) print draws s t (NotOpened refusal) entries h other = (refl, not_opened_for refusal other)
may (Opens peer list) print draws s t answer entries h other = absurd h
may (Seeks name list) print draws s t (Searching near) entries h other = (refl, no_refusal)
may (Seeks name list) print draws s t (NotSought refusal) entries h other = (refl, not_sought_for refusal other)
may (Seeks name list) print draws s t answer entries h other = absurd h
may (Unseeks near) print draws s t Done entries h other = (refl, no_refusal)
may (Unseeks near) print draws s t (RefusedCall refusal) entries h other = (refl, not_called_for refusal other)
may (Unseeks near) print draws s t answer entries h other = absurd h
may (Cancels n) print draws s t Done entries h other = (refl, no_refusal)
may (Cancels n) print draws s t (RefusedCall refusal) entries h other = (refl, not_called_for refusal other)
may (Cancels n) print draws s t answer entries h other = absurd h
may (Closes near) print draws s t Done entries h other = (refl, no_refusal)
may (Closes near) print draws s t (RefusedCall refusal) entries h other = (refl, not_called_for refusal other)
may (Closes near) print draws s t answer entries h other = absurd h
may (CallsFlows near call) print draws s t Done entries h other = (refl, no_refusal)
may (CallsFlows near call) print draws s t (RefusedCall refusal) entries h other = (refl, not_called_for refusal other)
may (CallsFlows near call) print draws s t answer entries h other = absurd h
may Introduces print draws s t Done entries h other = (refl, refl)
may Introduces print draws s t answer entries h other = absurd h
may (Narrows limit) print draws s t Done entries h other = (refl, refl)
may (Narrows limit) print draws s t answer entries h other = absurd h
may (Redirects peer list) print draws s t Done entries h other = (refl, no_refusal)
may (Redirects peer list) print draws s t (NotAdded refusal) entries h other = (refl, not_added_for refusal other)
may (Redirects peer list) print draws s t answer entries h other = absurd h
may Learns print draws s t (Succeeds generation) entries h other = (refl, no_refusal)
may Learns print draws s t (RefusedCall refusal) entries h other = (refl, not_called_for refusal other)
may Learns print draws s t answer entries h other = absurd h
may Advances print draws s t (Succeeds generation) entries h other = (refl, no_refusal)
may Advances print draws s t (RefusedCall refusal) entries h other = (refl, not_called_for refusal other)
may Advances print draws s t answer entries h other = absurd h
may Ticks print draws s t Done entries h other = (refl, tt)
may Ticks print draws s t OutOfMemory entries h other = (refl, refl)
may Ticks print draws s t answer entries h other = absurd h

-- ---- a call that found no memory

at_zero : (s : State) → at_moment s 0 ≡ s
at_zero s =
    let same : max s.moment 0 ≡ s.moment = omega arith in
    ap (λ (m : ℕ). record s { moment = m }) same

no_other : (candidates : Option OpenRefusal) (start : Option StartRefusal) (limit : Option ℕ) → (candidates ≡ Some NoMemoryToOpen → ⊥) →
    NoMemoryToOpen ≡ not_opened (first_that_stands (candidates ∷ start_refused start ∷ full_refused limit ∷ [])) → first_that_stands (candidates ∷ start_refused start ∷ full_refused limit ∷ []) ≡ None
no_other None None None other e = refl
no_other None None (Some limit) other e = absurd (cc)
no_other None (Some refusal) limit other e = absurd (cc)
no_other (Some refusal) start limit other e = absurd (other (ap (λ (x : OpenRefusal). Some x) (sym e)))

never_memory : (b : Bool) (refusal : OpenRefusal) → (refusal ≡ NoMemoryToOpen → ⊥) → where_true b refusal ≡ Some NoMemoryToOpen → ⊥
never_memory true refusal other e = other (cc)
never_memory false refusal other e = absurd (cc)

no_other_search : (places : Option SeekRefusal) (limit : Option ℕ) → (places ≡ Some NoMemoryToSeek → ⊥) →
    NoMemoryToSeek ≡ not_sought (first_that_stands (places ∷ no_place limit ∷ [])) → first_that_stands (places ∷ no_place limit ∷ []) ≡ None
no_other_search None None other e = refl
no_other_search None (Some limit) other e = absurd (cc)
no_other_search (Some refusal) limit other e = absurd (other (ap (λ (x : SeekRefusal). Some x) (sym e)))

never_for_search : (b : Bool) (refusal : SeekRefusal) → (refusal ≡ NoMemoryToSeek → ⊥) → where_true b refusal ≡ Some NoMemoryToSeek → ⊥
never_for_search true refusal other e = other (cc)
never_for_search false refusal other e = absurd (cc)

held_there : {A : Type 0} (o : Option A) → IfNone o (◌≡◌ {A = CallRefusal} NoMemoryToCall NoSession) → IsSome o
held_there None e = absurd (cc)
held_there (Some x) e = refl

-- what it leaves; an open, a seek and a close have noted the moment
left : (call : StepCall) (print : List ℕ) (draws : Draws) (moment : ℕ) (s t : State) (answer : Answer) (entries : List Entry) → Answers (at_moment s (moment_in moment call)) (made call print draws) answer entries t → FoundNone answer →
    LeavesUndone print moment call s t
left (Opens peer list) print draws moment s t (NotOpened refusal) entries h none =
    (no_other (candidates_refusal (length list)) (start_refusal s.startup.ledger print) (full s) (never_memory ((length list == 0) || nat_lt 16 (length list)) (Candidates (length list)) (λ e. absurd (cc))) (sym none ∙ h.0), h.1.state)
left (Opens peer list) print draws moment s t (Began n) entries h none = absurd none
left (Opens peer list) print draws moment s t answer entries h none = absurd h
left (Seeks name list) print draws moment s t (NotSought refusal) entries h none =
    (no_other_search (places_refusal (length list)) (full s) (never_for_search ((length list == 0) || nat_lt 16 (length list)) (WrongCount (length list)) (λ e. absurd (cc))) (sym none ∙ h.0), h.1.state)
left (Seeks name list) print draws moment s t (Searching near) entries h none = absurd none
left (Seeks name list) print draws moment s t answer entries h none = absurd h
left (Unseeks near) print draws moment s t (RefusedCall refusal) entries h none = h.1.state ∙ at_zero s
left (Unseeks near) print draws moment s t Done entries h none = absurd none
left (Unseeks near) print draws moment s t answer entries h none = absurd h
left (Cancels n) print draws moment s t (RefusedCall refusal) entries h none = h.2.state ∙ at_zero s
left (Cancels n) print draws moment s t Done entries h none = absurd none
left (Cancels n) print draws moment s t answer entries h none = absurd h
left (Closes near) print draws moment s t (RefusedCall refusal) entries h none =
    (held_there (held_row s near) (subst (λ (r : CallRefusal). IfNone (held_row s near) (r ≡ NoSession)) none h.0), h.2.state)
left (Closes near) print draws moment s t Done entries h none = absurd none
left (Closes near) print draws moment s t answer entries h none = absurd h
left (CallsFlows near call) print draws moment s t (RefusedCall refusal) entries h none = h.1.state ∙ at_zero s
left (CallsFlows near call) print draws moment s t Done entries h none = absurd none
left (CallsFlows near call) print draws moment s t answer entries h none = absurd h
left Introduces print draws moment s t Done entries h none = absurd none
left Introduces print draws moment s t answer entries h none = absurd h
left (Narrows limit) print draws moment s t Done entries h none = absurd none
left (Narrows limit) print draws moment s t answer entries h none = absurd h
left (Redirects peer list) print draws moment s t (NotAdded refusal) entries h none = h.1.state ∙ at_zero s
left (Redirects peer list) print draws moment s t Done entries h none = absurd none
left (Redirects peer list) print draws moment s t answer entries h none = absurd h
left Learns print draws moment s t (RefusedCall refusal) entries h none = h.1.state ∙ at_zero s
left Learns print draws moment s t (Succeeds generation) entries h none = absurd none
left Learns print draws moment s t answer entries h none = absurd h
left Advances print draws moment s t (RefusedCall refusal) entries h none = h.1.state ∙ at_zero s
left Advances print draws moment s t (Succeeds generation) entries h none = absurd none
left Advances print draws moment s t answer entries h none = absurd h
left Ticks print draws moment s t Done entries h none = absurd none
left Ticks print draws moment s t OutOfMemory entries h none = absurd none
left Ticks print draws moment s t answer entries h none = absurd h

-- ---- the step that makes it

-- what a call did whose outbox was empty
did_alone : (s t : State) (moment : ℕ) (call : StepCall) (print : List ℕ) (draws : Draws) (answered : Answered) (before after : Added) → before.entries ≡ [] → Called s moment (made call print draws) answered t before after →
    Answers (at_moment s (moment_in moment call)) (made call print draws) (told_by answered) after.entries t
did_alone s t moment call print draws answered before after empty did =
    let same : did.entries ≡ after.entries = sym (did.added.entries_are ∙ ap (λ (es : List Entry). es ++ did.entries) empty) in
    subst (λ (es : List Entry). Answers (at_moment s (moment_in moment call)) (made call print draws) (told_by answered) es t) same
    (subst (λ (m : ℕ). Answers (at_moment s m) (made call print draws) (told_by answered) did.entries t) (moment_same call print draws moment) did.answers)

-- the call of a step, what it answered, and what an end did by it
pub record IsCallDone (s t : State) (end line moment : ℕ) (by : DeedCall) (print : List ℕ) (deed : Deed) (answered : Answered) (before after : Added) : Type 0 where
  pub is : IsCallBy end by deed
  pub empty : before.entries ≡ []
  pub called : Called s moment (made_by by print (draws_of line)) answered t before after

deed_event : (s t : State) (end line moment : ℕ) (by : DeedCall) (print bytes : List ℕ) (deed : Deed) (answered : Answered) (before after : Added) (refused : Option Refused) (stopped : Option Stop) →
    IsCallDone s t end line moment by print deed answered before after → refused ≡ refused_in (told_by answered) → stopped ≡ stopped_in (told_by answered) →
    Answers (at_moment s (moment_given moment deed)) (call_by print line bytes deed) (answer_by deed refused stopped after.entries) after.entries t
deed_event s t end line moment by print bytes (Calls who call) answered before after refused stopped done r p =
    let did : Called s moment (made call print (draws_of line)) answered t before after =
    subst (λ (c : Call). Called s moment c answered t before after) (sym (done.is.1.same print (draws_of line))) done.called in
    let alone : Answers (at_moment s (moment_in moment call)) (made call print (draws_of line)) (told_by answered) after.entries t =
    did_alone s t moment call print (draws_of line) answered before after done.empty did in
    let told : told_by answered ≡ answer_in call refused stopped after.entries =
    fits call print (draws_of line) (at_moment s (moment_in moment call)) t (told_by answered) after.entries alone
    ∙ ap (λ (o : Option Refused). answer_in call o (stopped_in (told_by answered)) after.entries) (sym r)
    ∙ ap (λ (o : Option Stop). answer_in call refused o after.entries) (sym p) in
    subst (λ (a : Answer). Answers (at_moment s (moment_in moment call)) (made call print (draws_of line)) a after.entries t) told alone
deed_event s t end line moment by print bytes deed answered before after refused stopped done r p = absurd done.is

deed_may : (s t : State) (end line moment : ℕ) (by : DeedCall) (print : List ℕ) (deed : Deed) (answered : Answered) (before after : Added) (refused : Option Refused) (stopped : Option Stop) →
    IsCallDone s t end line moment by print deed answered before after → refused ≡ refused_in (told_by answered) → stopped ≡ stopped_in (told_by answered) → (FoundNone (told_by answered) → ⊥) → HasAnswer deed refused stopped
deed_may s t end line moment by print (Calls who call) answered before after refused stopped done r p other =
    let did : Called s moment (made call print (draws_of line)) answered t before after =
    subst (λ (c : Call). Called s moment c answered t before after) (sym (done.is.1.same print (draws_of line))) done.called in
    let told : MayAnswer call (refused_in (told_by answered)) (stopped_in (told_by answered)) =
    may call print (draws_of line) (at_moment s (moment_in moment call)) t (told_by answered) after.entries (did_alone s t moment call print (draws_of line) answered before after done.empty did) other in
    subst (λ (o : Option Refused). MayAnswer call o stopped) (sym r) (subst (λ (o : Option Stop). MayAnswer call (refused_in (told_by answered)) o) (sym p) told)
deed_may s t end line moment by print deed answered before after refused stopped done r p other = absurd done.is

deed_left : (s t : State) (end line moment : ℕ) (by : DeedCall) (print : List ℕ) (deed : Deed) (answered : Answered) (before after : Added) →
    IsCallDone s t end line moment by print deed answered before after → FoundNone (told_by answered) → IsUndoneIn print moment deed s t
deed_left s t end line moment by print (Calls who call) answered before after done none =
    let did : Called s moment (made call print (draws_of line)) answered t before after =
    subst (λ (c : Call). Called s moment c answered t before after) (sym (done.is.1.same print (draws_of line))) done.called in
    left call print (draws_of line) moment s t (told_by answered) after.entries (did_alone s t moment call print (draws_of line) answered before after done.empty did) none
deed_left s t end line moment by print deed answered before after done none = absurd done.is

pub called_event : (s t : State) (end line moment : ℕ) (by : DeedCall) (print bytes : List ℕ) (step : Step) (answered : Answered) (before after : Added) (refused : Option Refused) (stopped : Option Stop) →
    IsCallDone s t end line moment by print (deed_of step) answered before after → refused ≡ refused_in (told_by answered) → stopped ≡ stopped_in (told_by answered) →
    StepOf s (event_by print line moment step bytes refused stopped after.entries) t
called_event s t end line moment by print bytes step answered before after refused stopped done r p = deed_event s t end line moment by print bytes (deed_of step) answered before after refused stopped done r p

pub called_may : (s t : State) (end line moment : ℕ) (by : DeedCall) (print : List ℕ) (step : Step) (answered : Answered) (before after : Added) (refused : Option Refused) (stopped : Option Stop) →
    IsCallDone s t end line moment by print (deed_of step) answered before after → refused ≡ refused_in (told_by answered) → stopped ≡ stopped_in (told_by answered) → (FoundNone (told_by answered) → ⊥) → HasItsAnswer step refused stopped
called_may s t end line moment by print step answered before after refused stopped done r p other = deed_may s t end line moment by print (deed_of step) answered before after refused stopped done r p other

pub called_left : (s t : State) (end line moment : ℕ) (by : DeedCall) (print : List ℕ) (step : Step) (answered : Answered) (before after : Added) →
    IsCallDone s t end line moment by print (deed_of step) answered before after → FoundNone (told_by answered) → IsUndone print moment step s t
called_left s t end line moment by print step answered before after done none = deed_left s t end line moment by print (deed_of step) answered before after done none

-- the call names the end that the deed names
pub call_is : (end : ℕ) (by : DeedCall) (peer : Option ℕ) (deed : Deed) → IsCallBy end by deed → peer ≡ peer_by by → IsCallOf end peer deed
call_is end by peer (Calls who call) is same = (is.0, is.1.peer ∙ sym same, is.1.sized)
call_is end by peer deed is same = absurd is

-- ---- its limits

abbrev is_beyond : Call → Bool
is_beyond (Narrow limit) = nat_lt limit 96 || nat_lt 1164 limit
is_beyond call = false

-- a limit that an end may have
pub limits_hold : (limit : ℕ) → (nat_lt limit 96 || nat_lt 1164 limit) ≡ false → (96 ≤ limit) × (limit ≤ 1164)
limits_hold limit e =
    let both = or_parts (nat_lt limit 96) (nat_lt 1164 limit) e in
    let least : nat_lt limit 96 ≡ false = both.0 in
    let most : nat_lt 1164 limit ≡ false = both.1 in
    (at_least limit least, at_most limit most)
  where
    at_least : (n : ℕ) → nat_lt n 96 ≡ false → 96 ≤ n
    at_least n e = grind (arith, nat_tests)

    at_most : (n : ℕ) → nat_lt 1164 n ≡ false → n ≤ 1164
    at_most n e = grind (arith, nat_tests)

within_end : (call : EndCall) (draws : Draws) → is_beyond (call_of call draws) ≡ false → IsWithin call
within_end (end_call.Narrow limit) draws e = limits_hold limit e
within_end call draws e = tt

beyond_made : (end : ℕ) (call : StepCall) (print : List ℕ) (draws : Draws) → narrows_beyond (Calls end call) ≡ false → is_beyond (made call print draws) ≡ false
beyond_made end (Narrows limit) print draws e = e
beyond_made end call print draws e = refl

-- the call of a step within its limits is one that an end may be called with
pub within_by : (end : ℕ) (by : DeedCall) (deed : Deed) → IsCallBy end by deed → narrows_beyond deed ≡ false → IsWithinBy by
within_by end (PlainBy call) (Calls who step) is e =
    within_end call (draws_of 0) (subst (λ (c : Call). is_beyond c ≡ false) (is.1.same [] (draws_of 0)) (beyond_made who step [] (draws_of 0) e))
within_by end (PlainBy call) deed is e = absurd is
within_by end by deed is e = tt

-- ---- a datagram

same_event : (print : List ℕ) (line moment end : ℕ) (from : AddressParts) (source : Source) (bytes : List ℕ) (refused : Option Refused) (stopped : Option Stop) (entries : List Entry) →
    event_by print line moment (bringing end from source) bytes refused stopped entries ≡ record { moment = moment; call = Receive from bytes (draws_of line); answer = answer_to_datagram stopped; entries = entries }
same_event print line moment end from (Delivered number) bytes refused stopped entries = refl
same_event print line moment end from (Turned number place) bytes refused stopped entries = refl
same_event print line moment end from (Injected injected) bytes refused stopped entries = refl
same_event print line moment end from (Sealed plain) bytes refused stopped entries = refl

-- the event of a step that brings a datagram
pub brought : (s t : State) (print : List ℕ) (line moment : ℕ) (step : Step) (end : ℕ) (from : AddressParts) (source : Source) (bytes : List ℕ) (draws : Draws) (refused : Option Refused) (stopped : Option Stop) (entries : List Entry) →
    step ≡ bringing end from source → draws ≡ draws_of line → StepOf s (record { moment = moment; call = Receive from bytes draws; answer = answer_to_datagram stopped; entries = entries }) t → StepOf s (event_by print line moment step bytes refused stopped entries) t
brought s t print line moment step end from source bytes draws refused stopped entries is drawn event =
    let here : StepOf s (record { moment = moment; call = Receive from bytes (draws_of line); answer = answer_to_datagram stopped; entries = entries }) t =
    subst (λ (d : Draws). StepOf s (record { moment = moment; call = Receive from bytes d; answer = answer_to_datagram stopped; entries = entries }) t) drawn event in
    subst (λ (x : Step). StepOf s (event_by print line moment x bytes refused stopped entries) t) (sym is) (subst (λ (e : Event). StepOf s e t) (sym (same_event print line moment end from source bytes refused stopped entries)) here)
