-- What time makes lost and overdue is deeds.
use Rattle.std.proofs.Common.{◌≡◌, ℕ, ◌+◌, Bool, true, false, cond, List, [], ◌∷◌, ◌++◌, Option}
use Rattle.std.proofs.Common.{Some, None, length, map, refl, sym, ap, ◌∙◌, subst, arith}
use Rattle.std.proofs.Common.{append_assoc, inl, inr}
use Rattle.std.specs.Prelude.{slice_get, slice_set}
use Rattle.std.specs.List.{find}
use Rattle.rtmfp_data_chunks.specs.HandsOver.{IsIn}
use Rattle.flow_send.specs.Flow.{Flow}
use Rattle.flow_send.specs.Sender.{lost_late, overdue, waits}
use Rattle.flow_send.proofs.Steadies.{steady_lost}
use Rattle.flow_exchange.specs.Sending.{Loses, AbandonsOverdue, abandons_one, abandons}
use Rattle.flow_history.specs.Flow.{alone}
use Rattle.flow_history.specs.Deeds.{Piece}
use Rattle.session_core.specs.Closing.{is_held}
use Rattle.session_core.specs.Trips.{resend_time}
use Rattle.session_flows.specs.Keeping.{FlowsState, sending_at, with_sending, nothing}
use Rattle.session_flows.specs.Calling.{abandon_refused_by, abandoning_by}
use Rattle.session_flows.specs.Timing.{losing, has_overdue, numbered, overdue_of, first_overdue}
use Rattle.session_flows.specs.Timing.{overdue_done}
use Rattle.session_flows.specs.Laws.{AreNumbered}
use Rattle.session_flows.proofs.Times.{may_abandon}
use Rattle.session_flows.proofs.Within.{in_place}
use Rattle.session_deeds.specs.Goes.{Goes}
use Rattle.session_deeds.specs.Laws.{LosingGoes, OverdueGoes}
use Rattle.session_deeds.proofs.Chains.{same_goes, none_goes, then_goes}
use Rattle.session_deeds.proofs.Changing.{act_goes}
use Rattle.session_deeds.proofs.Calls.{abandon_goes, waits_if}

-- ---- numbers that are lost, flow after flow

at_middle : (front : List Flow) (f : Flow) (later : List Flow) →
    slice_get (front ++ f ∷ later) (length front) ≡ Some f
at_middle [] f later = refl
at_middle (x ∷ front) f later = at_middle front f later

set_middle : (front : List Flow) (f g : Flow) (later : List Flow) →
    slice_set (front ++ f ∷ later) (length front) g ≡ front ++ g ∷ later
set_middle [] f g later = refl
set_middle (x ∷ front) f g later = ap (λ (l : List Flow). x ∷ l) (set_middle front f g later)

lost_on : (came : List Piece) (moment resend : ℕ) (later front : List Flow) (s : FlowsState) →
    s.sending ≡ front ++ later →
    Goes came s (nothing (with_sending s (front ++ map (losing moment resend) later)))
lost_on came moment resend [] front s e =
    same_goes came s (nothing s) _ (ap (λ (l : List Flow). nothing (with_sending s l)) e)
    (none_goes came s)
lost_on came moment resend (f ∷ later) front s e =
    let g : Flow = losing moment resend f in
    let there : sending_at s (length front) ≡ Some f =
    ap (λ (l : List Flow). slice_get l (length front)) e ∙ at_middle front f later in
    let u : FlowsState = with_sending s (slice_set s.sending (length front) g) in
    let left : slice_set s.sending (length front) g ≡ (front ++ g ∷ []) ++ later =
    ap (λ (l : List Flow). slice_set l (length front) g) e ∙ set_middle front f g later
    ∙ sym (append_assoc front (g ∷ []) later) in
    same_goes came s _ (nothing (with_sending s (front ++ g ∷ map (losing moment resend) later)))
    (ap (λ (l : List Flow). nothing (with_sending s l))
    (append_assoc front (g ∷ []) (map (losing moment resend) later)))
    (then_goes came s (nothing u)
    (λ t. nothing (with_sending t ((front ++ g ∷ []) ++ map (losing moment resend) later)))
    (act_goes came s (length front) (Loses moment resend) f
    (lost_late moment resend f.sender) [] there refl
    (steady_lost f.sender moment resend) tt refl)
    (lost_on came moment resend later (front ++ g ∷ []) u left))

late_by : (came : List Piece) (s : FlowsState) (moment resend : ℕ) (held : Bool) →
    Goes came s (nothing (cond held (with_sending s (map (losing moment resend) s.sending)) s))
late_by came s moment resend true = lost_on came moment resend s.sending [] s refl
late_by came s moment resend false = none_goes came s

pub losing_goes : LosingGoes
losing_goes came session s moment =
    late_by came s moment (resend_time session.trip) (is_held session.stage)

-- ---- the first message that is sent no longer

some_is : {x y : Flow} → ◌≡◌ {A = Option Flow} (Some x) (Some y) → y ≡ x
some_is e = cc

found_by : (p : Flow → Bool) (x f : Flow) (later : List Flow) (b : Bool) →
    (find p later ≡ Some f → IsIn f later) → cond b (Some x) (find p later) ≡ Some f →
    IsIn f (x ∷ later)
found_by p x f later true ih e = inl (some_is e)
found_by p x f later false ih e = inr (ih e)

found_in : (p : Flow → Bool) (fs : List Flow) (f : Flow) → find p fs ≡ Some f → IsIn f fs
found_in p [] f e = absurd cc
found_in p (x ∷ later) f e = found_by p x f later (p x) (found_in p later f) e

abandon_one : (came : List Piece) (s : FlowsState) (moment seq : ℕ) (f : Flow) →
    sending_at s f.id ≡ Some f → overdue moment f.sender ≡ Some seq →
    Goes came s (abandoning_by s f.id seq (Some f))
abandon_one came s moment seq f there is =
    let free : abandon_refused_by (Some f) seq ≡ None =
    subst (λ (o : Option Flow). abandon_refused_by o seq ≡ None) there
    (may_abandon s f.id moment seq f there is) in
    abandon_goes came s f.id seq f (AbandonsOverdue moment) there
    (ap (λ (o : Option ℕ). abandons_one (alone f.sender) o) is
    ∙ ap (λ (b : Bool). abandons (alone f.sender) seq b) (waits_if (waits f.sender seq) free))
    tt

overdue_seq : (came : List Piece) (s : FlowsState) (moment : ℕ) (f : Flow) (o : Option ℕ) →
    sending_at s f.id ≡ Some f → overdue moment f.sender ≡ o →
    Goes came s (overdue_done s (numbered f.id o))
overdue_seq came s moment f None there is = none_goes came s
overdue_seq came s moment f (Some seq) there is =
    same_goes came s _ _ (ap (λ (o : Option Flow). abandoning_by s f.id seq o) (sym there))
    (abandon_one came s moment seq f there is)

overdue_flow : (came : List Piece) (s : FlowsState) (moment : ℕ) (o : Option Flow) →
    AreNumbered 0 s.sending → find (has_overdue moment) s.sending ≡ o →
    Goes came s (overdue_done s (overdue_of moment o))
overdue_flow came s moment None ids is = none_goes came s
overdue_flow came s moment (Some f) ids is =
    let place = in_place 0 s.sending f ids (found_in (has_overdue moment) s.sending f is) in
    let at : f.id ≡ 0 + place.0 = place.1 in
    let same : place.0 ≡ f.id = omega arith in
    let there : sending_at s f.id ≡ Some f = ap (λ (n : ℕ). slice_get s.sending n) (sym same)
    ∙ place.2 in
    overdue_seq came s moment f (overdue moment f.sender) there refl

overdue_by : (came : List Piece) (s : FlowsState) (moment : ℕ) (held : Bool) →
    AreNumbered 0 s.sending → Goes came s (overdue_done s (cond held (first_overdue moment s) None))
overdue_by came s moment true ids =
    overdue_flow came s moment (find (has_overdue moment) s.sending) ids refl
overdue_by came s moment false ids = none_goes came s

pub overdue_goes : OverdueGoes
overdue_goes came session s moment fl h =
    overdue_by came s moment (is_held session.stage) h.sound.numbered fl h
