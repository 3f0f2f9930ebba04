-- What a step adds to the history of a world, and that the moments of its ends are kept.
use Rattle.std.proofs.Common.{◌≡◌, ◌≢◌, ℕ, zero, suc, ◌+◌, ◌<◌, ◌≤◌, ◌==◌, Bool, true, false, not, if◌then◌else◌, List, [], ◌∷◌, ◌++◌, length, max, slice_get, Option, Some, None, Result, Ok, Err, IfOk, OnErr, inl, inr, ◌⊎◌, refl, sym, ap, ◌∙◌, subst, arith}
use Rattle.std.specs.Prelude.{slice_index, slice_set}
use Rattle.std.proofs.lemmas.List.{get_or-set_other, get_or-set_same, length-append, length-set}
use Rattle.std.proofs.lemmas.Option.{slice_get_past}
use Rattle.endpoint_model.specs.Event.{Event, Setup, moment_at, own_of}
use Rattle.endpoint_model.specs.State.{State, at_moment}
use Rattle.endpoint_laws.specs.History.{Happened, History, log_of}
use Rattle.endpoint_laws.specs.Past.{last_moment}
use Rattle.translators.specs.Translator.{new_translator}
use Rattle.end_places.specs.declared.carried.Carried.{Carried}
use Rattle.end_places.specs.declared.carried.Carried.TheVariants.{Arrives, Lost as IsLost}
use Rattle.end_places.specs.Carrying.{carried_of, after_carry}
use Rattle.end_places.specs.Seen.{PlacesSeen, is_bad_place, is_bad_translator, with_place, with_translator}
use Rattle.rendezvous_world.specs.declared.journal.JournalLine.{JournalLine}
use Rattle.rendezvous_world.specs.declared.step.Step.{Step}
use Rattle.rendezvous_world.specs.declared.step.StepFault.{StepFault}
use Rattle.rendezvous_world.specs.declared.step.StepFault.TheVariants.{BadStep, NoEnd}
use Rattle.rendezvous_world.specs.Datagrams.{nth}
use Rattle.rendezvous_world.specs.Deed.{Deed, NewEnd, NewMoment, Calls, Brings as BringsTo, deed_of}
use Rattle.rendezvous_world.specs.Faults.{is_missing}
use Rattle.rendezvous_world.specs.History.{after_lines, answer_of, bytes_or_none, call_by, event_of, given_by, happened, history_of, moment_given, peer_of}
use Rattle.rendezvous_world.specs.Seen.{EndSeen, Seen, setup_at}
use Rattle.rendezvous_world.specs.Sent.{Sent, sent_in}
use Rattle.rendezvous_world.specs.Stepping.{Called, Noted, SteppedAs, called_by, new_end, new_setup, with_end, with_moment, with_state}
use Rattle.rendezvous_world.proofs.Ends.{below_length, length-more, length-with_state, setups_stay, tested}
use Rattle.rendezvous_world.proofs.Told.{log_other, log_same, one_more_line}
use Rattle.placed_world.specs.declared.step.PlacedStep.{PlacedStep}
use Rattle.placed_world.specs.declared.step.PlacedStep.TheVariants.{Translator, Place, Carry, World}
use Rattle.placed_world.specs.declared.step.LostLine.{LostLine}
use Rattle.placed_world.specs.Seen.{PlacedSeen}
use Rattle.placed_world.specs.Stepping.{Changes, Outcome, Refuses, SteppedFlat, Undone, UndoneFlat, carried_to, carry_by, flat, step_in}
use Rattle.rtmfp_play.specs.Journaled.{IsInTime, IsTimely, has_begun}
use Rattle.rtmfp_play.specs.Moments.{AreMomentsOf, moment_of, raised}

-- ---- small facts

pub behind : {A : Type 0} (xs : List A) (x : A) → slice_get (xs ++ x ∷ []) (length xs) ≡ Some x
behind [] x = refl
behind (y ∷ xs) x = behind xs x

last_more : (log : List Event) (last : ℕ) (e : Event) → last_moment last (log ++ e ∷ []) ≡ moment_at (last_moment last log) e
last_more [] last e = refl
last_more (first ∷ log) last e = last_more log (moment_at last first) e

-- the last moment of the end of an event more
pub moment_more : (h : Happened) (earlier : History) → last_moment 0 (log_of h.who (h ∷ earlier)) ≡ moment_at (last_moment 0 (log_of h.who earlier)) h.event
moment_more h earlier = ap (λ (log : List Event). last_moment 0 log) (log_same h.who h earlier refl) ∙ last_more (log_of h.who earlier) 0 h.event

begun_after : (ends : List EndSeen) (lines : List JournalLine) (h : Happened) (earlier : History) → has_begun (after_lines ends lines (h ∷ earlier)) ≡ true
begun_after ends [] h earlier = refl
begun_after ends (line ∷ lines) h earlier = begun_after ends lines (happened ends line) (h ∷ earlier)

-- an event began where the journal has a line, and nowhere else
pub begun_is : (ends : List EndSeen) (lines : List JournalLine) (test : Bool) → test ≡ (length lines == 0) → not test ≡ has_begun (after_lines ends lines [])
begun_is ends [] test is = elim (tested 0 0) [
  | inl hit ↦ ap not (is ∙ hit.1)
  | inr miss ↦ absurd (miss.0 refl)
]
begun_is ends (line ∷ lines) test is = elim (tested (suc (length lines)) 0) [
  | inl hit ↦ absurd (omega (arith, hit.0))
  | inr miss ↦ ap not (is ∙ miss.1) ∙ sym (begun_after ends lines (happened ends line) [])
]

no_lines : (ends : List EndSeen) (lines : List JournalLine) → after_lines ends lines [] ≡ [] → lines ≡ []
no_lines ends [] e = refl
no_lines ends (line ∷ lines) e = let both : true ≡ false = sym (begun_after ends lines (happened ends line) []) ∙ ap has_begun e in absurd (cc)

-- ---- ends that were given the same tell the same

same_event : (ends later : List EndSeen) → ((who : ℕ) → setup_at later who ≡ setup_at ends who) → (line : JournalLine) → event_of later line ≡ event_of ends line
same_event ends later same line =
    ap (λ (setup : Setup). record {
      moment = moment_given line.moment (deed_of line.step);
      call = call_by (given_by (own_of setup) line.generation (deed_of line.step)) line.line (bytes_or_none line.datagram) (deed_of line.step);
      answer = answer_of line.step line.refused line.stopped line.out.entries;
      entries = line.out.entries;
    }) (same (peer_of (deed_of line.step)))

same_history : (ends later : List EndSeen) → ((who : ℕ) → setup_at later who ≡ setup_at ends who) → (lines : List JournalLine) (earlier : History) → after_lines later lines earlier ≡ after_lines ends lines earlier
same_history ends later same [] earlier = refl
same_history ends later same (line ∷ lines) earlier =
    same_history ends later same lines (happened later line ∷ earlier)
    ∙ ap (λ (e : Event). after_lines ends lines (record { who = line.end; event = e } ∷ earlier)) (same_event ends later same line)

-- ---- what a step of the world adds

-- nothing happened: an end came before any event, or one keeps something else, or all are as they were
pub record Quiet (w t : Seen) : Type 0 where
  pub history : history_of t ≡ history_of w
  pub lines : t.lines ≡ w.lines
  pub few : length t.ends ≤ length w.ends + 1
  pub ends : (history_of w ≡ []) ⊎ (((who : ℕ) × (state : State) × (t.ends ≡ with_state w.ends who state)) ⊎ (t.ends ≡ w.ends))

-- one event happened, whose end was given this moment
pub record Grown (w t : Seen) (given : ℕ) : Type 0 where
  pub line : JournalLine
  pub lines : t.lines ≡ w.lines ++ line ∷ []
  pub state : State
  pub ends : t.ends ≡ with_state w.ends line.end state
  pub there : line.end < length w.ends
  pub history : history_of t ≡ happened t.ends line ∷ history_of w
  pub moment : (event_of t.ends line).moment ≡ given

abbrev pub Goes : Seen → Seen → ℕ → Type 0
Goes w t given = Quiet w t ⊎ Grown w t given

stays_given : (w t : Seen) (who : ℕ) (state : State) → t.ends ≡ with_state w.ends who state → (other : ℕ) → setup_at t.ends other ≡ setup_at w.ends other
stays_given w t who state is other = ap (λ (ends : List EndSeen). setup_at ends other) is ∙ setups_stay w.ends who state other

grown : (w : Seen) (n : ℕ) (step : Step) (line : JournalLine) (t : Seen) → Called w n step line t → Grown w t (moment_given w.moment (deed_of step))
grown w n step line t called = record {
  line = line;
  lines = called.lines;
  state = called.state;
  ends = called.ends;
  there = below_length w.ends line.end called.end called.is_end;
  history = ap (λ (lines : List JournalLine). after_lines t.ends lines []) called.lines
      ∙ one_more_line t.ends w.lines line []
      ∙ ap (λ (earlier : History). happened t.ends line ∷ earlier) (same_history w.ends t.ends (stays_given w t line.end called.state called.ends) w.lines []);
  moment = ap (λ (m : ℕ). moment_given m (deed_of line.step)) called.is_line.moment
      ∙ ap (λ (s : Step). moment_given w.moment (deed_of s)) called.is_line.step;
}

same_quiet : (w t : Seen) → t ≡ w → Quiet w t
same_quiet w t is = record {
  history = ap history_of is;
  lines = ap (λ (x : Seen). x.lines) is;
  few = (let e : length t.ends ≡ length w.ends = ap (λ (x : Seen). length x.ends) is in omega arith);
  ends = inr (inr (ap (λ (x : Seen). x.ends) is));
}

noted_quiet : (w : Seen) (step : Step) (t : Seen) → Noted w step t → Quiet w t
noted_quiet w step t noted =
    let state : State = at_moment noted.end.state w.moment in
    let long : length t.ends ≡ length w.ends = ap (λ (ends : List EndSeen). length ends) noted.ends ∙ length-with_state w.ends (called_by step) state in
    record {
      history = ap (λ (lines : List JournalLine). after_lines t.ends lines []) noted.lines
          ∙ same_history w.ends t.ends (stays_given w t (called_by step) state noted.ends) w.lines [];
      lines = noted.lines;
      few = omega arith;
      ends = inr (inl (called_by step, state, noted.ends));
    }

end_quiet : (w : Seen) (new : EndSeen) (t : Seen) → history_of w ≡ [] → t ≡ with_end w new → Quiet w t
end_quiet w new t none is =
    let long : length t.ends ≡ length w.ends + 1 = ap (λ (x : Seen). length x.ends) is ∙ length-more w.ends new in
    record {
      history = ap history_of is ∙ ap (λ (lines : List JournalLine). after_lines (w.ends ++ new ∷ []) lines []) (no_lines w.ends w.lines none) ∙ sym none;
      lines = ap (λ (x : Seen). x.lines) is;
      few = omega arith;
      ends = inl none;
    }

moment_quiet : (w : Seen) (moment : ℕ) (t : Seen) → t ≡ with_moment w moment → Quiet w t
moment_quiet w moment t is =
    let same : t.ends ≡ w.ends = ap (λ (x : Seen). x.ends) is in
    let long : length t.ends ≡ length w.ends = ap (λ (ends : List EndSeen). length ends) same in
    record { history = ap history_of is; lines = ap (λ (x : Seen). x.lines) is; few = omega arith; ends = inr (inr same) }

stepped_goes : (w : Seen) (n : ℕ) (step : Step) (deed : Deed) (t : Seen) → IsTimely (history_of w) deed → SteppedAs w n step deed t → Goes w t (moment_given w.moment (deed_of step))
stepped_goes w n step (NewEnd name max_peers max_sessions cert) t timely h = inl (end_quiet w (new_end name (new_setup max_peers max_sessions cert)) t timely h)
stepped_goes w n step (NewMoment moment) t timely h = inl (moment_quiet w moment t h)
stepped_goes w n step (Calls end call) t timely h = inr (grown w n step h.0 t h.2)
stepped_goes w n step (BringsTo end from source) t timely h = inr (grown w n step h.0 t h.2)

-- The step of its own that the world takes, if it is one, is in time, and its call is given this moment.
abbrev pub Fits : Seen → Option Step → ℕ → Type 0
Fits w None given = Unit {0}
Fits w (Some step) given = IsTimely (history_of w) (deed_of step) × (moment_given w.moment (deed_of step) ≡ given)

pub flat_goes : (w : Seen) (n : ℕ) (o : Option Step) (given : ℕ) (t : Seen) → Fits w o given → SteppedFlat w n o t → Goes w t given
flat_goes w n None given t fits is = inl (same_quiet w t is)
flat_goes w n (Some step) given t fits h = subst (λ (m : ℕ). Goes w t m) fits.1 (stepped_goes w n step (deed_of step) t fits.0 h)

pub undone_goes : (w : Seen) (n : ℕ) (o : Option Step) (given : ℕ) (t : Seen) → Fits w o given → UndoneFlat w n o t → Goes w t given
undone_goes w n None given t fits is = inl (same_quiet w t is)
undone_goes w n (Some step) given t fits (inl is) = inl (same_quiet w t is)
undone_goes w n (Some step) given t fits (inr (inl stopped)) = subst (λ (m : ℕ). Goes w t m) fits.1 (inr (grown w n step stopped.line t stopped.called))
undone_goes w n (Some step) given t fits (inr (inr noted)) = inl (noted_quiet w step t noted)

-- ---- a step of a placed world

refused_or_fits : (w : Seen) (given : ℕ) (b : Bool) (fault : StepFault) (o : Outcome) → Fits w (step_in o) given → Fits w (step_in (if b then Refuses fault else o)) given
refused_or_fits w given true fault o fits = tt
refused_or_fits w given false fault o fits = fits

carried_fits : (w : Seen) (number by : ℕ) (places : PlacesSeen) (o : Option Carried) → Fits w (step_in (carried_to number by places o)) w.moment
carried_fits w number by places None = tt
carried_fits w number by places (Some (IsLost lost)) = tt
carried_fits w number by places (Some (Arrives end from)) = (tt, refl)

carry_fits : (w : Seen) (places : PlacesSeen) (number : ℕ) (o : Option Sent) → Fits w (step_in (carry_by places number o)) w.moment
carry_fits w places number None = tt
carry_fits w places number (Some sent) = carried_fits w number sent.by (after_carry places sent.by sent.to) (carried_of places sent.by sent.to)

pub step_fits : (p : PlacedSeen) (step : PlacedStep) → IsInTime p step → Fits p.world (flat p step) (moment_of p.world.moment step)
step_fits p (Translator name mapping filter host first) timely =
    refused_or_fits p.world p.world.moment (is_bad_translator p.places name host first) BadStep (Changes (with_translator p.places name (new_translator mapping filter host first))) tt
step_fits p (Place end at behind) timely =
    let bad : Bool = is_bad_place p.places end at behind in
    let new : Outcome = Changes (with_place p.places end at behind) in
    refused_or_fits p.world p.world.moment (is_missing p.world end) NoEnd (if bad then Refuses BadStep else new) (refused_or_fits p.world p.world.moment bad BadStep new tt)
step_fits p (Carry number) timely = carry_fits p.world p.places number (nth (sent_in p.world.lines) number)
step_fits p (World step) timely = (timely, refl)

-- whether it was done or not
pub step_goes : (p : PlacedSeen) (n : ℕ) (step : PlacedStep) (r : Result (Option LostLine) StepFault) (t : PlacedSeen) → IsInTime p step → IfOk r (λ lost. SteppedFlat p.world n (flat p step) t.world) → OnErr r (Undone p n step t) →
    Goes p.world t.world (moment_of p.world.moment step)
step_goes p n step (Ok lost) t timely done undone = flat_goes p.world n (flat p step) (moment_of p.world.moment step) t.world (step_fits p step timely) done
step_goes p n step (Err fault) t timely done undone = undone_goes p.world n (flat p step) (moment_of p.world.moment step) t.world (step_fits p step timely) undone.world

-- ---- moments

quiet_moments : (w t : Seen) (given : ℕ) (moments : List ℕ) → AreMomentsOf moments w → length w.ends < length moments → Quiet w t → AreMomentsOf (raised moments given (slice_get t.lines (length w.lines))) t
quiet_moments w t given moments are room quiet =
    let none : slice_get t.lines (length w.lines) ≡ None = ap (λ (lines : List JournalLine). slice_get lines (length w.lines)) quiet.lines ∙ slice_get_past w.lines (length w.lines) (omega arith) in
    let few : length t.ends ≤ length w.ends + 1 = quiet.few in
    let same : AreMomentsOf moments t = record {
      enough = omega arith;
      each = λ who. are.each who ∙ ap (λ (h : History). last_moment 0 (log_of who h)) (sym quiet.history);
    } in
    subst (λ (o : Option JournalLine). AreMomentsOf (raised moments given o) t) (sym none) same

module _ (w t : Seen) (given : ℕ) (moments : List ℕ) (are : AreMomentsOf moments w) (room : length w.ends < length moments) (g : Grown w t given) where
  abbrev here : ℕ
  here = g.line.end

  abbrev new : Happened
  new = happened t.ends g.line

  abbrev most : ℕ
  most = max (slice_index moments here) given

  inside : here < length moments
  inside = let lt : g.line.end < length w.ends = g.there in omega arith

  most_is : most ≡ last_moment 0 (log_of here (history_of t))
  most_is =
      ap (λ (m : ℕ). max m given) (are.each here)
      ∙ ap (λ (m : ℕ). max (last_moment 0 (log_of here (history_of w))) m) (sym g.moment)
      ∙ sym (moment_more new (history_of w))
      ∙ ap (λ (h : History). last_moment 0 (log_of here h)) (sym g.history)

  each_one : (who : ℕ) → ((here ≡ who) × ((here == who) ≡ true)) ⊎ ((here ≢ who) × ((here == who) ≡ false)) → slice_index (slice_set moments here most) who ≡ last_moment 0 (log_of who (history_of t))
  each_one who (inl same) =
      subst (λ (k : ℕ). slice_index (slice_set moments here most) k ≡ last_moment 0 (log_of k (history_of t))) same.0
      (get_or-set_same moments here most 0 inside ∙ most_is)
  each_one who (inr other) =
      get_or-set_other moments here who most 0 (λ is. other.0 (sym is))
      ∙ are.each who
      ∙ ap (λ (log : List Event). last_moment 0 log) (sym (log_other who new (history_of w) other.0))
      ∙ ap (λ (h : History). last_moment 0 (log_of who h)) (sym g.history)

  grown_moments : AreMomentsOf (raised moments given (slice_get t.lines (length w.lines))) t
  grown_moments =
      let there : slice_get t.lines (length w.lines) ≡ Some g.line = ap (λ (lines : List JournalLine). slice_get lines (length w.lines)) g.lines ∙ behind w.lines g.line in
      let long : length t.ends ≡ length w.ends = ap (λ (ends : List EndSeen). length ends) g.ends ∙ length-with_state w.ends here g.state in
      let many : length (slice_set moments here most) ≡ length moments = length-set moments here most in
      let now : AreMomentsOf (slice_set moments here most) t = record { enough = omega arith; each = λ who. each_one who (tested here who) } in
      subst (λ (o : Option JournalLine). AreMomentsOf (raised moments given o) t) (sym there) now

pub moments_kept : (w t : Seen) (given : ℕ) (moments : List ℕ) → AreMomentsOf moments w → length w.ends < length moments → Goes w t given → AreMomentsOf (raised moments given (slice_get t.lines (length w.lines))) t
moments_kept w t given moments are room (inl quiet) = quiet_moments w t given moments are room quiet
moments_kept w t given moments are room (inr g) = grown_moments w t given moments are room g

-- what is kept of the moments over a step
pub taken_moments : (w : PlacedSeen) (n : ℕ) (step : PlacedStep) (r : Result (Option LostLine) StepFault) (t : PlacedSeen) (moments new : List ℕ) (ends at given : ℕ) (lines : List JournalLine) → AreMomentsOf moments w.world →
    ends ≡ length w.world.ends → ends < length moments → IsInTime w step → given ≡ moment_of w.world.moment step → at ≡ length w.world.lines → lines ≡ t.world.lines →
    IfOk r (λ lost. SteppedFlat w.world n (flat w step) t.world) → OnErr r (Undone w n step t) → new ≡ raised moments given (slice_get lines at) → AreMomentsOf new t.world
taken_moments w n step r t moments new ends at given lines are ends_is room timely given_is at_is lines_is done undone new_is =
    let most : ℕ = moment_of w.world.moment step in
    let is : new ≡ raised moments most (slice_get t.world.lines (length w.world.lines)) =
    new_is
    ∙ ap (λ (m : ℕ). raised moments m (slice_get lines at)) given_is
    ∙ ap (λ (k : ℕ). raised moments most (slice_get lines k)) at_is
    ∙ ap (λ (l : List JournalLine). raised moments most (slice_get l (length w.world.lines))) lines_is in
    subst (λ (xs : List ℕ). AreMomentsOf xs t.world) (sym is) (moments_kept w.world t.world most moments are (subst (λ (k : ℕ). k < length moments) ends_is room) (step_goes w n step r t timely done undone))
