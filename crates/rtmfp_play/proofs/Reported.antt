-- What a line adds to the ends and to the journal, and that its text is the report of it.
use Rattle.std.proofs.Common.{◌≡◌, ℕ, zero, suc, ◌<◌, List, [], ◌∷◌, ◌++◌, map, length, slice_get, Option, Some, None, inl, inr, refl, sym, ap, ◌∙◌, append-nil, arith}
use Rattle.std.proofs.lemmas.List.{length-map, map-append}
use Rattle.std.proofs.lemmas.Option.{slice_get_past}
use Rattle.rtmfp_text.specs.declared.names.Named.{Named}
use Rattle.endpoint_model.specs.State.{State}
use Rattle.rendezvous_world.specs.declared.journal.JournalLine.{JournalLine}
use Rattle.rendezvous_world.specs.declared.step.Step.{Step}
use Rattle.rendezvous_world.specs.declared.step.Step.TheVariants.{End, At, Introduce, Narrow, Redirect, Open, Seek, Unseek, Cancel, Close, Flow, Queue, Abandon, Finish, Learn, Advance, Deliver, Bent, Inject, Forge, Tick}
use Rattle.rendezvous_world.specs.Inside.{named_of}
use Rattle.rendezvous_world.specs.Seen.{EndSeen, Seen}
use Rattle.rendezvous_world.specs.Sent.{sent_in}
use Rattle.rendezvous_world.specs.Stepping.{Called, Stepped, in_state, new_end, new_setup, with_state}
use Rattle.rendezvous_world.proofs.Ends.{at_suc, below_length}
use Rattle.end_places.specs.Seen.{PlacesSeen}
use Rattle.placed_world.specs.declared.step.LostLine.{LostLine}
use Rattle.placed_world.specs.Seen.{PlacedSeen}
use Rattle.placed_world.specs.Stepping.{Outcome, Refuses, Changes, Loses, Brings, Does, DoneAs, comes_to}
use Rattle.rtmfp_play.specs.Play.{names_of, report_since, told_lost, told_next, told_since}
use Rattle.rtmfp_play.specs.Laws.{Adds, EachLineIsTold, LosesNone}
use Rattle.rtmfp_play.proofs.Losing.{ComesTo, line_comes, skipped_none}

-- ---- small facts

-- an end keeps its name whatever state it comes to
names_stay : (ends : List EndSeen) (who : ℕ) (s : State) → map named_of (with_state ends who s) ≡ map named_of ends
names_stay [] who s = refl
names_stay (x ∷ ends) zero s = refl
names_stay (x ∷ ends) (suc who) s = ap (λ (l : List EndSeen). map named_of l) (at_suc who (in_state x s ∷ ends) (λ (k : ℕ). x ∷ with_state ends k s)) ∙ ap (λ (l : List Named). named_of x ∷ l) (names_stay ends who s)

behind : {A : Type 0} (xs : List A) (x : A) → slice_get (xs ++ x ∷ []) (length xs) ≡ Some x
behind [] x = refl
behind (y ∷ xs) x = behind xs x

-- ---- what a line adds

nothing_told : (w t : Seen) (text : List ℕ) → t.lines ≡ w.lines → text ≡ report_since w t → text ≡ []
nothing_told w t text same is =
    is ∙ ap (λ (o : Option JournalLine). told_next (names_of t) (length (sent_in w.lines)) o)
    (ap (λ (l : List JournalLine). slice_get l (length w.lines)) same ∙ slice_get_past w.lines (length w.lines) (omega arith))

called_adds : (w : PlacedSeen) (n : ℕ) (line : List ℕ) (step : Step) (new : JournalLine) (t : PlacedSeen) (text : List ℕ) → LosesNone w line → Called w.world n step new t.world → text ≡ report_since w.world t.world → Adds w n line t text
called_adds w n line step new t text none called is =
    let names : names_of t.world ≡ names_of w.world = ap (λ (l : List EndSeen). map named_of l) called.ends ∙ names_stay w.world.ends new.end called.state in
    let below : new.end < length w.world.ends = below_length w.world.ends new.end called.end called.is_end in
    record {
      ends = [];
      names = names ∙ sym (append-nil (names_of w.world));
      lines = inr (inl (record {
        none_lost = none;
        added = new;
        number = called.is_line.line;
        lines = called.lines;
        there = omega (arith, ap (λ (l : List Named). length l) names, length-map w.world.ends named_of, below);
        told = is ∙ ap (λ (o : Option JournalLine). told_next (names_of t.world) (length (sent_in w.world.lines)) o)
            (ap (λ (l : List JournalLine). slice_get l (length w.world.lines)) called.lines ∙ behind w.world.lines new);
      }));
    }

-- ends come or not, and the journal stays
quiet_adds : (w : PlacedSeen) (n : ℕ) (line : List ℕ) (ends : List Named) (t : PlacedSeen) (text : List ℕ) → LosesNone w line → names_of t.world ≡ names_of w.world ++ ends → t.world.lines ≡ w.world.lines → text ≡ report_since w.world t.world → Adds w n line t text
quiet_adds w n line ends t text none names lines is = record {
  ends = ends;
  names = names;
  lines = inl (record { none_lost = none; lines = lines; no_text = nothing_told w.world t.world text lines is });
}

stepped_adds : (w : PlacedSeen) (n : ℕ) (line : List ℕ) (step : Step) (t : PlacedSeen) (text : List ℕ) → LosesNone w line → Stepped w.world n step t.world → text ≡ report_since w.world t.world → Adds w n line t text
stepped_adds w n line (End name max_peers max_sessions cert) t text none h is =
    let new : EndSeen = new_end name (new_setup max_peers max_sessions cert) in
    quiet_adds w n line (named_of new ∷ []) t text none (ap names_of h ∙ map-append named_of w.world.ends (new ∷ [])) (ap (λ (x : Seen). x.lines) h) is
stepped_adds w n line (At moment) t text none h is = quiet_adds w n line [] t text none (ap names_of h ∙ sym (append-nil (names_of w.world))) (ap (λ (x : Seen). x.lines) h) is
stepped_adds w n line (Open end peer list) t text none h is = called_adds w n line (Open end peer list) h.0 t text none h.2 is
stepped_adds w n line (Seek end name list) t text none h is = called_adds w n line (Seek end name list) h.0 t text none h.2 is
stepped_adds w n line (Unseek end near) t text none h is = called_adds w n line (Unseek end near) h.0 t text none h.2 is
stepped_adds w n line (Cancel end number) t text none h is = called_adds w n line (Cancel end number) h.0 t text none h.2 is
stepped_adds w n line (Close end near) t text none h is = called_adds w n line (Close end near) h.0 t text none h.2 is
stepped_adds w n line (Flow end near priority metadata answers) t text none h is = called_adds w n line (Flow end near priority metadata answers) h.0 t text none h.2 is
stepped_adds w n line (Queue end near flow options message) t text none h is = called_adds w n line (Queue end near flow options message) h.0 t text none h.2 is
stepped_adds w n line (Abandon end near flow seq) t text none h is = called_adds w n line (Abandon end near flow seq) h.0 t text none h.2 is
stepped_adds w n line (Finish end near flow) t text none h is = called_adds w n line (Finish end near flow) h.0 t text none h.2 is
stepped_adds w n line (Introduce end) t text none h is = called_adds w n line (Introduce end) h.0 t text none h.2 is
stepped_adds w n line (Narrow end limit) t text none h is = called_adds w n line (Narrow end limit) h.0 t text none h.2 is
stepped_adds w n line (Learn end) t text none h is = called_adds w n line (Learn end) h.0 t text none h.2 is
stepped_adds w n line (Advance end) t text none h is = called_adds w n line (Advance end) h.0 t text none h.2 is
stepped_adds w n line (Redirect end peer list) t text none h is = called_adds w n line (Redirect end peer list) h.0 t text none h.2 is
stepped_adds w n line (Deliver sent end from) t text none h is = called_adds w n line (Deliver sent end from) h.0 t text none h.2 is
stepped_adds w n line (Bent sent place end from) t text none h is = called_adds w n line (Bent sent place end from) h.0 t text none h.2 is
stepped_adds w n line (Inject end from bytes) t text none h is = called_adds w n line (Inject end from bytes) h.0 t text none h.2 is
stepped_adds w n line (Forge end from plain) t text none h is = called_adds w n line (Forge end from plain) h.0 t text none h.2 is
stepped_adds w n line (Tick end) t text none h is = called_adds w n line (Tick end) h.0 t text none h.2 is

-- nothing is told of a datagram that isn't lost
not_lost : (w : PlacedSeen) (n : ℕ) (t : PlacedSeen) (lost : Option LostLine) (text : List ℕ) → lost ≡ None → text ≡ told_since w n t lost → text ≡ report_since w.world t.world
not_lost w n t lost text none is =
    is ∙ ap (λ (o : Option LostLine). report_since w.world t.world ++ told_lost (names_of t.world) n o) none ∙ append-nil (report_since w.world t.world)

-- what isn't a loss loses none
none_by : (w : PlacedSeen) (line : List ℕ) (o : Outcome) → ComesTo w line o → ((places : PlacesSeen) (told : LostLine) → o ≡ Loses places told → ⊥) → LosesNone w line
none_by w line o comes other told is = other is.places told (comes.where_lost told is)

changes_none : (new places : PlacesSeen) (told : LostLine) → Changes new ≡ Loses places told → ⊥
changes_none new places told e = cc

brings_none : (new : PlacesSeen) (step : Step) (places : PlacesSeen) (told : LostLine) → Brings new step ≡ Loses places told → ⊥
brings_none new step places told e = cc

does_none : (new : PlacesSeen) (step : Step) (places : PlacesSeen) (told : LostLine) → Does new step ≡ Loses places told → ⊥
does_none new step places told e = cc

placed_adds : (w : PlacedSeen) (n : ℕ) (line : List ℕ) (o : Outcome) (lost : Option LostLine) (t : PlacedSeen) (text : List ℕ) → ComesTo w line o → DoneAs w.world n o lost t → text ≡ told_since w n t lost → Adds w n line t text
placed_adds w n line (Refuses fault) lost t text comes h is = absurd h
placed_adds w n line (Changes places) lost t text comes h is =
    let same : t.world ≡ w.world = ap (λ (p : PlacedSeen). p.world) h.1 in
    quiet_adds w n line [] t text (none_by w line (Changes places) comes (changes_none places))
    (ap names_of same ∙ sym (append-nil (names_of w.world))) (ap (λ (x : Seen). x.lines) same) (not_lost w n t lost text h.0 is)
placed_adds w n line (Loses places told) lost t text comes h is =
    let same : t.world ≡ w.world = ap (λ (p : PlacedSeen). p.world) h.1 in
    let lines : t.world.lines ≡ w.world.lines = ap (λ (x : Seen). x.lines) same in
    let none : report_since w.world t.world ≡ [] = nothing_told w.world t.world (report_since w.world t.world) lines refl in
    record {
      ends = [];
      names = ap names_of same ∙ sym (append-nil (names_of w.world));
      lines = inr (inr (record {
        lost = told;
        is_lost = comes.is_lost places told refl;
        lines = lines;
        told = is ∙ ap (λ (o : Option LostLine). report_since w.world t.world ++ told_lost (names_of t.world) n o) h.0
            ∙ ap (λ (x : List ℕ). x ++ told_lost (names_of t.world) n (Some told)) none;
      }));
    }
placed_adds w n line (Brings places step) lost t text comes h is =
    stepped_adds w n line step t text (none_by w line (Brings places step) comes (brings_none places step)) h.1.1 (not_lost w n t lost text h.0 is)
placed_adds w n line (Does places step) lost t text comes h is =
    stepped_adds w n line step t text (none_by w line (Does places step) comes (does_none places step)) h.1.1 (not_lost w n t lost text h.0 is)

pub each_line_is_told : EachLineIsTold
each_line_is_told w n line t text (inl skipped) = record {
  ends = [];
  names = ap (λ (p : PlacedSeen). names_of p.world) skipped.same ∙ sym (append-nil (names_of w.world));
  lines = inl (record {
    none_lost = skipped_none w line skipped.skipped;
    lines = ap (λ (p : PlacedSeen). p.world.lines) skipped.same;
    no_text = skipped.no_text;
  });
}
each_line_is_told w n line t text (inr done) =
    placed_adds w n line (comes_to w done.step) done.lost t text (line_comes w line done.said done.step done.is_line done.is_step) done.stepped done.is_text
