-- What a step adds to the text of the logs.
use Rattle.std.proofs.Common.{◌≡◌, ℕ, zero, suc, ◌+◌, Bool, List, [], ◌∷◌, ◌++◌, length, map, slice_get, Option, Some, None, Result, Ok, Err, OnOk, inl, inr, ◌⊎◌, refl, sym, ap, ◌∙◌, append_assoc, append-nil, arith}
use Rattle.std.specs.declared.alloc.AllocError.{AllocError}
use Rattle.std.proofs.lemmas.Option.{slice_get_past}
use Rattle.rtmfp_text.specs.declared.names.Named.{Named}
use Rattle.std.specs.Prelude.{slice_index}
use Rattle.endpoint_model.specs.Event.{Setup, moment_at}
use Rattle.endpoint_model.specs.State.{State}
use Rattle.endpoint_laws.specs.History.{Happened, History, log_of}
use Rattle.endpoint_laws.specs.Past.{last_moment}
use Rattle.audit_text.specs.declared.line.LogLine.{LogLine}
use Rattle.log_writing.specs.Written.{event_lines, head_line, head_lines, journal_lines, journal_text, text_of}
use Rattle.log_writing.proofs.Lines.{event_more}
use Rattle.rendezvous_world.specs.declared.journal.JournalLine.{JournalLine}
use Rattle.rendezvous_world.specs.History.{event_of, happened, history_of}
use Rattle.rendezvous_world.specs.Inside.{named_of}
use Rattle.rendezvous_world.specs.Seen.{EndSeen, Seen}
use Rattle.rendezvous_world.specs.Stepping.{in_state, with_state}
use Rattle.rendezvous_world.proofs.Ends.{at_suc}
use Rattle.world_logs.specs.Heads.{heads_of, name_at, setups_of}
use Rattle.world_logs.proofs.HeadsTold.{all_heads}
use Rattle.rtmfp_play.specs.Journaled.{event_text, has_begun, heads_unless, next_text}
use Rattle.rtmfp_play.specs.Journaling.{end_text, logs_text, text_if, text_unless, written_so_far}
use Rattle.rtmfp_play.specs.Laws.{WhatIsWrittenIsTheLogs}
use Rattle.rtmfp_play.specs.Moments.{AreMomentsOf}
use Rattle.rtmfp_play.specs.Play.{name_at as name_among}
use Rattle.rtmfp_play.proofs.Happening.{Goes, Grown, Quiet, behind, moment_more}

-- ---- names and what was given first

name_same : (ends : List EndSeen) (who : ℕ) → name_among (map named_of ends) who ≡ name_at ends who
name_same [] who = refl
name_same (end ∷ ends) zero = refl
name_same (end ∷ ends) (suc who) = name_same ends who

name_stays : (ends : List EndSeen) (k : ℕ) (s : State) (who : ℕ) → name_at (with_state ends k s) who ≡ name_at ends who
name_stays [] k s who = refl
name_stays (x ∷ ends) zero s zero = refl
name_stays (x ∷ ends) zero s (suc who) = refl
name_stays (x ∷ ends) (suc k) s zero = ap (λ (l : List EndSeen). name_at l zero) (at_suc k (in_state x s ∷ ends) (λ (n : ℕ). x ∷ with_state ends n s))
name_stays (x ∷ ends) (suc k) s (suc who) =
    ap (λ (l : List EndSeen). name_at l (suc who)) (at_suc k (in_state x s ∷ ends) (λ (n : ℕ). x ∷ with_state ends n s)) ∙ name_stays ends k s who

given_stays : (ends : List EndSeen) (k : ℕ) (s : State) → setups_of (with_state ends k s) ≡ setups_of ends
given_stays [] k s = refl
given_stays (x ∷ ends) zero s = refl
given_stays (x ∷ ends) (suc k) s =
    ap setups_of (at_suc k (in_state x s ∷ ends) (λ (n : ℕ). x ∷ with_state ends n s)) ∙ ap (λ (l : List Setup). x.setup ∷ l) (given_stays ends k s)

-- ---- the text by other names that are the same

heads_same : (names more : ℕ → List ℕ) → ((k : ℕ) → more k ≡ names k) → (k : ℕ) (setups : List Setup) → head_lines more k setups ≡ head_lines names k setups
heads_same names more same k [] = refl
heads_same names more same k (setup ∷ setups) =
    ap (λ (name : List ℕ). head_line name setup ∷ head_lines more (k + 1) setups) (same k)
    ∙ ap (λ (lines : List LogLine). head_line (names k) setup ∷ lines) (heads_same names more same (k + 1) setups)

events_same : (names more : ℕ → List ℕ) → ((k : ℕ) → more k ≡ names k) → (history : History) → journal_lines more history ≡ journal_lines names history
events_same names more same [] = refl
events_same names more same (h ∷ earlier) =
    let moment : ℕ = moment_at (last_moment 0 (log_of h.who earlier)) h.event in
    ap (λ (lines : List LogLine). lines ++ event_lines (more h.who) moment h.event) (events_same names more same earlier)
    ∙ ap (λ (name : List ℕ). journal_lines names earlier ++ event_lines name moment h.event) (same h.who)

-- the text of a history, by ends of which one keeps something else
text_stays : (ends later : List EndSeen) (k : ℕ) (s : State) (history : History) → later ≡ with_state ends k s → journal_text (name_at later) (setups_of later) history ≡ journal_text (name_at ends) (setups_of ends) history
text_stays ends later k s history is =
    let names : (who : ℕ) → name_at later who ≡ name_at ends who = λ who. ap (λ (l : List EndSeen). name_at l who) is ∙ name_stays ends k s who in
    ap (λ (setups : List Setup). journal_text (name_at later) setups history) (ap setups_of is ∙ given_stays ends k s)
    ∙ ap (λ (lines : List LogLine). text_of lines ++ text_of (journal_lines (name_at later) history)) (heads_same (name_at ends) (name_at later) names 0 (setups_of ends))
    ∙ ap (λ (lines : List LogLine). text_of (head_lines (name_at ends) 0 (setups_of ends)) ++ text_of lines) (events_same (name_at ends) (name_at later) names history)

-- ---- what is written so far

abbrev text_by : List EndSeen → History → List ℕ
text_by ends history = journal_text (name_at ends) (setups_of ends) history

heads_are : (ends : List EndSeen) → text_by ends [] ≡ text_of (heads_of ends)
heads_are ends = append-nil (text_of (head_lines (name_at ends) 0 (setups_of ends))) ∙ ap text_of (all_heads ends)

-- nothing happened
quiet_written : (w t : Seen) → Quiet w t → written_so_far t ≡ written_so_far w
quiet_written w t quiet = ap (λ (h : History). text_if h (logs_text t)) quiet.history ∙ by_ends quiet.ends
  where
    by_ends : (history_of w ≡ []) ⊎ (((who : ℕ) × (state : State) × (t.ends ≡ with_state w.ends who state)) ⊎ (t.ends ≡ w.ends)) → text_if (history_of w) (logs_text t) ≡ written_so_far w
    by_ends (inl none) = ap (λ (h : History). text_if h (logs_text t)) none ∙ sym (ap (λ (h : History). text_if h (logs_text w)) none)
    by_ends (inr (inl changed)) =
        ap (λ (x : List ℕ). text_if (history_of w) x) (ap (λ (h : History). text_by t.ends h) quiet.history ∙ text_stays w.ends t.ends changed.0 changed.1 (history_of w) changed.2)
    by_ends (inr (inr same)) =
        ap (λ (x : List ℕ). text_if (history_of w) x) (ap (λ (h : History). text_by t.ends h) quiet.history ∙ ap (λ (ends : List EndSeen). text_by ends (history_of w)) same)

-- the first event comes after what ends were given first
first_or_more : (ends : List EndSeen) (history : History) (x event : List ℕ) → text_by ends history ≡ x → text_by ends history ++ event ≡ text_if history x ++ (heads_unless (has_begun history) ends ++ event)
first_or_more ends [] x event is = ap (λ (y : List ℕ). y ++ event) (heads_are ends)
first_or_more ends (h ∷ earlier) x event is = ap (λ (y : List ℕ). y ++ event) is

grown_written : (w t : Seen) (given : ℕ) (moments : List ℕ) → AreMomentsOf moments t → (g : Grown w t given) → written_so_far t ≡ written_so_far w ++ event_text (has_begun (history_of w)) t.ends moments g.line
grown_written w t given moments are g =
    let who : ℕ = g.line.end in
    let new : Happened = happened t.ends g.line in
    let earlier : History = history_of w in
    let moment : moment_at (last_moment 0 (log_of who earlier)) new.event ≡ slice_index moments who =
    sym (moment_more new earlier) ∙ ap (λ (h : History). last_moment 0 (log_of who h)) (sym g.history) ∙ sym (are.each who) in
    ap (λ (h : History). text_if h (text_by t.ends h)) g.history
    ∙ event_more (name_at t.ends) (setups_of t.ends) new earlier
    ∙ ap (λ (m : ℕ). text_by t.ends earlier ++ text_of (event_lines (name_at t.ends who) m new.event)) moment
    ∙ first_or_more t.ends earlier (logs_text w) (text_of (event_lines (name_at t.ends who) (slice_index moments who) new.event)) (text_stays w.ends t.ends who g.state earlier g.ends)

next_written : (w t : Seen) (given : ℕ) (moments : List ℕ) → AreMomentsOf moments t → Goes w t given → written_so_far t ≡ written_so_far w ++ next_text (has_begun (history_of w)) t.ends moments (slice_get t.lines (length w.lines))
next_written w t given moments are (inl quiet) =
    let none : slice_get t.lines (length w.lines) ≡ None = ap (λ (lines : List JournalLine). slice_get lines (length w.lines)) quiet.lines ∙ slice_get_past w.lines (length w.lines) (omega arith) in
    quiet_written w t quiet
    ∙ sym (append-nil (written_so_far w))
    ∙ ap (λ (o : Option JournalLine). written_so_far w ++ next_text (has_begun (history_of w)) t.ends moments o) (sym none)
next_written w t given moments are (inr g) =
    let there : slice_get t.lines (length w.lines) ≡ Some g.line = ap (λ (lines : List JournalLine). slice_get lines (length w.lines)) g.lines ∙ behind w.lines g.line in
    grown_written w t given moments are g
    ∙ ap (λ (o : Option JournalLine). written_so_far w ++ next_text (has_begun (history_of w)) t.ends moments o) (sym there)

-- what was added is what is written more
pub written_more : (w t after : Seen) (given at : ℕ) (begun : Bool) (moments old new : List ℕ) → AreMomentsOf moments t → Goes w t given → after ≡ t → begun ≡ has_begun (history_of w) → at ≡ length w.lines →
    new ≡ old ++ next_text begun after.ends moments (slice_get after.lines at) → (text : List ℕ) × (new ≡ old ++ text) × (written_so_far t ≡ written_so_far w ++ text)
written_more w t after given at begun moments old new are goes after_is begun_is at_is is = (
  next_text begun after.ends moments (slice_get after.lines at),
  is,
  next_written w t given moments are goes
      ∙ ap (λ (b : Bool). written_so_far w ++ next_text b t.ends moments (slice_get t.lines (length w.lines))) (sym begun_is)
      ∙ ap (λ (k : ℕ). written_so_far w ++ next_text begun t.ends moments (slice_get t.lines k)) (sym at_is)
      ∙ ap (λ (x : Seen). written_so_far w ++ next_text begun x.ends moments (slice_get x.lines at)) (sym after_is),
)

-- the lines of the event of a line, behind those of what ends were given first
pub event_added : (r : Result (Unit {0}) AllocError) (begun : Bool) (ends : List EndSeen) (named : List Named) (moments : List ℕ) (line : JournalLine) (old mid new name : List ℕ) (end moment : ℕ) → mid ≡ old ++ heads_unless begun ends →
    named ≡ map named_of ends → end ≡ line.end → name ≡ name_among named end → moment ≡ slice_index moments end → OnOk r (new ≡ mid ++ text_of (event_lines name moment (event_of ends line))) → OnOk r (new ≡ old ++ event_text begun ends moments line)
event_added (Ok unit) begun ends named moments line old mid new name end moment mid_is named_is end_is name_is moment_is is =
    let called : name ≡ name_at ends line.end =
    name_is ∙ ap (λ (l : List Named). name_among l end) named_is ∙ name_same ends end ∙ ap (name_at ends) end_is in
    let given : moment ≡ slice_index moments line.end = moment_is ∙ ap (λ (k : ℕ). slice_index moments k) end_is in
    is
    ∙ ap (λ (x : List ℕ). x ++ text_of (event_lines name moment (event_of ends line))) mid_is
    ∙ append_assoc old (heads_unless begun ends) (text_of (event_lines name moment (event_of ends line)))
    ∙ ap (λ (x : List ℕ). old ++ (heads_unless begun ends ++ text_of (event_lines x moment (event_of ends line)))) called
    ∙ ap (λ (m : ℕ). old ++ (heads_unless begun ends ++ text_of (event_lines (name_at ends line.end) m (event_of ends line)))) given
event_added (Err error) begun ends named moments line old mid new name end moment mid_is named_is end_is name_is moment_is is = tt

-- ---- the end of a script

rest_by : (ends : List EndSeen) (history : History) → heads_unless (has_begun history) ends ≡ text_unless history (text_by ends history)
rest_by ends [] = sym (heads_are ends)
rest_by ends (h ∷ earlier) = refl

pub rest_added : (r : Result (Unit {0}) AllocError) (w before : Seen) (begun : Bool) (old new : List ℕ) → before ≡ w → begun ≡ has_begun (history_of before) → OnOk r (new ≡ old ++ heads_unless begun before.ends) → OnOk r (new ≡ old ++ end_text w)
rest_added (Ok unit) w before begun old new same begun_is is =
    is
    ∙ ap (λ (b : Bool). old ++ heads_unless b before.ends) begun_is
    ∙ ap (λ (x : Seen). old ++ heads_unless (has_begun (history_of x)) x.ends) same
    ∙ ap (λ (x : List ℕ). old ++ x) (rest_by w.ends (history_of w))
rest_added (Err error) w before begun old new same begun_is is = tt

both_are : (history : History) (x : List ℕ) → text_if history x ++ text_unless history x ≡ x
both_are [] x = refl
both_are (h ∷ earlier) x = append-nil x

pub what_is_written_is_the_logs : WhatIsWrittenIsTheLogs
what_is_written_is_the_logs w = both_are (history_of w) (logs_text w)
