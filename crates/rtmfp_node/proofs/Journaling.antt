-- What a run writes that keeps a journal.
use Rattle.std.proofs.Common.{◌≡◌, ℕ, zero, suc, ◌+◌, true, false, List, [], ◌∷◌, ◌++◌, refl, sym, ap, ◌∙◌, append_assoc, append-nil, subst, Option, Some, codes}
use Rattle.endpoint_model.specs.Event.{Answer, Began, Searching, Done, Succeeds, NotOpened, NotSought, Refused, NotAdded, Stopped, OutOfMemory, Event, moment_at}
use Rattle.endpoint_laws.specs.Past.{last_moment}
use Rattle.endpoint_laws.specs.Contexts.{Secrets}
use Rattle.endpoint_laws.specs.History.{History, log_of}
use Rattle.audit_text.specs.declared.line.LogLine.{LogLine}
use Rattle.audit_text.specs.Grammar.{line_text}
use Rattle.log_writing.specs.Written.{event_lines, head_line, journal_lines, text_of}
use Rattle.rtmfp_host.specs.Drawing.{next_block}
use Rattle.rtmfp_host.specs.Writing.{Appends}
use Rattle.rtmfp_host.specs.declared.link.LinkCall.{LinkCall}
use Rattle.rtmfp_host.specs.declared.link.LinkCall.TheVariants.{Bind, Receive, Send}
use Rattle.rtmfp_words.specs.Node.{Serving}
use Rattle.rtmfp_node.specs.declared.sending.Front.{Front}
use Rattle.rtmfp_node.specs.declared.sending.Front.TheVariants.{InJournal}
use Rattle.rtmfp_node.specs.Outside.{Told}
use Rattle.rtmfp_node.specs.Reached.{Reached, at_first, reached_after, reached_by}
use Rattle.rtmfp_node.specs.Report.{events_text, front_of, head_text, refused_text, unsent_line, unsent_text}
use Rattle.rtmfp_node.specs.Turn.{Turn, Turns, head_of, secrets_of, setup_of}
use Rattle.rtmfp_node.specs.Journal.{EachJournalIsWritten, Journals, all_lines, lines_of, remarked, remarks, told_onto}
use Rattle.rtmfp_node.proofs.Acts.{last_moment_more}
use Rattle.rtmfp_node.proofs.Sends.{appends_as, appends_more, appends_none}

-- ---- texts of lines

text_of_more : (xs ys : List LogLine) → text_of (xs ++ ys) ≡ text_of xs ++ text_of ys
text_of_more [] ys = refl
text_of_more (x ∷ xs) ys =
    ap (λ (zs : List ℕ). line_text x ++ (codes "\n" ++ zs)) (text_of_more xs ys)
    ∙ ap (λ (zs : List ℕ). line_text x ++ zs) (sym (append_assoc (codes "\n") (text_of xs) (text_of ys)))
    ∙ sym (append_assoc (line_text x) (codes "\n" ++ text_of xs) (text_of ys))

-- the lines of events, the oldest first, where the largest moment was this before
lines_from : List ℕ → ℕ → List Event → List LogLine
lines_from label last [] = []
lines_from label last (e ∷ log) = event_lines label (moment_at last e) e ++ lines_from label (moment_at last e) log

lines_more : (label : List ℕ) (last : ℕ) (es fs : List Event) → lines_from label last (es ++ fs) ≡ lines_from label last es ++ lines_from label (last_moment last es) fs
unfolding lines_from
lines_more label last [] fs = refl
lines_more label last (e ∷ es) fs =
    ap (λ (xs : List LogLine). event_lines label (moment_at last e) e ++ xs) (lines_more label (moment_at last e) es fs)
    ∙ sym (append_assoc (event_lines label (moment_at last e) e) (lines_from label (moment_at last e) es) (lines_from label (last_moment (moment_at last e) es) fs))

-- a refusal has no line in a journal
none_refused : (label : List ℕ) (turn : ℕ) (answer : Answer) → refused_text (Some label) turn answer ≡ []
none_refused label turn (NotOpened refusal) = refl
none_refused label turn (NotSought refusal) = refl
none_refused label turn (Refused refusal) = refl
none_refused label turn (Began n) = refl
none_refused label turn (Searching near) = refl
none_refused label turn Done = refl
none_refused label turn (Succeeds generation) = refl
none_refused label turn (NotAdded refusal) = refl
none_refused label turn (Stopped stop) = refl
none_refused label turn OutOfMemory = refl

-- the text of events in a journal is that of their lines
events_are : (label : List ℕ) (secrets : Secrets) (turn : ℕ) (far : Reached) (log : List Event) → events_text (Some label) secrets turn far log ≡ text_of (lines_from label far.moment log)
unfolding lines_from
events_are label secrets turn far [] = refl
events_are label secrets turn far (e ∷ log) =
    let lines = event_lines label (moment_at far.moment e) e in
    ap (λ (xs : List ℕ). (text_of lines ++ xs) ++ events_text (Some label) secrets turn (reached_by far e) log) (none_refused label turn e.answer)
    ∙ ap (λ (xs : List ℕ). xs ++ events_text (Some label) secrets turn (reached_by far e) log) (append-nil (text_of lines))
    ∙ ap (λ (xs : List ℕ). text_of lines ++ xs) (events_are label secrets turn (reached_by far e) log)
    ∙ sym (text_of_more lines (lines_from label (moment_at far.moment e) log))

-- ---- the lines of a history

journal_more : (label : List ℕ) (log : List Event) (earlier : History) → journal_lines (λ _. label) (told_onto earlier log) ≡ journal_lines (λ _. label) earlier ++ lines_from label (last_moment 0 (log_of 0 earlier)) log
unfolding lines_from
journal_more label [] earlier = sym (append-nil (journal_lines (λ _. label) earlier))
journal_more label (e ∷ log) earlier =
    let last = last_moment 0 (log_of 0 earlier) in
    let now : History = record { who = 0; event = e } ∷ earlier in
    let lines = event_lines label (moment_at last e) e in
    let moved : last_moment 0 (log_of 0 earlier ++ e ∷ []) ≡ moment_at last e = last_moment_more 0 (log_of 0 earlier) (e ∷ []) in
    journal_more label log now
    ∙ ap (λ (k : ℕ). (journal_lines (λ _. label) earlier ++ lines) ++ lines_from label k log) moved
    ∙ append_assoc (journal_lines (λ _. label) earlier) lines (lines_from label (moment_at last e) log)

-- ---- remarks

-- the numbers of the sends that weren't done
lost_in : ℕ → List LinkCall → List ℕ
lost_in count [] = []
lost_in count (Bind at ∷ calls) = lost_in count calls
lost_in count (Receive until ∷ calls) = lost_in count calls
lost_in count (Send to datagram true ∷ calls) = lost_in (count + 1) calls
lost_in count (Send to datagram false ∷ calls) = (count + 1) ∷ lost_in (count + 1) calls

unsent_are : (count : ℕ) (calls : List LinkCall) → unsent_text InJournal count calls ≡ remarks (lost_in count calls)
unfolding lost_in
unsent_are count [] = refl
unsent_are count (Bind at ∷ calls) = unsent_are count calls
unsent_are count (Receive until ∷ calls) = unsent_are count calls
unsent_are count (Send to datagram true ∷ calls) = unsent_are (count + 1) calls
unsent_are count (Send to datagram false ∷ calls) = ap (λ (xs : List ℕ). unsent_line InJournal (count + 1) ++ xs) (unsent_are (count + 1) calls)

-- ---- pieces

all_more : (ps qs : List (List LogLine × List ℕ)) → all_lines (ps ++ qs) ≡ all_lines ps ++ all_lines qs
all_more [] qs = refl
all_more (p ∷ ps) qs = ap (λ (xs : List LogLine). p.0 ++ xs) (all_more ps qs) ∙ sym (append_assoc p.0 (all_lines ps) (all_lines qs))

remarked_more : (ps qs : List (List LogLine × List ℕ)) → remarked (ps ++ qs) ≡ remarked ps ++ remarked qs
remarked_more [] qs = refl
remarked_more (p ∷ ps) qs =
    ap (λ (xs : List ℕ). (text_of p.0 ++ remarks p.1) ++ xs) (remarked_more ps qs)
    ∙ sym (append_assoc (text_of p.0 ++ remarks p.1) (remarked ps) (remarked qs))

journals_none : (o : Option (List ℕ)) → Journals [] o o
journals_none o = record { pieces = []; whole = refl; text = appends_none o }

journals_more : (xs ys : List LogLine) (a b c : Option (List ℕ)) → Journals xs a b → Journals ys b c → Journals (xs ++ ys) a c
journals_more xs ys a b c p q = record {
  pieces = p.pieces ++ q.pieces;
  whole = ap (λ (zs : List LogLine). zs ++ ys) p.whole ∙ ap (λ (zs : List LogLine). all_lines p.pieces ++ zs) q.whole ∙ sym (all_more p.pieces q.pieces);
  text =
      appends_as a c (remarked p.pieces ++ remarked q.pieces) (remarked (p.pieces ++ q.pieces)) (sym (remarked_more p.pieces q.pieces))
      (appends_more a b c (remarked p.pieces) (remarked q.pieces) p.text q.text);
}

-- one piece: lines, and the remarks of sends
journals_one : (lines : List LogLine) (count : ℕ) (sends : List LinkCall) (text : List ℕ) (a b : Option (List ℕ)) → text ≡ text_of lines → Appends a b (text ++ unsent_text InJournal count sends) → Journals lines a b
journals_one lines count sends text a b is wrote =
    let lost = lost_in count sends in
    let piece = text_of lines ++ remarks lost in record {
      pieces = (lines, lost) ∷ [];
      whole = sym (append-nil lines);
      text =
          appends_as a b (text ++ unsent_text InJournal count sends) (piece ++ [])
          (ap (λ (xs : List ℕ). xs ++ unsent_text InJournal count sends) is ∙ ap (λ (xs : List ℕ). text_of lines ++ xs) (unsent_are count sends) ∙ sym (append-nil piece)) wrote;
    }

-- ---- turns

-- the words have a label
module _ (v : Serving) (label : List ℕ) (journal : v.journal ≡ Some label) where
  report_as : (turn : ℕ) (far : Reached) (log : List Event) → events_text v.journal (secrets_of v) turn far log ≡ text_of (lines_from label far.moment log)
  report_as turn far log =
      ap (λ (o : Option (List ℕ)). events_text o (secrets_of v) turn far log) journal ∙ events_are label (secrets_of v) turn far log

  front_is : (turn : ℕ) → front_of v.journal turn ≡ InJournal
  front_is turn = ap (λ (o : Option (List ℕ)). front_of o turn) journal

  piece_of : (turn count : ℕ) (sends : List LinkCall) (text : List ℕ) (lines : List LogLine) (a b : Option (List ℕ)) → text ≡ text_of lines → Appends a b (text ++ unsent_text (front_of v.journal turn) count sends) → Journals lines a b
  piece_of turn count sends text lines a b is wrote =
      journals_one lines count sends text a b is (subst (λ (f : Front). Appends a b (text ++ unsent_text f count sends)) (front_is turn) wrote)

  turn_journals : (turn : ℕ) (far : Reached) (x y : Told) (log : List Event) → Turn v turn far x y log → Journals (lines_from label far.moment log) x.text y.text
  turn_journals turn far x y log t = piece_of turn far.sent t.sends (events_text v.journal (secrets_of v) turn far log) (lines_from label far.moment log) x.text y.text (report_as turn far log) t.text

  turns_journal : (n : ℕ) (far : Reached) (x y : Told) (log : List Event) → Turns v n far x y log → Journals (lines_from label far.moment log) x.text y.text
  unfolding lines_from
  turns_journal zero far x y log h =
      subst (λ (es : List Event). Journals (lines_from label far.moment es) x.text y.text) (sym h.1)
      (subst (λ (z : Told). Journals [] x.text z.text) (sym h.0) (journals_none x.text))
  turns_journal (suc n) far x y log h =
      let first = turns_journal n far x h.0 h.1 h.3 in
      let last = turn_journals (n + 1) (reached_after far h.1) h.0 y h.2 h.4 in
      subst (λ (es : List Event). Journals (lines_from label far.moment es) x.text y.text) (sym h.5)
      (subst (λ (ls : List LogLine). Journals ls x.text y.text) (sym (lines_more label far.moment h.1 h.2))
      (journals_more (lines_from label far.moment h.1) (lines_from label (last_moment far.moment h.1) h.2) x.text h.0.text y.text first last))

pub each_journal_is_written : EachJournalIsWritten
each_journal_is_written v label turns x y journal ran =
    let run = ran.run in
    let setup = setup_of v (next_block x.blocks) in
    let zero_turn = run.turn_zero in
    let head = head_line label setup in
    let first_lines = lines_from label 0 run.first in
    let later_lines = lines_from label (last_moment 0 run.first) run.later in
    let head_is : head_of v (next_block x.blocks) ≡ text_of (head ∷ []) = ap (λ (o : Option (List ℕ)). head_text o setup) journal in
    let report_is : (head_of v (next_block x.blocks) ++ events_text v.journal (secrets_of v) 0 at_first run.first) ≡ text_of ((head ∷ []) ++ first_lines) =
    ap (λ (xs : List ℕ). xs ++ events_text v.journal (secrets_of v) 0 at_first run.first) head_is
    ∙ ap (λ (xs : List ℕ). text_of (head ∷ []) ++ xs) (report_as v label journal 0 at_first run.first)
    ∙ sym (text_of_more (head ∷ []) first_lines) in
    let first = piece_of v label journal 0 0 zero_turn.sends _ ((head ∷ []) ++ first_lines) x.text run.opened.text report_is zero_turn.text in
    let later = turns_journal v label journal turns (reached_after at_first run.first) run.opened y run.later run.others in
    let whole : (((head ∷ []) ++ first_lines) ++ later_lines) ≡ lines_of label setup ran.log =
    append_assoc (head ∷ []) first_lines later_lines
    ∙ ap (λ (ls : List LogLine). (head ∷ []) ++ ls) (sym (lines_more label 0 run.first run.later) ∙ ap (lines_from label 0) (sym run.whole) ∙ sym (journal_more label ran.log [])) in
    subst (λ (ls : List LogLine). Journals ls x.text y.text) whole (journals_more ((head ∷ []) ++ first_lines) later_lines x.text run.opened.text y.text first later)
