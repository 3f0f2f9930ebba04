-- What an audit finds first stands on a line.
use Rattle.std.proofs.Common.{◌≡◌, ℕ, zero, suc, ◌+◌, ◌-◌, ◌<◌, ◌≤◌, inl, inr, List, [], ◌∷◌, ◌++◌, length, refl, sym, ap, ◌∙◌, arith, append-nil, subst, Option, Some, None, if◌then◌else◌, Bool}
use Rattle.std.specs.Prelude.{slice_get}
use Rattle.std.proofs.lemmas.Bool.{lt-ltb}
use Rattle.endpoint_model.specs.declared.entry.Entry.{Entry}
use Rattle.endpoint_model.specs.Event.{Setup, Call, own_of}
use Rattle.endpoint_laws.specs.Past.{Past, with_entry}
use Rattle.endpoint_laws.specs.Contexts.{Secrets}
use Rattle.endpoint_laws.specs.History.{Happened, History}
use Rattle.log_values.specs.Told.{newest_first}
use Rattle.log_verdict.specs.declared.verdict.Finding.{Finding}
use Rattle.log_verdict.specs.Told.{end_of, secrets_in}
use Rattle.log_verdict.specs.Checks.{EntriesFail, EventsFail, EventFails, FailsFirst, HeadersFail, nonces_at}
use Rattle.log_reading.specs.Gathered.{Read, line_from, line_of, start_or}
use Rattle.rtmfp_audit.specs.Logs.{WasRead, history_read}
use Rattle.rtmfp_audit.proofs.Spans.{HasLines, Spans, read_has_lines}

-- ---- places

-- an entry of this event, or the event itself
pub record IsAt (event most : ℕ) (f : Finding) : Type 0 where
  pub event_is : f.event ≡ event
  pub within : f.entry ≤ most

module _ (secrets : Secrets) where
  header_at : (prints : List (List ℕ)) (before : ℕ) (setups : List Setup) (f : Finding) → HeadersFail secrets prints before setups f → IsAt 0 (before + length setups) f × (before < f.entry)
  header_at prints before [] f fails = absurd fails
  header_at prints before (setup ∷ setups) f fails = elim fails [
    | inl here ↦ (record { event_is = ap (λ (x : Finding). x.event) here.1; within = omega (arith, ap (λ (x : Finding). x.entry) here.1) }, omega (arith, ap (λ (x : Finding). x.entry) here.1))
    | inr later ↦ (elim later.1 [
      | inl here ↦ (record { event_is = ap (λ (x : Finding). x.event) here.1; within = omega (arith, ap (λ (x : Finding). x.entry) here.1) }, omega (arith, ap (λ (x : Finding). x.entry) here.1))
      | inr rest ↦ (
          let found = header_at (own_of setup ∷ prints) (before + 1) setups f rest.1 in
          (record { event_is = found.0.event_is; within = omega (arith, found.0.within) }, omega (arith, found.1)))
    ])
  ]

  entry_at : (event : ℕ) (setup : Setup) (now : ℕ) (call : Call) (past : Past) (nonces : List (List ℕ)) (before : ℕ) (entries : List Entry) (f : Finding) → EntriesFail secrets event setup now call past nonces before entries f → IsAt event (before + length entries) f
  entry_at event setup now call past nonces before [] f fails = absurd fails
  entry_at event setup now call past nonces before (entry ∷ rest) f fails = elim fails [
    | inl here ↦ record { event_is = ap (λ (x : Finding). x.event) here.1; within = omega (arith, ap (λ (x : Finding). x.entry) here.1) }
    | inr later ↦ (elim later.1 [
      | inl here ↦ record { event_is = ap (λ (x : Finding). x.event) here.1; within = omega (arith, ap (λ (x : Finding). x.entry) here.1) }
      | inr more ↦ (
          let found = entry_at event setup now call (with_entry now entry past) (nonces_at entry ++ nonces) (before + 1) rest f more.1 in
          record { event_is = found.event_is; within = omega (arith, found.within) })
    ])
  ]

  event_at : (ends : ℕ → Setup) (h : Happened) (earlier : History) (f : Finding) → EventFails secrets ends h earlier f → IsAt (length earlier + 1) (length h.event.entries) f
  event_at ends h earlier f fails = elim fails [
    | inl here ↦ record { event_is = ap (λ (x : Finding). x.event) here.1; within = omega (arith, ap (λ (x : Finding). x.entry) here.1) }
    | inr later ↦ (elim later.1 [
      | inl here ↦ record { event_is = ap (λ (x : Finding). x.event) here.1; within = omega (arith, ap (λ (x : Finding). x.entry) here.1) }
      | inr more ↦ (
          let found = entry_at (length earlier + 1) (ends h.who) _ h.event.call _ _ 0 h.event.entries f more.1 in
          record { event_is = found.event_is; within = omega (arith, found.within) })
    ])
  ]

-- ---- lines

there : (lines : List ℕ) (at : ℕ) → at < length lines → (line : ℕ) × (slice_get lines at ≡ Some line)
there [] at less = let no : ⊥ = omega (arith, less) in absurd no
there (line ∷ lines) zero less = (line, refl)
there (line ∷ lines) (suc at) less = there lines at (omega (arith, less))

slice_turned : (starts later : List ℕ) (i : ℕ) → slice_get (newest_first starts later) (length starts + i) ≡ slice_get later i
slice_turned [] later i = let e : 0 + i ≡ i = omega arith in ap (slice_get later) e
slice_turned (start ∷ starts) later i =
    let e : suc (length starts) + i ≡ length starts + suc i = omega arith in
    ap (slice_get (newest_first starts (start ∷ later))) e ∙ slice_turned starts (start ∷ later) (suc i)

turned_twice : (starts done later : List ℕ) → newest_first (newest_first starts done) later ≡ newest_first done (starts ++ later)
turned_twice [] done later = refl
turned_twice (start ∷ starts) done later = turned_twice starts (start ∷ done) later

spans_length : (history : History) (starts : List ℕ) (end : ℕ) → Spans history starts end → length starts ≡ length history
spans_length [] [] end spans = refl
spans_length [] (start ∷ starts) end spans = absurd spans
spans_length (h ∷ earlier) [] end spans = absurd spans
spans_length (h ∷ earlier) (start ∷ starts) end spans = ap suc (spans_length earlier starts start spans.1)

from_start : (start end entry : ℕ) (lines : List ℕ) → entry < end - start → end ≤ length lines → (line : ℕ) × (line_from (Some start) end entry lines ≡ Some line)
from_start start end entry lines less fits =
    let found = there lines (start + entry) (omega (arith, less, fits)) in
    (found.0, ap (λ (b : Bool). if b then slice_get lines (start + entry) else None) (lt-ltb entry (end - start) less) ∙ found.1)

-- the line of what stands there
abbrev pub StandsIn : List ℕ → List ℕ → Finding → Type 0
StandsIn lines starts f = (event : ℕ) × (line : ℕ) × (f.event ≡ suc event) ×
    (line_from (slice_get starts event) (start_or (slice_get starts (event + 1)) (length lines)) f.entry lines ≡ Some line)

event_line : (lines starts later : List ℕ) (start end : ℕ) (h : Happened) (earlier : History) (f : Finding) → end ≤ length lines → start_or (slice_get later 0) (length lines) ≡ end → start + 1 + length h.event.entries ≡ end → length starts ≡ length earlier →
    IsAt (length earlier + 1) (length h.event.entries) f → StandsIn lines (newest_first starts (start ∷ later)) f
event_line lines starts later start end h earlier f fits ends span size at =
    let all = newest_first starts (start ∷ later) in
    let n = length starts in
    let zero_more : n + 0 ≡ n = omega arith in
    let here : slice_get all n ≡ Some start = ap (slice_get all) (sym zero_more) ∙ slice_turned starts (start ∷ later) 0 in
    let next : slice_get all (n + 1) ≡ slice_get later 0 = slice_turned starts (start ∷ later) 1 in
    let found = from_start start end f.entry lines (omega (arith, at.within, span)) fits in (
      n,
      found.0,
      omega (arith, at.event_is, size),
      ap (λ (o : Option ℕ). line_from o (start_or (slice_get all (n + 1)) (length lines)) f.entry lines) here
          ∙ ap (λ (e : ℕ). line_from (Some start) e f.entry lines) (ap (λ (o : Option ℕ). start_or o (length lines)) next ∙ ends)
          ∙ found.1,
    )

events_line : (secrets : Secrets) (ends : ℕ → Setup) (lines starts later : List ℕ) (end : ℕ) (history : History) (f : Finding) → end ≤ length lines → start_or (slice_get later 0) (length lines) ≡ end → Spans history starts end → EventsFail secrets ends history f →
    StandsIn lines (newest_first starts later) f
events_line secrets ends lines starts later end [] f fits is spans fails = absurd fails
events_line secrets ends lines [] later end (h ∷ earlier) f fits is spans fails = absurd spans
events_line secrets ends lines (start ∷ starts) later end (h ∷ earlier) f fits is spans fails = elim fails [
  | inl before ↦ events_line secrets ends lines starts (start ∷ later) start earlier f (omega (arith, fits, spans.0)) refl spans.1 before
  | inr here ↦ event_line lines starts later start end h earlier f fits is spans.0 (spans_length earlier starts start spans.1) (event_at secrets ends h earlier f here.1)
]

-- ---- the whole

line_at_head : (read : Read) (event entry k line : ℕ) → event ≡ 0 → entry ≡ suc k → slice_get read.heads k ≡ Some line → line_of event entry read ≡ Some line
line_at_head read event entry k line e g is = ap (λ (n : ℕ). line_of n entry read) e ∙ ap (λ (n : ℕ). line_of 0 n read) g ∙ is

head_line : (secrets : Secrets) (read : Read) (f : Finding) → HasLines read → HeadersFail secrets [] 0 read.setups f → (line : ℕ) × (line_of f.event f.entry read ≡ Some line)
head_line secrets read f has fails =
    let at = header_at secrets [] 0 read.setups f fails in
    let found = there read.heads (f.entry - 1) (omega (arith, at.0.within, at.1, has.heads)) in
    (found.0, line_at_head read f.event f.entry (f.entry - 1) found.0 at.0.event_is (omega (arith, at.1)) found.1)

line_at_event : (read : Read) (starts : List ℕ) (f : Finding) → starts ≡ read.starts → StandsIn read.lines starts f → (line : ℕ) × (line_of f.event f.entry read ≡ Some line)
line_at_event read starts f e stands =
    let at : StandsIn read.lines read.starts f = subst (λ (s : List ℕ). StandsIn read.lines s f) e stands in
    (at.1, ap (λ (n : ℕ). line_of n f.entry read) at.2 ∙ at.3)

-- What is found first of what some lines say stands on one of them.
pub found_line : (read : Read) (f : Finding) → WasRead read → FailsFirst read.setups (history_read read) f → (line : ℕ) × (line_of f.event f.entry read ≡ Some line)
found_line read f was fails =
    let has = read_has_lines read was in
    let secrets = secrets_in read.setups (history_read read) in
    elim fails [
      | inl head ↦ head_line secrets read f has head
      | inr event ↦ line_at_event read (newest_first (newest_first read.starts []) []) f (turned_twice read.starts [] [] ∙ append-nil read.starts)
          (events_line secrets (end_of read.setups) read.lines (newest_first read.starts []) [] (length read.lines) (history_read read) f (omega arith) refl has.spans event.1)
    ]
