-- Each log, event and entry that was read has its line.
use Rattle.std.proofs.Common.{◌≡◌, ℕ, zero, suc, ◌+◌, ◌<◌, inl, inr, List, [], ◌∷◌, ◌++◌, length, get_or, refl, sym, ap, ◌∙◌, arith, subst, Option, Some, None, if◌then◌else◌, Bool}
use Rattle.std.specs.Prelude.{IfSome}
use Rattle.std.proofs.lemmas.List.{length-append}
use Rattle.endpoint_model.specs.Event.{Event}
use Rattle.endpoint_model.specs.declared.entry.Entry.{Entry}
use Rattle.endpoint_model.proofs.Members.{tested}
use Rattle.endpoint_laws.specs.History.{Happened, History}
use Rattle.log_values.specs.Told.{Logs, events_in, newest_first, no_event, times, told}
use Rattle.log_reading.specs.Gathered.{IsSound, Read, and_event, change_at, nothing_read, to_last, with_skip}
use Rattle.log_reading.proofs.Sound.{sound_log, sound_event, sound_entry}
use Rattle.rtmfp_audit.specs.Logs.{ReadsOn, WasRead, history_read}
use Rattle.rtmfp_audit.proofs.Kept.{Adds, AddsLog, AddsEvent, AddsEntry, takes_of}

-- ---- orders

turned_more : (order done : List ℕ) (last : ℕ) → newest_first (order ++ last ∷ []) done ≡ last ∷ newest_first order done
turned_more [] done last = refl
turned_more (next ∷ order) done last = turned_more order (next ∷ done) last

times_turned : (who : ℕ) (order done : List ℕ) → times who (newest_first order done) ≡ times who order + times who done
times_turned who [] done = omega arith
times_turned who (next ∷ order) done = let before = times_turned who order (next ∷ done) in omega (arith, before)

times_here : (who : ℕ) (earlier : List ℕ) → times who (who ∷ earlier) ≡ times who earlier + 1
times_here who earlier = elim (tested who who) [
  | inl is ↦ (let e : times who (who ∷ earlier) ≡ 1 + times who earlier = ap (λ (b : Bool). (if b then 1 else 0) + times who earlier) is.1 in omega (arith, e))
  | inr is ↦ absurd (is.0 refl)
]

-- ---- logs that were changed

changed_other : (f : List Event → List Event) (who : ℕ) (logs : Logs) (k : ℕ) → (who ≡ k → ⊥) → events_in (change_at who f logs) k ≡ events_in logs k
changed_other f who [] k not = refl
changed_other f zero (events ∷ logs) zero not = absurd (not refl)
changed_other f zero (events ∷ logs) (suc k) not = refl
changed_other f (suc who) (events ∷ logs) zero not = refl
changed_other f (suc who) (events ∷ logs) (suc k) not = changed_other f who logs k (λ same. not (ap suc same))

changed_here : (f : List Event → List Event) (who : ℕ) (logs : Logs) → who < length logs → events_in (change_at who f logs) who ≡ f (events_in logs who)
changed_here f who [] less = let no : ⊥ = omega (arith, less) in absurd no
changed_here f zero (events ∷ logs) less = refl
changed_here f (suc who) (events ∷ logs) less = changed_here f who logs (omega (arith, less))

events_none : (logs : Logs) (who : ℕ) → events_in (logs ++ [] ∷ []) who ≡ events_in logs who
events_none [] zero = refl
events_none [] (suc who) = refl
events_none (events ∷ logs) zero = refl
events_none (events ∷ logs) (suc who) = events_none logs who

-- an event more
kept_before : (events : List Event) (e : Event) (i : ℕ) → i < length events → get_or (events ++ e ∷ []) i no_event ≡ get_or events i no_event
kept_before [] e i less = let no : ⊥ = omega (arith, less) in absurd no
kept_before (first ∷ events) e zero less = refl
kept_before (first ∷ events) e (suc i) less = kept_before events e i (omega (arith, less))

last_is : (events : List Event) (e : Event) → get_or (events ++ e ∷ []) (length events) no_event ≡ e
last_is [] e = refl
last_is (first ∷ events) e = last_is events e

-- an entry more in the last event
kept_to_last : (entry : Entry) (events : List Event) (i : ℕ) → i + 1 < length events → get_or (to_last entry events) i no_event ≡ get_or events i no_event
kept_to_last entry [] i less = refl
kept_to_last entry (e ∷ []) i less = let no : ⊥ = omega (arith, less) in absurd no
kept_to_last entry (e ∷ f ∷ events) zero less = refl
kept_to_last entry (e ∷ f ∷ events) (suc i) less = kept_to_last entry (f ∷ events) i (omega (arith, less))

one_to_last : (entry : Entry) (events : List Event) (i : ℕ) → i + 1 ≡ length events → length (get_or (to_last entry events) i no_event).entries ≡ length (get_or events i no_event).entries + 1
one_to_last entry [] i is = let no : ⊥ = omega (arith, is) in absurd no
one_to_last entry (e ∷ []) zero is = length-append e.entries (entry ∷ [])
one_to_last entry (e ∷ []) (suc i) is = let no : ⊥ = omega (arith, is) in absurd no
one_to_last entry (e ∷ f ∷ events) zero is = let no : ⊥ = omega (arith, is) in absurd no
one_to_last entry (e ∷ f ∷ events) (suc i) is = one_to_last entry (f ∷ events) i (omega (arith, is))

-- ---- what they tell

-- The same is told where each event that is told is the same.
told_same : (logs made : Logs) (order : List ℕ) → ((k i : ℕ) → i < times k order → get_or (events_in made k) i no_event ≡ get_or (events_in logs k) i no_event) → told made order ≡ told logs order
told_same logs made [] same = refl
told_same logs made (who ∷ earlier) same =
    let Here : Event → Happened = λ e. record { who = who; event = e } in
    ap (λ (e : Event). Here e ∷ told made earlier) (same who (times who earlier) (omega (arith, times_here who earlier)))
    ∙ ap (λ (h : History). Here (get_or (events_in logs who) (times who earlier) no_event) ∷ h) (told_same logs made earlier (λ k i less. same k i (omega (arith, less))))

-- how many events there are of each end
abbrev pub IsWhole : Logs → List ℕ → Type 0
IsWhole logs order = (k : ℕ) → times k order ≡ length (events_in logs k)

event_kept : (who : ℕ) (e : Event) (logs : Logs) (k i : ℕ) → who < length logs → i < length (events_in logs k) → get_or (events_in (change_at who (and_event e) logs) k) i no_event ≡ get_or (events_in logs k) i no_event
event_kept who e logs k i there less = elim (tested who k) [
  | inl is ↦ subst (λ (n : ℕ). get_or (events_in (change_at who (and_event e) logs) n) i no_event ≡ get_or (events_in logs n) i no_event) is.0
      (ap (λ (es : List Event). get_or es i no_event) (changed_here (and_event e) who logs there)
      ∙ kept_before (events_in logs who) e i (subst (λ (n : ℕ). i < length (events_in logs n)) (sym is.0) less))
  | inr is ↦ ap (λ (es : List Event). get_or es i no_event) (changed_other (and_event e) who logs k is.0)
]

told_event : (who : ℕ) (e : Event) (logs : Logs) (order : List ℕ) → who < length logs → IsWhole logs order → told (change_at who (and_event e) logs) (who ∷ order) ≡ record { who = who; event = e } ∷ told logs order
told_event who e logs order there whole =
    let made = change_at who (and_event e) logs in
    let Here : Event → Happened = λ x. record { who = who; event = x } in
    let here : get_or (events_in made who) (times who order) no_event ≡ e =
    ap (λ (es : List Event). get_or es (times who order) no_event) (changed_here (and_event e) who logs there)
    ∙ ap (λ (n : ℕ). get_or (events_in logs who ++ e ∷ []) n no_event) (whole who)
    ∙ last_is (events_in logs who) e in
    ap (λ (x : Event). Here x ∷ told made order) here
    ∙ ap (λ (h : History). Here e ∷ h) (told_same logs made order (λ k i less. event_kept who e logs k i there (omega (arith, less, whole k))))

-- ---- spans

-- The lines of each event, its own and those of its entries, end where those of the next one begin.
abbrev pub Spans : History → List ℕ → ℕ → Type 0
Spans [] [] end = Unit {0}
Spans [] (start ∷ starts) end = ⊥
Spans (h ∷ earlier) [] end = ⊥
Spans (h ∷ earlier) (start ∷ starts) end = (start + 1 + length h.event.entries ≡ end) × Spans earlier starts start

abbrev pub first_in : List ℕ → Option ℕ
first_in [] = None
first_in (who ∷ earlier) = Some who

entry_kept : (who : ℕ) (entry : Entry) (logs : Logs) (earlier : List ℕ) (k i : ℕ) → who < length logs → IsWhole logs (who ∷ earlier) → i < times k earlier → get_or (events_in (change_at who (to_last entry) logs) k) i no_event ≡ get_or (events_in logs k) i no_event
entry_kept who entry logs earlier k i there whole less = elim (tested who k) [
  | inl is ↦ subst (λ (n : ℕ). get_or (events_in (change_at who (to_last entry) logs) n) i no_event ≡ get_or (events_in logs n) i no_event) is.0
      (ap (λ (es : List Event). get_or es i no_event) (changed_here (to_last entry) who logs there)
      ∙ kept_to_last entry (events_in logs who) i (let mine : i < times who earlier = subst (λ (n : ℕ). i < times n earlier) (sym is.0) less in omega (arith, mine, times_here who earlier, whole who)))
  | inr is ↦ ap (λ (es : List Event). get_or es i no_event) (changed_other (to_last entry) who logs k is.0)
]

spans_here : (who : ℕ) (entry : Entry) (logs : Logs) (earlier starts : List ℕ) (end next : ℕ) → who < length logs → IsWhole logs (who ∷ earlier) → next ≡ end + 1 → Spans (told logs (who ∷ earlier)) starts end → Spans (told (change_at who (to_last entry) logs) (who ∷ earlier)) starts next
spans_here who entry logs earlier [] end next there whole is spans = absurd spans
spans_here who entry logs earlier (start ∷ starts) end next there whole is spans =
    let made = change_at who (to_last entry) logs in
    let more : length (get_or (events_in made who) (times who earlier) no_event).entries ≡ length (get_or (events_in logs who) (times who earlier) no_event).entries + 1 =
    ap (λ (es : List Event). length (get_or es (times who earlier) no_event).entries) (changed_here (to_last entry) who logs there)
    ∙ one_to_last entry (events_in logs who) (times who earlier) (omega (arith, times_here who earlier, whole who)) in (
      omega (arith, more, is, spans.0),
      subst (λ (h : History). Spans h starts start) (sym (told_same logs made earlier (λ k i less. entry_kept who entry logs earlier k i there whole less))) spans.1,
    )

spans_entry : (who : ℕ) (entry : Entry) (logs : Logs) (order starts : List ℕ) (end next : ℕ) → first_in order ≡ Some who → who < length logs → IsWhole logs order → next ≡ end + 1 → Spans (told logs order) starts end → Spans (told (change_at who (to_last entry) logs) order) starts next
spans_entry who entry logs [] starts end next last there whole is spans = absurd (cc)
spans_entry who entry logs (newest ∷ earlier) starts end next last there whole is spans =
    let e : newest ≡ who = cc in
    subst (λ (n : ℕ). Spans (told (change_at n (to_last entry) logs) (newest ∷ earlier)) starts next) e
    (spans_here newest entry logs earlier starts end next (subst (λ (n : ℕ). n < length logs) (sym e) there) whole is spans)

-- ---- what was read

pub record HasLines (read : Read) : Type 0 where
  pub sound : IsSound read.names read.logs read.order read.last read.count
  pub heads : length read.heads ≡ length read.setups
  pub newest : first_in (newest_first read.order []) ≡ read.last
  pub spans : Spans (history_read read) (newest_first read.starts []) (length read.lines)

whole_of : (read : Read) → HasLines read → IsWhole read.logs (newest_first read.order [])
whole_of read has k = omega (arith, times_turned k read.order [], has.sound.whole.each k)

none_has_lines : HasLines nothing_read
none_has_lines = record {
  sound = record { few = omega arith; ends = refl; lines = omega arith; within = tt; whole = record { each = λ k. none k } };
  heads = refl;
  newest = refl;
  spans = tt;
}
  where
    none : (k : ℕ) → times k [] ≡ length (events_in [] k)
    none zero = refl
    none (suc k) = refl

log_has_lines : (before after : Read) → before.count < 100000 → AddsLog before after → HasLines before → HasLines after
log_has_lines before after few adds has = subst HasLines (sym adds.is) (record {
  sound = sound_log adds.name refl refl few adds.few has.sound;
  heads = omega (arith, length-append before.heads ((before.count + 1) ∷ []), length-append before.setups (adds.setup ∷ []), has.heads);
  newest = has.newest;
  spans = subst (λ (h : History). Spans h (newest_first before.starts []) (length before.lines))
      (sym (told_same before.logs (before.logs ++ [] ∷ []) (newest_first before.order []) (λ k i less. ap (λ (es : List Event). get_or es i no_event) (events_none before.logs k)))) has.spans;
})

event_has_lines : (before after : Read) → before.count < 100000 → AddsEvent before after → HasLines before → HasLines after
event_has_lines before after few adds has =
    let there : adds.who < length before.logs = omega (arith, adds.there, has.sound.ends) in
    let order = newest_first before.order [] in
    let starts = newest_first before.starts [] in
    let made = change_at adds.who (and_event adds.event) before.logs in
    let next = length (before.lines ++ (before.count + 1) ∷ []) in
    let P : List ℕ → Type 0 = λ os. Spans (told made os) (newest_first (before.starts ++ length before.lines ∷ []) []) next in
    let Q : List ℕ → Type 0 = λ ss. Spans (told made (adds.who ∷ order)) ss next in
    let R : History → Type 0 = λ h. Spans h (length before.lines ∷ starts) next in
    subst HasLines (sym adds.is) (record {
      sound = sound_event adds.who adds.event refl refl few there has.sound;
      heads = has.heads;
      newest = ap first_in (turned_more before.order [] adds.who);
      spans =
          subst P (sym (turned_more before.order [] adds.who))
          (subst Q (sym (turned_more before.starts [] (length before.lines)))
          (subst R (sym (told_event adds.who adds.event before.logs order there (whole_of before has)))
          (omega (arith, ap (λ (es : List Entry). length es) adds.none, length-append before.lines ((before.count + 1) ∷ [])), has.spans)));
    })

entry_has_lines : (before after : Read) → before.count < 100000 → AddsEntry before after → HasLines before → HasLines after
entry_has_lines before after few adds has =
    let there : adds.who < length before.logs = within before.last adds.last has.sound.within in
    subst HasLines (sym adds.is) (record {
      sound = sound_entry adds.who adds.entry refl few has.sound;
      heads = has.heads;
      newest = has.newest;
      spans =
          spans_entry adds.who adds.entry before.logs (newest_first before.order []) (newest_first before.starts []) (length before.lines) (length (before.lines ++ (before.count + 1) ∷ []))
          (has.newest ∙ adds.last) there (whole_of before has) (length-append before.lines ((before.count + 1) ∷ [])) has.spans;
    })
  where
    within : (o : Option ℕ) → o ≡ Some adds.who → IfSome o (λ who. who < length before.logs) → adds.who < length before.logs
    within None e less = absurd (cc)
    within (Some who) e less = let same : who ≡ adds.who = cc in subst (λ (n : ℕ). n < length before.logs) same less

has_more : (before after : Read) → before.count < 100000 → Adds before after → HasLines before → HasLines after
has_more before after few adds has = elim adds [
  | inl skip ↦ subst HasLines (sym skip) (let r : HasLines (with_skip before) = record { sound = record { few = has.sound.few; ends = has.sound.ends; lines = omega (arith, few); within = has.sound.within; whole = has.sound.whole }; heads = has.heads; newest = has.newest; spans = has.spans } in r)
  | inr other ↦ (elim other [
    | inl log ↦ log_has_lines before after few log has
    | inr rest ↦ (elim rest [ inl event ↦ event_has_lines before after few event has | inr entry ↦ entry_has_lines before after few entry has ])
  ])
]

reads_has : (lines : List (List ℕ)) (before after : Read) → ReadsOn lines before after → HasLines before → HasLines after
reads_has [] before after reads has = subst HasLines (sym reads) has
reads_has (line ∷ lines) before after reads has =
    let takes = takes_of reads.0 before reads.1 reads.3 in
    reads_has lines reads.1 after reads.4 (has_more before reads.1 takes.few takes.adds has)

-- what some lines say
pub read_has_lines : (read : Read) → WasRead read → HasLines read
read_has_lines read was = reads_has was.0 nothing_read read was.1 none_has_lines
