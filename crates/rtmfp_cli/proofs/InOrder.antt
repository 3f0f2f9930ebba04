-- What a run over lines has written, by its status.
use Rattle.std.proofs.Common.{◌≡◌, inl, inr, ℕ, ◌+◌, ◌-◌, ◌==◌, Bool, true, false, if◌then◌else◌, List, [], ◌∷◌, ◌++◌, take, drop, length, Option, Some, IfSome, refl, sym, ap, ◌∙◌, append_assoc, subst, arith}
use Rattle.std.proofs.lemmas.List.{take-append-drop}
use Rattle.rtmfp_lines.specs.Lines.{lines_of, whole_lines, put_first, put_whole}
use Rattle.rtmfp_lines.specs.Outside.{Outside}
use Rattle.rtmfp_cli.specs.declared.doing.Doing.{Doing}
use Rattle.rtmfp_cli.specs.Script.{AllDone, CutShort, HasDone, IsPartOfNext, Runs, SomeDone, StopsAt, StopsOn, TakenDone, Told, TooMany}
use Rattle.rtmfp_cli.specs.Doing.{IsBadLine, IsForgedLine, ending_of}
use Rattle.rtmfp_cli.specs.Laws.{AreSame, EachRunWritesInOrder, WritesAPart, WritesBefore}
use Rattle.rtmfp_cli.proofs.OneRun.{IsOne, both_do, each_script_has_one_run, one_ending}

-- ---- a run over lines and others is one run after another

record Parted (n : ℕ) (doing left : Doing) (lines more : List (List ℕ)) (text : List ℕ) : Type 0 where
  middle : Doing
  first : List ℕ
  rest : List ℕ
  before : Runs n doing lines middle first
  later : Runs (n + length lines) middle more left rest
  texts : text ≡ first ++ rest

runs_at : (m n : ℕ) (doing left : Doing) (lines : List (List ℕ)) (text : List ℕ) → m ≡ n → Runs m doing lines left text → Runs n doing lines left text
runs_at m n doing left lines text e ran = subst (λ k. Runs k doing lines left text) e ran

parted : (n : ℕ) (doing left : Doing) (lines more : List (List ℕ)) (text : List ℕ) → Runs n doing (lines ++ more) left text → Parted n doing left lines more text
parted n doing left [] more text ran =
    let same : n ≡ n + 0 = omega arith in
    record { middle = doing; first = []; rest = text; before = (refl, refl); later = runs_at n (n + 0) doing left more text same ran; texts = refl }
parted n doing left (line ∷ lines) more text ran =
    let next = parted (n + 1) ran.0 left lines more ran.2 ran.4 in
    let same : (n + 1) + length lines ≡ n + length (line ∷ lines) = omega arith in record {
      middle = next.middle;
      first = ran.1 ++ next.first;
      rest = next.rest;
      before = (ran.0, ran.1, next.first, ran.3, next.before, refl);
      later = runs_at ((n + 1) + length lines) (n + length (line ∷ lines)) next.middle left more next.rest same next.later;
      texts = ran.5 ∙ ap (λ xs. ran.1 ++ xs) next.texts ∙ sym (append_assoc ran.1 next.first next.rest);
    }

-- The first lines were done, and their text is that of any run over more.
record Known (doing left : Doing) (lines more : List (List ℕ)) (done : List ℕ) (end : Doing) (text : List ℕ) : Type 0 where
  middle : Doing
  rest : List ℕ
  same : AreSame middle left
  later : Runs (length lines + 1) middle more end rest
  texts : text ≡ done ++ rest

known : (doing left end : Doing) (all lines more : List (List ℕ)) (done text : List ℕ) → all ≡ lines ++ more → Runs 1 doing lines left done → Runs 1 doing all end text → Known doing left lines more done end text
known doing left end all lines more done text split ran whole =
    let two = parted 1 doing end lines more text (subst (λ ls. Runs 1 doing ls end text) split whole) in
    let one = each_script_has_one_run 1 doing two.middle left lines two.first done two.before ran in
    let same : 1 + length lines ≡ length lines + 1 = omega arith in record {
      middle = two.middle;
      rest = two.rest;
      same = one.0;
      later = runs_at (1 + length lines) (length lines + 1) two.middle end more two.rest same two.later;
      texts = two.texts ∙ ap (λ xs. xs ++ two.rest) one.1;
    }

-- ---- a part of the text

-- what stands behind a first part, with the ending
with_ending : (text done rest ending : List ℕ) → text ≡ done ++ rest → text ++ ending ≡ done ++ (rest ++ ending)
with_ending text done rest ending e = ap (λ xs. xs ++ ending) e ∙ append_assoc done rest ending

some_part : (doing : Doing) (script : List ℕ) (before after : Outside) → SomeDone doing script before after → WritesAPart doing (lines_of script) before after
some_part doing script before after some left text ran =
    let known_so = known doing some.has.left left (lines_of script) some.lines some.more some.has.text text some.split some.has.ran ran in
    (some.has.text, known_so.rest ++ ending_of left, with_ending text some.has.text known_so.rest (ending_of left) known_so.texts, some.has.written)

-- a part of a text, and the rest of it
taken_of : (text part : List ℕ) (k : ℕ) → part ≡ take k text → text ≡ part ++ drop k text
taken_of text part k e = sym (take-append-drop k text) ∙ ap (λ xs. xs ++ drop k text) (sym e)

-- a part of what comes next, which is first in what is left of the text and the ending
next_part : (n : ℕ) (left middle end : Doing) (more : List (List ℕ)) (part rest : List ℕ) → AreSame middle left → Runs n middle more end rest → IsPartOfNext left n more part →
    (later : List ℕ) × (rest ++ ending_of end ≡ part ++ later)
next_part n left middle end [] part rest same ran h =
    let ending : ending_of end ≡ ending_of left = ap ending_of ran.0 ∙ one_ending middle left same in (
      drop h.0 (ending_of left),
      ap (λ xs. xs ++ ending_of end) ran.1 ∙ ending ∙ taken_of (ending_of left) part h.0 h.1,
    )
next_part n left middle end (line ∷ more) part rest same ran (inl none) = (rest ++ ending_of end, ap (λ xs. xs ++ (rest ++ ending_of end)) (sym none))
next_part n left middle end (line ∷ more) part rest same ran (inr h) =
    let one : IsOne ran.0 h.0 ran.1 h.1 = both_do n line middle left ran.0 h.0 ran.1 h.1 same ran.3 h.3 in
    let after : List ℕ = drop h.2 h.1 ++ ran.2 in
    let split : rest ≡ part ++ after = ran.5 ∙ ap (λ xs. xs ++ ran.2) (one.texts ∙ taken_of h.1 part h.2 h.4) ∙ append_assoc part (drop h.2 h.1) ran.2 in
    (after ++ ending_of end, with_ending rest part after (ending_of end) split)

cut_part : (doing : Doing) (script : List ℕ) (before after : Outside) → CutShort doing script before after → WritesAPart doing (lines_of script) before after
cut_part doing script before after cut left text ran =
    let so = known doing cut.left left (lines_of script) cut.lines cut.more cut.text text cut.split cut.ran ran in
    let next = next_part (length cut.lines + 1) cut.left so.middle left cut.more cut.part so.rest so.same so.later cut.next in (
      cut.text ++ cut.part,
      next.0,
      with_ending text cut.text so.rest (ending_of left) so.texts ∙ ap (λ xs. cut.text ++ xs) next.1 ∙ sym (append_assoc cut.text cut.part next.0),
      cut.written,
    )

-- the whole lines of what comes first are the first lines of all
lines_begin : (t : Bool) (b : ℕ) (all whole more : List (List ℕ)) → all ≡ whole ++ more →
    (later : List (List ℕ)) × ((if t then [] ∷ all else put_first b all) ≡ (if t then [] ∷ whole else put_whole b whole) ++ later)
lines_begin true b all whole more e = (more, ap (λ ls. [] ∷ ls) e)
lines_begin false b all [] more e = (put_first b all, refl)
lines_begin false b all (line ∷ whole) more e = (more, ap (put_first b) e)

lines_of_more : (taken rest : List ℕ) → (more : List (List ℕ)) × (lines_of (taken ++ rest) ≡ whole_lines taken ++ more)
lines_of_more [] rest = (lines_of rest, refl)
lines_of_more (b ∷ taken) rest =
    let next = lines_of_more taken rest in
    lines_begin (b == 10) b (lines_of (taken ++ rest)) (whole_lines taken) next.0 next.1

taken_part : (doing : Doing) (script : List ℕ) (before after : Outside) → TakenDone doing script before after → WritesAPart doing (lines_of script) before after
taken_part doing script before after taken left text ran =
    let begin = lines_of_more taken.took.taken taken.took.rest in
    let split = ap lines_of taken.took.split ∙ begin.1 ∙ ap (λ ls. ls ++ begin.0) (sym taken.took.whole) in
    let so = known doing taken.has.left left (lines_of script) taken.lines begin.0 taken.has.text text split taken.has.ran ran in
    (taken.has.text, so.rest ++ ending_of left, with_ending text taken.has.text so.rest (ending_of left) so.texts, taken.has.written)

-- ---- the lines before a line

take_first : (lines more : List (List ℕ)) → take (length lines) (lines ++ more) ≡ lines
take_first [] more = refl
take_first (line ∷ lines) more = ap (λ ls. line ∷ ls) (take_first lines more)

before_line : (doing : Doing) (script : List ℕ) (n : ℕ) (line : List ℕ) (lines : List (List ℕ)) (before after : Outside) → StopsAt script n lines line → HasDone doing before after lines →
    WritesBefore n doing (lines_of script) before after
before_line doing script n line lines before after stops has =
    let number = stops.number in
    let at : n - 1 ≡ length lines = omega (arith, number) in
    let first : take (n - 1) (lines_of script) ≡ lines = ap (λ k. take k (lines_of script)) at ∙ ap (take (length lines)) stops.split ∙ take_first lines (line ∷ stops.more) in
    record { left = has.left; text = has.text; ran = subst (λ ls. Runs 1 doing ls has.left has.text) (sym first) has.ran; written = has.written }

-- ---- by the status

told_of_script : (before : Outside) (P : List ℕ → Type 0) (script : List ℕ) → before.source.left ≡ Some script → Told before P → P script
told_of_script before P script is told = subst (λ (o : Option (List ℕ)). IfSome o P) is told

pub each_run_writes_in_order : EachRunWritesInOrder
each_run_writes_in_order = record {
  done = λ doing script before after is ends.
      let all = told_of_script before (λ s. AllDone doing s before after) script is ends.1 in
      record { left = all.has.left; text = all.has.text; ran = all.has.ran; written = all.has.written };
  bad = λ n doing script before after is ends.
      let stops = told_of_script before (λ s. StopsOn IsBadLine doing s n before after) script is ends.1 in
      before_line doing script n stops.line stops.lines before after stops.stops stops.has;
  forged = λ n doing script before after is ends.
      let stops = told_of_script before (λ s. StopsOn IsForgedLine doing s n before after) script is ends.1 in
      before_line doing script n stops.line stops.lines before after stops.stops stops.has;
  long = λ doing script before after is ends.
      let many = told_of_script before (λ s. TooMany doing s before after) script is ends.1 in
      before_line doing script 1000001 many.line many.lines before after many.stops many.has;
  memory = λ doing script before after is ends. some_part doing script before after (told_of_script before (λ s. SomeDone doing s before after) script is ends.1);
  sink = λ doing script before after is ends. cut_part doing script before after (told_of_script before (λ s. CutShort doing s before after) script is ends.1);
  source = λ doing script before after is ends. taken_part doing script before after (told_of_script before (λ s. TakenDone doing s before after) script is ends.2);
}
