-- The lines that were handled so far, of what was taken from a source.
use Rattle.std.proofs.Common.{◌≡◌, ℕ, ◌+◌, ◌≤◌, ◌⊎◌, inl, inr, List, [], ◌∷◌, ◌++◌, length, refl, sym, ap, ◌∙◌, arith, append_assoc, append-nil, subst, Option, Some, None, IfSome}
use Rattle.std.specs.List.{AllByRecursion}
use Rattle.std.proofs.lemmas.List.{length-append}
use Rattle.rtmfp_host.specs.Seen.{SourceSeen}
use Rattle.rtmfp_host.specs.Taking.{Consumes, IsAtEnd}
use Rattle.rtmfp_lines.specs.Lines.{NoLf, lines_of, whole_lines}
use Rattle.rtmfp_lines.specs.Reading.{Asks, HasRead, IsPart}
use Rattle.rtmfp_lines.specs.Taken.{AreWithin, HasTaken, HasTakenWhole, WasNeeded}
use Rattle.rtmfp_lines.proofs.Fronts.{last_line}
use Rattle.rtmfp_lines.proofs.LinesLaws.{with_ends, NoneHasLf, lines_of-with_ends, whole_lines-with_ends, with_ends-more, none_has_lf-more}
use Rattle.rtmfp_lines.proofs.Streams.{consumes_none, consumes_more}

-- ---- what was needed

abbrev pub EachShort : ℕ → List (List ℕ) → Type 0
EachShort limit lines = AllByRecursion (λ line. length line ≤ limit) lines

-- what was taken without the last read is lines that were handled, and a part of one that may follow
pub record Front (limit most : ℕ) (asked left : Option (List ℕ)) (handled : List (List ℕ)) (taken : List ℕ) : Type 0 where
  pub whole : List (List ℕ)
  pub later : List (List ℕ)
  pub part : List ℕ
  pub got : List ℕ
  pub done : handled ≡ whole ++ later
  pub is_part : IsPart limit part
  pub few : length whole + length (lines_of part) ≤ most
  pub split : taken ≡ (with_ends whole ++ part) ++ got
  pub consumed : Consumes asked left got

abbrev pub Waits : ℕ → ℕ → SourceSeen → List (List ℕ) → List ℕ → Type 0
Waits limit most now handled taken = (taken ≡ []) ⊎ Front limit most now.asked now.left handled taken

waits_still : (limit most : ℕ) (before after : SourceSeen) (handled : List (List ℕ)) (taken : List ℕ) → after.left ≡ before.left → after.asked ≡ before.asked → Waits limit most before handled taken → Waits limit most after handled taken
waits_still limit most before after handled taken left asked waits =
    elim waits [
      | inl none ↦ inl none
      | inr front ↦ (
          let P : Option (List ℕ) → Type 0 = λ o. Front limit most o before.left handled taken in
          let Q : Option (List ℕ) → Type 0 = λ o. Front limit most after.asked o handled taken in
          inr (subst Q (sym left) (subst P (sym asked) front)))
    ]

waits_more : (limit most : ℕ) (now : SourceSeen) (handled more : List (List ℕ)) (taken : List ℕ) → Waits limit most now handled taken → Waits limit most now (handled ++ more) taken
waits_more limit most now handled more taken waits =
    elim waits [
      | inl none ↦ inl none
      | inr front ↦ inr (record {
        whole = front.whole;
        later = front.later ++ more;
        part = front.part;
        got = front.got;
        done = ap (λ ls. ls ++ more) front.done ∙ append_assoc front.whole front.later more;
        is_part = front.is_part;
        few = front.few;
        split = front.split;
        consumed = front.consumed;
      })
    ]

all_front : (P : List ℕ → Type 0) (xs ys : List (List ℕ)) → AllByRecursion P (xs ++ ys) → AllByRecursion P xs
all_front P [] ys all = tt
all_front P (x ∷ xs) ys all = (all.0, all_front P xs ys all.1)

all_append : (P : List ℕ → Type 0) (xs ys : List (List ℕ)) → AllByRecursion P xs → AllByRecursion P ys → AllByRecursion P (xs ++ ys)
all_append P [] ys p q = q
all_append P (x ∷ xs) ys p q = (p.0, all_append P xs ys p.1 q)

-- a part of a line is one line at most
pub part_lines : (limit : ℕ) (part : List ℕ) → IsPart limit part → length (lines_of part) ≤ 1
part_lines limit [] is = omega arith
part_lines limit (b ∷ part) is = omega (arith, ap (λ (ls : List (List ℕ)). length ls) (last_line (b ∷ part) is.1 (λ e. cc)))

part_short : (limit : ℕ) (part : List ℕ) → IsPart limit part → EachShort limit (lines_of part)
part_short limit [] is = tt
part_short limit (b ∷ part) is = subst (EachShort limit) (sym (last_line (b ∷ part) is.1 (λ e. cc))) (is.0, tt)

within_of : (limit most : ℕ) (whole : List (List ℕ)) (part : List ℕ) → NoneHasLf whole → EachShort limit whole → IsPart limit part → length whole + length (lines_of part) ≤ most → AreWithin limit most (with_ends whole ++ part)
within_of limit most whole part free short is few =
    let lines = lines_of-with_ends whole part free in
    record {
      short = subst (EachShort limit) (sym lines) (all_append (λ line. length line ≤ limit) whole (lines_of part) short (part_short limit part is));
      few = omega (arith, ap (λ (ls : List (List ℕ)). length ls) lines, length-append whole (lines_of part), few);
    }

asked_is : (asked : Option (List ℕ)) (rest got : List ℕ) → Consumes asked (Some rest) got → asked ≡ Some (got ++ rest)
asked_is None rest got c = absurd (cc)
asked_is (Some left) rest got c = let same : rest ≡ c.0 = cc (c.2) in ap Some (c.1 ∙ ap (λ xs. got ++ xs) (sym same))

needed : (limit most : ℕ) (handled more : List (List ℕ)) (after : SourceSeen) (taken rest : List ℕ) → after.left ≡ Some rest → NoneHasLf handled → EachShort limit handled → Waits limit most after handled taken →
    WasNeeded limit most (handled ++ more) taken rest after.asked
needed limit most handled more after taken rest left free short waits =
    elim waits [
      | inl none ↦ inl none
      | inr front ↦ (
          let whole_free : NoneHasLf front.whole = all_front NoLf front.whole front.later (subst NoneHasLf front.done free) in
          let whole_short : EachShort limit front.whole = all_front (λ line. length line ≤ limit) front.whole front.later (subst (EachShort limit) front.done short) in
          let P : Option (List ℕ) → Type 0 = λ o. Consumes after.asked o front.got in
          inr (
            with_ends front.whole ++ front.part,
            front.got,
            front.later ++ more,
            front.split,
            asked_is after.asked rest front.got (subst P left front.consumed),
            ap (λ ls. ls ++ more) (front.done ∙ ap (λ ls. ls ++ front.later) (sym (whole_lines-with_ends front.whole front.part whole_free front.is_part.1))) ∙ append_assoc (whole_lines (with_ends front.whole ++ front.part)) front.later more,
            within_of limit most front.whole front.part whole_free whole_short front.is_part front.few,
          ))
    ]

-- ---- line by line

-- These lines were handled, of what was taken from the source, and these bytes stand behind them.
pub record Handled (limit most : ℕ) (start now : SourceSeen) (lines : List (List ℕ)) (pending : List ℕ) : Type 0 where
  pub taken : List ℕ
  pub consumed : Consumes start.left now.left taken
  pub split : taken ≡ with_ends lines ++ pending
  pub free : NoneHasLf lines
  pub short : EachShort limit lines
  pub waits : Waits limit most now lines taken

pub handled_none : (limit most : ℕ) (start : SourceSeen) → Handled limit most start start [] []
handled_none limit most start = record { taken = []; consumed = consumes_none start.left; split = refl; free = tt; short = tt; waits = inl refl }

-- more was read, where a line may follow
pub handled_on : (limit most line_limit : ℕ) (start now after : SourceSeen) (lines : List (List ℕ)) (old bytes : List ℕ) → Handled limit most start now lines old → line_limit ≤ limit →
    ((part : List ℕ) → IsPart line_limit part → length lines + length (lines_of part) ≤ most) → HasRead now.left after.left old bytes → Asks line_limit now after old bytes → Handled limit most start after lines bytes
handled_on limit most line_limit start now after lines old bytes handled le few read asks =
    elim asks [
      | inl still ↦ (
          let P : Option (List ℕ) → Type 0 = λ o. Consumes start.left o handled.taken in
          record {
            taken = handled.taken;
            consumed = subst P (sym still.left) handled.consumed;
            split = handled.split ∙ ap (λ xs. with_ends lines ++ xs) (sym still.bytes);
            free = handled.free;
            short = handled.short;
            waits = waits_still limit most now after lines handled.taken still.left still.asked handled.waits;
          })
      | inr last ↦ (
          let split : handled.taken ++ read.got ≡ with_ends lines ++ bytes =
          ap (λ xs. xs ++ read.got) handled.split
          ∙ append_assoc (with_ends lines) old read.got
          ∙ ap (λ xs. with_ends lines ++ xs) (sym read.joined) in
          record {
            taken = handled.taken ++ read.got;
            consumed = consumes_more start.left now.left after.left handled.taken read.got handled.consumed read.consumed;
            split = split;
            free = handled.free;
            short = handled.short;
            waits = inr (record {
              whole = lines;
              later = [];
              part = last.part;
              got = last.got;
              done = sym (append-nil lines);
              is_part = (let fits : length last.part ≤ line_limit = last.is_part.0 in omega arith, last.is_part.1);
              few = few last.part last.is_part;
              split = split ∙ ap (λ xs. with_ends lines ++ xs) last.joined ∙ sym (append_assoc (with_ends lines) last.part last.got);
              consumed = last.consumed;
            });
          })
    ]

-- one line more was handled
pub handled_more : (limit most : ℕ) (start now : SourceSeen) (lines : List (List ℕ)) (line pending : List ℕ) → Handled limit most start now lines (line ++ 10 ∷ pending) → NoLf line → length line ≤ limit → Handled limit most start now (lines ++ line ∷ []) pending
handled_more limit most start now lines line pending handled free fits =
    record {
      taken = handled.taken;
      consumed = handled.consumed;
      split = handled.split ∙ sym (with_ends-more lines line pending);
      free = none_has_lf-more lines line handled.free free;
      short = all_append (λ line. length line ≤ limit) lines (line ∷ []) handled.short (fits, tt);
      waits = waits_more limit most now lines (line ∷ []) handled.taken handled.waits;
    }

-- ---- the text of a source that tells its bytes

-- what is left of the text, and its lines
pub record Known (limit most : ℕ) (text : List ℕ) (now : SourceSeen) (lines : List (List ℕ)) (pending : List ℕ) : Type 0 where
  pub rest : List ℕ
  pub left : now.left ≡ Some rest
  pub lines_are : lines_of text ≡ lines ++ lines_of (pending ++ rest)
  pub took : (more : List (List ℕ)) → HasTaken limit most text (lines ++ more) now
  pub whole : IsPart limit pending → length lines + length (lines_of pending) ≤ most → HasTakenWhole limit most text lines now

pub known : (limit most : ℕ) (start now : SourceSeen) (lines : List (List ℕ)) (pending text : List ℕ) → start.left ≡ Some text → Handled limit most start now lines pending → Known limit most text now lines pending
known limit most start now lines pending text e handled =
    let P : Option (List ℕ) → Type 0 = λ o. Consumes o now.left handled.taken in
    let found = subst P e handled.consumed in
    record {
      rest = found.0;
      left = found.2;
      lines_are =
          ap lines_of (found.1 ∙ ap (λ xs. xs ++ found.0) handled.split ∙ append_assoc (with_ends lines) pending found.0)
          ∙ lines_of-with_ends lines (pending ++ found.0) handled.free;
      took = λ more. record {
        taken = handled.taken;
        rest = found.0;
        split = found.1;
        left = found.2;
        needed = needed limit most lines more now handled.taken found.0 found.2 handled.free handled.short handled.waits;
      };
      whole = λ part few. record {
        taken = handled.taken;
        rest = found.0;
        split = found.1;
        left = found.2;
        whole = sym (ap whole_lines handled.split ∙ whole_lines-with_ends lines pending handled.free part.1);
        within = subst (AreWithin limit most) (sym handled.split) (within_of limit most lines pending handled.free handled.short part few);
      };
    }

-- where nothing is left these are all lines
pub known_all : (limit most : ℕ) (text : List ℕ) (now : SourceSeen) (lines : List (List ℕ)) (pending : List ℕ) (it : Known limit most text now lines pending) → IsAtEnd now.left → (now.left ≡ Some []) × (lines_of text ≡ lines ++ lines_of pending)
known_all limit most text now lines pending it end =
    let none : it.rest ≡ [] = subst IsAtEnd it.left end in
    (it.left ∙ ap Some none, it.lines_are ∙ ap (λ xs. lines ++ lines_of (pending ++ xs)) none ∙ ap (λ xs. lines ++ lines_of xs) (append-nil pending))

pub told_from : (o : Option (List ℕ)) (P : List ℕ → Type 0) → ((text : List ℕ) → o ≡ Some text → P text) → IfSome o P
told_from None P h = tt
told_from (Some text) P h = h text refl

pub told_map : (o : Option (List ℕ)) (P Q : List ℕ → Type 0) → ((text : List ℕ) → P text → Q text) → IfSome o P → IfSome o Q
told_map None P Q h p = tt
told_map (Some text) P Q h p = h text p
