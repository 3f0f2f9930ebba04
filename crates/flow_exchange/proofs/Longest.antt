-- Runs as the longest ones: what they hold, and that the whole ones are those found number by number.
use Rattle.std.proofs.Common.{◌≡◌, ℕ, zero, suc, ◌+◌, ◌<◌, ◌≤◌, cond, Bool, true, false, List, ◌++◌, map, Option, Some, None, refl, ap, sym, ◌∙◌, subst, arith, inl, inr}
use Rattle.std.specs.Option.{option_to_list}
use Rattle.std.specs.List.{filter}
use Rattle.std.proofs.lemmas.Bool.{cases_eq, eq-eqb, cases_Bool}
use Rattle.std.proofs.lemmas.List.{map-append}
use Rattle.std.proofs.lemmas.List.Elements.{filter-append}
use Rattle.rtmfp_data_chunks.specs.declared.user_data.Part.{Part}
use Rattle.rtmfp_data_chunks.specs.declared.user_data.Part.TheVariants.{Whole, Begin, End, Middle}
use Rattle.rtmfp_data_chunks.specs.Fragments.{Message}
use Rattle.rtmfp_data_chunks.specs.Runs.{Number, Missing, Held, GivenUp, Run, single, fits, joined, run_with, run_up_to, goes_on, run_ending, runs_to, is_whole, message_of}
use Rattle.flow_exchange.proofs.Ends.{open_with, open_at, whole_with, whole_at, wholes_to}
use Rattle.flow_exchange.proofs.Wholes.{IsHeld}

-- whether two runs one after the other fit
pub fits_next : (a b : Run) → a.last + 1 ≡ b.first → fits a b ≡ (cond a.rear false (cond b.front false true))
fits_next a b e = rw (eq-eqb (a.last + 1) b.first e) refl

abbrev pub with_parts : ℕ → ℕ → Bool → Bool → List ℕ → Run
with_parts first last front rear bytes = record { first = first; last = last; front = front; rear = rear; bytes = bytes }

-- what a run that ends at n holds
pub record LongestOf (s : ℕ → Number) (n : ℕ) (y : Run) : Type 0 where
  pub last : y.last ≡ n
  pub low : y.first ≤ n
  pub above : 0 < y.first
  pub held : (k : ℕ) → y.first ≤ k → k ≤ n → IsHeld (s k)

held_is : (v : Number) (p : Part) (b : List ℕ) → v ≡ Held p b → IsHeld v
held_is v p b e = subst IsHeld (sym e) tt

longest_single : (s : ℕ → Number) (n : ℕ) (p : Part) (b : List ℕ) (y : Run) → s (suc n) ≡ Held p b → single (suc n) p b ≡ y → LongestOf s (suc n) y
longest_single s n p b y e f = subst (λ (x : Run). LongestOf s (suc n) x) f (
    record {
      last = refl;
      low = omega arith;
      above = omega arith;
      held = λ k l h. let same : k ≡ suc n = omega arith in subst (λ (x : ℕ). IsHeld (s x)) (sym same) (held_is (s (suc n)) p b e);
    }
    )

longest_joined : (s : ℕ → Number) (n : ℕ) (p : Part) (b : List ℕ) (x y : Run) → s (suc n) ≡ Held p b → LongestOf s n x → joined x (single (suc n) p b) ≡ y → LongestOf s (suc n) y
longest_joined s n p b x y e o f = subst (λ (z : Run). LongestOf s (suc n) z) f (
    record {
      last = refl;
      low = omega (arith, o.low);
      above = o.above;
      held =
          λ k l h. elim (cases_eq k (suc n)) [
            | inl same ↦ subst (λ (z : ℕ). IsHeld (s z)) (sym same) (held_is (s (suc n)) p b e)
            | inr ne ↦ o.held k l (omega (arith, ne))
          ];
    }
    )

longest_is_if : (s : ℕ → Number) (n : ℕ) (p : Part) (b : List ℕ) (x y : Run) (t : Bool) → s (suc n) ≡ Held p b → LongestOf s n x
    → cond t (Some (joined x (single (suc n) p b))) (Some (single (suc n) p b)) ≡ Some y → LongestOf s (suc n) y
longest_is_if s n p b x y true e o f = longest_joined s n p b x y e o cc
longest_is_if s n p b x y false e o f = longest_single s n p b y e cc

longest_is_with : (s : ℕ → Number) (n : ℕ) (v : Number) (before : Option Run) (y : Run) → s (suc n) ≡ v → ((x : Run) → before ≡ Some x → LongestOf s n x)
    → run_with v (suc n) before ≡ Some y → LongestOf s (suc n) y
longest_is_with s n Missing before y e ih f = absurd cc
longest_is_with s n GivenUp before y e ih f = absurd cc
longest_is_with s n (Held p b) None y e ih f = longest_single s n p b y e cc
longest_is_with s n (Held p b) (Some x) y e ih f = longest_is_if s n p b x y (fits x (single (suc n) p b)) e (ih x refl) f

pub longest_is : (s : ℕ → Number) (n : ℕ) (y : Run) → run_up_to s n ≡ Some y → LongestOf s n y
unfolding run_up_to
longest_is s zero y e = absurd cc
longest_is s (suc n) y e = longest_is_with s n (s (suc n)) (run_up_to s n) y refl (λ x. longest_is s n x) e

abbrev pub if_open : Bool → Bool → Message → Option Message
if_open true true m = None
if_open true false m = Some m
if_open false rear m = None

abbrev pub if_whole : Bool → Bool → Message → Option Message
if_whole true true m = Some m
if_whole true false m = None
if_whole false rear m = None

abbrev pub open_of : Option Run → Option Message
open_of None = None
open_of (Some y) = if_open y.front y.rear (message_of y)

abbrev pub whole_of : Option Run → Option Message
whole_of None = None
whole_of (Some y) = if_whole y.front y.rear (message_of y)

-- a run and one more number, by the parts
open_join : (n first last : ℕ) (front rear : Bool) (bytes : List ℕ) (p : Part) (b : List ℕ) → last + 1 ≡ n
    → open_with (Held p b) n (if_open front rear (record { number = first; bytes = bytes })) ≡ open_of (run_with (Held p b) n (Some (with_parts first last front rear bytes)))
open_join n first last true true bytes Whole b e = rw (eq-eqb (last + 1) n e) refl
open_join n first last true true bytes Begin b e = rw (eq-eqb (last + 1) n e) refl
open_join n first last true true bytes End b e = rw (eq-eqb (last + 1) n e) refl
open_join n first last true true bytes Middle b e = rw (eq-eqb (last + 1) n e) refl
open_join n first last true false bytes Whole b e = rw (eq-eqb (last + 1) n e) refl
open_join n first last true false bytes Begin b e = rw (eq-eqb (last + 1) n e) refl
open_join n first last true false bytes End b e = rw (eq-eqb (last + 1) n e) refl
open_join n first last true false bytes Middle b e = rw (eq-eqb (last + 1) n e) refl
open_join n first last false true bytes Whole b e = rw (eq-eqb (last + 1) n e) refl
open_join n first last false true bytes Begin b e = rw (eq-eqb (last + 1) n e) refl
open_join n first last false true bytes End b e = rw (eq-eqb (last + 1) n e) refl
open_join n first last false true bytes Middle b e = rw (eq-eqb (last + 1) n e) refl
open_join n first last false false bytes Whole b e = rw (eq-eqb (last + 1) n e) refl
open_join n first last false false bytes Begin b e = rw (eq-eqb (last + 1) n e) refl
open_join n first last false false bytes End b e = rw (eq-eqb (last + 1) n e) refl
open_join n first last false false bytes Middle b e = rw (eq-eqb (last + 1) n e) refl

whole_join : (n first last : ℕ) (front rear : Bool) (bytes : List ℕ) (p : Part) (b : List ℕ) → last + 1 ≡ n
    → whole_with (Held p b) n (if_open front rear (record { number = first; bytes = bytes })) ≡ whole_of (run_with (Held p b) n (Some (with_parts first last front rear bytes)))
whole_join n first last true true bytes Whole b e = rw (eq-eqb (last + 1) n e) refl
whole_join n first last true true bytes Begin b e = rw (eq-eqb (last + 1) n e) refl
whole_join n first last true true bytes End b e = rw (eq-eqb (last + 1) n e) refl
whole_join n first last true true bytes Middle b e = rw (eq-eqb (last + 1) n e) refl
whole_join n first last true false bytes Whole b e = rw (eq-eqb (last + 1) n e) refl
whole_join n first last true false bytes Begin b e = rw (eq-eqb (last + 1) n e) refl
whole_join n first last true false bytes End b e = rw (eq-eqb (last + 1) n e) refl
whole_join n first last true false bytes Middle b e = rw (eq-eqb (last + 1) n e) refl
whole_join n first last false true bytes Whole b e = rw (eq-eqb (last + 1) n e) refl
whole_join n first last false true bytes Begin b e = rw (eq-eqb (last + 1) n e) refl
whole_join n first last false true bytes End b e = rw (eq-eqb (last + 1) n e) refl
whole_join n first last false true bytes Middle b e = rw (eq-eqb (last + 1) n e) refl
whole_join n first last false false bytes Whole b e = rw (eq-eqb (last + 1) n e) refl
whole_join n first last false false bytes Begin b e = rw (eq-eqb (last + 1) n e) refl
whole_join n first last false false bytes End b e = rw (eq-eqb (last + 1) n e) refl
whole_join n first last false false bytes Middle b e = rw (eq-eqb (last + 1) n e) refl

open_alone : (n : ℕ) (p : Part) (b : List ℕ) → open_with (Held p b) n None ≡ open_of (Some (single n p b))
open_alone n Whole b = refl
open_alone n Begin b = refl
open_alone n End b = refl
open_alone n Middle b = refl

whole_alone : (n : ℕ) (p : Part) (b : List ℕ) → whole_with (Held p b) n None ≡ whole_of (Some (single n p b))
whole_alone n Whole b = refl
whole_alone n Begin b = refl
whole_alone n End b = refl
whole_alone n Middle b = refl

open_step : (n : ℕ) (v : Number) (before : Option Run) → ((y : Run) → before ≡ Some y → y.last ≡ n) → open_with v (suc n) (open_of before) ≡ open_of (run_with v (suc n) before)
open_step n Missing before e = refl
open_step n GivenUp before e = refl
open_step n (Held p b) None e = open_alone (suc n) p b
open_step n (Held p b) (Some y) e = open_join (suc n) y.first y.last y.front y.rear y.bytes p b (omega (arith, e y refl))

whole_step : (n : ℕ) (v : Number) (before : Option Run) → ((y : Run) → before ≡ Some y → y.last ≡ n) → whole_with v (suc n) (open_of before) ≡ whole_of (run_with v (suc n) before)
whole_step n Missing before e = refl
whole_step n GivenUp before e = refl
whole_step n (Held p b) None e = whole_alone (suc n) p b
whole_step n (Held p b) (Some y) e = whole_join (suc n) y.first y.last y.front y.rear y.bytes p b (omega (arith, e y refl))

pub open_is_longest : (s : ℕ → Number) (n : ℕ) → open_at s n ≡ open_of (run_up_to s n)
unfolding open_at run_up_to
open_is_longest s zero = refl
open_is_longest s (suc n) =
    ap (λ x. open_with (s (suc n)) (suc n) x) (open_is_longest s n) ∙ open_step n (s (suc n)) (run_up_to s n) (λ y e. (longest_is s n y e).last)

pub whole_is_longest : (s : ℕ → Number) (n : ℕ) → whole_at s n ≡ whole_of (run_up_to s n)
unfolding whole_at run_up_to
whole_is_longest s zero = refl
whole_is_longest s (suc n) =
    ap (λ x. whole_with (s (suc n)) (suc n) x) (open_is_longest s n) ∙ whole_step n (s (suc n)) (run_up_to s n) (λ y e. (longest_is s n y e).last)

-- a whole run is a run
goes_if : (y : Run) (b : Bool) → y.rear ≡ true → cond b (cond y.rear false (cond false false true)) false ≡ false
goes_if y true e = rw e refl
goes_if y false e = refl

not_on : (y : Run) (v : Number) → y.rear ≡ true → goes_on y v ≡ false
not_on y Missing e = refl
not_on y GivenUp e = refl
not_on y (Held p b) e = fits_next y (single (y.last + 1) p b) refl ∙ (rw e refl)

ending_parts : (front rear : Bool) (y : Run) (v : Number) → y.front ≡ front → y.rear ≡ rear
    → option_to_list (if_whole front rear (message_of y)) ≡ map message_of (filter is_whole (run_ending (Some y) v))
ending_parts true true y v f r = rw (not_on y v r) (rw (f, r) refl)
ending_parts true false y v f r = elim (cases_Bool (goes_on y v)) [ inl e ↦ (rw e refl) | inr e ↦ (rw e (rw (f, r) refl)) ]
ending_parts false rear y v f r = elim (cases_Bool (goes_on y v)) [ inl e ↦ (rw e refl) | inr e ↦ (rw e (rw f refl)) ]

ending : (o : Option Run) (v : Number) → option_to_list (whole_of o) ≡ map message_of (filter is_whole (run_ending o v))
ending None v = refl
ending (Some y) v = ending_parts y.front y.rear y v refl refl

-- the whole runs, found number by number or as the longest ones
pub wholes_are : (s : ℕ → Number) (t : ℕ) → wholes_to s t ≡ map message_of (filter is_whole (runs_to s t))
unfolding wholes_to runs_to
wholes_are s zero = refl
wholes_are s (suc t) =
    ap (λ x. x ++ option_to_list (whole_at s (suc t))) (wholes_are s t)
    ∙ (ap (λ x. map message_of (filter is_whole (runs_to s t)) ++ x) (ap option_to_list (whole_is_longest s (suc t)) ∙ ending (run_up_to s (suc t)) (s (suc (suc t))))
    ∙ (sym (map-append message_of (filter is_whole (runs_to s t)) (filter is_whole (run_ending (run_up_to s (suc t)) (s (suc (suc t))))))
    ∙ ap (map message_of) (sym (filter-append is_whole (runs_to s t) (run_ending (run_up_to s (suc t)) (s (suc (suc t))))))))
