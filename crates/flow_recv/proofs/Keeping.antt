-- The runs as a map by their first numbers, and the numbers of those that are whole.
use Rattle.std.proofs.Common.{◌≡◌, ℕ, ◌+◌, ◌<◌, ◌≤◌, nat_lt, ◌==◌, cond, Bool, true, false, ◌&&◌, List, [], ◌∷◌, length, Option, Some, None, refl, ap, sym, ◌∙◌, subst, arith, inl, inr}
use Rattle.std.specs.Prelude.{IfSome}
use Rattle.std.specs.Option.{IsSomeAnd, option_map, unwrap_or}
use Rattle.std.proofs.lemmas.Map.Steps.{set_value_same}
use Rattle.std.specs.Ordering.{nat_cmp, match_ordering}
use Rattle.std.specs.declared.cmp.Ordering.TheVariants.{Less}
use Rattle.std.specs.List.{AllByRecursion}
use Rattle.std.specs.List.Sorted.{IsStrictlySortedBy}
use Rattle.std.specs.Map.{keys_of, values_of, lookup, remove_entry, set_value}
use Rattle.std.specs.BTreeMap.{insert_entry}
use Rattle.std.specs.BTreeSet.{insert_key}
use Rattle.std.specs.Set.{remove_key}
use Rattle.std.proofs.lemmas.Map.Keys.{sorted_head, sorted_tail}
use Rattle.std.proofs.lemmas.Bool.{cases_Bool, cases_lt, lt-ltb, le-ltb, ne_eqb, eqb-true, eq-eqb}
use Rattle.rtmfp_data_chunks.specs.Runs.{Run, is_whole, fits}
use Rattle.rtmfp_data_chunks.proofs.Keys.{less_lt, lt_less, gt_greater, is_key, is_key_is}
use Rattle.flow_recv.specs.Receiver.{first_of, without_first}
use Rattle.flow_recv.proofs.Bounds.{fits_parts}
use Rattle.flow_recv.specs.Keyed.{run_at, without_run, with_run, changed_run, changed_entry, front_of, keyed, whole_firsts, IsKept}

-- ---- the entries of a map

pub values_keyed : (xs : List Run) → values_of (keyed xs) ≡ xs
values_keyed [] = refl
values_keyed (y ∷ later) = ap (λ zs. y ∷ zs) (values_keyed later)

pub lookup_keyed : (n : ℕ) (xs : List Run) → lookup (is_key n) (keyed xs) ≡ run_at n xs
lookup_keyed n [] = refl
lookup_keyed n (y ∷ later) =
    ap (λ t. cond t (Some y) (lookup (is_key n) (keyed later))) (is_key_is n y.first) ∙ ap (λ o. cond (y.first == n) (Some y) o) (lookup_keyed n later)

remove_if : (n : ℕ) (y : Run) (later : List Run) (zs : List Run) (t : Bool) → cond t (keyed later) ((y.first, y) ∷ keyed zs) ≡ keyed (cond t later (y ∷ zs))
remove_if n y later zs true = refl
remove_if n y later zs false = refl

pub remove_keyed : (n : ℕ) (xs : List Run) → remove_entry (is_key n) (keyed xs) ≡ keyed (without_run n xs)
remove_keyed n [] = refl
remove_keyed n (y ∷ later) =
    ap (λ t. cond t (keyed later) ((y.first, y) ∷ remove_entry (is_key n) (keyed later))) (is_key_is n y.first)
    ∙ (ap (λ es. cond (y.first == n) (keyed later) ((y.first, y) ∷ es)) (remove_keyed n later) ∙ remove_if n y later (without_run n later) (y.first == n))

none_if : (y : Run) (o : Option Run) (t : Bool) → cond t (Some y) o ≡ None → (t ≡ false) × (o ≡ None)
none_if y o true e = absurd cc
none_if y o false e = (refl, e)

insert_if : (n k : ℕ) (v : Run) (es fs : List (ℕ × Run)) → (k ≡ n → ⊥) → (xs : List Run) (y : Run) (zs : List Run) → k ≡ y.first → es ≡ keyed xs → fs ≡ keyed zs → n ≡ v.first
    → match_ordering (nat_cmp n k) ((n, v) ∷ (k, y) ∷ es) ((k, v) ∷ es) ((k, y) ∷ fs) ≡ keyed (cond (nat_lt n k) (v ∷ y ∷ xs) (y ∷ zs))
insert_if n k v es fs ne xs y zs e f g h = elim (cases_lt n k) [
  | inl lt ↦ rw (lt_less n k lt, lt-ltb n k lt) (ap (λ m. (m, v) ∷ (k, y) ∷ es) h ∙ (ap (λ m. (v.first, v) ∷ (m, y) ∷ es) e ∙ ap (λ ds. (v.first, v) ∷ (y.first, y) ∷ ds) f))
  | inr ge ↦
      let gt : k < n = elim (cases_lt k n) [ inl lt ↦ lt | inr le ↦ absurd (ne (omega (arith, ge, le))) ] in
      rw (gt_greater n k gt, le-ltb n k ge) (ap (λ m. (m, y) ∷ fs) e ∙ ap (λ ds. (y.first, y) ∷ ds) g)
]

pub insert_keyed : (x : Run) (xs : List Run) → run_at x.first xs ≡ None → insert_entry nat_cmp (keyed xs) x.first x ≡ keyed (with_run x xs)
insert_keyed x [] e = refl
insert_keyed x (y ∷ later) e =
    let p = none_if y (run_at x.first later) (y.first == x.first) e in
    insert_if x.first y.first x (keyed later) (insert_entry nat_cmp (keyed later) x.first x) (λ s. let t : true ≡ false = sym (eq-eqb y.first x.first s) ∙ p.0 in absurd cc) later y (with_run x later) refl refl (insert_keyed x later p.1) refl

changed_if : (f : Run → Run) (y : Run) (later zs : List Run) (t : Bool) → (f y).first ≡ y.first → cond t ((y.first, f y) ∷ keyed later) ((y.first, y) ∷ keyed zs) ≡ keyed (cond t (f y ∷ later) (y ∷ zs))
changed_if f y later zs true e = ap (λ m. (m, f y) ∷ keyed later) (sym e)
changed_if f y later zs false e = refl

pub changed_keyed : (f : Run → Run) (n : ℕ) (xs : List Run) → ((y : Run) → (f y).first ≡ y.first) → changed_entry f n (keyed xs) ≡ keyed (changed_run f n xs)
changed_keyed f n [] h = refl
changed_keyed f n (y ∷ later) h =
    ap (λ es. cond (y.first == n) ((y.first, f y) ∷ keyed later) ((y.first, y) ∷ es)) (changed_keyed f n later h) ∙ changed_if f y later (changed_run f n later) (y.first == n) (h y)

-- what was looked up, changed and written back
set_if : (f : Run → Run) (n : ℕ) (e : ℕ × Run) (es : List (ℕ × Run)) (y : Run) (t u : Bool) → t ≡ u → cond t (Some e.1) (lookup (is_key n) es) ≡ Some y
    → (lookup (is_key n) es ≡ Some y → set_value (is_key n) es (f y) ≡ changed_entry f n es)
    → cond t ((e.0, f y) ∷ es) (e ∷ set_value (is_key n) es (f y)) ≡ cond u ((e.0, f e.1) ∷ es) (e ∷ changed_entry f n es)
set_if f n e es y true true s h ih = let g : Some e.1 ≡ Some y = h in ap (λ v. (e.0, f v) ∷ es) (sym (some_eq e.1 y g))
  where
    some_eq : (a b : Run) → Some a ≡ Some b → a ≡ b
    some_eq a b k = ap (λ (o : Option Run). Rattle.std.specs.Option.unwrap_or o a) k
set_if f n e es y false false s h ih = ap (λ ds. e ∷ ds) (ih h)
set_if f n e es y true false s h ih = absurd cc
set_if f n e es y false true s h ih = absurd cc

pub set_changed : (f : Run → Run) (n : ℕ) (es : List (ℕ × Run)) (y : Run) → lookup (is_key n) es ≡ Some y → set_value (is_key n) es (f y) ≡ changed_entry f n es
set_changed f n [] y h = refl
set_changed f n (e ∷ es) y h = set_if f n e es y (is_key n e.0) (e.0 == n) (is_key_is n e.0) h (λ g. set_changed f n es y g)

same_if : (f : Run → Run) (n : ℕ) (e : ℕ × Run) (es : List (ℕ × Run)) (t u : Bool) → t ≡ u → cond t (Some e.1) (lookup (is_key n) es) ≡ None
    → (lookup (is_key n) es ≡ None → changed_entry f n es ≡ es) → cond u ((e.0, f e.1) ∷ es) (e ∷ changed_entry f n es) ≡ e ∷ es
same_if f n e es true u s h ih = absurd cc
same_if f n e es false true s h ih = absurd cc
same_if f n e es false false s h ih = ap (λ ds. e ∷ ds) (ih h)

pub changed_none : (f : Run → Run) (n : ℕ) (es : List (ℕ × Run)) → lookup (is_key n) es ≡ None → changed_entry f n es ≡ es
changed_none f n [] h = refl
changed_none f n (e ∷ es) h = same_if f n e es (is_key n e.0) (e.0 == n) (is_key_is n e.0) h (λ g. changed_none f n es g)

-- ---- the first numbers rise

abbrev pub Rising : ℕ → List Run → Type 0
Rising low [] = Unit {0}
Rising low (y ∷ later) = (low ≤ y.first) × Rising (y.first + 1) later

rising_from : (k : ℕ) (xs : List Run) → AllByRecursion (λ q. nat_cmp k q ≡ Less) (keys_of (keyed xs)) → IsStrictlySortedBy nat_cmp (keys_of (keyed xs)) → Rising (k + 1) xs
rising_from k [] a s = tt
rising_from k (y ∷ later) a s =
    let lt = less_lt k y.first a.0 in (
      omega (arith, lt),
      rising_from y.first later (sorted_head nat_cmp y.first (keys_of (keyed later)) s) (sorted_tail nat_cmp y.first (keys_of (keyed later)) s),
    )

pub rising_keyed : (xs : List Run) → IsStrictlySortedBy nat_cmp (keys_of (keyed xs)) → Rising 0 xs
rising_keyed [] s = tt
rising_keyed (y ∷ later) s = (
  omega arith,
  rising_from y.first later (sorted_head nat_cmp y.first (keys_of (keyed later)) s) (sorted_tail nat_cmp y.first (keys_of (keyed later)) s),
)

abbrev pub Above : ℕ → List ℕ → Type 0
Above low [] = Unit {0}
Above low (k ∷ ks) = (low ≤ k) × Above (k + 1) ks

above_less : (a b : ℕ) (ks : List ℕ) → a ≤ b → Above b ks → Above a ks
above_less a b [] le h = tt
above_less a b (k ∷ ks) le h = (omega (arith, le, h.0), h.1)

above_if : (low : ℕ) (y : Run) (ks : List ℕ) (t : Bool) → low ≤ y.first → Above (y.first + 1) ks → Above low (cond t (y.first ∷ ks) ks)
above_if low y ks true le h = (le, h)
above_if low y ks false le h = above_less low (y.first + 1) ks (omega (arith, le)) h

whole_above : (low : ℕ) (xs : List Run) → Rising low xs → Above low (whole_firsts xs)
whole_above low [] h = tt
whole_above low (y ∷ later) h = above_if low y (whole_firsts later) (is_whole y) h.0 (whole_above (y.first + 1) later h.1)

pub at_below : (n low : ℕ) (xs : List Run) → n < low → Rising low xs → run_at n xs ≡ None
at_below n low [] lt h = refl
at_below n low (y ∷ later) lt h = rw (ne_eqb y.first n (λ e. omega (arith, e, lt, h.0))) (at_below n (y.first + 1) later (omega (arith, lt, h.0)) h.1)

-- ---- the numbers of the whole runs

insert_low : (n low : ℕ) (ks : List ℕ) → n < low → Above low ks → insert_key nat_cmp ks n ≡ n ∷ ks
insert_low n low [] lt h = refl
insert_low n low (k ∷ ks) lt h = rw (lt_less n k (omega (arith, lt, h.0))) refl

insert_past : (n k : ℕ) (ks : List ℕ) → k < n → insert_key nat_cmp (k ∷ ks) n ≡ k ∷ insert_key nat_cmp ks n
insert_past n k ks lt = rw (gt_greater n k lt) refl

remove_low : (n low : ℕ) (ks : List ℕ) → n < low → Above low ks → remove_key (is_key n) ks ≡ ks
remove_low n low [] lt h = refl
remove_low n low (k ∷ ks) lt h =
    ap (λ t. cond t ks (k ∷ remove_key (is_key n) ks)) (is_key_is n k ∙ ne_eqb k n (λ e. omega (arith, e, lt, h.0))) ∙ ap (λ zs. k ∷ zs) (remove_low n (k + 1) ks (omega (arith, lt, h.0)) h.1)

remove_first : (n : ℕ) (ks : List ℕ) → remove_key (is_key n) (n ∷ ks) ≡ ks
remove_first n ks = ap (λ t. cond t ks (n ∷ remove_key (is_key n) ks)) (is_key_is n n ∙ eq-eqb n n refl)

remove_past : (n k : ℕ) (ks : List ℕ) → (k == n) ≡ false → remove_key (is_key n) (k ∷ ks) ≡ k ∷ remove_key (is_key n) ks
remove_past n k ks ne = ap (λ t. cond t ks (k ∷ remove_key (is_key n) ks)) (is_key_is n k ∙ ne)

-- without a run
without_if : (n : ℕ) (y : Run) (later : List Run) (t w : Bool) → (y.first == n) ≡ t → is_whole y ≡ w → Rising (y.first + 1) later → whole_firsts (without_run n later) ≡ remove_key (is_key n) (whole_firsts later)
    → whole_firsts (cond t later (y ∷ without_run n later)) ≡ remove_key (is_key n) (cond w (y.first ∷ whole_firsts later) (whole_firsts later))
without_if n y later true true e f h ih = let s = eqb-true y.first n e in sym (ap (λ m. remove_key (is_key n) (m ∷ whole_firsts later)) s ∙ remove_first n (whole_firsts later))
without_if n y later true false e f h ih =
    let s = eqb-true y.first n e in sym (remove_low n (y.first + 1) (whole_firsts later) (omega (arith, s)) (whole_above (y.first + 1) later h))
without_if n y later false true e f h ih = ap (λ w. cond w (y.first ∷ whole_firsts (without_run n later)) (whole_firsts (without_run n later))) f ∙ (ap (λ ks. y.first ∷ ks) ih ∙ sym (remove_past n y.first (whole_firsts later) e))
without_if n y later false false e f h ih = ap (λ w. cond w (y.first ∷ whole_firsts (without_run n later)) (whole_firsts (without_run n later))) f ∙ ih

pub whole_without : (n low : ℕ) (xs : List Run) → Rising low xs → whole_firsts (without_run n xs) ≡ remove_key (is_key n) (whole_firsts xs)
whole_without n low [] h = refl
whole_without n low (y ∷ later) h = without_if n y later (y.first == n) (is_whole y) refl refl h.1 (whole_without n (y.first + 1) later h.1)

-- what the keys are with a number that is or isn't put among them
abbrev pub marked : Bool → ℕ → List ℕ → List ℕ
marked w n ks = cond w (insert_key nat_cmp ks n) ks

marked_low : (w : Bool) (n low : ℕ) (ks : List ℕ) → n < low → Above low ks → marked w n ks ≡ cond w (n ∷ ks) ks
marked_low true n low ks lt h = insert_low n low ks lt h
marked_low false n low ks lt h = refl

marked_past : (w v : Bool) (n k : ℕ) (ks : List ℕ) → k < n → cond v (k ∷ marked w n ks) (marked w n ks) ≡ marked w n (cond v (k ∷ ks) ks)
marked_past true true n k ks lt = sym (insert_past n k ks lt)
marked_past true false n k ks lt = refl
marked_past false true n k ks lt = refl
marked_past false false n k ks lt = refl

-- with one more run
pub whole_with : (x : Run) (low : ℕ) (xs : List Run) → Rising low xs → run_at x.first xs ≡ None → whole_firsts (with_run x xs) ≡ marked (is_whole x) x.first (whole_firsts xs)
whole_with x low [] h e = one (is_whole x)
  where
    one : (t : Bool) → cond t (x.first ∷ []) [] ≡ marked t x.first []
    one true = refl
    one false = refl
whole_with x low (y ∷ later) h e = elim (cases_lt x.first y.first) [
  | inl lt ↦
      ap (λ t. whole_firsts (cond t (x ∷ y ∷ later) (y ∷ with_run x later))) (lt-ltb x.first y.first lt)
      ∙ sym (marked_low (is_whole x) x.first y.first (whole_firsts (y ∷ later)) lt (whole_above y.first (y ∷ later) (omega arith, h.1)))
  | inr ge ↦
      let p = none_if y (run_at x.first later) (y.first == x.first) e in
      let gt : y.first < x.first = elim (cases_lt y.first x.first) [ inl lt ↦ lt | inr le ↦ let t : true ≡ false = sym (eq-eqb y.first x.first (omega (arith, ge, le))) ∙ p.0 in absurd cc ] in
      ap (λ t. whole_firsts (cond t (x ∷ y ∷ later) (y ∷ with_run x later))) (le-ltb x.first y.first ge)
      ∙ (ap (λ ks. cond (is_whole y) (y.first ∷ ks) ks) (whole_with x (y.first + 1) later h.1 p.1) ∙ marked_past (is_whole x) (is_whole y) x.first y.first (whole_firsts later) gt)
]

-- with a run changed that wasn't whole, so that it has the rear of another
pub both : (f r : Bool) → cond f r false ≡ (f && r)
both true r = refl
both false r = refl

-- what changes a run so
pub record Rears (f : Run → Run) (r : Bool) : Type 0 where
  pub first : (y : Run) → (f y).first ≡ y.first
  pub whole : (y : Run) → is_whole (f y) ≡ (y.front && r)

changed_here : (f : Run → Run) (r : Bool) (y : Run) (later : List Run) → Rears f r → is_whole y ≡ false → Rising (y.first + 1) later
    → whole_firsts (f y ∷ later) ≡ marked (y.front && r) y.first (whole_firsts (y ∷ later))
changed_here f r y later c e h =
    let ks = whole_firsts later in
    ap (λ t. cond t ((f y).first ∷ ks) ks) (c.whole y)
    ∙ (ap (λ m. cond (y.front && r) (m ∷ ks) ks) (c.first y)
    ∙ (sym (marked_low (y.front && r) y.first (y.first + 1) ks (omega arith) (whole_above (y.first + 1) later h))
    ∙ ap (λ t. marked (y.front && r) y.first (cond t (y.first ∷ ks) ks)) (sym e)))

front_none : (n low : ℕ) (xs : List Run) (r : Bool) → n < low → Rising low xs → (front_of (run_at n xs) && r) ≡ false
front_none n low xs r lt h = ap (λ o. front_of o && r) (at_below n low xs lt h)

if_here : (y : Run) (o : Option Run) (P : Run → Type 0) (t : Bool) → t ≡ true → IfSome (cond t (Some y) o) P → P y
if_here y o P true e h = h
if_here y o P false e h = absurd cc

if_later : (y : Run) (o : Option Run) (P : Run → Type 0) (t : Bool) → t ≡ false → IfSome (cond t (Some y) o) P → IfSome o P
if_later y o P true e h = absurd cc
if_later y o P false e h = h

pub whole_changed : (f : Run → Run) (r : Bool) (n low : ℕ) (xs : List Run) → Rears f r → Rising low xs → IfSome (run_at n xs) (λ y. is_whole y ≡ false)
    → whole_firsts (changed_run f n xs) ≡ marked (front_of (run_at n xs) && r) n (whole_firsts xs)
whole_changed f r n low [] c h i = refl
whole_changed f r n low (y ∷ later) c h i = elim (cases_Bool (y.first == n)) [
  | inl t ↦
      let s = eqb-true y.first n t in
      rw t (changed_here f r y later c (if_here y (run_at n later) (λ y. is_whole y ≡ false) (y.first == n) t i) h.1 ∙ ap (λ m. marked (y.front && r) m (whole_firsts (y ∷ later))) s)
  | inr e ↦
      let ih = whole_changed f r n (y.first + 1) later c h.1 (if_later y (run_at n later) (λ y. is_whole y ≡ false) (y.first == n) e i) in
      rw e (ap (λ ks. cond (is_whole y) (y.first ∷ ks) ks) ih ∙ past_is e)
]
  where
    past_is : (y.first == n) ≡ false → cond (is_whole y) (y.first ∷ marked (front_of (run_at n later) && r) n (whole_firsts later)) (marked (front_of (run_at n later) && r) n (whole_firsts later))
        ≡ marked (front_of (run_at n later) && r) n (cond (is_whole y) (y.first ∷ whole_firsts later) (whole_firsts later))
    past_is f = elim (cases_lt y.first n) [
      | inl lt ↦ marked_past (front_of (run_at n later) && r) (is_whole y) n y.first (whole_firsts later) lt
      | inr ge ↦ rw (front_none n (y.first + 1) later r (omega (arith, ge)) h.1) refl
    ]

-- ---- a number that is taken out again

abbrev pub Lacks : ℕ → List ℕ → Type 0
Lacks n [] = Unit {0}
Lacks n (k ∷ ks) = ((k == n) ≡ false) × Lacks n ks

remove_lacks : (n : ℕ) (ks : List ℕ) → Lacks n ks → remove_key (is_key n) ks ≡ ks
remove_lacks n [] h = refl
remove_lacks n (k ∷ ks) h = remove_past n k ks h.0 ∙ ap (λ zs. k ∷ zs) (remove_lacks n ks h.1)

undo_insert : (n : ℕ) (ks : List ℕ) → Lacks n ks → remove_key (is_key n) (insert_key nat_cmp ks n) ≡ ks
undo_insert n [] h = remove_first n []
undo_insert n (k ∷ ks) h = elim (cases_lt n k) [
  | inl lt ↦ ap (remove_key (is_key n)) (insert_if2 lt) ∙ remove_first n (k ∷ ks)
  | inr ge ↦
      let gt : k < n = elim (cases_lt k n) [ inl lt ↦ lt | inr le ↦ let t : true ≡ false = sym (eq-eqb k n (omega (arith, ge, le))) ∙ h.0 in absurd cc ] in
      ap (remove_key (is_key n)) (insert_past n k ks gt) ∙ (remove_past n k (insert_key nat_cmp ks n) h.0 ∙ ap (λ zs. k ∷ zs) (undo_insert n ks h.1))
]
  where
    insert_if2 : n < k → insert_key nat_cmp (k ∷ ks) n ≡ n ∷ k ∷ ks
    insert_if2 lt = rw (lt_less n k lt) refl

pub undo : (w : Bool) (n : ℕ) (ks : List ℕ) → Lacks n ks → remove_key (is_key n) (marked w n ks) ≡ ks
undo true n ks h = undo_insert n ks h
undo false n ks h = remove_lacks n ks h

lacks_low : (n low : ℕ) (ks : List ℕ) → n < low → Above low ks → Lacks n ks
lacks_low n low [] lt h = tt
lacks_low n low (k ∷ ks) lt h = (ne_eqb k n (λ e. omega (arith, e, lt, h.0)), lacks_low n (k + 1) ks (omega (arith, lt, h.0)) h.1)

lacks_if : (n : ℕ) (y : Run) (ks : List ℕ) (w : Bool) → (y.first == n) ≡ false → Lacks n ks → Lacks n (cond w (y.first ∷ ks) ks)
lacks_if n y ks true e h = (e, h)
lacks_if n y ks false e h = h

pub lacks_not_whole : (n low : ℕ) (xs : List Run) → Rising low xs → IfSome (run_at n xs) (λ y. is_whole y ≡ false) → Lacks n (whole_firsts xs)
lacks_not_whole n low [] h i = tt
lacks_not_whole n low (y ∷ later) h i = elim (cases_Bool (y.first == n)) [
  | inl t ↦
      let s = eqb-true y.first n t in
      rw (if_here y (run_at n later) (λ y. is_whole y ≡ false) (y.first == n) t i) (lacks_low n (y.first + 1) (whole_firsts later) (omega (arith, s)) (whole_above (y.first + 1) later h.1))
  | inr f ↦ lacks_if n y (whole_firsts later) (is_whole y) f (lacks_not_whole n (y.first + 1) later h.1 (if_later y (run_at n later) (λ y. is_whole y ≡ false) (y.first == n) f i))
]

-- ---- the first whole run

-- what is known where the whole runs begin with these numbers
abbrev pub FirstWhole : ℕ → List Run → Type 0
FirstWhole k xs = (run_at k xs ≡ first_of is_whole xs) × (without_run k xs ≡ without_first is_whole xs)

first_if : (k : ℕ) (ks : List ℕ) (y : Run) (later : List Run) (w : Bool) → is_whole y ≡ w → Rising (y.first + 1) later → cond w (y.first ∷ whole_firsts later) (whole_firsts later) ≡ k ∷ ks
    → (whole_firsts later ≡ k ∷ ks → FirstWhole k later) → FirstWhole k (y ∷ later)
first_if k ks y later true e h s ih =
    let m : y.first ≡ k = head_eq y.first k (whole_firsts later) ks s in
    let t = eq-eqb y.first k m in
    (rw (t, e) refl, rw (t, e) refl)
  where
    head_eq : (a b : ℕ) (ks1 ks2 : List ℕ) → a ∷ ks1 ≡ b ∷ ks2 → a ≡ b
    head_eq a b ks1 ks2 p = ap (λ xs. Rattle.std.proofs.Common.get_or xs 0 a) p
first_if k ks y later false e h s ih =
    let a : Above (y.first + 1) (k ∷ ks) = Rattle.std.proofs.Common.subst (Above (y.first + 1)) s (whole_above (y.first + 1) later h) in
    let f = ne_eqb y.first k (λ q. omega (arith, q, a.0)) in
    let r = ih s in
    (rw (f, e) r.0, rw (f, e) (ap (λ zs. y ∷ zs) r.1))

pub first_whole : (k : ℕ) (ks : List ℕ) (low : ℕ) (xs : List Run) → Rising low xs → whole_firsts xs ≡ k ∷ ks → FirstWhole k xs
first_whole k ks low [] h s = absurd cc
first_whole k ks low (y ∷ later) h s = first_if k ks y later (is_whole y) refl h.1 s (λ g. first_whole k ks (y.first + 1) later h.1 g)

no_whole_if : (y : Run) (later : List Run) (w : Bool) → is_whole y ≡ w → cond w (y.first ∷ whole_firsts later) (whole_firsts later) ≡ []
    → (whole_firsts later ≡ [] → (first_of is_whole later ≡ None) × (without_first is_whole later ≡ later)) → (first_of is_whole (y ∷ later) ≡ None) × (without_first is_whole (y ∷ later) ≡ y ∷ later)
no_whole_if y later true e s ih = absurd cc
no_whole_if y later false e s ih = let r = ih s in (rw e r.0, rw e (ap (λ zs. y ∷ zs) r.1))

pub no_whole : (xs : List Run) → whole_firsts xs ≡ [] → (first_of is_whole xs ≡ None) × (without_first is_whole xs ≡ xs)
no_whole [] s = (refl, refl)
no_whole (y ∷ later) s = no_whole_if y later (is_whole y) refl s (λ g. no_whole later g)

-- ---- what a map and its set of numbers keep through each change

keys_if : (f : Run → Run) (n : ℕ) (e : ℕ × Run) (es : List (ℕ × Run)) (t : Bool) → keys_of (changed_entry f n es) ≡ keys_of es → keys_of (cond t ((e.0, f e.1) ∷ es) (e ∷ changed_entry f n es)) ≡ keys_of (e ∷ es)
keys_if f n e es true ih = refl
keys_if f n e es false ih = ap (λ ks. e.0 ∷ ks) ih

keys_changed : (f : Run → Run) (n : ℕ) (es : List (ℕ × Run)) → keys_of (changed_entry f n es) ≡ keys_of es
keys_changed f n [] = refl
keys_changed f n (e ∷ es) = keys_if f n e es (e.0 == n) (keys_changed f n es)

and_is : (i w : Bool) → i ≡ true → (i && w) ≡ w
and_is true w e = refl
and_is false w e = absurd cc

-- what is marked where the whole runs are indexed
unmarked : (i w : Bool) (n : ℕ) (ks ls : List ℕ) → ls ≡ marked (i && w) n ks → i ≡ true → ls ≡ marked w n ks
unmarked i w n ks ls e t = e ∙ ap (λ v. marked v n ks) (and_is i w t)

rises : (i : Bool) (es : List (ℕ × Run)) (ks : List ℕ) → IsKept i es ks → Rising 0 (values_of es)
rises i es ks k = rising_keyed (values_of es) (subst (λ ds. IsStrictlySortedBy nat_cmp (keys_of ds)) k.keyed k.order)

values_are : (fs : List (ℕ × Run)) (xs : List Run) → fs ≡ keyed xs → values_of fs ≡ xs
values_are fs xs e = ap (λ ds. values_of ds) e ∙ values_keyed xs

kept_from : (i : Bool) (fs : List (ℕ × Run)) (ls : List ℕ) (xs : List Run) → IsStrictlySortedBy nat_cmp (keys_of fs) → fs ≡ keyed xs → (i ≡ true → ls ≡ whole_firsts xs) → IsKept i fs ls
kept_from i fs ls xs o e w =
    let v = sym (values_are fs xs e) in
    record { order = o; keyed = e ∙ ap keyed v; whole = λ t. w t ∙ ap whole_firsts v }

pub kept_changed : (i : Bool) (es fs : List (ℕ × Run)) (ks ls : List ℕ) (to : Run → Run) (r w : Bool) (n : ℕ) → IsKept i es ks → fs ≡ changed_entry to n es → Rears to r → w ≡ (front_of (lookup (is_key n) es) && r) → ls ≡ marked (i && w) n ks
    → IfSome (run_at n (values_of es)) (λ y. is_whole y ≡ false) → IsKept i fs ls × (values_of fs ≡ changed_run to n (values_of es))
kept_changed i es fs ks ls to r w n k e f g h l =
    let xs = values_of es in
    let all : fs ≡ keyed (changed_run to n xs) = e ∙ (ap (changed_entry to n) k.keyed ∙ changed_keyed to n xs f.first) in
    let order = subst (λ qs. IsStrictlySortedBy nat_cmp qs) (sym (ap keys_of e ∙ keys_changed to n es)) k.order in
    let w' : w ≡ (front_of (run_at n xs) && r) = g ∙ ap (λ o. front_of o && r) (ap (λ ds. lookup (is_key n) ds) k.keyed ∙ lookup_keyed n xs) in
    let whole : i ≡ true → ls ≡ whole_firsts (changed_run to n xs) = λ t. unmarked i w n ks ls h t ∙ (ap (λ v. marked v n ks) w' ∙ (ap (λ qs. marked (front_of (run_at n xs) && r) n qs) (k.whole t) ∙ sym (whole_changed to r n 0 xs f (rises i es ks k) l))) in
    (kept_from i fs ls (changed_run to n xs) order all whole, values_are fs (changed_run to n xs) all)

pub kept_undone : (i : Bool) (es fs : List (ℕ × Run)) (ks ls : List ℕ) (w : Bool) (n : ℕ) → IsKept i es ks → fs ≡ es → ls ≡ remove_key (is_key n) (marked (i && w) n ks) → IfSome (run_at n (values_of es)) (λ y. is_whole y ≡ false) → IsKept i fs ls
kept_undone i es fs ks ls w n k e f l =
    let whole : i ≡ true → ls ≡ whole_firsts (values_of es) = λ t.
    let lacks = subst (Lacks n) (sym (k.whole t)) (lacks_not_whole n 0 (values_of es) (rises i es ks k) l) in
    f ∙ (undo (i && w) n ks lacks ∙ k.whole t) in
    subst (λ ds. IsKept i ds ls) (sym e) (record { order = k.order; keyed = k.keyed; whole = whole })

absent : (o : Option Run) → o ≡ None → IfSome o (λ y. is_whole y ≡ false)
absent None e = tt
absent (Some y) e = absurd cc

pub kept_with : (i : Bool) (es fs : List (ℕ × Run)) (ks ls : List ℕ) (x : Run) (n : ℕ) (w : Bool) → IsKept i es ks → IsStrictlySortedBy nat_cmp (keys_of fs) → fs ≡ insert_entry nat_cmp es n x → n ≡ x.first → w ≡ is_whole x → ls ≡ marked (i && w) n ks
    → run_at x.first (values_of es) ≡ None → IsKept i fs ls × (values_of fs ≡ with_run x (values_of es))
kept_with i es fs ks ls x n w k o e f g h none =
    let xs = values_of es in
    let all : fs ≡ keyed (with_run x xs) = e ∙ (ap (λ m. insert_entry nat_cmp es m x) f ∙ (ap (λ ds. insert_entry nat_cmp ds x.first x) k.keyed ∙ insert_keyed x xs none)) in
    let whole : i ≡ true → ls ≡ whole_firsts (with_run x xs) = λ t. unmarked i w n ks ls h t ∙ (ap (λ v. marked v n ks) g ∙ (ap (λ m. marked (is_whole x) m ks) f ∙ (ap (marked (is_whole x) x.first) (k.whole t) ∙ sym (whole_with x 0 xs (rises i es ks k) none)))) in
    (kept_from i fs ls (with_run x xs) o all whole, values_are fs (with_run x xs) all)

pub kept_unchanged : (i : Bool) (es fs : List (ℕ × Run)) (ks ls : List ℕ) (n m : ℕ) (w : Bool) → IsKept i es ks → fs ≡ es → ls ≡ remove_key (is_key n) (marked (i && w) n ks) → n ≡ m → run_at m (values_of es) ≡ None → IsKept i fs ls
kept_unchanged i es fs ks ls n m w k e f s none = kept_undone i es fs ks ls w n k e f (absent (run_at n (values_of es)) (ap (λ q. run_at q (values_of es)) s ∙ none))

pub kept_without : (i : Bool) (es fs : List (ℕ × Run)) (ks ls : List ℕ) (n : ℕ) → IsKept i es ks → IsStrictlySortedBy nat_cmp (keys_of fs) → fs ≡ remove_entry (is_key n) es → ls ≡ remove_key (is_key n) ks
    → IsKept i fs ls × (values_of fs ≡ without_run n (values_of es))
kept_without i es fs ks ls n k o e f =
    let xs = values_of es in
    let all : fs ≡ keyed (without_run n xs) = e ∙ (ap (remove_entry (is_key n)) k.keyed ∙ remove_keyed n xs) in
    let whole : i ≡ true → ls ≡ whole_firsts (without_run n xs) = λ t. f ∙ (ap (remove_key (is_key n)) (k.whole t) ∙ sym (whole_without n 0 xs (rises i es ks k))) in
    (kept_from i fs ls (without_run n xs) o all whole, values_are fs (without_run n xs) all)

-- a run is changed, and a later one is dropped
pub kept_joined : (i : Bool) (es fs : List (ℕ × Run)) (ks ms ls : List ℕ) (to : Run → Run) (r w : Bool) (n g : ℕ) → IsKept i es ks → IsStrictlySortedBy nat_cmp (keys_of fs) → fs ≡ remove_entry (is_key g) (changed_entry to n es) → Rears to r
    → w ≡ (front_of (lookup (is_key n) es) && r) → ms ≡ marked (i && w) n ks → ls ≡ remove_key (is_key g) ms → IfSome (run_at n (values_of es)) (λ y. is_whole y ≡ false)
    → IsKept i fs ls × (values_of fs ≡ without_run g (changed_run to n (values_of es)))
kept_joined i es fs ks ms ls to r w n g k o e f h m l q =
    let c = kept_changed i es (changed_entry to n es) ks ms to r w n k refl f h m q in
    let d = kept_without i (changed_entry to n es) fs ms ls g c.0 o e l in
    (d.0, d.1 ∙ ap (without_run g) c.1)

-- ---- a run that is taken out and put back, or not

back_if : (z : Run) (f : Run → Run) (n : ℕ) (e : ℕ × Run) (es : List (ℕ × Run)) (t : Bool) → (e.0 == n) ≡ t → changed_entry (λ y. z) n (changed_entry f n es) ≡ changed_entry (λ y. z) n es
    → changed_entry (λ y. z) n (cond t ((e.0, f e.1) ∷ es) (e ∷ changed_entry f n es)) ≡ cond t ((e.0, z) ∷ es) (e ∷ changed_entry (λ y. z) n es)
back_if z f n e es true s ih = ap (λ t. cond t ((e.0, z) ∷ es) ((e.0, f e.1) ∷ changed_entry (λ y. z) n es)) s
back_if z f n e es false s ih = ap (λ t. cond t ((e.0, z) ∷ changed_entry f n es) (e ∷ changed_entry (λ y. z) n (changed_entry f n es))) s ∙ ap (λ ds. e ∷ ds) ih

put_over : (z : Run) (f : Run → Run) (n : ℕ) (es : List (ℕ × Run)) → changed_entry (λ y. z) n (changed_entry f n es) ≡ changed_entry (λ y. z) n es
put_over z f n [] = refl
put_over z f n (e ∷ es) = back_if z f n e es (e.0 == n) refl (put_over z f n es)

pub put_back : (z : Run) (f : Run → Run) (n : ℕ) (es : List (ℕ × Run)) → lookup (is_key n) es ≡ Some z → changed_entry (λ y. z) n (changed_entry f n es) ≡ es
put_back z f n es h = put_over z f n es ∙ (sym (set_changed (λ y. z) n es z h) ∙ set_value_same (is_key n) es z h)

gone_if : (f : Run → Run) (n : ℕ) (e : ℕ × Run) (es : List (ℕ × Run)) (t : Bool) → is_key n e.0 ≡ t → remove_entry (is_key n) (changed_entry f n es) ≡ remove_entry (is_key n) es
    → remove_entry (is_key n) (cond t ((e.0, f e.1) ∷ es) (e ∷ changed_entry f n es)) ≡ cond t es (e ∷ remove_entry (is_key n) es)
gone_if f n e es true s ih = ap (λ t. cond t es ((e.0, f e.1) ∷ remove_entry (is_key n) es)) s
gone_if f n e es false s ih = ap (λ t. cond t (changed_entry f n es) (e ∷ remove_entry (is_key n) (changed_entry f n es))) s ∙ ap (λ ds. e ∷ ds) ih

gone : (f : Run → Run) (n : ℕ) (es : List (ℕ × Run)) → remove_entry (is_key n) (changed_entry f n es) ≡ remove_entry (is_key n) es
gone f n [] = refl
gone f n (e ∷ es) = gone_if f n e es (e.0 == n) (is_key_is n e.0) (gone f n es) ∙ sym (ap (λ t. cond t es (e ∷ remove_entry (is_key n) es)) (is_key_is n e.0))

gone_past : (f h : Run → Run) (n g : ℕ) (e : ℕ × Run) (es : List (ℕ × Run)) (t : Bool) → is_key g e.0 ≡ false
    → remove_entry (is_key g) (changed_entry h g es) ≡ remove_entry (is_key g) es
    → remove_entry (is_key g) (changed_entry f n (changed_entry h g es)) ≡ remove_entry (is_key g) (changed_entry f n es)
    → remove_entry (is_key g) (cond t ((e.0, f e.1) ∷ changed_entry h g es) (e ∷ changed_entry f n (changed_entry h g es))) ≡ remove_entry (is_key g) (cond t ((e.0, f e.1) ∷ es) (e ∷ changed_entry f n es))
gone_past f h n g e es true k a b =
    ap (λ c. cond c (changed_entry h g es) ((e.0, f e.1) ∷ remove_entry (is_key g) (changed_entry h g es))) k
    ∙ (ap (λ ds. (e.0, f e.1) ∷ ds) a ∙ sym (ap (λ c. cond c es ((e.0, f e.1) ∷ remove_entry (is_key g) es)) k))
gone_past f h n g e es false k a b =
    ap (λ c. cond c (changed_entry f n (changed_entry h g es)) (e ∷ remove_entry (is_key g) (changed_entry f n (changed_entry h g es)))) k
    ∙ (ap (λ ds. e ∷ ds) b ∙ sym (ap (λ c. cond c (changed_entry f n es) (e ∷ remove_entry (is_key g) (changed_entry f n es))) k))

pub gone_later : (f h : Run → Run) (n g : ℕ) (es : List (ℕ × Run)) → (n == g) ≡ false → remove_entry (is_key g) (changed_entry f n (changed_entry h g es)) ≡ remove_entry (is_key g) (changed_entry f n es)
gone_later f h n g [] ne = refl
gone_later f h n g (e ∷ es) ne = elim (cases_Bool (e.0 == g)) [
  | inl t ↦
      let s : (e.0 == n) ≡ false = ne_eqb e.0 n (λ q. let u = eqb-true e.0 g t in let v : true ≡ false = sym (eq-eqb n g (sym q ∙ u)) ∙ ne in cc) in
      let k : is_key g e.0 ≡ true = is_key_is g e.0 ∙ t in
      ap (λ b. remove_entry (is_key g) (changed_entry f n (cond b ((e.0, h e.1) ∷ es) (e ∷ changed_entry h g es)))) t
      ∙ (ap (λ b. remove_entry (is_key g) (cond b ((e.0, f (h e.1)) ∷ es) ((e.0, h e.1) ∷ changed_entry f n es))) s
      ∙ (ap (λ b. cond b (changed_entry f n es) ((e.0, h e.1) ∷ remove_entry (is_key g) (changed_entry f n es))) k
      ∙ sym (ap (λ b. remove_entry (is_key g) (cond b ((e.0, f e.1) ∷ es) (e ∷ changed_entry f n es))) s
      ∙ ap (λ b. cond b (changed_entry f n es) (e ∷ remove_entry (is_key g) (changed_entry f n es))) k)))
  | inr t ↦
      ap (λ b. remove_entry (is_key g) (changed_entry f n (cond b ((e.0, h e.1) ∷ es) (e ∷ changed_entry h g es)))) t
      ∙ gone_past f h n g e es (e.0 == n) (is_key_is g e.0 ∙ t) (gone h g es) (gone_later f h n g es ne)
]

pub opened : (o : Option Run) (P : Run → Type 0) → IsSomeAnd o P → (z : Run) × (o ≡ Some z) × P z
opened None P h = absurd h
opened (Some z) P h = (z, refl, h)

pub is_some_and : (o : Option Run) (z : Run) (P : Run → Type 0) → o ≡ Some z → P z → IsSomeAnd o P
is_some_and o z P e h = subst (λ p. IsSomeAnd p P) (sym e) h

pub some_and : {P Q : Run → Type 0} (o : Option Run) → ((z : Run) → o ≡ Some z → P z → Q z) → IsSomeAnd o P → IsSomeAnd o Q
some_and None f h = h
some_and (Some z) f h = f z refl h

-- the first whole run is taken out
pub kept_taken : (i : Bool) (es fs : List (ℕ × Run)) (ks ls : List ℕ) (n : ℕ) → i ≡ true → IsKept i es ks → IsStrictlySortedBy nat_cmp (keys_of fs) → fs ≡ remove_entry (is_key n) es → ks ≡ n ∷ ls
    → IsKept i fs ls × (values_of fs ≡ without_first is_whole (values_of es)) × (lookup (is_key n) es ≡ first_of is_whole (values_of es))
kept_taken i es fs ks ls n t k o e f =
    let xs = values_of es in
    let first = first_whole n ls 0 xs (rises i es ks k) (sym (k.whole t) ∙ f) in
    let r = kept_without i es fs ks ls n k o e (sym (ap (remove_key (is_key n)) f ∙ remove_first n ls)) in
    (r.0, r.1 ∙ first.1, ap (λ ds. lookup (is_key n) ds) k.keyed ∙ (lookup_keyed n xs ∙ first.0))

-- the same where they aren't indexed, by the number of the first one
listed_if : (y : Run) (later : List Run) (n : ℕ) (w : Bool) → Some n ≡ option_map (λ y. y.first) (cond w (Some y) (first_of is_whole later))
    → (Some n ≡ option_map (λ y. y.first) (first_of is_whole later) → (ks : List ℕ) × (whole_firsts later ≡ n ∷ ks)) → (ks : List ℕ) × (cond w (y.first ∷ whole_firsts later) (whole_firsts later) ≡ n ∷ ks)
listed_if y later n true s ih = let m : n ≡ y.first = ap (λ (o : Option ℕ). unwrap_or o n) s in (whole_firsts later, ap (λ k. k ∷ whole_firsts later) (sym m))
listed_if y later n false s ih = ih s

pub first_listed : (xs : List Run) (n : ℕ) → Some n ≡ option_map (λ y. y.first) (first_of is_whole xs) → (ks : List ℕ) × (whole_firsts xs ≡ n ∷ ks)
first_listed [] n e = absurd cc
first_listed (y ∷ later) n e = listed_if y later n (is_whole y) e (λ s. first_listed later n s)

unlisted_if : (y : Run) (later : List Run) (w : Bool) → None ≡ option_map (λ y. y.first) (cond w (Some y) (first_of is_whole later))
    → (None ≡ option_map (λ y. y.first) (first_of is_whole later) → whole_firsts later ≡ []) → cond w (y.first ∷ whole_firsts later) (whole_firsts later) ≡ []
unlisted_if y later true s ih = absurd cc
unlisted_if y later false s ih = ih s

pub none_listed : (xs : List Run) → None ≡ option_map (λ y. y.first) (first_of is_whole xs) → whole_firsts xs ≡ []
none_listed [] e = refl
none_listed (y ∷ later) e = unlisted_if y later (is_whole y) e (λ s. none_listed later s)

pub kept_unlisted : (es fs : List (ℕ × Run)) (n : ℕ) → IsKept false es [] → IsStrictlySortedBy nat_cmp (keys_of fs) → fs ≡ remove_entry (is_key n) es → Some n ≡ option_map (λ y. y.first) (first_of is_whole (values_of es))
    → IsKept false fs [] × (values_of fs ≡ without_first is_whole (values_of es)) × (lookup (is_key n) es ≡ first_of is_whole (values_of es))
kept_unlisted es fs n k o e f =
    let xs = values_of es in
    let p = first_listed xs n f in
    let first = first_whole n p.0 0 xs (rises false es [] k) p.1 in
    let r = kept_without false es fs [] [] n k o e refl in
    (r.0, r.1 ∙ first.1, ap (λ ds. lookup (is_key n) ds) k.keyed ∙ (lookup_keyed n xs ∙ first.0))

pub no_keys : (ks : List ℕ) → (0 < length ks → false ≡ true) → ks ≡ []
no_keys [] h = refl
no_keys (k ∷ ks) h = absurd (Rattle.std.proofs.lemmas.Bool.false≢true (h (omega arith)))

-- what fits another isn't whole
open_if : (f r : Bool) → r ≡ false → cond f r false ≡ false
open_if true r e = e
open_if false r e = refl

pub fits_open : (o : Option Run) (x : Run) → IfSome o (λ y. fits y x ≡ true) → IfSome o (λ y. is_whole y ≡ false)
fits_open None x i = tt
fits_open (Some y) x i = open_if y.front y.rear (fits_parts y x i).1
