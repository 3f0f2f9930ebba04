-- One number more is held: what it does to the runs.
use Rattle.std.proofs.Common.{◌≡◌, ℕ, zero, suc, ◌+◌, ◌-◌, ◌<◌, ◌≤◌, ◌==◌, nat_lt, not, cond, Bool, true, false, ◌&&◌, List, [], ◌∷◌, ◌++◌, map, Option, Some, None, refl, ap, sym, ◌∙◌, subst, arith, inl, inr, ◌⊎◌, append_assoc}
use Rattle.std.specs.Option.{option_map}
use Rattle.std.proofs.lemmas.Bool.{cases_eq, cases_lt, ne_eqb, lt-ltb, le-ltb}
use Rattle.std.proofs.lemmas.List.{append-nil, map-append}
use Rattle.rtmfp_data_chunks.specs.declared.user_data.Part.{Part}
use Rattle.rtmfp_data_chunks.specs.Runs.{Number, Missing, Held, GivenUp, Run, has_front, single, fits, joined, run_with, run_up_to, goes_on, run_ending, runs_to}
use Rattle.flow_recv.specs.Receiver.{join_next, join_before, add_run}
use Rattle.rtmfp_data_chunks.specs.HandsOver.{IsIn}
use Rattle.flow_exchange.proofs.Wholes.{IsHeld, in_either}
use Rattle.flow_exchange.proofs.Longest.{longest_is}
use Rattle.flow_exchange.proofs.Ready.{RunOf, run_of}

-- both are not held, or they are alike
pub data SameHeld (v w : Number) : Type 0 where
  Alike : v ≡ w → SameHeld v w
  Neither : (IsHeld v → ⊥) → (IsHeld w → ⊥) → SameHeld v w

pub none_with : (v : Number) (n : ℕ) (o : Option Run) → (IsHeld v → ⊥) → run_with v n o ≡ None
none_with Missing n o h = refl
none_with GivenUp n o h = refl
none_with (Held p b) n o h = absurd (h tt)

none_on : (v : Number) (y : Run) → (IsHeld v → ⊥) → goes_on y v ≡ false
none_on Missing y h = refl
none_on GivenUp y h = refl
none_on (Held p b) y h = absurd (h tt)

with_same : (v w : Number) (n : ℕ) (o : Option Run) → SameHeld v w → run_with v n o ≡ run_with w n o
with_same v w n o (Alike e) = ap (λ x. run_with x n o) e
with_same v w n o (Neither a b) = none_with v n o a ∙ sym (none_with w n o b)

on_same : (v w : Number) (y : Run) → SameHeld v w → goes_on y v ≡ goes_on y w
on_same v w y (Alike e) = ap (goes_on y) e
on_same v w y (Neither a b) = none_on v y a ∙ sym (none_on w y b)

ending_same : (o : Option Run) (v w : Number) → SameHeld v w → run_ending o v ≡ run_ending o w
ending_same None v w h = refl
ending_same (Some y) v w h = ap (λ x. cond x [] (y ∷ [])) (on_same v w y h)

pub longest_same : (s r : ℕ → Number) (n : ℕ) → ((k : ℕ) → k ≤ n → SameHeld (s k) (r k)) → run_up_to r n ≡ run_up_to s n
unfolding run_up_to
longest_same s r zero h = refl
longest_same s r (suc n) h =
    ap (λ x. run_with (r (suc n)) (suc n) x) (longest_same s r n (λ k l. h k (omega arith))) ∙ sym (with_same (s (suc n)) (r (suc n)) (suc n) (run_up_to s n) (h (suc n) (omega arith)))

-- the same numbers held: the same runs
pub runs_same : (s r : ℕ → Number) (n : ℕ) → ((k : ℕ) → SameHeld (s k) (r k)) → runs_to r n ≡ runs_to s n
unfolding runs_to
runs_same s r zero h = refl
runs_same s r (suc n) h =
    ap (λ x. x ++ run_ending (run_up_to r (suc n)) (r (suc (suc n)))) (runs_same s r n h)
    ∙ ap (λ x. runs_to s n ++ x) (ap (λ x. run_ending x (r (suc (suc n)))) (longest_same s r (suc n) (λ k l. h k)) ∙ sym (ending_same (run_up_to s (suc n)) (s (suc (suc n))) (r (suc (suc n))) (h (suc (suc n)))))

-- a run that comes after another, joined to it where it fits
abbrev pub follow : Run → Run → Run
follow x z = cond (fits x z) (joined x z) z

-- and one that comes before a fragment
abbrev pub before : Option Run → Run → Run
before None x = x
before (Some y) x = cond (fits y x) (joined y x) x

some_cond : {X : Type 0} (t : Bool) (a b : X) → cond t (Some a) (Some b) ≡ Some (cond t a b)
some_cond true a b = refl
some_cond false a b = refl

held_with : (p : Part) (b : List ℕ) (n : ℕ) (o : Option Run) → run_with (Held p b) n o ≡ Some (before o (single n p b))
held_with p b n None = refl
held_with p b n (Some y) = some_cond (fits y (single n p b)) (joined y (single n p b)) (single n p b)

follow_last_if : (x z : Run) (t : Bool) → (cond t (joined x z) z).last ≡ z.last
follow_last_if x z true = refl
follow_last_if x z false = refl

follow_rear_if : (x z : Run) (t : Bool) → (cond t (joined x z) z).rear ≡ z.rear
follow_rear_if x z true = refl
follow_rear_if x z false = refl

fits_by : (a b y : Run) → a.last ≡ b.last → a.rear ≡ b.rear → fits a y ≡ fits b y
fits_by a b y e f = ap (λ n. cond (n + 1 == y.first) (cond a.rear false (cond y.front false true)) false) e ∙ ap (λ t. cond (b.last + 1 == y.first) (cond t false (cond y.front false true)) false) f

pub fits_follow : (x z y : Run) → fits (follow x z) y ≡ fits z y
fits_follow x z y = fits_by (follow x z) z y (follow_last_if x z (fits x z)) (follow_rear_if x z (fits x z))

on_by : (a b : Run) (v : Number) → a.last ≡ b.last → a.rear ≡ b.rear → goes_on a v ≡ goes_on b v
on_by a b Missing e f = refl
on_by a b GivenUp e f = refl
on_by a b (Held p c) e f = fits_by a b (single (a.last + 1) p c) e f ∙ ap (λ n. fits b (single (n + 1) p c)) e

pub on_follow : (x z : Run) (v : Number) → goes_on (follow x z) v ≡ goes_on z v
on_follow x z v = on_by (follow x z) z v (follow_last_if x z (fits x z)) (follow_rear_if x z (fits x z))

-- it doesn't fit where it isn't the next number
pub far_apart : (a b : Run) → (a.last + 1 ≡ b.first → ⊥) → fits a b ≡ false
far_apart a b ne = rw (ne_eqb (a.last + 1) b.first ne) refl

abbrev with_bytes : ℕ → ℕ → Bool → Bool → List ℕ → Run
with_bytes f l a b c = record { first = f; last = l; front = a; rear = b; bytes = c }

run_eq : (f l : ℕ) (a b : Bool) (c d : List ℕ) → c ≡ d → with_bytes f l a b c ≡ with_bytes f l a b d
run_eq f l a b c d e = ap (with_bytes f l a b) e

joined_assoc : (x y z : Run) → joined (joined x y) z ≡ joined x (joined y z)
joined_assoc x y z = run_eq x.first z.last x.front z.rear ((x.bytes ++ y.bytes) ++ z.bytes) (x.bytes ++ (y.bytes ++ z.bytes)) (append_assoc x.bytes y.bytes z.bytes)

-- the first number after x, if it is held
next_first : (v : Number) (n : ℕ) (x : Run) → run_with v n (Some x) ≡ option_map (follow x) (run_with v n None)
next_first Missing n x = refl
next_first GivenUp n x = refl
next_first (Held p b) n x = some_cond (fits x (single n p b)) (joined x (single n p b)) (single n p b)

both_if : (x y z : Run) (t u : Bool) → fits x y ≡ t → fits y z ≡ u → fits x z ≡ false → cond u (joined (cond t (joined x y) y) z) z ≡ follow x (cond u (joined y z) z)
both_if x y z true true e f g = rw e (joined_assoc x y z)
both_if x y z false true e f g = rw e refl
both_if x y z t false e f g = rw g refl

-- and a number further on
next_more : (v : Number) (n : ℕ) (x : Run) (o : Option Run) → x.last < n → run_with v (suc n) (option_map (follow x) o) ≡ option_map (follow x) (run_with v (suc n) o)
next_more Missing n x o lt = refl
next_more GivenUp n x o lt = refl
next_more (Held p b) n x None lt =
    let z = single (suc n) p b in
    let far : fits x z ≡ false = far_apart x z (λ e. omega (arith, e, lt)) in
    ap (λ t. Some (cond t (joined x z) z)) (sym far)
next_more (Held p b) n x (Some y) lt =
    let z = single (suc n) p b in
    let far : fits x z ≡ false = far_apart x z (λ e. omega (arith, e, lt)) in
    some_cond (fits (follow x y) z) (joined (follow x y) z) z
    ∙ (ap (λ t. Some (cond t (joined (follow x y) z) z)) (fits_follow x y z)
    ∙ (ap (λ w. Some w) (both_if x y z (fits x y) (fits y z) refl refl far) ∙ ap (option_map (follow x)) (sym (some_cond (fits y z) (joined y z) z))))

-- a number q is held in r and not in s, which are else alike
pub record Grown (s r : ℕ → Number) (q : ℕ) (p : Part) (b : List ℕ) : Type 0 where
  pub above : 0 < q
  pub was : IsHeld (s q) → ⊥
  pub is : r q ≡ Held p b
  pub others : (k : ℕ) → (k ≡ q → ⊥) → SameHeld (s k) (r k)

-- the run that ends at the new number
abbrev pub new_longest : (ℕ → Number) → ℕ → Part → List ℕ → Run
new_longest s q p b = before (run_up_to s (q - 1)) (single q p b)

longest_at : (s : ℕ → Number) (n k : ℕ) → n ≡ suc k → run_up_to s n ≡ run_with (s n) n (run_up_to s k)
unfolding run_up_to
longest_at s n k e = rw e refl

pub longest_new : (s r : ℕ → Number) (q : ℕ) (p : Part) (b : List ℕ) → Grown s r q p b → run_up_to r q ≡ Some (new_longest s q p b)
longest_new s r q p b g =
    let e : q ≡ suc (q - 1) = omega (arith, g.above) in
    longest_at r q (q - 1) e
    ∙ (ap (λ v. run_with v q (run_up_to r (q - 1))) g.is
    ∙ (held_with p b q (run_up_to r (q - 1)) ∙ ap (λ o. Some (before o (single q p b))) (longest_same s r (q - 1) (λ k l. g.others k (λ x. omega (arith, x, l, g.above))))))

before_last : (o : Option Run) (x : Run) → (before o x).last ≡ x.last
before_last None x = refl
before_last (Some y) x = follow_last_if y x (fits y x)

longest_none : (s : ℕ → Number) (q : ℕ) → 0 < q → (IsHeld (s q) → ⊥) → run_up_to s q ≡ None
longest_none s q lt h = let e : q ≡ suc (q - 1) = omega (arith, lt) in longest_at s q (q - 1) e ∙ none_with (s q) q (run_up_to s (q - 1)) h

-- the runs beyond it: joined to it where they begin right after it and fit
pub longest_beyond : (s r : ℕ → Number) (q : ℕ) (p : Part) (b : List ℕ) (d : ℕ) → Grown s r q p b
    → run_up_to r (suc (q + d)) ≡ option_map (follow (new_longest s q p b)) (run_up_to s (suc (q + d)))
unfolding run_up_to
longest_beyond s r q p b zero g =
    let x = new_longest s q p b in
    let z : q + 0 ≡ q = omega arith in
    let v = r (suc (q + 0)) in
    let alike = g.others (suc (q + 0)) (λ e. omega (arith, e)) in
    ap (λ k. run_with v (suc (q + 0)) (run_up_to r k)) z
    ∙ (ap (λ o. run_with v (suc (q + 0)) o) (longest_new s r q p b g)
    ∙ (next_first v (suc (q + 0)) x
    ∙ (ap (option_map (follow x)) (sym (with_same (s (suc (q + 0))) v (suc (q + 0)) None alike))
    ∙ ap (λ o. option_map (follow x) (run_with (s (suc (q + 0))) (suc (q + 0)) o)) (sym (ap (run_up_to s) z ∙ longest_none s q g.above g.was)))))
longest_beyond s r q p b (suc d) g =
    let x = new_longest s q p b in
    let z : q + suc d ≡ suc (q + d) = omega arith in
    let n = q + suc d in
    let v = r (suc n) in
    let alike = g.others (suc n) (λ e. omega (arith, e)) in
    let ih = longest_beyond s r q p b d g in
    let last : x.last ≡ q = before_last (run_up_to s (q - 1)) (single q p b) in
    ap (λ k. run_with v (suc n) (run_up_to r k)) z
    ∙ (ap (λ o. run_with v (suc n) o) ih
    ∙ (next_more v n x (run_up_to s (suc (q + d))) (omega (arith, last))
    ∙ (ap (option_map (follow x)) (sym (with_same (s (suc n)) v (suc n) (run_up_to s (suc (q + d))) alike))
    ∙ ap (λ k. option_map (follow x) (run_with (s (suc n)) (suc n) (run_up_to s k))) (sym z))))

-- the runs that end above q, up to q + d
unfoldable pub later : (ℕ → Number) → ℕ → ℕ → List Run
later s q zero = []
later s q (suc d) = later s q d ++ run_ending (run_up_to s (suc (q + d))) (s (suc (suc (q + d))))

pub split : (s : ℕ → Number) (q d : ℕ) → runs_to s (q + d) ≡ runs_to s q ++ later s q d
unfolding runs_to later
split s q zero = let e : q + 0 ≡ q = omega arith in ap (runs_to s) e ∙ sym (append-nil (runs_to s q))
split s q (suc d) =
    let e : q + suc d ≡ suc (q + d) = omega arith in
    let end = run_ending (run_up_to s (suc (q + d))) (s (suc (suc (q + d)))) in
    ap (runs_to s) e ∙ (ap (λ x. x ++ end) (split s q d) ∙ append_assoc (runs_to s q) (later s q d) end)

ending_if : (x y : Run) (t : Bool) → cond t [] (follow x y ∷ []) ≡ map (follow x) (cond t [] (y ∷ []))
ending_if x y true = refl
ending_if x y false = refl

ending_follow : (x : Run) (o : Option Run) (v : Number) → run_ending (option_map (follow x) o) v ≡ map (follow x) (run_ending o v)
ending_follow x None v = refl
ending_follow x (Some y) v = ap (λ t. cond t [] (follow x y ∷ [])) (on_follow x y v) ∙ ending_if x y (goes_on y v)

-- the later runs, with the first joined where it fits
pub later_follows : (s r : ℕ → Number) (q : ℕ) (p : Part) (b : List ℕ) (d : ℕ) → Grown s r q p b → later r q d ≡ map (follow (new_longest s q p b)) (later s q d)
unfolding later
later_follows s r q p b zero g = refl
later_follows s r q p b (suc d) g =
    let x = new_longest s q p b in
    let n = suc (q + d) in
    let end = run_ending (run_up_to s n) (s (suc n)) in
    let e : run_ending (run_up_to r n) (r (suc n)) ≡ map (follow x) end =
    ap (λ o. run_ending o (r (suc n))) (longest_beyond s r q p b d g)
    ∙ (ending_follow x (run_up_to s n) (r (suc n)) ∙ ap (map (follow x)) (sym (ending_same (run_up_to s n) (s (suc n)) (r (suc n)) (g.others (suc n) (λ k. omega (arith, k)))))) in
    ap (λ xs. xs ++ run_ending (run_up_to r n) (r (suc n))) (later_follows s r q p b d g)
    ∙ (ap (λ xs. map (follow x) (later s q d) ++ xs) e ∙ sym (map-append (follow x) (later s q d) end))

-- where a run begins
pub record FrontOf (s : ℕ → Number) (y : Run) : Type 0 where
  pub part : Part
  pub bytes : List ℕ
  pub is : s y.first ≡ Held part bytes
  pub front : y.front ≡ has_front part

front_single : (s : ℕ → Number) (n : ℕ) (p : Part) (b : List ℕ) (y : Run) → s n ≡ Held p b → single n p b ≡ y → FrontOf s y
front_single s n p b y e f = subst (λ (z : Run). FrontOf s z) f (record { part = p; bytes = b; is = e; front = refl })

front_if : (s : ℕ → Number) (n : ℕ) (p : Part) (b : List ℕ) (x y : Run) (t : Bool) → s n ≡ Held p b → FrontOf s x → cond t (Some (joined x (single n p b))) (Some (single n p b)) ≡ Some y → FrontOf s y
front_if s n p b x y true e o f =
    let g : joined x (single n p b) ≡ y = cc in subst (λ (z : Run). FrontOf s z) g (record { part = o.part; bytes = o.bytes; is = o.is; front = o.front })
front_if s n p b x y false e o f = front_single s n p b y e cc

front_with : (s : ℕ → Number) (n : ℕ) (v : Number) (o : Option Run) (y : Run) → s n ≡ v → ((x : Run) → o ≡ Some x → FrontOf s x) → run_with v n o ≡ Some y → FrontOf s y
front_with s n Missing o y e ih f = absurd cc
front_with s n GivenUp o y e ih f = absurd cc
front_with s n (Held p b) None y e ih f = front_single s n p b y e cc
front_with s n (Held p b) (Some x) y e ih f = front_if s n p b x y (fits x (single n p b)) e (ih x refl) f

pub front_of : (s : ℕ → Number) (n : ℕ) (y : Run) → run_up_to s n ≡ Some y → FrontOf s y
unfolding run_up_to
front_of s zero y e = absurd cc
front_of s (suc n) y e = front_with s (suc n) (s (suc n)) (run_up_to s n) y refl (λ x. front_of s n x) e

-- inside a run each part of it goes on
pub record Inner (s : ℕ → Number) (k : ℕ) : Type 0 where
  pub run : Run
  pub is : run_up_to s k ≡ Some run
  pub on : goes_on run (s (suc k)) ≡ true

inner_if : (s : ℕ → Number) (n k : ℕ) (p : Part) (b : List ℕ) (x w : Run) (t : Bool) → s (suc n) ≡ Held p b → run_up_to s n ≡ Some x → x.last ≡ n → (x.first ≤ k → k < n → Inner s k)
    → fits x (single (suc n) p b) ≡ t → cond t (Some (joined x (single (suc n) p b))) (Some (single (suc n) p b)) ≡ Some w → w.first ≤ k → k < suc n → Inner s k
inner_if s n k p b x w false e o l ih g f low high =
    let z : single (suc n) p b ≡ w = cc in
    absurd (omega (arith, low, high, ap (λ (y : Run). y.first) z))
inner_if s n k p b x w true e o l ih g f low high =
    let z : joined x (single (suc n) p b) ≡ w = cc in
    let first : x.first ≤ k = omega (arith, low, ap (λ (y : Run). y.first) z) in
    elim (cases_eq k n) [
      | inl same ↦
          let on : goes_on x (s (suc n)) ≡ true = ap (goes_on x) e ∙ (let m : x.last + 1 ≡ suc n = omega (arith, l) in ap (λ i. fits x (single i p b)) m ∙ g) in
          subst (λ (i : ℕ). Inner s i) (sym same) (record { run = x; is = o; on = on })
      | inr ne ↦ ih first (omega (arith, high, ne))
    ]

inner_with : (s : ℕ → Number) (n k : ℕ) (v : Number) (o : Option Run) (w : Run) → s (suc n) ≡ v → run_up_to s n ≡ o → ((x : Run) → o ≡ Some x → x.first ≤ k → k < n → Inner s k)
    → run_with v (suc n) o ≡ Some w → w.first ≤ k → k < suc n → Inner s k
inner_with s n k Missing o w e oe ih f low high = absurd cc
inner_with s n k GivenUp o w e oe ih f low high = absurd cc
inner_with s n k (Held p b) None w e oe ih f low high =
    let z : single (suc n) p b ≡ w = cc in
    absurd (omega (arith, low, high, ap (λ (y : Run). y.first) z))
inner_with s n k (Held p b) (Some x) w e oe ih f low high =
    inner_if s n k p b x w (fits x (single (suc n) p b)) e oe (longest_is s n x oe).last (ih x refl) refl f low high

pub inner : (s : ℕ → Number) (n k : ℕ) (w : Run) → run_up_to s n ≡ Some w → w.first ≤ k → k < n → Inner s k
unfolding run_up_to
inner s zero k w e low high = absurd (omega arith)
inner s (suc n) k w e low high = inner_with s n k (s (suc n)) (run_up_to s n) w refl refl (λ x f a c. inner s n k x f a c) e low high

-- a run above q, where q isn't held
pub record Beyond (s : ℕ → Number) (q : ℕ) (z : Run) : Type 0 where
  pub run : RunOf s z.last z
  pub high : q < z.first
  pub front : FrontOf s z

ending_is : (y z : Run) (t : Bool) → IsIn z (cond t [] (y ∷ [])) → (t ≡ false) × (z ≡ y)
ending_is y z true h = absurd h
ending_is y z false (inl e) = (refl, e)
ending_is y z false (inr h) = absurd h

beyond_one : (s : ℕ → Number) (q n : ℕ) (o : Option Run) (z : Run) → (IsHeld (s q) → ⊥) → q < n → run_up_to s n ≡ o → IsIn z (run_ending o (s (suc n))) → Beyond s q z
beyond_one s q n None z not lt e h = absurd h
beyond_one s q n (Some y) z not lt e h =
    let r = ending_is y z (goes_on y (s (suc n))) h in
    let o = longest_is s n y e in
    let high : q < y.first = elim (cases_lt q y.first) [ inl l ↦ l | inr l ↦ absurd (not (o.held q l (omega (arith, lt)))) ] in
    subst (λ (w : Run). Beyond s q w) (sym r.1) (
    record {
      run = record {
        longest = ap (run_up_to s) o.last ∙ e;
        of = longest_is s y.last y (ap (run_up_to s) o.last ∙ e);
        low = omega arith;
        stops = ap (λ k. goes_on y (s (suc k))) o.last ∙ r.0;
      };
      high = high;
      front = front_of s n y e;
    }
    )

pub beyond : (s : ℕ → Number) (q d : ℕ) (z : Run) → (IsHeld (s q) → ⊥) → IsIn z (later s q d) → Beyond s q z
unfolding later
beyond s q zero z not h = absurd h
beyond s q (suc d) z not h = elim (in_either z (later s q d) (run_ending (run_up_to s (suc (q + d))) (s (suc (suc (q + d))))) h) [
  | inl a ↦ beyond s q d z not a
  | inr a ↦ beyond_one s q (suc (q + d)) (run_up_to s (suc (q + d))) z not (omega arith) refl a
]

-- the run that begins right after q, where that number is held: it is pending, or the first of the later ones
pub data First (s : ℕ → Number) (q d : ℕ) : Type 0 where
  Pending : (y : Run) → run_up_to s (suc (q + d)) ≡ Some y → y.first ≡ suc q → later s q d ≡ [] → First s q d
  Ended : (z : Run) → (zs : List Run) → later s q d ≡ z ∷ zs → z.first ≡ suc q → ((w : Run) → IsIn w zs → suc q < w.first) → First s q d

longest_held : (s : ℕ → Number) (n : ℕ) (v : Number) (o : Option Run) → s (suc n) ≡ v → IsHeld v → (y : Run) × (run_with v (suc n) o ≡ Some y)
longest_held s n Missing o e h = absurd h
longest_held s n GivenUp o e h = absurd h
longest_held s n (Held p b) o e h = (before o (single (suc n) p b), held_with p b (suc n) o)

joined_on : (v : Number) (n : ℕ) (y : Run) → y.last ≡ n → goes_on y v ≡ true → (w : Run) × (run_with v (suc n) (Some y) ≡ Some w) × (w.first ≡ y.first)
joined_on Missing n y l e = absurd cc
joined_on GivenUp n y l e = absurd cc
joined_on (Held p b) n y l e =
    let m : y.last + 1 ≡ suc n = omega (arith, l) in
    let f : fits y (single (suc n) p b) ≡ true = ap (λ i. fits y (single i p b)) (sym m) ∙ e in
    (joined y (single (suc n) p b), rw f refl, refl)

pending_more : (s : ℕ → Number) (q d : ℕ) (y : Run) (t : Bool) → (IsHeld (s q) → ⊥) → run_up_to s (suc (q + d)) ≡ Some y → y.first ≡ suc q → later s q d ≡ []
    → goes_on y (s (suc (suc (q + d)))) ≡ t → First s q (suc d)
unfolding later run_up_to
pending_more s q d y true not e f none g =
    let n = suc (q + d) in
    let j = joined_on (s (suc n)) n y (longest_is s n y e).last g in
    let z : q + suc d ≡ suc (q + d) = omega arith in
    let up : run_up_to s (suc (q + suc d)) ≡ Some j.0 = ap (λ k. run_up_to s (suc k)) z ∙ (ap (run_with (s (suc n)) (suc n)) e ∙ j.1) in
    let l : later s q (suc d) ≡ [] = ap (λ xs. xs ++ run_ending (run_up_to s n) (s (suc n))) none ∙ (ap (λ o. run_ending o (s (suc n))) e ∙ ap (λ u. cond u [] (y ∷ [])) g) in
    Pending j.0 up (j.2 ∙ f) l
pending_more s q d y false not e f none g =
    let n = suc (q + d) in
    let l : later s q (suc d) ≡ y ∷ [] = ap (λ xs. xs ++ run_ending (run_up_to s n) (s (suc n))) none ∙ (ap (λ o. run_ending o (s (suc n))) e ∙ ap (λ u. cond u [] (y ∷ [])) g) in
    Ended y [] l f (λ w h. absurd h)

ended_new : (s : ℕ → Number) (q n : ℕ) (z : Run) (o : Option Run) (w : Run) → Beyond s q z → z.first ≡ suc q → z.last < n → run_up_to s n ≡ o → (IsHeld (s q) → ⊥) → q < n → IsIn w (run_ending o (s (suc n))) → suc q < w.first
ended_new s q n z o w bz fz lt e not qn h =
    let bw = beyond_one s q n o w not qn e h in
    elim (cases_lt (suc q) w.first) [
      | inl l ↦ l
      | inr l ↦
          let last : run_up_to s n ≡ Some w = last_of o w e h in
          let i = inner s n z.last w last (omega (arith, l, bw.high, fz, bz.run.of.low)) lt in
          let same : z ≡ i.run = let k : Some z ≡ Some i.run = sym bz.run.longest ∙ i.is in cc in
          absurd (let x : false ≡ true = sym bz.run.stops ∙ (ap (λ y. goes_on y (s (suc z.last))) same ∙ i.on) in cc)
    ]
  where
    last_of : (o : Option Run) (w : Run) → run_up_to s n ≡ o → IsIn w (run_ending o (s (suc n))) → run_up_to s n ≡ Some w
    last_of None w e h = absurd h
    last_of (Some y) w e h = e ∙ ap (λ x. Some x) (sym (ending_is y w (goes_on y (s (suc n))) h).1)

ended_more : (s : ℕ → Number) (q d : ℕ) (z : Run) (zs : List Run) → (IsHeld (s q) → ⊥) → later s q d ≡ z ∷ zs → z.first ≡ suc q → ((w : Run) → IsIn w zs → suc q < w.first) → z.last ≤ q + d → First s q (suc d)
unfolding later
ended_more s q d z zs not e f others low =
    let n = suc (q + d) in
    let end = run_ending (run_up_to s n) (s (suc n)) in
    let bz = beyond s q d z not (subst (λ (xs : List Run). IsIn z xs) (sym e) (inl refl)) in
    Ended z (zs ++ end) (ap (λ xs. xs ++ end) e) f (
    λ w h. elim (in_either w zs end h) [
      | inl a ↦ others w a
      | inr a ↦ ended_new s q n z (run_up_to s n) w bz f (omega (arith, low)) refl not (omega arith) a
    ]
    )

later_low : (s : ℕ → Number) (q d : ℕ) (z : Run) → IsIn z (later s q d) → z.last ≤ q + d
later_low s q d z h = (run_of s (q + d) z (subst (λ (xs : List Run). IsIn z xs) (sym (split s q d)) (in_after z (runs_to s q) (later s q d) h))).low
  where
    in_after : (x : Run) (xs ys : List Run) → IsIn x ys → IsIn x (xs ++ ys)
    in_after x [] ys h = h
    in_after x (y ∷ xs) ys h = inr (in_after x xs ys h)

pub first_run : (s : ℕ → Number) (q d : ℕ) → 0 < q → (IsHeld (s q) → ⊥) → IsHeld (s (suc q)) → First s q d
unfolding later run_up_to
first_run s q zero pos not held =
    let z : q + 0 ≡ q = omega arith in
    let r = longest_held s q (s (suc q)) (run_up_to s q) refl held in
    let e : run_up_to s (suc (q + 0)) ≡ Some r.0 = ap (λ k. run_up_to s (suc k)) z ∙ r.1 in
    let o = longest_is s (suc (q + 0)) r.0 e in
    let high : q < r.0.first = elim (cases_lt q r.0.first) [ inl l ↦ l | inr l ↦ absurd (not (o.held q l (omega arith))) ] in
    Pending r.0 e (omega (arith, high, o.low)) refl
first_run s q (suc d) pos not held = elim (first_run s q d pos not held) [
  | Pending y e f none ↦ pending_more s q d y (goes_on y (s (suc (suc (q + d))))) not e f none refl
  | Ended z zs e f others ↦ ended_more s q d z zs not e f others (later_low s q d z (subst (λ (xs : List Run). IsIn z xs) (sym e) (inl refl)))
]

-- what follows the new run
on_is_fits : (x z : Run) (v : Number) (p : Part) (b : List ℕ) → v ≡ Held p b → z.first ≡ x.last + 1 → z.front ≡ has_front p → goes_on x v ≡ fits x z
on_is_fits x z v p b e f g =
    ap (goes_on x) e
    ∙ (ap (λ n. cond (x.last + 1 == n) (cond x.rear false (cond (has_front p) false true)) false) (sym f) ∙ ap (λ t. cond (x.last + 1 == z.first) (cond x.rear false (cond t false true)) false) (sym g))

follow_far : (x : Run) (zs : List Run) → ((w : Run) → IsIn w zs → x.last + 1 < w.first) → map (follow x) zs ≡ zs
follow_far x [] h = refl
follow_far x (w ∷ zs) h =
    let far : fits x w ≡ false = far_apart x w (λ e. omega (arith, e, h w (inl refl))) in
    ap (λ t. cond t (joined x w) w ∷ map (follow x) zs) far ∙ ap (λ ys. w ∷ ys) (follow_far x zs (λ y k. h y (inr k)))

pub next_far : (x : Run) (zs : List Run) → ((w : Run) → IsIn w zs → x.last + 1 < w.first) → join_next x zs ≡ x ∷ zs
next_far x [] h = refl
next_far x (w ∷ zs) h =
    let far : fits x w ≡ false = far_apart x w (λ e. omega (arith, e, h w (inl refl))) in
    ap (λ t. cond t (joined x w ∷ zs) (x ∷ w ∷ zs)) far

next_first_if : (x z : Run) (zs : List Run) (t : Bool) → cond t (joined x z ∷ zs) (x ∷ z ∷ zs) ≡ cond t [] (x ∷ []) ++ (cond t (joined x z) z ∷ zs)
next_first_if x z zs true = refl
next_first_if x z zs false = refl

held_or : (v : Number) → IsHeld v ⊎ (IsHeld v → ⊥)
held_or Missing = inr (λ h. h)
held_or (Held p b) = inl tt
held_or GivenUp = inr (λ h. h)

pub after_new : (s : ℕ → Number) (q d : ℕ) (x : Run) → x.last ≡ q → 0 < q → (IsHeld (s q) → ⊥) → (IsHeld (s (suc (q + d))) → ⊥)
    → join_next x (later s q d) ≡ run_ending (Some x) (s (suc q)) ++ map (follow x) (later s q d)
unfolding run_up_to
after_new s q d x last pos not stop = elim (held_or (s (suc q))) [
  | inl held ↦ elim (first_run s q d pos not held) [
    | Pending y e f none ↦
        absurd (
        let o = longest_is s (suc (q + d)) y e in
        stop (o.held (suc (q + d)) o.low (omega arith))
        )
    | Ended z zs e f others ↦
        let bz = beyond s q d z not (subst (λ (xs : List Run). IsIn z xs) (sym e) (inl refl)) in
        let at : s (suc q) ≡ Held bz.front.part bz.front.bytes = ap s (sym f) ∙ bz.front.is in
        let on = on_is_fits x z (s (suc q)) bz.front.part bz.front.bytes at (omega (arith, f, last)) bz.front.front in
        let far = follow_far x zs (λ w h. omega (arith, others w h, last)) in
        ap (join_next x) e
        ∙ (next_first_if x z zs (fits x z)
        ∙ (ap (λ ys. cond (fits x z) [] (x ∷ []) ++ (follow x z ∷ ys)) (sym far)
        ∙ (ap (λ t. cond t [] (x ∷ []) ++ map (follow x) (z ∷ zs)) (sym on) ∙ ap (λ ys. cond (goes_on x (s (suc q))) [] (x ∷ []) ++ map (follow x) ys) (sym e))))
  ]
  | inr none ↦
      let apart : (w : Run) → IsIn w (later s q d) → x.last + 1 < w.first = λ w h.
      let bw = beyond s q d w not h in
      let ne : w.first ≡ suc q → ⊥ = λ f. none (subst IsHeld (sym (ap s (sym f) ∙ bw.front.is)) tt) in
      omega (arith, bw.high, ne, last) in
      next_far x (later s q d) apart
      ∙ (ap (λ t. cond t [] (x ∷ []) ++ later s q d) (sym (none_on (s (suc q)) x none)) ∙ ap (λ ys. cond (goes_on x (s (suc q))) [] (x ∷ []) ++ ys) (sym (follow_far x (later s q d) apart)))
]

-- adding to runs: those that lie before are passed over
add_over : (x : Run) (xs ys : List Run) → ((a : Run) → IsIn a xs → a.last + 1 < x.first) → add_run x (xs ++ ys) ≡ xs ++ add_run x ys
add_over x [] ys h = refl
add_over x (a ∷ xs) ys h =
    let lt = h a (inl refl) in
    let far : fits a x ≡ false = far_apart a x (λ e. omega (arith, e, lt)) in
    let low : nat_lt a.last x.first ≡ true = lt-ltb a.last x.first (omega (arith, lt)) in
    ap (λ t. cond (not t && nat_lt a.last x.first) (a ∷ add_run x (xs ++ ys)) (join_before x (a ∷ (xs ++ ys)))) far
    ∙ (ap (λ t. cond t (a ∷ add_run x (xs ++ ys)) (join_before x (a ∷ (xs ++ ys)))) low ∙ ap (λ zs. a ∷ zs) (add_over x xs ys (λ y k. h y (inr k))))

-- and where all lie behind it, it is joined to the first where it fits
pub add_before : (x : Run) (ys : List Run) → ((a : Run) → IsIn a ys → (x.first < a.first) × (a.first ≤ a.last)) → add_run x ys ≡ join_next x ys
add_before x [] h = refl
add_before x (a ∷ ys) h =
    let r = h a (inl refl) in
    let far : fits a x ≡ false = far_apart a x (λ e. omega (arith, e, r.0, r.1)) in
    let low : nat_lt a.last x.first ≡ false = le-ltb a.last x.first (omega (arith, r.0, r.1)) in
    ap (λ t. cond (not t && nat_lt a.last x.first) (a ∷ add_run x ys) (cond t (join_next (joined a x) ys) (join_next x (a ∷ ys)))) far
    ∙ ap (λ t. cond t (a ∷ add_run x ys) (join_next x (a ∷ ys))) low

-- the one right before it
add_at : (x y : Run) (ys : List Run) (t : Bool) → y.last < x.first → fits y x ≡ t → add_run x ys ≡ join_next x ys
    → add_run x (y ∷ ys) ≡ cond t [] (y ∷ []) ++ join_next (cond t (joined y x) x) ys
add_at x y ys true lt e k = ap (λ u. cond (not u && nat_lt y.last x.first) (y ∷ add_run x ys) (cond u (join_next (joined y x) ys) (join_next x (y ∷ ys)))) e
add_at x y ys false lt e k =
    ap (λ u. cond (not u && nat_lt y.last x.first) (y ∷ add_run x ys) (cond u (join_next (joined y x) ys) (join_next x (y ∷ ys)))) e
    ∙ (ap (λ u. cond u (y ∷ add_run x ys) (join_next x (y ∷ ys))) (lt-ltb y.last x.first lt) ∙ ap (λ zs. y ∷ zs) k)

-- the runs below the new number
same_below : (s r : ℕ → Number) (q n : ℕ) (p : Part) (b : List ℕ) → Grown s r q p b → suc n < q → runs_to r n ≡ runs_to s n
unfolding runs_to
same_below s r q zero p b g lt = refl
same_below s r q (suc n) p b g lt =
    ap (λ x. x ++ run_ending (run_up_to r (suc n)) (r (suc (suc n)))) (same_below s r q n p b g (omega arith))
    ∙ ap (λ x. runs_to s n ++ x) (
    ap (λ o. run_ending o (r (suc (suc n)))) (longest_same s r (suc n) (λ k l. g.others k (λ e. omega (arith, e, l, lt))))
    ∙ sym (ending_same (run_up_to s (suc n)) (s (suc (suc n))) (r (suc (suc n))) (g.others (suc (suc n)) (λ e. omega (arith, e, lt))))
    )

-- the run that ended right before it goes on where it fits
last_before : (o : Option Run) (m : ℕ) (p : Part) (b : List ℕ) (v : Number) (ys : List Run) → ((y : Run) → o ≡ Some y → y.last ≡ m) → (IsHeld v → ⊥)
    → add_run (single (suc m) p b) ys ≡ join_next (single (suc m) p b) ys
    → add_run (single (suc m) p b) (run_ending o v ++ ys) ≡ run_ending o (Held p b) ++ join_next (before o (single (suc m) p b)) ys
last_before None m p b v ys last not k = k
last_before (Some y) m p b v ys last not k =
    let x = single (suc m) p b in
    let l = last y refl in
    let on : goes_on y (Held p b) ≡ fits y x = let e : y.last + 1 ≡ suc m = omega (arith, l) in ap (λ i. fits y (single i p b)) e in
    ap (λ t. add_run x (cond t [] (y ∷ []) ++ ys)) (none_on v y not)
    ∙ (add_at x y ys (fits y x) (omega (arith, l)) refl k ∙ ap (λ t. cond t [] (y ∷ []) ++ join_next (cond (fits y x) (joined y x) x) ys) (sym on))

empty_end : (o : Option Run) (v : Number) → o ≡ None → run_ending o v ≡ []
empty_end None v e = refl
empty_end (Some y) v e = absurd cc

at_new : (s r : ℕ → Number) (m : ℕ) (p : Part) (b : List ℕ) (ys : List Run) → Grown s r (suc m) p b → add_run (single (suc m) p b) ys ≡ join_next (single (suc m) p b) ys
    → add_run (single (suc m) p b) (runs_to s m ++ ys) ≡ runs_to r m ++ join_next (before (run_up_to s m) (single (suc m) p b)) ys
unfolding runs_to run_up_to
at_new s r zero p b ys g k = k
at_new s r (suc n) p b ys g k =
    let m = suc n in
    let x = single (suc m) p b in
    let e = run_ending (run_up_to s m) (s (suc m)) in
    let low : (a : Run) → IsIn a (runs_to s n) → a.last + 1 < x.first = λ a h. omega (arith, (run_of s n a h).low) in
    let o : run_up_to r m ≡ run_up_to s m = longest_same s r m (λ i l. g.others i (λ z. omega (arith, z, l))) in
    let below : runs_to r n ≡ runs_to s n = same_below s r (suc m) n p b g (omega arith) in
    ap (add_run x) (append_assoc (runs_to s n) e ys)
    ∙ (add_over x (runs_to s n) (e ++ ys) low
    ∙ (ap (λ zs. runs_to s n ++ zs) (last_before (run_up_to s m) m p b (s (suc m)) ys (λ y f. (longest_is s m y f).last) g.was k)
    ∙ (sym (append_assoc (runs_to s n) (run_ending (run_up_to s m) (Held p b)) (join_next (before (run_up_to s m) x) ys))
    ∙ ap (λ zs. zs ++ join_next (before (run_up_to s m) x) ys) (
    ap (λ zs. zs ++ run_ending (run_up_to s m) (Held p b)) (sym below)
    ∙ (ap (λ w. runs_to r n ++ run_ending w (Held p b)) (sym o) ∙ ap (λ v. runs_to r n ++ run_ending (run_up_to r m) v) (sym g.is))
    ))))

-- one number more is held: its fragment is added to the runs
pub runs_grow : (s r : ℕ → Number) (m d : ℕ) (p : Part) (b : List ℕ) → Grown s r (suc m) p b → (IsHeld (s (suc (suc m + d))) → ⊥)
    → runs_to r (suc m + d) ≡ add_run (single (suc m) p b) (runs_to s (suc m + d))
unfolding runs_to
runs_grow s r m d p b g stop =
    let q = suc m in
    let x0 = single q p b in
    let e : q - 1 ≡ m = omega arith in
    let x : Run = before (run_up_to s m) x0 in
    let xs : new_longest s q p b ≡ x = ap (λ k. before (run_up_to s k) x0) e in
    let ys = later s q d in
    let behind : (a : Run) → IsIn a ys → (x0.first < a.first) × (a.first ≤ a.last) = λ a h. let z = beyond s q d a g.was h in (z.high, z.run.of.low) in
    let k = add_before x0 ys behind in
    let last : x.last ≡ q = before_last (run_up_to s m) x0 in
    let none : run_ending (run_up_to s q) (s (suc q)) ≡ [] = empty_end (run_up_to s q) (s (suc q)) (longest_none s q (omega arith) g.was) in
    let old : runs_to s q ≡ runs_to s m = ap (λ zs. runs_to s m ++ zs) none ∙ append-nil (runs_to s m) in
    let right : add_run x0 (runs_to s (q + d)) ≡ runs_to r m ++ join_next x ys =
    ap (add_run x0) (split s q d ∙ ap (λ zs. zs ++ ys) old) ∙ at_new s r m p b ys g k in
    let joined_next : join_next x ys ≡ run_ending (Some x) (s (suc q)) ++ map (follow x) ys = after_new s q d x last (omega arith) g.was stop in
    let new : runs_to r q ≡ runs_to r m ++ run_ending (Some x) (s (suc q)) =
    ap (λ o. runs_to r m ++ run_ending o (r (suc q))) (longest_new s r q p b g ∙ ap (λ z. Some z) xs)
    ∙ ap (λ zs. runs_to r m ++ zs) (sym (ending_same (Some x) (s (suc q)) (r (suc q)) (g.others (suc q) (λ z. omega (arith, z))))) in
    let follows : later r q d ≡ map (follow x) ys = later_follows s r q p b d g ∙ ap (λ z. map (follow z) ys) xs in
    split r q d
    ∙ (ap (λ zs. zs ++ later r q d) new
    ∙ (ap (λ zs. (runs_to r m ++ run_ending (Some x) (s (suc q))) ++ zs) follows
    ∙ (append_assoc (runs_to r m) (run_ending (Some x) (s (suc q))) (map (follow x) ys)
    ∙ (ap (λ zs. runs_to r m ++ zs) (sym joined_next) ∙ sym right))))
