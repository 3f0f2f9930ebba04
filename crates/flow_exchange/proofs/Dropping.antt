-- Dead runs may be dropped at once: what a later fragment makes of the others is the same.
use Rattle.std.proofs.Common.{◌≡◌, ℕ, ◌+◌, ◌-◌, ◌<◌, ◌≤◌, ◌==◌, nat_lt, not, cond, Bool, true, false, ◌&&◌, List, [], ◌∷◌, refl, ap, sym, ◌∙◌, arith, inl, inr, ◌⊎◌}
use Rattle.std.specs.List.{filter}
use Rattle.std.proofs.lemmas.Bool.{lt-ltb, eqb-true, false_from_ne_true}
use Rattle.rtmfp_data_chunks.specs.Runs.{Run, fits, joined, is_dead}
use Rattle.flow_recv.specs.Receiver.{join_next, add_run}
use Rattle.rtmfp_data_chunks.specs.HandsOver.{IsIn}
use Rattle.flow_exchange.proofs.Growing.{next_far, add_before}

-- l1 and l2: the numbers missing before and after; h: the numbers of no message that was handed over; q: the number of the fragment
pub record Setting (l1 l2 h : ℕ → Bool) (q : ℕ) : Type 0 where
  pub mono : (n : ℕ) → l2 n ≡ true → l1 n ≡ true
  pub was : l1 q ≡ true
  pub now : l2 q ≡ false
  pub new : h q ≡ true

-- a run among those before
pub record Old (l1 h : ℕ → Bool) (q : ℕ) (y : Run) : Type 0 where
  pub up : y.first ≤ y.last
  pub known_first : l1 y.first ≡ false
  pub known_last : l1 y.last ≡ false
  pub whole : h y.first ≡ false → (y.front ≡ true) × (y.rear ≡ true)
  pub apart : (y.last < q) ⊎ (q < y.first)

abbrev pub AllOld : (ℕ → Bool) → (ℕ → Bool) → ℕ → List Run → Type 0
AllOld l1 h q ys = (y : Run) → IsIn y ys → Old l1 h q y

abbrev pub Sorted : List Run → Type 0
Sorted [] = Unit {0}
Sorted (y ∷ ys) = ((z : Run) → IsIn z ys → y.last < z.first) × Sorted ys

abbrev pub alive : (ℕ → Bool) → Run → Bool
alive l y = not (is_dead l y)

abbrev pub kept : (ℕ → Bool) → (ℕ → Bool) → Run → Bool
kept l h y = cond (is_dead l y) false (h y.first)

-- what makes a run dead
dead_by_front : (f r b a : Bool) → f ≡ false → b ≡ false → cond f (cond r false (not a)) (cond b (cond r false (not a)) true) ≡ true
dead_by_front f r b a e g = rw (e, g) refl

dead_by_rear : (f r b a : Bool) → r ≡ false → a ≡ false → cond f (cond r false (not a)) (cond b (cond r false (not a)) true) ≡ true
dead_by_rear true r b a e g = rw (e, g) refl
dead_by_rear false r true a e g = rw (e, g) refl
dead_by_rear false r false a e g = refl

dead_by : (f r b a : Bool) → cond f (cond r false (not a)) (cond b (cond r false (not a)) true) ≡ true → ((f ≡ false) × (b ≡ false)) ⊎ ((r ≡ false) × (a ≡ false))
dead_by true true b a e = absurd cc
dead_by true false b true e = absurd cc
dead_by true false b false e = inr (refl, refl)
dead_by false r false a e = inl (refl, refl)
dead_by false true true a e = absurd cc
dead_by false false true true e = absurd cc
dead_by false false true false e = inr (refl, refl)

pub dead_front : (l : ℕ → Bool) (y : Run) → y.front ≡ false → l (y.first - 1) ≡ false → is_dead l y ≡ true
dead_front l y e f = dead_by_front y.front y.rear (l (y.first - 1)) (l (y.last + 1)) e f

pub dead_rear : (l : ℕ → Bool) (y : Run) → y.rear ≡ false → l (y.last + 1) ≡ false → is_dead l y ≡ true
dead_rear l y e f = dead_by_rear y.front y.rear (l (y.first - 1)) (l (y.last + 1)) e f

pub dead_cases : (l : ℕ → Bool) (y : Run) → is_dead l y ≡ true → ((y.front ≡ false) × (l (y.first - 1) ≡ false)) ⊎ ((y.rear ≡ false) × (l (y.last + 1) ≡ false))
dead_cases l y e = dead_by y.front y.rear (l (y.first - 1)) (l (y.last + 1)) e

not_missing : (l1 l2 : ℕ → Bool) (n : ℕ) → ((k : ℕ) → l2 k ≡ true → l1 k ≡ true) → l1 n ≡ false → l2 n ≡ false
not_missing l1 l2 n m e = false_from_ne_true (l2 n) (λ t. let x : true ≡ false = sym (m n t) ∙ e in cc)

pub dead_still : (l1 l2 : ℕ → Bool) (y : Run) → ((k : ℕ) → l2 k ≡ true → l1 k ≡ true) → is_dead l1 y ≡ true → is_dead l2 y ≡ true
dead_still l1 l2 y m e = elim (dead_cases l1 y e) [
  | inl p ↦ dead_front l2 y p.0 (not_missing l1 l2 (y.first - 1) m p.1)
  | inr p ↦ dead_rear l2 y p.0 (not_missing l1 l2 (y.last + 1) m p.1)
]

-- a run that was kept is kept on exactly where it is alive; one that wasn't is not kept
kept_true : (d h : Bool) → cond d false h ≡ true → (d ≡ false) × (h ≡ true)
kept_true true h e = absurd cc
kept_true false h e = (refl, e)

kept_false : (d h : Bool) → cond d false h ≡ false → (d ≡ true) ⊎ (h ≡ false)
kept_false true h e = inl refl
kept_false false h e = inr e

kept_if : (d h : Bool) → h ≡ true → cond d false h ≡ not d
kept_if true h e = refl
kept_if false h e = e

kept_dead : (d h : Bool) → (d ≡ true) ⊎ (h ≡ false) → cond d false h ≡ false
kept_dead true h e = refl
kept_dead false h (inl e) = absurd cc
kept_dead false h (inr e) = e

stays_kept : (l1 l2 h : ℕ → Bool) (q : ℕ) (y : Run) → Setting l1 l2 h q → kept l1 h y ≡ true → kept l2 h y ≡ alive l2 y
stays_kept l1 l2 h q y s k = kept_if (is_dead l2 y) (h y.first) (kept_true (is_dead l1 y) (h y.first) k).1

out_still : (l1 l2 h : ℕ → Bool) (y : Run) → ((k : ℕ) → l2 k ≡ true → l1 k ≡ true) → kept l1 h y ≡ false → kept l2 h y ≡ false
out_still l1 l2 h y m k = kept_dead (is_dead l2 y) (h y.first) (
    elim (kept_false (is_dead l1 y) (h y.first) k) [ inl d ↦ inl (dead_still l1 l2 y m d) | inr n ↦ inr n ]
    )

stays_out : (l1 l2 h : ℕ → Bool) (q : ℕ) (y : Run) → Setting l1 l2 h q → kept l1 h y ≡ false → kept l2 h y ≡ false
stays_out l1 l2 h q y s k = out_still l1 l2 h y s.mono k

-- one more element on both sides
both_more : (k2 a2 k1 : Run → Bool) (y : Run) (xs ys : List Run) (t : Bool) → k1 y ≡ t → (t ≡ true → k2 y ≡ a2 y) → (t ≡ false → k2 y ≡ false) → filter k2 xs ≡ filter a2 ys
    → filter k2 (y ∷ xs) ≡ filter a2 (cond t (y ∷ ys) ys)
both_more k2 a2 k1 y xs ys true e f g h = ap (λ b. cond b (y ∷ filter k2 xs) (filter k2 xs)) (f refl) ∙ ap (λ zs. cond (a2 y) (y ∷ zs) zs) h
both_more k2 a2 k1 y xs ys false e f g h = ap (λ b. cond b (y ∷ filter k2 xs) (filter k2 xs)) (g refl) ∙ h

-- without a new fragment
pub twice_mono : (l1 l2 h : ℕ → Bool) (ys : List Run) → ((k : ℕ) → l2 k ≡ true → l1 k ≡ true) → filter (kept l2 h) ys ≡ filter (alive l2) (filter (kept l1 h) ys)
twice_mono l1 l2 h [] m = refl
twice_mono l1 l2 h (y ∷ ys) m =
    both_more (kept l2 h) (alive l2) (kept l1 h) y ys (filter (kept l1 h) ys) (kept l1 h y) refl
    (λ k. kept_if (is_dead l2 y) (h y.first) (kept_true (is_dead l1 y) (h y.first) k).1) (λ k. out_still l1 l2 h y m k) (twice_mono l1 l2 h ys m)

pub filter_twice : (l1 l2 h : ℕ → Bool) (q : ℕ) (ys : List Run) → Setting l1 l2 h q → filter (kept l2 h) ys ≡ filter (alive l2) (filter (kept l1 h) ys)
filter_twice l1 l2 h q ys s = twice_mono l1 l2 h ys s.mono

fits_true : (t r f : Bool) → cond t (cond r false (cond f false true)) false ≡ true → (t ≡ true) × (r ≡ false) × (f ≡ false)
fits_true true true f e = absurd cc
fits_true true false true e = absurd cc
fits_true true false false e = (refl, refl, refl)
fits_true false r f e = absurd cc

pub fits_parts : (y x : Run) → fits y x ≡ true → (y.last + 1 ≡ x.first) × (y.rear ≡ false) × (x.front ≡ false)
fits_parts y x e = let r = fits_true (y.last + 1 == x.first) y.rear x.front e in (eqb-true (y.last + 1) x.first r.0, r.1, r.2)

-- how the new run w, with all runs kept, and v, with the dead ones dropped, go together
pub data Match (l2 h : ℕ → Bool) (w v : Run) : Type 0 where
  One : w ≡ v → h w.first ≡ true → Match l2 h w v
  Never : ((z : Run) → z.first ≡ w.first → z.front ≡ w.front → is_dead l2 z ≡ true) → ((z : Run) → z.first ≡ v.first → z.front ≡ v.front → is_dead l2 z ≡ true) → Match l2 h w v

matched : (l2 h : ℕ → Bool) (w v a b : Run) → Match l2 h w v → a.first ≡ w.first → a.front ≡ w.front → b.first ≡ v.first → b.front ≡ v.front → (w ≡ v → a ≡ b) → (xs ys : List Run) → filter (kept l2 h) xs ≡ filter (alive l2) ys
    → filter (kept l2 h) (a ∷ xs) ≡ filter (alive l2) (b ∷ ys)
matched l2 h w v a b (One e n) fa ga fb gb same xs ys t =
    let k : kept l2 h a ≡ alive l2 a = kept_if (is_dead l2 a) (h a.first) (ap h fa ∙ n) in
    ap (λ u. cond u (a ∷ filter (kept l2 h) xs) (filter (kept l2 h) xs)) k
    ∙ (ap (λ z. cond (alive l2 z) (z ∷ filter (kept l2 h) xs) (filter (kept l2 h) xs)) (same e) ∙ ap (λ zs. cond (alive l2 b) (b ∷ zs) zs) t)
matched l2 h w v a b (Never d e) fa ga fb gb same xs ys t =
    let k : kept l2 h a ≡ false = kept_dead (is_dead l2 a) (h a.first) (inl (d a fa ga)) in
    let n : alive l2 b ≡ false = ap not (e b fb gb) in
    ap (λ u. cond u (a ∷ filter (kept l2 h) xs) (filter (kept l2 h) xs)) k ∙ (t ∙ ap (λ u. cond u (b ∷ filter (alive l2) ys) (filter (alive l2) ys)) (sym n))

among_if : (p : Run → Bool) (z y : Run) (zs : List Run) (t : Bool) → (IsIn z (filter p zs) → IsIn z zs) → IsIn z (cond t (y ∷ filter p zs) (filter p zs)) → IsIn z (y ∷ zs)
among_if p z y zs true ih (inl e) = inl e
among_if p z y zs true ih (inr k) = inr (ih k)
among_if p z y zs false ih k = inr (ih k)

pub filter_among : (p : Run → Bool) (z : Run) (zs : List Run) → IsIn z (filter p zs) → IsIn z zs
filter_among p z [] h = h
filter_among p z (y ∷ zs) h = among_if p z y zs (p y) (filter_among p z zs) h

-- a run z after q that was dropped: nothing that ends like it, or like the run before it, lives
after_dropped : (l1 l2 h : ℕ → Bool) (q : ℕ) (w z : Run) → Setting l1 l2 h q → Old l1 h q z → w.last ≡ q → fits w z ≡ true → kept l1 h z ≡ false → (is_dead l2 (joined w z) ≡ true) × (is_dead l2 w ≡ true)
after_dropped l1 l2 h q w z s o l f k =
    let p = fits_parts w z f in
    let before : z.first - 1 ≡ q = omega (arith, p.0, l) in
    let lost : (z.rear ≡ false) × (l1 (z.last + 1) ≡ false) = elim (kept_false (is_dead l1 z) (h z.first) k) [
      | inl d ↦ elim (dead_cases l1 z d) [
        | inl a ↦ absurd (let x : true ≡ false = sym s.was ∙ (ap l1 (sym before) ∙ a.1) in cc)
        | inr a ↦ a
      ]
      | inr n ↦ absurd (let x : false ≡ true = sym p.2 ∙ (o.whole n).0 in cc)
    ] in
    let first : l2 (w.last + 1) ≡ false = not_missing l1 l2 (w.last + 1) s.mono (ap l1 p.0 ∙ o.known_first) in
    (dead_rear l2 (joined w z) lost.0 (not_missing l1 l2 (z.last + 1) s.mono lost.1), dead_rear l2 w p.1 first)

-- the new run and those behind it
next_kept_if : (l1 l2 h : ℕ → Bool) (q : ℕ) (w v z : Run) (zs : List Run) (t u : Bool) → Setting l1 l2 h q → AllOld l1 h q (z ∷ zs) → Sorted (z ∷ zs) → q < z.first
    → w.last ≡ q → v.last ≡ q → fits w z ≡ fits v z → Match l2 h w v → fits v z ≡ t → kept l1 h z ≡ u
    → filter (kept l2 h) (join_next w (z ∷ zs)) ≡ filter (alive l2) (join_next v (cond u (z ∷ filter (kept l1 h) zs) (filter (kept l1 h) zs)))
next_kept_if l1 l2 h q w v z zs true true s old sorted high lw lv fw m f k =
    let e = ap (λ b. filter (kept l2 h) (cond b (joined w z ∷ zs) (w ∷ z ∷ zs))) (fw ∙ f) in
    let g = ap (λ b. filter (alive l2) (cond b (joined v z ∷ filter (kept l1 h) zs) (v ∷ z ∷ filter (kept l1 h) zs))) f in
    e ∙ (matched l2 h w v (joined w z) (joined v z) m refl refl refl refl (λ x. ap (λ y. joined y z) x) zs (filter (kept l1 h) zs) (filter_twice l1 l2 h q zs s) ∙ sym g)
next_kept_if l1 l2 h q w v z zs true false s old sorted high lw lv fw m f k =
    let e = ap (λ b. filter (kept l2 h) (cond b (joined w z ∷ zs) (w ∷ z ∷ zs))) (fw ∙ f) in
    let o = old z (inl refl) in
    let dw = after_dropped l1 l2 h q w z s o lw (fw ∙ f) k in
    let dv = after_dropped l1 l2 h q v z s o lv f k in
    let p = fits_parts v z f in
    let far : (y : Run) → IsIn y (filter (kept l1 h) zs) → v.last + 1 < y.first = λ y i. omega (arith, p.0, o.up, sorted.0 y (filter_among (kept l1 h) y zs i)) in
    let g = ap (filter (alive l2)) (next_far v (filter (kept l1 h) zs) far) in
    let a : kept l2 h (joined w z) ≡ false = kept_dead (is_dead l2 (joined w z)) (h w.first) (inl dw.0) in
    let b : alive l2 v ≡ false = ap not dv.1 in
    e
    ∙ (ap (λ x. cond x (joined w z ∷ filter (kept l2 h) zs) (filter (kept l2 h) zs)) a
    ∙ (filter_twice l1 l2 h q zs s ∙ (ap (λ x. cond x (v ∷ filter (alive l2) (filter (kept l1 h) zs)) (filter (alive l2) (filter (kept l1 h) zs))) (sym b) ∙ sym g)))
next_kept_if l1 l2 h q w v z zs false true s old sorted high lw lv fw m f k =
    let e = ap (λ b. filter (kept l2 h) (cond b (joined w z ∷ zs) (w ∷ z ∷ zs))) (fw ∙ f) in
    let g = ap (λ b. filter (alive l2) (cond b (joined v z ∷ filter (kept l1 h) zs) (v ∷ z ∷ filter (kept l1 h) zs))) f in
    let t = filter_twice l1 l2 h q (z ∷ zs) s ∙ ap (λ b. filter (alive l2) (cond b (z ∷ filter (kept l1 h) zs) (filter (kept l1 h) zs))) k in
    e ∙ (matched l2 h w v w v m refl refl refl refl (λ x. x) (z ∷ zs) (z ∷ filter (kept l1 h) zs) t ∙ sym g)
next_kept_if l1 l2 h q w v z zs false false s old sorted high lw lv fw m f k =
    let e = ap (λ b. filter (kept l2 h) (cond b (joined w z ∷ zs) (w ∷ z ∷ zs))) (fw ∙ f) in
    let o = old z (inl refl) in
    let far : (y : Run) → IsIn y (filter (kept l1 h) zs) → v.last + 1 < y.first = λ y i. omega (arith, high, lv, o.up, sorted.0 y (filter_among (kept l1 h) y zs i)) in
    let g = ap (filter (alive l2)) (next_far v (filter (kept l1 h) zs) far) in
    let t = filter_twice l1 l2 h q (z ∷ zs) s ∙ ap (λ b. filter (alive l2) (cond b (z ∷ filter (kept l1 h) zs) (filter (kept l1 h) zs))) k in
    e ∙ (matched l2 h w v w v m refl refl refl refl (λ x. x) (z ∷ zs) (filter (kept l1 h) zs) t ∙ sym g)

next_kept : (l1 l2 h : ℕ → Bool) (q : ℕ) (w v : Run) (ys : List Run) → Setting l1 l2 h q → AllOld l1 h q ys → Sorted ys → ((z : Run) → IsIn z ys → q < z.first)
    → w.last ≡ q → v.last ≡ q → ((z : Run) → fits w z ≡ fits v z) → Match l2 h w v
    → filter (kept l2 h) (join_next w ys) ≡ filter (alive l2) (join_next v (filter (kept l1 h) ys))
next_kept l1 l2 h q w v [] s old sorted high lw lv fw m = matched l2 h w v w v m refl refl refl refl (λ x. x) [] [] refl
next_kept l1 l2 h q w v (z ∷ zs) s old sorted high lw lv fw m =
    next_kept_if l1 l2 h q w v z zs (fits v z) (kept l1 h z) s old sorted (high z (inl refl)) lw lv (fw z) m refl refl

-- a run y before q that was dropped: nothing that begins like it, or like the new fragment, lives
before_dropped : (l1 l2 h : ℕ → Bool) (q : ℕ) (x y : Run) → Setting l1 l2 h q → Old l1 h q y → x.first ≡ q → fits y x ≡ true → kept l1 h y ≡ false → Match l2 h (joined y x) x
before_dropped l1 l2 h q x y s o fx f k =
    let p = fits_parts y x f in
    let after : y.last + 1 ≡ q = p.0 ∙ fx in
    let lost : (y.front ≡ false) × (l1 (y.first - 1) ≡ false) = elim (kept_false (is_dead l1 y) (h y.first) k) [
      | inl d ↦ elim (dead_cases l1 y d) [
        | inl a ↦ a
        | inr a ↦ absurd (let z : true ≡ false = sym s.was ∙ (ap l1 (sym after) ∙ a.1) in cc)
      ]
      | inr n ↦ absurd (let z : false ≡ true = sym p.1 ∙ (o.whole n).1 in cc)
    ] in
    let l : x.first - 1 ≡ y.last = omega (arith, p.0) in
    let gone : l2 (x.first - 1) ≡ false = ap l2 l ∙ not_missing l1 l2 y.last s.mono o.known_last in
    Never (λ z a b. dead_front l2 z (b ∙ lost.0) (ap (λ n. l2 (n - 1)) a ∙ not_missing l1 l2 (y.first - 1) s.mono lost.1)) (λ z a b. dead_front l2 z (b ∙ p.2) (ap (λ n. l2 (n - 1)) a ∙ gone))

behind : (l1 h : ℕ → Bool) (q : ℕ) (y : Run) (ys : List Run) → AllOld l1 h q (y ∷ ys) → Sorted (y ∷ ys) → q ≤ y.last + 1 → (z : Run) → IsIn z ys → q < z.first
behind l1 h q y ys old sorted le z i =
    let o = old z (inr i) in
    elim o.apart [ inl a ↦ absurd (omega (arith, a, o.up, sorted.0 z i, le)) | inr a ↦ a ]

-- all runs kept, or the dead ones dropped before
fit_kept : (l1 l2 h : ℕ → Bool) (q : ℕ) (x y : Run) (ys : List Run) (u : Bool) → Setting l1 l2 h q → AllOld l1 h q (y ∷ ys) → Sorted (y ∷ ys) → x.first ≡ q → x.last ≡ q → fits y x ≡ true → kept l1 h y ≡ u
    → filter (kept l2 h) (join_next (joined y x) ys) ≡ filter (alive l2) (add_run x (cond u (y ∷ filter (kept l1 h) ys) (filter (kept l1 h) ys)))
fit_kept l1 l2 h q x y ys true s old sorted fx lx f k =
    let p = fits_parts y x f in
    let high = behind l1 h q y ys old sorted (omega (arith, p.0, fx)) in
    let hy : h y.first ≡ true = (kept_true (is_dead l1 y) (h y.first) k).1 in
    let add : add_run x (y ∷ filter (kept l1 h) ys) ≡ join_next (joined y x) (filter (kept l1 h) ys) =
    ap (λ t. cond (not t && nat_lt y.last x.first) (y ∷ add_run x (filter (kept l1 h) ys)) (cond t (join_next (joined y x) (filter (kept l1 h) ys)) (join_next x (y ∷ filter (kept l1 h) ys)))) f in
    next_kept l1 l2 h q (joined y x) (joined y x) ys s (λ z i. old z (inr i)) sorted.1 high lx lx (λ z. refl) (One refl hy) ∙ ap (filter (alive l2)) (sym add)
fit_kept l1 l2 h q x y ys false s old sorted fx lx f k =
    let p = fits_parts y x f in
    let high = behind l1 h q y ys old sorted (omega (arith, p.0, fx)) in
    let add : add_run x (filter (kept l1 h) ys) ≡ join_next x (filter (kept l1 h) ys) =
    add_before x (filter (kept l1 h) ys) (λ a i. let j = filter_among (kept l1 h) a ys i in (omega (arith, high a j, fx), (old a (inr j)).up)) in
    next_kept l1 l2 h q (joined y x) x ys s (λ z i. old z (inr i)) sorted.1 high lx lx (λ z. refl) (before_dropped l1 l2 h q x y s (old y (inl refl)) fx f k) ∙ ap (filter (alive l2)) (sym add)

skip_kept : (l1 l2 h : ℕ → Bool) (q : ℕ) (x y : Run) (ys : List Run) (u : Bool) → Setting l1 l2 h q → x.first ≡ q → fits y x ≡ false → y.last < q → kept l1 h y ≡ u
    → filter (kept l2 h) (add_run x ys) ≡ filter (alive l2) (add_run x (filter (kept l1 h) ys))
    → filter (kept l2 h) (y ∷ add_run x ys) ≡ filter (alive l2) (add_run x (cond u (y ∷ filter (kept l1 h) ys) (filter (kept l1 h) ys)))
skip_kept l1 l2 h q x y ys true s fx f lt k ih =
    let rest = filter (kept l1 h) ys in
    let add : add_run x (y ∷ rest) ≡ y ∷ add_run x rest =
    ap (λ t. cond (not t && nat_lt y.last x.first) (y ∷ add_run x rest) (cond t (join_next (joined y x) rest) (join_next x (y ∷ rest)))) f
    ∙ ap (λ t. cond t (y ∷ add_run x rest) (join_next x (y ∷ rest))) (lt-ltb y.last x.first (omega (arith, lt, fx))) in
    both_more (kept l2 h) (alive l2) (kept l1 h) y (add_run x ys) (add_run x rest) true k (λ e. stays_kept l1 l2 h q y s k) (λ e. absurd cc) ih ∙ ap (filter (alive l2)) (sym add)
skip_kept l1 l2 h q x y ys false s fx f lt k ih =
    both_more (kept l2 h) (alive l2) (kept l1 h) y (add_run x ys) (add_run x (filter (kept l1 h) ys)) false k (λ e. absurd cc) (λ e. stays_out l1 l2 h q y s k) ih

add_kept_if : (l1 l2 h : ℕ → Bool) (q : ℕ) (x y : Run) (ys : List Run) (t : Bool) → Setting l1 l2 h q → AllOld l1 h q (y ∷ ys) → Sorted (y ∷ ys) → x.first ≡ q → x.last ≡ q → fits y x ≡ t
    → filter (kept l2 h) (add_run x ys) ≡ filter (alive l2) (add_run x (filter (kept l1 h) ys))
    → filter (kept l2 h) (add_run x (y ∷ ys)) ≡ filter (alive l2) (add_run x (filter (kept l1 h) (y ∷ ys)))
add_kept_if l1 l2 h q x y ys true s old sorted fx lx f ih =
    let add : add_run x (y ∷ ys) ≡ join_next (joined y x) ys = ap (λ t. cond (not t && nat_lt y.last x.first) (y ∷ add_run x ys) (cond t (join_next (joined y x) ys) (join_next x (y ∷ ys)))) f in
    ap (filter (kept l2 h)) add ∙ fit_kept l1 l2 h q x y ys (kept l1 h y) s old sorted fx lx f refl
add_kept_if l1 l2 h q x y ys false s old sorted fx lx f ih = elim (old y (inl refl)).apart [
  | inl lt ↦
      let add : add_run x (y ∷ ys) ≡ y ∷ add_run x ys =
      ap (λ t. cond (not t && nat_lt y.last x.first) (y ∷ add_run x ys) (cond t (join_next (joined y x) ys) (join_next x (y ∷ ys)))) f
      ∙ ap (λ t. cond t (y ∷ add_run x ys) (join_next x (y ∷ ys))) (lt-ltb y.last x.first (omega (arith, lt, fx))) in
      ap (filter (kept l2 h)) add ∙ skip_kept l1 l2 h q x y ys (kept l1 h y) s fx f lt refl ih
  | inr gt ↦
      let all : (z : Run) → IsIn z (y ∷ ys) → q < z.first = λ z i. elim i [
        | inl e ↦ (rw e gt)
        | inr j ↦ behind l1 h q y ys old sorted (omega (arith, gt, (old y (inl refl)).up)) z j
      ] in
      let far : (zs : List Run) → ((z : Run) → IsIn z zs → IsIn z (y ∷ ys)) → add_run x zs ≡ join_next x zs = λ zs sub. add_before x zs (λ a i. let j = sub a i in (omega (arith, all a j, fx), (old a j).up)) in
      ap (filter (kept l2 h)) (far (y ∷ ys) (λ z i. i))
      ∙ (next_kept l1 l2 h q x x (y ∷ ys) s old sorted all lx lx (λ z. refl) (One refl (ap h fx ∙ s.new))
      ∙ ap (filter (alive l2)) (sym (far (filter (kept l1 h) (y ∷ ys)) (λ z i. filter_among (kept l1 h) z (y ∷ ys) i))))
]

-- with a new fragment
pub add_kept : (l1 l2 h : ℕ → Bool) (q : ℕ) (x : Run) (ys : List Run) → Setting l1 l2 h q → AllOld l1 h q ys → Sorted ys → x.first ≡ q → x.last ≡ q
    → filter (kept l2 h) (add_run x ys) ≡ filter (alive l2) (add_run x (filter (kept l1 h) ys))
add_kept l1 l2 h q x [] s old sorted fx lx = ap (λ b. cond b (x ∷ []) []) (kept_if (is_dead l2 x) (h x.first) (ap h fx ∙ s.new))
add_kept l1 l2 h q x (y ∷ ys) s old sorted fx lx =
    add_kept_if l1 l2 h q x y ys (fits y x) s old sorted fx lx refl (add_kept l1 l2 h q x ys s (λ z i. old z (inr i)) sorted.1 fx lx)
