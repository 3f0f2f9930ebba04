-- Which numbers a replay window has room for, once one more came.
use Rattle.std.proofs.Common.{◌≡◌, ◌≢◌, ◌↔◌, ℕ, ◌+◌, ◌-◌, ◌<◌, ◌≤◌, Bool, true, false, ◌&&◌, ◌||◌, if◌then◌else◌, ◌==◌, nat_lt, nat_le, [], get_or, Ok, Err, Result, refl, sym, ap, subst, ◌∙◌, inl, inr, arith}
use Rattle.std.proofs.lemmas.Bool.{cases_lt}
use Rattle.std.proofs.lemmas.Bool.Decides.{nat_tests}
use Rattle.std.proofs.lemmas.List.FromFn.{get_or-map-range_with_len}
use Rattle.crypto_profile.specs.declared.window.Seen.{Seen}
use Rattle.crypto_profile.specs.declared.window.Seen.TheVariants.{Old, Repeated}
use Rattle.crypto_profile.specs.Window.{WindowState, recents, window_of, has_taken, window_answer, raised, marked, with_taken, window_after}
use Rattle.crypto_profile.proofs.WindowLaws.{has_taken_above, window_answer_near, window_after_taken, window_after_refused, near_where_ok, window_stands}

-- ---- when there is room

-- an answer by its two tests
abbrev pick : Bool → Bool → Result (Unit {0}) Seen
pick old repeated = if old then Err Old else if repeated then Err Repeated else Ok tt

only_fresh : (b : Bool) → pick false b ≡ Ok tt → b ≡ false
only_fresh true h = absurd (cc)
only_fresh false h = refl

-- A number for which there is room isn't far below the highest, and wasn't taken.
pub ok_is : (kept : WindowState) (n : ℕ) → window_answer kept n ≡ Ok tt → (kept.highest < n + 1024) × (has_taken kept n ≡ false)
ok_is kept n ok =
    let near : kept.highest < n + 1024 = near_where_ok kept n ok in
    (near, only_fresh (has_taken kept n) (sym (window_answer_near kept n (has_taken kept n) near refl) ∙ ok))

pub is_ok : (kept : WindowState) (n : ℕ) → kept.highest < n + 1024 → has_taken kept n ≡ false → window_answer kept n ≡ Ok tt
is_ok kept n near none = window_answer_near kept n false near none

-- ---- one number more

get_recents : (f : ℕ → Bool) (d : ℕ) → d < 1024 → get_or (recents f) d false ≡ f d
unfolding recents
get_recents f d h = get_or-map-range_with_len f 0 1024 d d false h (omega arith)

-- the tests of a number that is so much below the highest, in the place of the ones before
raised_bit : (h m n : ℕ) (low at bit old was : Bool) → h < m → n ≤ m → low ≡ nat_le n m → bit ≡ (if (m - n) == 0 then true else if nat_lt (m - n) (m - h) then false else old) →
    was ≡ (nat_le n h && at) → (n ≤ h → old ≡ at) → (low && bit) ≡ ((n == m) || was)
raised_bit h m n low at bit old was above within l b w same = grind (arith, nat_tests)

raised_is : (kept : WindowState) (m n : ℕ) → kept.highest < m → m < n + 1024 → has_taken (raised kept m (m - kept.highest)) n ≡ ((n == m) || has_taken kept n)
raised_is kept m n above near =
    let h : ℕ = kept.highest in
    let f : ℕ → Bool = λ d. if d == 0 then true else if nat_lt d (m - h) then false else get_or kept.recent (d - (m - h)) false in
    elim (cases_lt m n) [
      | inl past ↦
          has_taken_above (raised kept m (m - h)) n past
          ∙ (let was : has_taken kept n ≡ false = has_taken_above kept n (omega arith) in let other : (n == m) ≡ false = grind (arith, nat_tests) in sym (ap (λ b. b || has_taken kept n) other ∙ was))
      | inr within ↦
          raised_bit h m n (nat_le n m) (get_or kept.recent (h - n) false) (get_or (recents f) (m - n) false) (get_or kept.recent (m - n - (m - h)) false) (has_taken kept n) above within refl
          (get_recents f (m - n) (omega arith)) refl (λ low. ap (λ d. get_or kept.recent d false) (let e : m - n - (m - h) ≡ h - n = omega arith in e))
    ]

marked_bit : (h m n : ℕ) (at bit : Bool) → m ≤ h → n ≤ h → bit ≡ (((h - n) == (h - m)) || at) → (nat_le n h && bit) ≡ ((n == m) || (nat_le n h && at))
marked_bit h m n at bit low within b = grind (arith, nat_tests)

marked_is : (kept : WindowState) (m n : ℕ) → m ≤ kept.highest → kept.highest < n + 1024 → has_taken (marked kept (kept.highest - m)) n ≡ ((n == m) || has_taken kept n)
marked_is kept m n low near =
    let h : ℕ = kept.highest in
    let f : ℕ → Bool = λ d. (d == (h - m)) || get_or kept.recent d false in
    elim (cases_lt h n) [
      | inl past ↦
          has_taken_above (marked kept (h - m)) n past
          ∙ (let was : has_taken kept n ≡ false = has_taken_above kept n past in let other : (n == m) ≡ false = grind (arith, nat_tests) in sym (ap (λ b. b || has_taken kept n) other ∙ was))
      | inr within ↦ marked_bit h m n (get_or kept.recent (h - n) false) (get_or (recents f) (h - n) false) low within (get_recents f (h - n) (omega arith))
    ]

-- the window after a number is this one, and its tests are these
record IsWith (kept now : WindowState) (m : ℕ) : Type 0 where
  low : kept.highest ≤ now.highest
  top : m ≤ now.highest
  most : (n : ℕ) → kept.highest < n + 1024 → m < n + 1024 → now.highest < n + 1024
  bits : (n : ℕ) → now.highest < n + 1024 → has_taken now n ≡ ((n == m) || has_taken kept n)

with_is : (kept : WindowState) (m : ℕ) → IsWith kept (with_taken kept m) m
with_is kept m = by (nat_lt kept.highest m) refl
  where
    by : (b : Bool) → nat_lt kept.highest m ≡ b → IsWith kept (if b then raised kept m (m - kept.highest) else marked kept (kept.highest - m)) m
    by true e =
        let above : kept.highest < m = grind (arith, nat_tests) in
        record { low = omega arith; top = omega arith; most = λ n a b. b; bits = λ n near. raised_is kept m n above near }
    by false e =
        let under : m ≤ kept.highest = grind (arith, nat_tests) in
        record { low = omega arith; top = under; most = λ n a b. a; bits = λ n near. marked_is kept m n under near }

neither_is : (n m : ℕ) (b : Bool) → ((n == m) || b) ≡ false → (m ≢ n) × (b ≡ false)
neither_is n m true e = absurd (grind (arith, nat_tests))
neither_is n m false e = ((λ same. grind (arith, nat_tests)), refl)

is_neither : (n m : ℕ) (b : Bool) → m ≢ n → b ≡ false → ((n == m) || b) ≡ false
is_neither n m b other none = grind (arith, nat_tests)

-- There is room after a number exactly for what there was room for, but for this one, and for what is 1,024 or more below it.
abbrev pub RoomAfter : WindowState → ℕ → ℕ → Type 0
RoomAfter kept m n = (window_answer kept n ≡ Ok tt) × (m ≢ n) × (m < n + 1024)

ok_after : (kept : WindowState) (m n : ℕ) → (window_answer (with_taken kept m) n ≡ Ok tt) ↔ RoomAfter kept m n
ok_after kept m n = let now : WindowState = with_taken kept m in let w = with_is kept m in (
  (λ ok.
      let is = ok_is now n ok in
      let both = neither_is n m (has_taken kept n) (sym (w.bits n is.0) ∙ is.1) in
      (is_ok kept n (omega (arith, w.low, is.0)) both.1, both.0, omega (arith, w.top, is.0))),
  (λ room.
      let is = ok_is kept n room.0 in
      let near : now.highest < n + 1024 = w.most n is.0 room.2 in
      is_ok now n near (w.bits n near ∙ is_neither n m (has_taken kept n) room.1 is.1)),
)

pub err_not_ok : (kept : WindowState) (m : ℕ) (why : Seen) → window_answer kept m ≡ Err why → window_answer kept m ≡ Ok tt → ⊥
err_not_ok kept m why e ok = let clash : Err why ≡ Ok tt = sym e ∙ ok in cc

pub refused_after : (kept : WindowState) (m n : ℕ) (why : Seen) → window_answer kept m ≡ Err why → window_answer kept n ≡ Ok tt → RoomAfter kept m n
refused_after kept m n why e ok =
    let is = ok_is kept n ok in (
      ok,
      (λ same. err_not_ok kept m why e (subst (λ k. window_answer kept k ≡ Ok tt) (sym same) ok)),
      elim (cases_lt m (n + 1024)) [
        | inl near ↦ near
        | inr far ↦ absurd (err_not_ok kept m why e (is_ok kept m (omega (arith, is.0)) (has_taken_above kept m (omega (arith, is.0)))))
      ],
    )

pub room_after : (kept : WindowState) (m n : ℕ) → (window_answer (window_after kept m) n ≡ Ok tt) ↔ RoomAfter kept m n
room_after kept m n = by (window_answer kept m) refl
  where
    P : WindowState → Type 0
    P k = (window_answer k n ≡ Ok tt) ↔ RoomAfter kept m n

    by : (r : Result (Unit {0}) Seen) → window_answer kept m ≡ r → P (window_after kept m)
    by (Ok done) e = subst P (sym (window_after_taken kept m e)) (ok_after kept m n)
    by (Err why) e = subst P (sym (window_after_refused kept m why e)) ((λ ok. refused_after kept m n why e ok), (λ room. room.0))

-- a new window has room for all numbers but 0

first_ok : (n : ℕ) (b : Bool) → (n == 0) ≡ b → (pick false b ≡ Ok tt) ↔ (n ≢ 0)
first_ok n true e = ((λ ok. absurd (let clash : true ≡ false = only_fresh true ok in cc)), (λ other. absurd (other (grind (arith, nat_tests)))))
first_ok n false e = ((λ ok is. grind (arith, nat_tests)), (λ other. refl))

pub room_at_first : (n : ℕ) → (window_answer (window_of []) n ≡ Ok tt) ↔ (n ≢ 0)
room_at_first n =
    let near : nat_le (n + 1024) 0 ≡ false = grind (arith, nat_tests) in
    subst (λ r. (r ≡ Ok tt) ↔ (n ≢ 0)) (sym ((window_stands [] n).0 ∙ ap (λ b. pick b (n == 0)) near)) (first_ok n (n == 0) refl)
