-- The whole runs of held numbers, in order; and what a beginning of them owes.
use Rattle.std.proofs.Common.{◌≡◌, ℕ, zero, suc, ◌+◌, ◌-◌, ◌*◌, ◌<◌, ◌≤◌, List, [], ◌∷◌, ◌++◌, length, take, Option, Some, None, refl, ap, sym, ◌∙◌, subst, arith, inl, inr, ◌⊎◌}
use Rattle.std.specs.Option.{option_to_list}
use Rattle.std.proofs.lemmas.Bool.{cases_eq}
use Rattle.std.proofs.lemmas.Bool.Decides.{nat_tests}
use Rattle.std.proofs.lemmas.List.{take_all, append-nil}
use Rattle.rtmfp_data_chunks.specs.declared.user_data.Part.{Part}
use Rattle.rtmfp_data_chunks.specs.declared.user_data.Part.TheVariants.{Whole, Begin, End, Middle}
use Rattle.rtmfp_data_chunks.specs.Fragments.{Message, Fragment, Spans, fragment_of, fragment_at, fragment_count, part_of, piece}
use Rattle.rtmfp_data_chunks.specs.Runs.{Number, Missing, Held, GivenUp}
use Rattle.flow_exchange.proofs.Ends.{open_with, open_at, whole_with, whole_at, wholes_to}
use Rattle.rtmfp_data_chunks.specs.HandsOver.{IsIn, Rise, HandsOver}
use Rattle.flow_exchange.proofs.Fragments.{Laid, count_covers, count_positive, begins_after, Same, Before, After, order, found}
use Rattle.flow_exchange.proofs.Runs.{HoldsFragments, message, message_eq, join, first_piece, WholeOf, whole_is}

abbrev pub IsHeld : Number → Type 0
IsHeld Missing = ⊥
IsHeld (Held p b) = Unit {0}
IsHeld GivenUp = ⊥

held_with : (first : ℕ) (qs : List Message) (q : Message) (n : ℕ) (v : Number) → Laid first qs → IsIn q qs → Spans q n
    → ((p : Part) (b : List ℕ) → v ≡ Held p b → fragment_of qs n ≡ Some (record { part = p; bytes = b }))
    → IsHeld v → v ≡ Held (part_of (fragment_count q) (n - q.number)) (piece q.bytes (n - q.number))
held_with first qs q n Missing laid h sp f held = absurd held
held_with first qs q n GivenUp laid h sp f held = absurd held
held_with first qs q n (Held p b) laid h sp f held =
    let g : Some (record { part = p; bytes = b }) ≡ Some (fragment_at q n) = sym (f p b refl) ∙ found first qs q n laid h sp in
    let e : record { part = p; bytes = b } ≡ fragment_at q n = cc in
    ap (λ (x : Fragment). Held x.part x.bytes) e

-- a held number of a queued message holds that message's fragment
pub held_is : (first : ℕ) (qs : List Message) (s : ℕ → Number) (q : Message) (n : ℕ) → Laid first qs → HoldsFragments qs s → IsIn q qs → Spans q n
    → IsHeld (s n) → s n ≡ Held (part_of (fragment_count q) (n - q.number)) (piece q.bytes (n - q.number))
held_is first qs s q n laid h i sp held = held_with first qs q n (s n) laid i sp (h n) held

pub part_is_whole : (count k : ℕ) → count ≡ 1 → part_of count k ≡ Whole
part_is_whole count k e = grind (arith, nat_tests)

pub part_is_begin : (count k : ℕ) → 1 < count → k ≡ 0 → part_of count k ≡ Begin
part_is_begin count k e z = grind (arith, nat_tests)

pub part_is_middle : (count k : ℕ) → 0 < k → k + 1 < count → part_of count k ≡ Middle
part_is_middle count k e z = grind (arith, nat_tests)

pub part_is_end : (count k : ℕ) → 0 < k → k + 1 ≡ count → part_of count k ≡ End
part_is_end count k e z = grind (arith, nat_tests)

open_at_from : (s : ℕ → Number) (n k : ℕ) (v : Number) → n ≡ suc k → s n ≡ v → open_at s n ≡ open_with v n (open_at s k)
unfolding open_at
open_at_from s n k v e f = rw e (ap (λ x. open_with x (suc k) (open_at s k)) (ap s (sym e) ∙ f))

whole_at_from : (s : ℕ → Number) (n k : ℕ) (v : Number) → n ≡ suc k → s n ≡ v → whole_at s n ≡ whole_with v n (open_at s k)
unfolding whole_at
whole_at_from s n k v e f = rw e (ap (λ x. whole_with x (suc k) (open_at s k)) (ap s (sym e) ∙ f))

abbrev pub AllHeld : (ℕ → Number) → Message → Type 0
AllHeld s q = (n : ℕ) → Spans q n → IsHeld (s n)

-- the front of a message of which all is held, as far as fragment k, which isn't the last
open_front : (first : ℕ) (qs : List Message) (s : ℕ → Number) (q : Message) → 1 ≤ first → Laid first qs → HoldsFragments qs s → IsIn q qs → AllHeld s q
    → (k : ℕ) → k + 1 < fragment_count q → open_at s (q.number + k) ≡ Some (message q.number (take (1000 * (k + 1)) q.bytes))
open_front first qs s q one laid h i all zero lt =
    let low = begins_after first qs q laid i in
    let n = q.number + 0 in
    let sp : Spans q n = (omega arith, omega arith) in
    let z : n - q.number ≡ 0 = omega arith in
    let v : s n ≡ Held Begin (piece q.bytes 0) =
    held_is first qs s q n laid h i sp (all n sp)
    ∙ (ap (λ x. Held (part_of (fragment_count q) x) (piece q.bytes x)) z ∙ ap (λ x. Held x (piece q.bytes 0)) (part_is_begin (fragment_count q) 0 (omega arith) refl)) in
    let e : n ≡ suc (q.number - 1) = omega (arith, low) in
    let number : n ≡ q.number = omega arith in
    let o : open_at s n ≡ open_with (Held Begin (piece q.bytes 0)) n (open_at s (q.number - 1)) = open_at_from s n (q.number - 1) (Held Begin (piece q.bytes 0)) e v in
    o ∙ ap (λ x. Some x) (message_eq n q.number (piece q.bytes 0) (take (1000 * (0 + 1)) q.bytes) number (first_piece q.bytes))
open_front first qs s q one laid h i all (suc k) lt =
    let n = q.number + suc k in
    let sp : Spans q n = (omega arith, omega arith) in
    let z : n - q.number ≡ suc k = omega arith in
    let v : s n ≡ Held Middle (piece q.bytes (suc k)) =
    held_is first qs s q n laid h i sp (all n sp)
    ∙ (ap (λ x. Held (part_of (fragment_count q) x) (piece q.bytes x)) z ∙ ap (λ x. Held x (piece q.bytes (suc k))) (part_is_middle (fragment_count q) (suc k) (omega arith) (omega arith))) in
    let e : n ≡ suc (q.number + k) = omega arith in
    let ih = open_front first qs s q one laid h i all k (omega arith) in
    let o : open_at s n ≡ open_with (Held Middle (piece q.bytes (suc k))) n (open_at s (q.number + k)) = open_at_from s n (q.number + k) (Held Middle (piece q.bytes (suc k))) e v in
    let k1 : k + 1 ≡ suc k = omega arith in
    let bytes : take (1000 * (k + 1)) q.bytes ++ piece q.bytes (suc k) ≡ take (1000 * (suc k + 1)) q.bytes =
    ap (λ x. take (1000 * x) q.bytes ++ piece q.bytes (suc k)) k1 ∙ join q.bytes (suc k) in
    o ∙ (ap (λ x. open_with (Held Middle (piece q.bytes (suc k))) n x) ih ∙ ap (λ x. Some (message q.number x)) bytes)

-- a message of which all is held is a whole run that ends at its last number
pub whole_back : (first : ℕ) (qs : List Message) (s : ℕ → Number) (q : Message) (n : ℕ) → 1 ≤ first → Laid first qs → HoldsFragments qs s → IsIn q qs → AllHeld s q
    → n + 1 ≡ q.number + fragment_count q → whole_at s n ≡ Some q
whole_back first qs s q n one laid h i all last =
    let low = begins_after first qs q laid i in
    let covers = count_covers (length q.bytes) in
    let count = fragment_count q in
    let sp : Spans q n = (omega (arith, covers.0), omega arith) in
    let e : n ≡ suc (n - 1) = omega (arith, low, sp.0) in
    let v = held_is first qs s q n laid h i sp (all n sp) in
    elim (cases_eq count 1) [
      | inl c ↦
          let z : n - q.number ≡ 0 = omega (arith, c) in
          let w : s n ≡ Held Whole (piece q.bytes 0) =
          v ∙ (ap (λ x. Held (part_of count x) (piece q.bytes x)) z ∙ ap (λ x. Held x (piece q.bytes 0)) (part_is_whole count 0 c)) in
          let short : length q.bytes ≤ 1000 * 1 = omega (arith, covers.1, c) in
          let number : n ≡ q.number = omega (arith, c) in
          whole_at_from s n (n - 1) (Held Whole (piece q.bytes 0)) e w
          ∙ ap (λ x. Some x) (message_eq n q.number (piece q.bytes 0) q.bytes number (first_piece q.bytes ∙ take_all (1000 * 1) q.bytes short))
      | inr ne ↦
          let many : 1 < count = omega (arith, covers.0, ne) in
          let k = n - 1 - q.number in
          let z : n - q.number ≡ k + 1 = omega arith in
          let w : s n ≡ Held End (piece q.bytes (k + 1)) =
          v ∙ (ap (λ x. Held (part_of count x) (piece q.bytes x)) z ∙ ap (λ x. Held x (piece q.bytes (k + 1))) (part_is_end count (k + 1) (omega arith) (omega arith))) in
          let o : open_at s (q.number + k) ≡ Some (message q.number (take (1000 * (k + 1)) q.bytes)) = open_front first qs s q one laid h i all k (omega arith) in
          let at : n ≡ suc (q.number + k) = omega arith in
          let long : length q.bytes ≤ 1000 * (k + 1 + 1) = omega (arith, covers.1) in
          whole_at_from s n (q.number + k) (Held End (piece q.bytes (k + 1))) at w
          ∙ (ap (λ x. whole_with (Held End (piece q.bytes (k + 1))) n x) o
          ∙ ap (λ x. Some (message q.number x)) (join q.bytes (k + 1) ∙ take_all (1000 * (k + 1 + 1)) q.bytes long))
    ]

pub in_left : {X : Type 0} (x : X) (xs ys : List X) → IsIn x xs → IsIn x (xs ++ ys)
in_left x [] ys h = absurd h
in_left x (y ∷ xs) ys (inl e) = inl e
in_left x (y ∷ xs) ys (inr h) = inr (in_left x xs ys h)

pub in_right : {X : Type 0} (x : X) (xs ys : List X) → IsIn x ys → IsIn x (xs ++ ys)
in_right x [] ys h = h
in_right x (y ∷ xs) ys h = inr (in_right x xs ys h)

pub in_either : {X : Type 0} (x : X) (xs ys : List X) → IsIn x (xs ++ ys) → IsIn x xs ⊎ IsIn x ys
in_either x [] ys h = inr h
in_either x (y ∷ xs) ys (inl e) = inl (inl e)
in_either x (y ∷ xs) ys (inr h) = elim (in_either x xs ys h) [ inl k ↦ inl (inr k) | inr k ↦ inr k ]

in_option : {X : Type 0} (x : X) (o : Option X) → IsIn x (option_to_list o) → o ≡ Some x
in_option x None h = absurd h
in_option x (Some y) (inl e) = ap (λ z. Some z) (sym e)
in_option x (Some y) (inr h) = absurd h

option_in : {X : Type 0} (x : X) (o : Option X) → o ≡ Some x → IsIn x (option_to_list o)
option_in x None e = absurd cc
option_in x (Some y) e = let f : y ≡ x = cc in inl (sym f)

pub record EndsAt (s : ℕ → Number) (t : ℕ) (m : Message) : Type 0 where
  pub at : ℕ
  pub low : at ≤ t
  pub is : whole_at s at ≡ Some m

pub from_wholes : (s : ℕ → Number) (t : ℕ) (m : Message) → IsIn m (wholes_to s t) → EndsAt s t m
unfolding wholes_to
from_wholes s zero m h = absurd h
from_wholes s (suc t) m h = elim (in_either m (wholes_to s t) (option_to_list (whole_at s (suc t))) h) [
  | inl k ↦ let r = from_wholes s t m k in record { at = r.at; low = omega (arith, r.low); is = r.is }
  | inr k ↦ record { at = suc t; low = omega arith; is = in_option m (whole_at s (suc t)) k }
]

whole_at_zero : (s : ℕ → Number) (m : Message) → whole_at s 0 ≡ Some m → ⊥
unfolding whole_at
whole_at_zero s m e = cc

pub in_wholes : (s : ℕ → Number) (t e : ℕ) (m : Message) → e ≤ t → whole_at s e ≡ Some m → IsIn m (wholes_to s t)
unfolding wholes_to
in_wholes s zero e m le is = let z : e ≡ 0 = omega arith in absurd (whole_at_zero s m (ap (whole_at s) (sym z) ∙ is))
in_wholes s (suc t) e m le is = elim (cases_eq e (suc t)) [
  | inl same ↦ in_right m (wholes_to s t) (option_to_list (whole_at s (suc t))) (option_in m (whole_at s (suc t)) (ap (whole_at s) (sym same) ∙ is))
  | inr ne ↦ in_left m (wholes_to s t) (option_to_list (whole_at s (suc t))) (in_wholes s t e m (omega (arith, ne)) is)
]

pub rise_push : (xs : List Message) (m : Message) → Rise xs → ((x : Message) → IsIn x xs → x.number < m.number) → Rise (xs ++ m ∷ [])
rise_push [] m r h = (λ y k. absurd k, tt)
rise_push (x ∷ xs) m r h = (
  λ y k. elim (in_either y xs (m ∷ []) k) [
    | inl a ↦ r.0 y a
    | inr b ↦ elim b [ inl e ↦ (rw e (h x (inl refl))) | inr n ↦ absurd n ]
  ],
  rise_push xs m r.1 (λ y k. h y (inr k)),
)

rise_option : (xs : List Message) (o : Option Message) → Rise xs → ((m x : Message) → o ≡ Some m → IsIn x xs → x.number < m.number) → Rise (xs ++ option_to_list o)
rise_option xs None r h = subst Rise (sym (append-nil xs)) r
rise_option xs (Some m) r h = rise_push xs m r (λ x k. h m x refl k)

pub rise_front : (xs ys : List Message) → Rise (xs ++ ys) → Rise xs
rise_front [] ys r = tt
rise_front (x ∷ xs) ys r = (λ y k. r.0 y (in_left y xs ys k), rise_front xs ys r.1)

pub rise_across : (xs ys : List Message) (a b : Message) → Rise (xs ++ ys) → IsIn a xs → IsIn b ys → a.number < b.number
rise_across [] ys a b r h k = absurd h
rise_across (x ∷ xs) ys a b r (inl e) k = rw e (r.0 b (in_right b xs ys k))
rise_across (x ∷ xs) ys a b r (inr h) k = rise_across xs ys a b r.1 h k

rise_next : (first : ℕ) (qs : List Message) (x m : Message) (e t : ℕ) → Laid first qs → WholeOf qs e x → WholeOf qs t m → e < t → x.number < m.number
rise_next first qs x m e t laid wx wm lt =
    let px = count_positive x in
    let pm = count_positive m in
    elim (order first qs x m laid wx.was_queued wm.was_queued) [
      | Same s ↦ absurd (omega (arith, wx.ends, wm.ends, ap (λ (q : Message). q.number + fragment_count q) s))
      | Before b ↦ omega (arith, px, b)
      | After a ↦ absurd (omega (arith, wx.ends, wm.ends, px, a))
    ]

-- the whole runs rise
pub rise_wholes : (first : ℕ) (qs : List Message) (s : ℕ → Number) (t : ℕ) → Laid first qs → HoldsFragments qs s → Rise (wholes_to s t)
unfolding wholes_to
rise_wholes first qs s zero laid h = tt
rise_wholes first qs s (suc t) laid h = rise_option (wholes_to s t) (whole_at s (suc t)) (rise_wholes first qs s t laid h) (
    λ m x e k.
    let r = from_wholes s t x k in
    rise_next first qs x m r.at (suc t) laid (whole_is first qs s r.at x laid h r.is) (whole_is first qs s (suc t) m laid h e) (omega (arith, r.low))
    )

pub data Scan (s : ℕ → Number) (low k : ℕ) : Type 0 where
  All_held : ((n : ℕ) → low ≤ n → n < low + k → IsHeld (s n)) → Scan s low k
  One_given_up : (n : ℕ) → low ≤ n → n < low + k → s n ≡ GivenUp → Scan s low k

scan_with : (s : ℕ → Number) (low k : ℕ) (v : Number) → s (low + k) ≡ v → (s (low + k) ≡ Missing → ⊥) → Scan s low k → Scan s low (suc k)
scan_with s low k v e none (One_given_up n a b g) = One_given_up n a (omega (arith, b)) g
scan_with s low k Missing e none (All_held all) = absurd (none e)
scan_with s low k GivenUp e none (All_held all) = One_given_up (low + k) (omega arith) (omega arith) e
scan_with s low k (Held p b) e none (All_held all) = All_held (
    λ n a c. elim (cases_eq n (low + k)) [
      | inl same ↦ subst (λ (x : ℕ). IsHeld (s x)) (sym same) (subst IsHeld (sym e) tt)
      | inr ne ↦ all n a (omega (arith, ne))
    ]
    )

pub scan : (s : ℕ → Number) (low k : ℕ) → ((n : ℕ) → low ≤ n → n < low + k → s n ≡ Missing → ⊥) → Scan s low k
scan s low zero none = All_held (λ n a b. absurd (omega arith))
scan s low (suc k) none =
    scan_with s low k (s (low + k)) refl (none (low + k) (omega arith) (omega arith)) (scan s low k (λ n a b. none n a (omega arith)))

-- what is handed over is a beginning of the whole runs below which nothing is missing
pub hands_over : (first : ℕ) (qs : List Message) (abandoned : List ℕ) (s : ℕ → Number) (t : ℕ) (handed rest : List Message)
    → 1 ≤ first → Laid first qs → HoldsFragments qs s
    → ((n : ℕ) → n ≤ t → s n ≡ Missing → ⊥)
    → ((n : ℕ) (m : Message) → s n ≡ GivenUp → IsIn m qs → Spans m n → IsIn m.number abandoned)
    → handed ++ rest ≡ wholes_to s t
    → HandsOver qs abandoned handed
hands_over first qs abandoned s t handed rest one laid h none gone e =
    let rises : Rise (handed ++ rest) = subst Rise (sym e) (rise_wholes first qs s t laid h) in
    let among : (m : Message) → IsIn m handed → EndsAt s t m =
    λ m k. from_wholes s t m (subst (λ (xs : List Message). IsIn m xs) e (in_left m handed rest k)) in
    record {
      rise = rise_front handed rest rises;
      were_queued = λ m k. let r = among m k in (whole_is first qs s r.at m laid h r.is).was_queued;
      skipped =
          λ m later q k lt not_handed.
          let r = among later k in
          let w = whole_is first qs s r.at later laid h r.is in
          let end : m.number + fragment_count m ≤ later.number =
          elim (order first qs m later laid q w.was_queued) [
            | Same x ↦ absurd (omega (arith, lt, ap (λ (z : Message). z.number) x))
            | Before x ↦ x
            | After x ↦ absurd (omega (arith, lt, x, count_positive later))
          ] in
          let last : m.number + fragment_count m ≤ t + 1 = omega (arith, end, w.ends, r.low, count_positive later) in
          elim (scan s m.number (fragment_count m) (λ n a b. none n (omega (arith, a, b, last)))) [
            | All_held all ↦
                let n = m.number + fragment_count m - 1 in
                let is : n + 1 ≡ m.number + fragment_count m = omega (arith, count_positive m) in
                let back = whole_back first qs s m n one laid h q (λ j sp. all j sp.0 sp.1) is in
                let inside : IsIn m (handed ++ rest) = subst (λ (xs : List Message). IsIn m xs) (sym e) (in_wholes s t n m (omega (arith, is, last)) back) in
                elim (in_either m handed rest inside) [
                  | inl a ↦ absurd (not_handed a)
                  | inr b ↦ absurd (omega (arith, lt, rise_across handed rest later m rises k b))
                ]
            | One_given_up n a b g ↦ gone n m g q (a, b)
          ];
    }
