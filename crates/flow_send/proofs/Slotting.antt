-- The messages in a line, and those among them that wait.
use Rattle.std.proofs.Common.{◌≡◌, ◌≢◌, ◌⊎◌, ℕ, zero, suc, ◌+◌, ◌-◌, ◌<◌, ◌≤◌, ◌==◌, cond, Bool, true, false, List, [], ◌∷◌, ◌++◌, length, set, get_or, drop, Option, Some, None, refl, ap, sym, ◌∙◌, subst, arith, inl, inr}
use Rattle.std.specs.Prelude.{IsSome}
use Rattle.std.specs.Option.{unwrap_or, IsSomeAnd}
use Rattle.std.specs.List.{slice_get}
use Rattle.std.proofs.lemmas.Bool.{cases_eq, cases_lt, ne_eqb, eq-eqb, le-leb}
use Rattle.rtmfp_data_chunks.specs.HandsOver.{IsIn}
use Rattle.flow_send.specs.declared.waiting.Waiting.{Waiting}
use Rattle.flow_send.specs.declared.slots.Slot.{Slot}
use Rattle.flow_send.specs.Sender.{message_at, without_message}
use Rattle.flow_send.specs.Steady.{Line}
use Rattle.flow_send.specs.Messages.{InLine, IsFirstFrom, is_left, Reaches}
use Rattle.flow_send.specs.Slots.{slot_of, gone_of, waiting_in, InSlots, GoneFor, AllGone, IsLine, LastWaits, AreBelow, AreFrom, IsPlace, IsStart, number_of}
use Rattle.flow_send.proofs.Walking.{in_low, line_in, at_in}

-- ---- one slot

here_is : (x s : Slot) → Some x ≡ Some s → x ≡ s
here_is x s e = ap (λ o. unwrap_or o x) e

waits_on : (x : Slot) (later : List Slot) → x.gone ≡ 0 → waiting_in (x ∷ later) ≡ x.message ∷ waiting_in later
waits_on x later e = ap (λ t. cond t (x.message ∷ waiting_in later) (waiting_in later)) (eq-eqb x.gone 0 e)

passes_on : (x : Slot) (later : List Slot) → 0 < x.gone → waiting_in (x ∷ later) ≡ waiting_in later
passes_on x later lt = ap (λ t. cond t (x.message ∷ waiting_in later) (waiting_in later)) (ne_eqb x.gone 0 (λ e. omega (arith, e, lt)))

some_gone : (k : ℕ) → k ≢ 0 → 0 < k
some_gone k ne = omega (arith, ne)

pub there : (at : ℕ) (slots : List Slot) (s : Slot) → slice_get slots at ≡ Some s → at < length slots
there at [] s e = absurd cc
there zero (x ∷ later) s e = omega arith
there (suc at) (x ∷ later) s e = let h = there at later s e in omega (arith, h)

pub get_is : (at : ℕ) (slots : List Slot) (s d : Slot) → slice_get slots at ≡ Some s → get_or slots at d ≡ s
get_is at [] s d e = absurd cc
get_is zero (x ∷ later) s d e = here_is x s e
get_is (suc at) (x ∷ later) s d e = get_is at later s d e

-- ---- a search for the next that waits

skip : (j k : ℕ) (slots : List Slot) → j ≤ k → GoneFor k slots → waiting_in (drop j slots) ≡ waiting_in slots
skip zero k slots le h = refl
skip (suc j) zero slots le h = absurd (omega (arith, le))
skip (suc j) (suc k) [] le h = refl
skip (suc j) (suc k) (x ∷ later) le h = skip j k later (omega (arith, le)) h.1 ∙ sym (passes_on x later h.0)

pub next_step : (at next : ℕ) (slots : List Slot) (s : Slot) → AllGone slots → slice_get slots at ≡ Some s → at ≤ next → next ≤ at + s.gone → waiting_in (drop next slots) ≡ waiting_in (drop at slots)
next_step at next [] s h e lo hi = absurd cc
next_step zero next (x ∷ later) s h e lo hi =
    let g = ap (λ (y : Slot). y.gone) (here_is x s e) in
    skip next x.gone (x ∷ later) (omega (arith, g, hi)) h.0
next_step (suc at) zero (x ∷ later) s h e lo hi = absurd (omega (arith, lo))
next_step (suc at) (suc next) (x ∷ later) s h e lo hi = next_step at next later s h.1 e (omega (arith, lo)) (omega (arith, hi))

pub next_found : (at : ℕ) (slots : List Slot) (s : Slot) → slice_get slots at ≡ Some s → s.gone ≡ 0 → slice_get (waiting_in (drop at slots)) 0 ≡ Some s.message
next_found at [] s e g = absurd cc
next_found zero (x ∷ later) s e g =
    let q = here_is x s e in
    ap (λ (ws : List Waiting). slice_get ws 0) (waits_on x later (ap (λ (y : Slot). y.gone) q ∙ g)) ∙ ap (λ (y : Slot). Some y.message) q
next_found (suc at) (x ∷ later) s e g = next_found at later s e g

pub next_none : (at : ℕ) (slots : List Slot) → slice_get slots at ≡ None → slice_get (waiting_in (drop at slots)) 0 ≡ None
next_none zero [] e = refl
next_none (suc at) [] e = refl
next_none zero (x ∷ later) e = absurd cc
next_none (suc at) (x ∷ later) e = next_none at later e

pub member : (at : ℕ) (slots : List Slot) (s : Slot) → slice_get slots at ≡ Some s → s.gone ≡ 0 → IsIn s.message (waiting_in slots)
member at [] s e g = absurd cc
member zero (x ∷ later) s e g =
    let q = here_is x s e in
    subst (λ (ws : List Waiting). IsIn s.message ws) (sym (waits_on x later (ap (λ (y : Slot). y.gone) q ∙ g))) (inl (ap (λ (y : Slot). y.message) (sym q)))
member (suc at) (x ∷ later) s e g = elim (cases_eq x.gone 0) [
  | inl f ↦ subst (λ (ws : List Waiting). IsIn s.message ws) (sym (waits_on x later f)) (inr (member at later s e g))
  | inr ne ↦ subst (λ (ws : List Waiting). IsIn s.message ws) (sym (passes_on x later (some_gone x.gone ne))) (member at later s e g)
]

-- ---- a walk over all that wait

none_on : (at : ℕ) (slots : List Slot) → slice_get slots at ≡ None → waiting_in (drop at slots) ≡ []
none_on zero [] e = refl
none_on (suc at) [] e = refl
none_on zero (x ∷ later) e = absurd cc
none_on (suc at) (x ∷ later) e = none_on at later e

in_tail : (x : Slot) (later : List Slot) (y : Waiting) → IsIn y (waiting_in later) → IsIn y (waiting_in (x ∷ later))
in_tail x later y i = elim (cases_eq x.gone 0) [
  | inl g ↦ subst (λ (ws : List Waiting). IsIn y ws) (sym (waits_on x later g)) (inr i)
  | inr ne ↦ subst (λ (ws : List Waiting). IsIn y ws) (sym (passes_on x later (some_gone x.gone ne))) i
]

in_waiting : (low : ℕ) (slots : List Slot) → InSlots low slots → InLine low (waiting_in slots)
in_waiting low [] h = tt
in_waiting low (x ∷ later) h = elim (cases_eq x.gone 0) [
  | inl g ↦ subst (λ (ws : List Waiting). InLine low ws) (sym (waits_on x later g)) (h.0, h.1, in_waiting (x.message.number + x.message.count) later h.2)
  | inr ne ↦ subst (λ (ws : List Waiting). InLine low ws) (sym (passes_on x later (some_gone x.gone ne))) (lower low (x.message.number + x.message.count) (waiting_in later) (omega (arith, h.0)) (in_waiting (x.message.number + x.message.count) later h.2))
]
  where
    lower : (low high : ℕ) (ws : List Waiting) → low ≤ high → InLine high ws → InLine low ws
    lower low high [] le h = tt
    lower low high (w ∷ ws) le h = (omega (arith, le, h.0), h.1, h.2)

-- ---- places

in_later : (at low : ℕ) (slots : List Slot) (s : Slot) → InSlots low slots → slice_get slots at ≡ Some s → low ≤ s.message.number
in_later at low [] s h e = absurd cc
in_later zero low (x ∷ later) s h e = let q = ap (λ (y : Slot). y.message.number) (here_is x s e) in omega (arith, q, h.0)
in_later (suc at) low (x ∷ later) s h e = let k = in_later at (x.message.number + x.message.count) later s h.2 e in omega (arith, k, h.0)

below_of : (n at low : ℕ) (slots : List Slot) (s : Slot) → InSlots low slots → slice_get slots at ≡ Some s → s.message.number < n → AreBelow n (suc at) slots
below_of n at low [] s h e lt = absurd cc
below_of n zero low (x ∷ later) s h e lt = let q = ap (λ (y : Slot). y.message.number) (here_is x s e) in (omega (arith, q, lt), tt)
below_of n (suc at) low (x ∷ later) s h e lt =
    let k = in_later at (x.message.number + x.message.count) later s h.2 e in
    (omega (arith, k, lt, h.1), below_of n at (x.message.number + x.message.count) later s h.2 e lt)

pub below_at : (n at low : ℕ) (slots : List Slot) (s : Slot) → InSlots low slots → slice_get slots at ≡ Some s → s.message.number < n → AreBelow n (at + 1) slots
below_at n at low slots s h e lt = let q : suc at ≡ at + 1 = omega arith in subst (λ (i : ℕ). AreBelow n i slots) q (below_of n at low slots s h e lt)

all_from : (n low : ℕ) (slots : List Slot) → InSlots low slots → n ≤ low → AreFrom n zero slots
all_from n low [] h le = tt
all_from n low (x ∷ later) h le = (omega (arith, h.0, le), all_from n (x.message.number + x.message.count) later h.2 (omega (arith, h.0, le)))

pub from_at : (n at low : ℕ) (slots : List Slot) (s : Slot) → InSlots low slots → slice_get slots at ≡ Some s → n ≤ s.message.number → AreFrom n at slots
from_at n at low [] s h e le = tt
from_at n zero low (x ∷ later) s h e le =
    let q = ap (λ (y : Slot). y.message.number) (here_is x s e) in
    (omega (arith, q, le), all_from n (x.message.number + x.message.count) later h.2 (omega (arith, q, le)))
from_at n (suc at) low (x ∷ later) s h e le = from_at n at (x.message.number + x.message.count) later s h.2 e le

pub from_none : (n at : ℕ) (slots : List Slot) → slice_get slots at ≡ None → AreFrom n at slots
from_none n at [] e = tt
from_none n zero (x ∷ later) e = absurd cc
from_none n (suc at) (x ∷ later) e = from_none n at later e

pub from_end : (n : ℕ) (slots : List Slot) → AreFrom n (length slots) slots
from_end n [] = tt
from_end n (x ∷ later) = from_end n later

pub some_below : (n at : ℕ) (slots : List Slot) → AreBelow n at slots → at ≤ length slots
some_below n zero slots h = omega arith
some_below n (suc at) [] h = absurd h
some_below n (suc at) (x ∷ later) h = let k = some_below n at later h.1 in omega (arith, k)

more_below : (n at : ℕ) (slots : List Slot) → AreBelow n at slots → AreBelow (n + 1) at slots
more_below n zero slots h = tt
more_below n (suc at) [] h = absurd h
more_below n (suc at) (x ∷ later) h = (omega (arith, h.0), more_below n at later h.1)

from_behind : (n at low : ℕ) (slots : List Slot) (s : Slot) → InSlots low slots → slice_get slots at ≡ Some s → n ≤ s.message.number → AreFrom (n + 1) (suc at) slots
from_behind n at low [] s h e le = tt
from_behind n zero low (x ∷ later) s h e le =
    let q = ap (λ (y : Slot). y.message.number) (here_is x s e) in
    all_from (n + 1) (x.message.number + x.message.count) later h.2 (omega (arith, q, le, h.1))
from_behind n (suc at) low (x ∷ later) s h e le = from_behind n at (x.message.number + x.message.count) later s h.2 e le

pub behind_one : (n at : ℕ) (slots : List Slot) (s : Slot) → InSlots 0 slots → slice_get slots at ≡ Some s → s.message.number ≡ n → IsPlace (n + 1) (at + 1) slots
behind_one n at slots s h e q =
    let i : suc at ≡ at + 1 = omega arith in record {
      below = below_at (n + 1) at 0 slots s h e (omega (arith, q));
      from = subst (λ (j : ℕ). AreFrom (n + 1) j slots) i (from_behind n at 0 slots s h e (omega (arith, q)));
    }

at_least : (n at : ℕ) (slots : List Slot) (s : Slot) → AreFrom n at slots → slice_get slots at ≡ Some s → n ≤ s.message.number
at_least n at [] s h e = absurd cc
at_least n zero (x ∷ later) s h e = let q = ap (λ (y : Slot). y.message.number) (here_is x s e) in omega (arith, q, h.0)
at_least n (suc at) (x ∷ later) s h e = at_least n at later s h e

pub behind_other : (n at : ℕ) (slots : List Slot) (s : Slot) → InSlots 0 slots → slice_get slots at ≡ Some s → s.message.number ≢ n → IsPlace n at slots → IsPlace (n + 1) at slots
behind_other n at slots s h e ne p =
    let le = at_least n at slots s p.from e in
    record { below = more_below n at slots p.below; from = from_at (n + 1) at 0 slots s h e (omega (arith, le, ne)) }

pub behind_none : (n at : ℕ) (slots : List Slot) → slice_get slots at ≡ None → IsPlace n at slots → IsPlace (n + 1) at slots
behind_none n at slots e p = record { below = more_below n at slots p.below; from = from_none (n + 1) at slots e }

-- ---- the message that begins at a number

none_low : (n low : ℕ) (slots : List Slot) → InSlots low slots → n < low → message_at n (waiting_in slots) ≡ None
none_low n low [] h lt = refl
none_low n low (x ∷ later) h lt = elim (cases_eq x.gone 0) [
  | inl g ↦
      ap (message_at n) (waits_on x later g)
      ∙ (ap (λ t. cond t (Some x.message) (message_at n (waiting_in later))) (ne_eqb x.message.number n (λ e. omega (arith, e, lt, h.0)))
      ∙ none_low n (x.message.number + x.message.count) later h.2 (omega (arith, lt, h.0)))
  | inr ne ↦ ap (message_at n) (passes_on x later (some_gone x.gone ne)) ∙ none_low n (x.message.number + x.message.count) later h.2 (omega (arith, lt, h.0))
]

skip_slot : (n : ℕ) (x : Slot) (later : List Slot) → (x.gone ≡ 0 → x.message.number ≢ n) → message_at n (waiting_in (x ∷ later)) ≡ message_at n (waiting_in later)
skip_slot n x later ne = elim (cases_eq x.gone 0) [
  | inl g ↦ ap (message_at n) (waits_on x later g) ∙ ap (λ t. cond t (Some x.message) (message_at n (waiting_in later))) (ne_eqb x.message.number n (ne g))
  | inr p ↦ ap (message_at n) (passes_on x later (some_gone x.gone p))
]

pub found_is : (n at : ℕ) (slots : List Slot) (s : Slot) → AreBelow n at slots → slice_get slots at ≡ Some s → s.gone ≡ 0 → s.message.number ≡ n → message_at n (waiting_in slots) ≡ Some s.message
found_is n at [] s b e g q = absurd cc
found_is n zero (x ∷ later) s b e g q =
    let i = here_is x s e in
    ap (message_at n) (waits_on x later (ap (λ (y : Slot). y.gone) i ∙ g))
    ∙ (ap (λ t. cond t (Some x.message) (message_at n (waiting_in later))) (eq-eqb x.message.number n (ap (λ (y : Slot). y.message.number) i ∙ q)) ∙ ap (λ (y : Slot). Some y.message) i)
found_is n (suc at) (x ∷ later) s b e g q = skip_slot n x later (λ z f. let lt = b.0 in omega (arith, f, lt)) ∙ found_is n at later s b.1 e g q

pub other_is : (n at low : ℕ) (slots : List Slot) (s : Slot) → InSlots low slots → IsPlace n at slots → slice_get slots at ≡ Some s → (s.gone ≡ 0 → s.message.number ≢ n) → message_at n (waiting_in slots) ≡ None
other_is n at low slots s h p e ne = by at low slots h p.below p.from e
  where
    by : (at low : ℕ) (slots : List Slot) → InSlots low slots → AreBelow n at slots → AreFrom n at slots → slice_get slots at ≡ Some s → message_at n (waiting_in slots) ≡ None
    by at low [] h b f e = absurd cc
    by zero low (x ∷ later) h b f e =
        let i = here_is x s e in
        skip_slot n x later (λ g q. ne (ap (λ (y : Slot). y.gone) (sym i) ∙ g) (ap (λ (y : Slot). y.message.number) (sym i) ∙ q))
        ∙ none_low n (x.message.number + x.message.count) later h.2 (let lo = f.0 in omega (arith, lo, h.1))
    by (suc at) low (x ∷ later) h b f e = skip_slot n x later (λ z q. let lt = b.0 in omega (arith, q, lt)) ∙ by at (x.message.number + x.message.count) later h.2 b.1 f e

pub none_is : (n at : ℕ) (slots : List Slot) → AreBelow n at slots → slice_get slots at ≡ None → message_at n (waiting_in slots) ≡ None
none_is n zero [] b e = refl
none_is n (suc at) [] b e = absurd b
none_is n zero (x ∷ later) b e = absurd cc
none_is n (suc at) (x ∷ later) b e = skip_slot n x later (λ z q. let lt = b.0 in omega (arith, q, lt)) ∙ none_is n at later b.1 e

-- ---- the first from a number on

skip_first : (n : ℕ) (y : Waiting) (ws : List Waiting) (o : Option ℕ) → y.number < n → IsFirstFrom n ws o → IsFirstFrom n (y ∷ ws) o
skip_first n y ws None lt h = λ q le. ap (λ t. cond t (Some y) (message_at q ws)) (ne_eqb y.number q (λ e. omega (arith, e, lt, le))) ∙ h q le
skip_first n y ws (Some g) lt h =
    let go : (q : ℕ) → n ≤ q → message_at q (y ∷ ws) ≡ message_at q ws = λ q le. ap (λ t. cond t (Some y) (message_at q ws)) (ne_eqb y.number q (λ e. omega (arith, e, lt, le))) in
    (h.0, subst IsSome (sym (go g h.0)) h.1, λ q le i. h.2 q le (subst IsSome (go q le) i))

least_first : (n low : ℕ) (x : Slot) (later : List Slot) → x.gone ≡ 0 → InSlots low (x ∷ later) → n ≤ x.message.number → IsFirstFrom n (x.message ∷ waiting_in later) (Some x.message.number)
least_first n low x later g h le =
    let own : message_at x.message.number (x.message ∷ waiting_in later) ≡ Some x.message = ap (λ t. cond t (Some x.message) (message_at x.message.number (waiting_in later))) (eq-eqb x.message.number x.message.number refl) in (
      le,
      subst IsSome (sym own) refl,
      λ q lo i. elim (cases_lt q x.message.number) [
        | inl lt ↦
            let none : message_at q (x.message ∷ waiting_in later) ≡ None =
            ap (λ t. cond t (Some x.message) (message_at q (waiting_in later))) (ne_eqb x.message.number q (λ e. omega (arith, e, lt)))
            ∙ none_low q (x.message.number + x.message.count) later h.2 (omega (arith, lt)) in
            absurd (let k : IsSome {T = Waiting} None = subst (λ (o : Option Waiting). IsSome o) none i in cc)
        | inr ge ↦ ge
      ],
    )

first_all : (n low : ℕ) (slots : List Slot) (o : Option Waiting) → InSlots low slots → AreFrom n zero slots → o ≡ slice_get (waiting_in slots) 0 → IsFirstFrom n (waiting_in slots) (number_of o)
first_all n low [] o h f e = subst (λ (p : Option Waiting). IsFirstFrom n [] (number_of p)) (sym e) (λ q le. refl)
first_all n low (x ∷ later) o h f e = elim (cases_eq x.gone 0) [
  | inl g ↦
      let w = waits_on x later g in
      subst (λ (p : Option Waiting). IsFirstFrom n (waiting_in (x ∷ later)) (number_of p)) (sym (e ∙ ap (λ (ws : List Waiting). slice_get ws 0) w))
      (subst (λ (ws : List Waiting). IsFirstFrom n ws (Some x.message.number)) (sym w) (least_first n low x later g h f.0))
  | inr ne ↦
      let w = passes_on x later (some_gone x.gone ne) in
      subst (λ (ws : List Waiting). IsFirstFrom n ws (number_of o)) (sym w) (first_all n (x.message.number + x.message.count) later o h.2 f.1 (e ∙ ap (λ (ws : List Waiting). slice_get ws 0) w))
]

first_by : (n at low : ℕ) (slots : List Slot) (o : Option Waiting) → InSlots low slots → AreBelow n at slots → AreFrom n at slots → o ≡ slice_get (waiting_in (drop at slots)) 0 → IsFirstFrom n (waiting_in slots) (number_of o)
first_by n zero low slots o h b f e = first_all n low slots o h f e
first_by n (suc at) low [] o h b f e = absurd b
first_by n (suc at) low (x ∷ later) o h b f e =
    let k = first_by n at (x.message.number + x.message.count) later o h.2 b.1 f e in
    elim (cases_eq x.gone 0) [
      | inl g ↦ subst (λ (ws : List Waiting). IsFirstFrom n ws (number_of o)) (sym (waits_on x later g)) (skip_first n x.message (waiting_in later) (number_of o) b.0 k)
      | inr ne ↦ subst (λ (ws : List Waiting). IsFirstFrom n ws (number_of o)) (sym (passes_on x later (some_gone x.gone ne))) k
    ]

pub first_from : (n at : ℕ) (slots : List Slot) (o : Option Waiting) → InSlots 0 slots → IsPlace n at slots → o ≡ slice_get (waiting_in (drop at slots)) 0 → IsFirstFrom n (waiting_in slots) (number_of o)
first_from n at slots o h p e = first_by n at 0 slots o h p.below p.from e

-- ---- where a walk begins

left_all : (low : ℕ) (ws : List Waiting) (o : Option Waiting) (y : Waiting) → InLine low ws → o ≡ slice_get ws 0 → IsIn y ws → is_left (number_of o) y ≡ true
left_all low [] o y h e i = absurd i
left_all low (x ∷ ws) o y h e i =
    subst (λ (p : Option Waiting). is_left (number_of p) y ≡ true) (sym e) (le-leb x.number y.number (elim i [
      | inl q ↦ let k = ap (λ (w : Waiting). w.number) q in omega (arith, k)
      | inr j ↦ let k = (in_low (x.number + x.count) ws y h.2 j).0 in omega (arith, k)
    ]))

ends_low : (low e at : ℕ) (slots : List Slot) → InSlots e slots → AreBelow low (suc at) slots → e ≤ low
ends_low low e at [] h b = absurd b
ends_low low e at (x ∷ later) h b = let lt = b.0 in omega (arith, lt, h.0)

reach_by : (low at from : ℕ) (slots : List Slot) (o : Option Waiting) → InSlots from slots → AreBelow low (suc at) slots → o ≡ slice_get (waiting_in (drop at slots)) 0 → (y : Waiting) → IsIn y (waiting_in slots) → is_left (number_of o) y ≡ false → y.number + y.count ≤ low
reach_by low at from [] o h b e y i f = absurd i
reach_by low zero from (x ∷ later) o h b e y i f = absurd (let t : true ≡ false = sym (left_all from (waiting_in (x ∷ later)) o y (in_waiting from (x ∷ later) h) e i) ∙ f in cc)
reach_by low (suc at) from (x ∷ later) o h b e y i f = elim (cases_eq x.gone 0) [
  | inl g ↦ elim (subst (λ (ws : List Waiting). IsIn y ws) (waits_on x later g) i) [
    | inl q ↦ let k = ap (λ (w : Waiting). w.number + w.count) q in let l = ends_low low (x.message.number + x.message.count) at later h.2 b.1 in omega (arith, k, l)
    | inr j ↦ reach_by low at (x.message.number + x.message.count) later o h.2 b.1 e y j f
  ]
  | inr ne ↦ reach_by low at (x.message.number + x.message.count) later o h.2 b.1 e y (subst (λ (ws : List Waiting). IsIn y ws) (passes_on x later (some_gone x.gone ne)) i) f
]

reach_from : (low place at : ℕ) (slots : List Slot) (o : Option Waiting) → InSlots 0 slots → IsPlace low place slots → at ≡ place - 1 → o ≡ slice_get (waiting_in (drop at slots)) 0 → Reaches low (waiting_in slots) (number_of o)
reach_from low zero at slots o h p q e = λ y i f.
    let z : at ≡ zero = omega (arith, q) in
    absurd (let t : true ≡ false = sym (left_all 0 (waiting_in slots) o y (in_waiting 0 slots h) (e ∙ ap (λ (k : ℕ). slice_get (waiting_in (drop k slots)) 0) z) i) ∙ f in cc)
reach_from low (suc place) at slots o h p q e =
    let z : at ≡ place = omega (arith, q) in
    reach_by low place 0 slots o h p.below (e ∙ ap (λ (k : ℕ). slice_get (waiting_in (drop k slots)) 0) z)

reach_on : (low at from : ℕ) (slots : List Slot) (o : Option Waiting) (s : Slot) → InSlots from slots → slice_get slots at ≡ Some s → s.message.number + s.message.count ≤ low → o ≡ slice_get (waiting_in (drop (suc at) slots)) 0
    → (y : Waiting) → IsIn y (waiting_in slots) → is_left (number_of o) y ≡ false → y.number + y.count ≤ low
reach_on low at from [] o s h g le e y i f = absurd i
reach_on low zero from (x ∷ later) o s h g le e y i f =
    let q = ap (λ (z : Slot). z.message.number + z.message.count) (here_is x s g) in
    let behind : IsIn y (waiting_in later) → y.number + y.count ≤ low = λ j. absurd (let t : true ≡ false = sym (left_all (x.message.number + x.message.count) (waiting_in later) o y (in_waiting (x.message.number + x.message.count) later h.2) e j) ∙ f in cc) in
    elim (cases_eq x.gone 0) [
      | inl z ↦ elim (subst (λ (ws : List Waiting). IsIn y ws) (waits_on x later z) i) [
        | inl k ↦ let l = ap (λ (w : Waiting). w.number + w.count) k in omega (arith, q, l, le)
        | inr j ↦ behind j
      ]
      | inr ne ↦ behind (subst (λ (ws : List Waiting). IsIn y ws) (passes_on x later (some_gone x.gone ne)) i)
    ]
reach_on low (suc at) from (x ∷ later) o s h g le e y i f =
    let lo = in_later at (x.message.number + x.message.count) later s h.2 g in
    elim (cases_eq x.gone 0) [
      | inl z ↦ elim (subst (λ (ws : List Waiting). IsIn y ws) (waits_on x later z) i) [
        | inl k ↦ let l = ap (λ (w : Waiting). w.number + w.count) k in omega (arith, lo, l, le)
        | inr j ↦ reach_on low at (x.message.number + x.message.count) later o s h.2 g le e y j f
      ]
      | inr ne ↦ reach_on low at (x.message.number + x.message.count) later o s h.2 g le e y (subst (λ (ws : List Waiting). IsIn y ws) (passes_on x later (some_gone x.gone ne)) i) f
    ]

some_slot : {P : Slot → Type 0} (o : Option Slot) → IsSomeAnd o P → (s : Slot) × (o ≡ Some s) × P s
some_slot None h = absurd h
some_slot (Some s) h = (s, refl, h)

pub reach_start : (low place at : ℕ) (slots : List Slot) (o : Option Waiting) → InSlots 0 slots → IsPlace low place slots → IsStart low place at slots → o ≡ slice_get (waiting_in (drop at slots)) 0 → Reaches low (waiting_in slots) (number_of o)
reach_start low place at slots o h p (inl q) e = reach_from low place at slots o h p q e
reach_start low zero at slots o h p (inr q) e = absurd (let k = q.1 in omega (arith, k))
reach_start low (suc place) at slots o h p (inr q) e =
    let k : suc place - 1 ≡ place = omega arith in
    let s = some_slot (slice_get slots (suc place - 1)) q.2 in
    reach_on low place 0 slots o s.0 h (sym (ap (λ (i : ℕ). slice_get slots i) k) ∙ s.1) s.2 (e ∙ ap (λ (i : ℕ). slice_get (waiting_in (drop i slots)) 0) q.0)

-- ---- changes

pub waiting_set : (at : ℕ) (slots : List Slot) (s t : Slot) → slice_get slots at ≡ Some s → 0 < s.gone → 0 < t.gone → waiting_in (set slots at t) ≡ waiting_in slots
waiting_set at [] s t e g k = absurd cc
waiting_set zero (x ∷ later) s t e g k = let q = ap (λ (y : Slot). y.gone) (here_is x s e) in passes_on t later k ∙ sym (passes_on x later (omega (arith, q, g)))
waiting_set (suc at) (x ∷ later) s t e g k = ap (λ (ws : List Waiting). cond (x.gone == 0) (x.message ∷ ws) ws) (waiting_set at later s t e g k)

pub slots_set : (at low : ℕ) (slots : List Slot) (s t : Slot) → slice_get slots at ≡ Some s → t.message ≡ s.message → InSlots low slots → InSlots low (set slots at t)
slots_set at low [] s t e q h = tt
slots_set zero low (x ∷ later) s t e q h =
    let m : x.message ≡ t.message = ap (λ (y : Slot). y.message) (here_is x s e) ∙ sym q in
    subst (λ (w : Waiting). (low ≤ w.number) × (0 < w.count) × InSlots (w.number + w.count) later) m h
slots_set (suc at) low (x ∷ later) s t e q h = (h.0, h.1, slots_set at (x.message.number + x.message.count) later s t e q h.2)

gone_set : (k at : ℕ) (slots : List Slot) (t : Slot) → 0 < t.gone → GoneFor k slots → GoneFor k (set slots at t)
gone_set zero at slots t g h = tt
gone_set (suc k) at [] t g h = tt
gone_set (suc k) zero (x ∷ later) t g h = (g, h.1)
gone_set (suc k) (suc at) (x ∷ later) t g h = (h.0, gone_set k at later t g h.1)

pub all_gone_set : (at : ℕ) (slots : List Slot) (t : Slot) → 0 < t.gone → GoneFor t.gone (t ∷ drop (suc at) slots) → AllGone slots → AllGone (set slots at t)
all_gone_set at [] t g f h = tt
all_gone_set zero (x ∷ later) t g f h = (f, h.1)
all_gone_set (suc at) (x ∷ later) t g f h = (gone_set x.gone (suc at) (x ∷ later) t g h.0, all_gone_set at later t g f h.1)

-- a message waits no more
pub leaves : (at low : ℕ) (slots : List Slot) (w : Waiting) → InSlots low slots → slice_get slots at ≡ Some (slot_of w) → waiting_in (set slots at (gone_of w 1)) ≡ without_message w.number (waiting_in slots)
leaves at low [] w h e = absurd cc
leaves zero low (x ∷ later) w h e =
    let q = here_is x (slot_of w) e in
    let n = ap (λ (y : Slot). y.message.number) q in
    passes_on (gone_of w 1) later (omega arith)
    ∙ sym (ap (without_message w.number) (waits_on x later (ap (λ (y : Slot). y.gone) q)) ∙ ap (λ t. cond t (waiting_in later) (x.message ∷ without_message w.number (waiting_in later))) (eq-eqb x.message.number w.number n))
leaves (suc at) low (x ∷ later) w h e =
    let k = leaves at (x.message.number + x.message.count) later w h.2 e in
    let lo = in_later at (x.message.number + x.message.count) later (slot_of w) h.2 e in
    elim (cases_eq x.gone 0) [
      | inl g ↦
          waits_on x (set later at (gone_of w 1)) g
          ∙ (ap (λ (ws : List Waiting). x.message ∷ ws) k
          ∙ sym (ap (without_message w.number) (waits_on x later g) ∙ ap (λ t. cond t (waiting_in later) (x.message ∷ without_message w.number (waiting_in later))) (ne_eqb x.message.number w.number (λ f. omega (arith, f, lo, h.1)))))
      | inr ne ↦ passes_on x (set later at (gone_of w 1)) (some_gone x.gone ne) ∙ (k ∙ sym (ap (without_message w.number) (passes_on x later (some_gone x.gone ne))))
    ]

pub leaves_at : (at n : ℕ) (slots : List Slot) (w : Waiting) → InSlots 0 slots → slice_get slots at ≡ Some (slot_of w) → message_at n (waiting_in slots) ≡ Some w → waiting_in (set slots at (gone_of w 1)) ≡ without_message n (waiting_in slots)
leaves_at at n slots w h e f = leaves at 0 slots w h e ∙ ap (λ (k : ℕ). without_message k (waiting_in slots)) (at_in n (waiting_in slots) w f).1

pub line_left : (at : ℕ) (slots : List Slot) (w : Waiting) → slice_get slots at ≡ Some (slot_of w) → IsLine slots → IsLine (set slots at (gone_of w 1))
line_left at slots w e h = record {
  line = slots_set at 0 slots (slot_of w) (gone_of w 1) e refl h.line;
  gone = all_gone_set at slots (gone_of w 1) (omega arith) (omega arith, tt) h.gone;
}

pub fewer : (n : ℕ) (ws : List Waiting) (w : Waiting) → message_at n ws ≡ Some w → length (without_message n ws) + 1 ≡ length ws
fewer n [] w e = absurd cc
fewer n (x ∷ ws) w e = fewer_if (x.number == n) e (fewer n ws w)
  where
    fewer_if : (t : Bool) → cond t (Some x) (message_at n ws) ≡ Some w → (message_at n ws ≡ Some w → length (without_message n ws) + 1 ≡ length ws) → length (cond t ws (x ∷ without_message n ws)) + 1 ≡ length (x ∷ ws)
    fewer_if true f h = omega arith
    fewer_if false f h = let k = h f in omega (arith, k)

-- ---- stretches

gone_at : (at : ℕ) (slots : List Slot) (s : Slot) → slice_get slots at ≡ Some s → AllGone slots → GoneFor s.gone (drop at slots)
gone_at at [] s e h = absurd cc
gone_at zero (x ∷ later) s e h = subst (λ (k : ℕ). GoneFor k (x ∷ later)) (ap (λ (y : Slot). y.gone) (here_is x s e)) h.0
gone_at (suc at) (x ∷ later) s e h = gone_at at later s e h.1

gone_less : (j k : ℕ) (slots : List Slot) → j ≤ k → GoneFor k slots → GoneFor j slots
gone_less zero k slots le h = tt
gone_less (suc j) zero slots le h = absurd (omega (arith, le))
gone_less (suc j) (suc k) [] le h = tt
gone_less (suc j) (suc k) (x ∷ later) le h = (h.0, gone_less j k later (omega (arith, le)) h.1)

gone_none : (k : ℕ) → GoneFor k []
gone_none zero = tt
gone_none (suc k) = tt

gone_plus : (a b at : ℕ) (slots : List Slot) → GoneFor a (drop at slots) → GoneFor b (drop (at + a) slots) → GoneFor (a + b) (drop at slots)
gone_plus a b zero [] h k = gone_none (a + b)
gone_plus a b (suc at) [] h k = gone_none (a + b)
gone_plus zero b zero (x ∷ later) h k =
    let e : zero + b ≡ b = omega arith in
    let f : zero + zero ≡ zero = omega arith in
    subst (λ (i : ℕ). GoneFor i (x ∷ later)) (sym e) (subst (λ (i : ℕ). GoneFor b (drop i (x ∷ later))) f k)
gone_plus (suc a) b zero (x ∷ later) h k =
    let e : suc a + b ≡ suc (a + b) = omega arith in
    let f : zero + suc a ≡ suc (zero + a) = omega arith in
    subst (λ (i : ℕ). GoneFor i (x ∷ later)) (sym e) (h.0, gone_plus a b zero later h.1 (subst (λ (i : ℕ). GoneFor b (drop i (x ∷ later))) f k))
gone_plus a b (suc at) (x ∷ later) h k = let e : suc at + a ≡ suc (at + a) = omega arith in gone_plus a b at later h (subst (λ (i : ℕ). GoneFor b (drop i (x ∷ later))) e k)

gone_put : (k at : ℕ) (slots : List Slot) (s t : Slot) → slice_get slots at ≡ Some s → 0 < t.gone → GoneFor k (drop at slots) → GoneFor k (t ∷ drop (suc at) slots)
gone_put k at [] s t e g h = absurd cc
gone_put zero zero (x ∷ later) s t e g h = tt
gone_put (suc k) zero (x ∷ later) s t e g h = (g, h.1)
gone_put k (suc at) (x ∷ later) s t e g h = gone_put k at later s t e g h

pub line_longer : (at by far gone : ℕ) (slots : List Slot) (s r : Slot) → IsLine slots → slice_get slots at ≡ Some s → slice_get slots far ≡ Some r → far ≡ at + by → 1 ≤ by → by ≤ s.gone → by ≤ r.gone → (gone ≤ s.gone) ⊎ (gone ≤ by + r.gone) → 0 < gone
    → IsLine (set slots at (gone_of s.message gone))
line_longer at by far gone slots s r h e f q one a b le g =
    let own = gone_at at slots s e h.gone in
    let other : GoneFor r.gone (drop (at + by) slots) = subst (λ (i : ℕ). GoneFor r.gone (drop i slots)) q (gone_at far slots r f h.gone) in
    let both = gone_plus by r.gone at slots (gone_less by s.gone (drop at slots) a own) other in
    let all : GoneFor gone (drop at slots) = elim le [
      | inl l ↦ gone_less gone s.gone (drop at slots) l own
      | inr l ↦ gone_less gone (by + r.gone) (drop at slots) l both
    ] in record {
      line = slots_set at 0 slots s (gone_of s.message gone) e refl h.line;
      gone = all_gone_set at slots (gone_of s.message gone) g (gone_put gone at slots s (gone_of s.message gone) e g all) h.gone;
    }

-- ---- the ends

pub line_front : (slots : List Slot) (s : Slot) → slice_get slots 0 ≡ Some s → 0 < s.gone → IsLine slots → IsLine (drop 1 slots) × (waiting_in (drop 1 slots) ≡ waiting_in slots)
line_front [] s e g h = absurd cc
line_front (x ∷ later) s e g h =
    let q = ap (λ (y : Slot). y.gone) (here_is x s e) in
    (record { line = slots_lower 0 (x.message.number + x.message.count) later (omega arith) h.line.2; gone = h.gone.1 }, sym (passes_on x later (omega (arith, q, g))))
  where
    slots_lower : (low high : ℕ) (slots : List Slot) → low ≤ high → InSlots high slots → InSlots low slots
    slots_lower low high [] le h = tt
    slots_lower low high (y ∷ more) le h = (omega (arith, le, h.0), h.1, h.2)

slots_init : (low : ℕ) (slots : List Slot) (x : Slot) → InSlots low (slots ++ x ∷ []) → InSlots low slots
slots_init low [] x h = tt
slots_init low (y ∷ slots) x h = (h.0, h.1, slots_init (y.message.number + y.message.count) slots x h.2)

gone_init : (k : ℕ) (slots : List Slot) (x : Slot) → GoneFor k (slots ++ x ∷ []) → GoneFor k slots
gone_init zero slots x h = tt
gone_init (suc k) [] x h = tt
gone_init (suc k) (y ∷ slots) x h = (h.0, gone_init k slots x h.1)

all_gone_init : (slots : List Slot) (x : Slot) → AllGone (slots ++ x ∷ []) → AllGone slots
all_gone_init [] x h = tt
all_gone_init (y ∷ slots) x h = (gone_init y.gone (y ∷ slots) x h.0, all_gone_init slots x h.1)

waiting_init : (slots : List Slot) (x : Slot) → 0 < x.gone → waiting_in (slots ++ x ∷ []) ≡ waiting_in slots
waiting_init [] x g = passes_on x [] g
waiting_init (y ∷ slots) x g = ap (λ (ws : List Waiting). cond (y.gone == 0) (y.message ∷ ws) ws) (waiting_init slots x g)

pub line_back : (old new : List Slot) (x : Slot) → old ≡ new ++ x ∷ [] → 0 < x.gone → IsLine old → IsLine new × (waiting_in new ≡ waiting_in old)
line_back old new x e g h =
    let k = subst IsLine e h in
    (record { line = slots_init 0 new x k.line; gone = all_gone_init new x k.gone }, sym (ap (λ (ss : List Slot). waiting_in ss) e ∙ waiting_init new x g))

pub last_waits : (k : ℕ) (slots : List Slot) (s : Slot) → k + 1 ≡ length slots → slice_get slots k ≡ Some s → s.gone ≡ 0 → LastWaits slots
last_waits k [] s n e g = tt
last_waits zero (x ∷ []) s n e g = ap (λ (y : Slot). y.gone) (here_is x s e) ∙ g
last_waits (suc k) (x ∷ []) s n e g = absurd cc
last_waits zero (x ∷ y ∷ later) s n e g = absurd (omega (arith, n))
last_waits (suc k) (x ∷ y ∷ later) s n e g = last_waits k (y ∷ later) s (omega (arith, n)) e g

not_there : (at : ℕ) (slots : List Slot) → slice_get slots at ≡ None → length slots ≤ at
not_there at [] e = omega arith
not_there zero (x ∷ later) e = absurd cc
not_there (suc at) (x ∷ later) e = let k = not_there at later e in omega (arith, k)

pub empty_waits : (at : ℕ) (slots : List Slot) → slice_get slots at ≡ None → at ≡ length slots - 1 → LastWaits slots
empty_waits at [] e q = tt
empty_waits at (x ∷ later) e q = absurd (let le = not_there at (x ∷ later) e in omega (arith, le, q))

gone_more : (k : ℕ) (x : Slot) (slots : List Slot) (t : Slot) → LastWaits (x ∷ slots) → GoneFor k (x ∷ slots) → GoneFor k ((x ∷ slots) ++ t ∷ [])
gone_more zero x slots t l h = tt
gone_more (suc k) x [] t l h = absurd (let g = h.0 in omega (arith, l, g))
gone_more (suc k) x (y ∷ slots) t l h = (h.0, gone_more k y slots t l h.1)

later_waits : (x : Slot) (slots : List Slot) → LastWaits (x ∷ slots) → LastWaits slots
later_waits x [] l = tt
later_waits x (y ∷ slots) l = l

all_gone_push : (slots : List Slot) (w : Waiting) → LastWaits slots → AllGone slots → AllGone (slots ++ slot_of w ∷ [])
all_gone_push [] w l h = (tt, tt)
all_gone_push (x ∷ slots) w l h = (gone_more x.gone x slots (slot_of w) l h.0, all_gone_push slots w (later_waits x slots l) h.1)

-- the last one ends below the new one
slots_on : (low : ℕ) (x : Slot) (slots : List Slot) (w : Waiting) → LastWaits (x ∷ slots) → ((y : Waiting) → IsIn y (waiting_in (x ∷ slots)) → y.number + y.count ≤ w.number) → 0 < w.count → InSlots low (x ∷ slots) → InSlots low ((x ∷ slots) ++ slot_of w ∷ [])
slots_on low x [] w l p c i = (i.0, i.1, (p x.message (subst (λ (ws : List Waiting). IsIn x.message ws) (sym (waits_on x [] l)) (inl refl)), c, tt))
slots_on low x (y ∷ slots) w l p c i = (i.0, i.1, slots_on (x.message.number + x.message.count) y slots w l (λ z j. p z (in_tail x (y ∷ slots) z j)) c i.2)

pub line_push : (slots : List Slot) (w : Waiting) → LastWaits slots → Line 0 w.number (waiting_in slots) → 0 < w.count → IsLine slots → IsLine (slots ++ slot_of w ∷ [])
line_push [] w l h c i = record { line = (omega arith, c, tt); gone = all_gone_push [] w l i.gone }
line_push (x ∷ slots) w l h c i = record {
  line = slots_on 0 x slots w l (λ y j. line_in 0 w.number (waiting_in (x ∷ slots)) y h j) c i.line;
  gone = all_gone_push (x ∷ slots) w l i.gone;
}

pub waiting_push : (slots : List Slot) (w : Waiting) → waiting_in (slots ++ slot_of w ∷ []) ≡ waiting_in slots ++ w ∷ []
waiting_push [] w = waits_on (slot_of w) [] refl
waiting_push (x ∷ slots) w = elim (cases_eq x.gone 0) [
  | inl g ↦ waits_on x (slots ++ slot_of w ∷ []) g ∙ (ap (λ (ws : List Waiting). x.message ∷ ws) (waiting_push slots w) ∙ ap (λ (ws : List Waiting). ws ++ w ∷ []) (sym (waits_on x slots g)))
  | inr ne ↦ passes_on x (slots ++ slot_of w ∷ []) (some_gone x.gone ne) ∙ (waiting_push slots w ∙ ap (λ (ws : List Waiting). ws ++ w ∷ []) (sym (passes_on x slots (some_gone x.gone ne))))
]

pub few_wait : (slots : List Slot) → length (waiting_in slots) ≤ length slots
few_wait [] = omega arith
few_wait (x ∷ slots) = elim (cases_eq x.gone 0) [
  | inl g ↦ let e = ap (λ (ws : List Waiting). length ws) (waits_on x slots g) in let k = few_wait slots in omega (arith, e, k)
  | inr ne ↦ let e = ap (λ (ws : List Waiting). length ws) (passes_on x slots (some_gone x.gone ne)) in let k = few_wait slots in omega (arith, e, k)
]
