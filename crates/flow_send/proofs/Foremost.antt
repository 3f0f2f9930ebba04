-- The first of the messages that wait.
use Rattle.std.proofs.Common.{◌≡◌, ℕ, ◌+◌, ◌<◌, ◌≤◌, nat_lt, nat_le, ◌==◌, cond, not, Bool, true, false, ◌&&◌, ◌||◌, List, [], ◌∷◌, length, Some, None, refl, ap, sym, ◌∙◌, arith, inl, inr, ◌⊎◌}
use Rattle.std.specs.List.{filter, slice_get}
use Rattle.std.proofs.lemmas.Bool.{eq-eqb, lt-leb, le-leb, lt-ltb}
use Rattle.rtmfp_data_chunks.specs.HandsOver.{IsIn}
use Rattle.flow_send.specs.declared.waiting.Waiting.{Waiting}
use Rattle.flow_send.specs.Rows.{Row}
use Rattle.flow_send.specs.Sender.{without_message}
use Rattle.flow_send.specs.Acks.{still_waits}
use Rattle.flow_send.specs.Steady.{Line}
use Rattle.flow_send.specs.Messages.{touches, keeps}
use Rattle.rtmfp_data_chunks.proofs.Filtering.{filter_all}
use Rattle.flow_send.proofs.Walking.{in_low, in_line}

front_same : (x w : Waiting) (later : List Waiting) → slice_get (x ∷ later) 0 ≡ Some w → x ≡ w
front_same x w later e = cc

pub front_in : (ws : List Waiting) (w : Waiting) → slice_get ws 0 ≡ Some w → IsIn w ws
front_in [] w e = absurd cc
front_in (x ∷ later) w e = inl (sym (front_same x w later e))

-- it is the first one, or it begins behind it
front_low : (low high : ℕ) (ws : List Waiting) (w y : Waiting) → Line low high ws → slice_get ws 0 ≡ Some w → IsIn y ws → (y ≡ w) ⊎ (w.number + w.count ≤ y.number)
front_low low high [] w y h e i = absurd i
front_low low high (x ∷ later) w y h e i =
    let s = front_same x w later e in
    elim i [
      | inl f ↦ inl (f ∙ s)
      | inr j ↦
          let l = ap (λ (a : Waiting). a.number + a.count) s in
          let k = in_low (x.number + x.count) later y (in_line (x.number + x.count) high later h.2) j in
          inr (omega (arith, k.0, l))
    ]

-- one that begins behind a number has none up to it
far : (n : ℕ) (rows : List Row) (upto : ℕ) (y : Waiting) → upto < y.number → keeps n rows 0 upto y ≡ true
far n rows upto y lt = ap (λ x. not (x && nat_lt 0 (y.number + y.count)) || still_waits n rows y) (lt-leb y.number upto lt)

stays : (a b : Bool) → b ≡ true → (a || b) ≡ true
stays true b e = refl
stays false b e = e

-- where the first one begins behind a number, all stay
pub all_behind : (n : ℕ) (rows : List Row) (upto low high : ℕ) (ws : List Waiting) (w : Waiting) → Line low high ws → slice_get ws 0 ≡ Some w → upto < w.number → filter (keeps n rows 0 upto) ws ≡ ws
all_behind n rows upto low high ws w h e lt = filter_all (keeps n rows 0 upto) ws (λ y i. elim (front_low low high ws w y h e i) [
  | inl s ↦ far n rows upto y (let k = ap (λ (a : Waiting). a.number) s in omega (arith, k, lt))
  | inr le ↦ far n rows upto y (omega (arith, le, lt))
])

-- and where it waits and passes the number
pub front_waits : (n : ℕ) (rows : List Row) (upto low high : ℕ) (ws : List Waiting) (w : Waiting) → Line low high ws → slice_get ws 0 ≡ Some w → still_waits n rows w ≡ true → upto < w.number + w.count → filter (keeps n rows 0 upto) ws ≡ ws
front_waits n rows upto low high ws w h e waits lt = filter_all (keeps n rows 0 upto) ws (λ y i. elim (front_low low high ws w y h e i) [
  | inl s ↦ stays (not (touches 0 upto y)) (still_waits n rows y) (ap (still_waits n rows) s ∙ waits)
  | inr le ↦ far n rows upto y (omega (arith, le, lt))
])

-- one that has a number up to it and doesn't wait is dropped
gone : (a b w : Bool) → a ≡ true → b ≡ true → w ≡ false → (not (a && b) || w) ≡ false
gone true true w e f g = g
gone true false w e f g = absurd cc
gone false b w e f g = absurd cc

pub front_gone : (n : ℕ) (rows : List Row) (upto low high : ℕ) (ws : List Waiting) (w : Waiting) → Line low high ws → slice_get ws 0 ≡ Some w → w.number ≤ upto → still_waits n rows w ≡ false
    → filter (keeps n rows 0 upto) (without_message w.number ws) ≡ filter (keeps n rows 0 upto) ws
front_gone n rows upto low high [] w h e le done = absurd cc
front_gone n rows upto low high (x ∷ later) w h e le done =
    let s = front_same x w later e in
    let at : (x.number == w.number) ≡ true = eq-eqb x.number w.number (ap (λ (a : Waiting). a.number) s) in
    let k : keeps n rows 0 upto x ≡ false = gone (nat_le x.number upto) (nat_lt 0 (x.number + x.count)) (still_waits n rows x) (le-leb x.number upto (let q = ap (λ (a : Waiting). a.number) s in omega (arith, q, le))) (lt-ltb 0 (x.number + x.count) (omega (arith, h.1))) (ap (still_waits n rows) s ∙ done) in
    ap (λ t. filter (keeps n rows 0 upto) (cond t later (x ∷ without_message w.number later))) at
    ∙ sym (ap (λ t. cond t (x ∷ filter (keeps n rows 0 upto) later) (filter (keeps n rows 0 upto) later)) k)

pub none_front : (p : Waiting → Bool) (ws : List Waiting) → None ≡ slice_get ws 0 → ws ≡ filter p ws
none_front p [] e = refl
none_front p (x ∷ later) e = absurd cc

pub front_fewer : (ws : List Waiting) (w : Waiting) → slice_get ws 0 ≡ Some w → length (without_message w.number ws) < length ws
front_fewer [] w e = absurd cc
front_fewer (x ∷ later) w e =
    let at : (x.number == w.number) ≡ true = eq-eqb x.number w.number (ap (λ (a : Waiting). a.number) (front_same x w later e)) in
    let g = ap (λ t. length (cond t later (x ∷ without_message w.number later))) at in
    omega (arith, g)
