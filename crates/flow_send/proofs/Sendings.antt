-- What the code does to the rows up to the highest number sent is done to all.
use Rattle.std.proofs.Common.{◌≡◌, ℕ, zero, suc, ◌+◌, ◌-◌, ◌<◌, nat_le, nat_lt, cond, map, Bool, true, false, ◌&&◌, ◌||◌, List, [], ◌∷◌, drop, Option, Some, refl, ap, sym, ◌∙◌, arith, inl, inr}
use Rattle.std.proofs.lemmas.Bool.{cases_lt}
use Rattle.std.specs.List.{list_any}
use Rattle.flow_send.specs.declared.state.State.{State}
use Rattle.flow_send.specs.declared.state.State.TheVariants.{Unsent, Flying, Lost, Acknowledged, Abandoned}
use Rattle.flow_send.specs.Rows.{Row, is_flying, is_unsent, between, any_between, first_index}
use Rattle.flow_send.specs.Sender.{is_late, lost_if_late}
use Rattle.flow_send.specs.Acks.{is_third, count_ack}
use Rattle.flow_send.specs.Steady.{is_fresh, AllOk}

fresh_still : (t : State) → is_fresh t ≡ true → is_flying t ≡ false
fresh_still Unsent e = refl
fresh_still Flying e = absurd cc
fresh_still Lost e = absurd cc
fresh_still Acknowledged e = absurd cc
fresh_still Abandoned e = refl

-- a change that leaves what isn't in flight, and a test that it fails
pub record OnlyFlying (f : Row → Row) (test : Row → Bool) : Type 0 where
  pub same : (r : Row) → is_flying r.state ≡ false → f r ≡ r
  pub fails : (r : Row) → is_flying r.state ≡ false → test r ≡ false

above_same : (f : Row → Row) (test : Row → Bool) (sent n : ℕ) (rows : List Row) → OnlyFlying f test → sent < n → AllOk sent n rows → map f rows ≡ rows
above_same f test sent n [] o lt a = refl
above_same f test sent n (r ∷ rows) o lt a =
    ap (λ (x : Row). x ∷ map f rows) (o.same r (fresh_still r.state (a.0.fresh lt))) ∙ ap (λ xs. r ∷ xs) (above_same f test sent (n + 1) rows o (omega (arith, lt)) a.1)

pub map_sent : (f : Row → Row) (test : Row → Bool) (sent n hi : ℕ) (rows : List Row) → OnlyFlying f test → hi ≡ sent + 1 - n → AllOk sent n rows → map f rows ≡ between f 0 hi rows
map_sent f test sent n hi [] o e a = refl
map_sent f test sent n zero (r ∷ rows) o e a = above_same f test sent n (r ∷ rows) o (omega (arith, e)) a
map_sent f test sent n (suc hi) (r ∷ rows) o e a = ap (λ xs. f r ∷ xs) (map_sent f test sent (n + 1) hi rows o (omega (arith, e)) a.1)

none_above : (f : Row → Row) (test : Row → Bool) (sent n : ℕ) (rows : List Row) → OnlyFlying f test → sent < n → AllOk sent n rows → list_any test rows ≡ false
none_above f test sent n [] o lt a = refl
none_above f test sent n (r ∷ rows) o lt a =
    ap (λ b. b || list_any test rows) (o.fails r (fresh_still r.state (a.0.fresh lt))) ∙ none_above f test sent (n + 1) rows o (omega (arith, lt)) a.1

pub any_sent : (f : Row → Row) (test : Row → Bool) (sent n hi : ℕ) (rows : List Row) → OnlyFlying f test → hi ≡ sent + 1 - n → AllOk sent n rows → list_any test rows ≡ any_between test 0 hi rows
any_sent f test sent n hi [] o e a = refl
any_sent f test sent n zero (r ∷ rows) o e a = none_above f test sent n (r ∷ rows) o (omega (arith, e)) a
any_sent f test sent n (suc hi) (r ∷ rows) o e a = ap (λ b. test r || b) (any_sent f test sent (n + 1) hi rows o (omega (arith, e)) a.1)

and_first : (a b : Bool) → a ≡ false → (a && b) ≡ false
and_first true b e = absurd cc
and_first false b e = refl

pick_second : (t : Bool) (x y : Row) → t ≡ false → cond t x y ≡ y
pick_second true x y e = absurd cc
pick_second false x y e = refl

pub third_flies : (ordinal : ℕ) → OnlyFlying (count_ack ordinal) (is_third ordinal)
third_flies ordinal = record {
  same = λ r e.
      let a = and_first (is_flying r.state) (nat_lt r.ordinal ordinal) e in
      let b = and_first (is_flying r.state && nat_lt r.ordinal ordinal) (nat_le 2 r.acks) a in
      pick_second (is_third ordinal r) (record r { state = Lost }) (cond (is_flying r.state && nat_lt r.ordinal ordinal) (record r { acks = r.acks + 1 }) r) b
      ∙ pick_second (is_flying r.state && nat_lt r.ordinal ordinal) (record r { acks = r.acks + 1 }) r a;
  fails = λ r e. and_first (is_flying r.state && nat_lt r.ordinal ordinal) (nat_le 2 r.acks) (and_first (is_flying r.state) (nat_lt r.ordinal ordinal) e);
}

-- none is late any more
late_once_if : (moment resend : ℕ) (r : Row) (t : Bool) → is_late moment resend r ≡ t → is_late moment resend (cond t (record r { state = Lost }) r) ≡ false
late_once_if moment resend r true e = refl
late_once_if moment resend r false e = e

pub none_late : (moment resend : ℕ) (rows : List Row) → list_any (is_late moment resend) (map (lost_if_late moment resend) rows) ≡ false
none_late moment resend [] = refl
none_late moment resend (r ∷ rows) = ap (λ b. b || list_any (is_late moment resend) (map (lost_if_late moment resend) rows)) (late_once_if moment resend r (is_late moment resend r) refl) ∙ none_late moment resend rows

-- up to the highest number sent none is unsent
index_none_if : (n : ℕ) (o : Option ℕ) (b : Bool) → b ≡ false → cond b (Some n) o ≡ o
index_none_if n o true e = absurd cc
index_none_if n o false e = refl

pub unsent_from : (sent n at i : ℕ) (rows : List Row) → n + at ≡ sent + 1 → AllOk sent n rows → first_index is_unsent i rows ≡ first_index is_unsent (i + at) (drop at rows)
unsent_from sent n zero i rows e a = let k : i + 0 ≡ i = omega arith in ap (λ j. first_index is_unsent j rows) (sym k)
unsent_from sent n (suc at) i [] e a = refl
unsent_from sent n (suc at) i (r ∷ rows) e a =
    let k : i + 1 + at ≡ i + suc at = omega arith in
    index_none_if i (first_index is_unsent (i + 1) rows) (is_unsent r.state) (a.0.old (omega (arith, e)))
    ∙ (unsent_from sent (n + 1) at (i + 1) rows (omega (arith, e)) a.1 ∙ ap (λ j. first_index is_unsent j (drop at rows)) k)

pub unsent_sent : (sent forward at : ℕ) (rows : List Row) → at ≡ sent - forward → AllOk sent (forward + 1) rows → first_index is_unsent 0 rows ≡ first_index is_unsent at (drop at rows)
unsent_sent sent forward at rows e a = elim (cases_lt sent forward) [
  | inl lt ↦ let n : at ≡ 0 = omega (arith, e, lt) in rw n refl
  | inr le ↦ let n : 0 + at ≡ at = omega arith in unsent_from sent (forward + 1) at 0 rows (omega (arith, e, le)) a ∙ ap (λ k. first_index is_unsent k (drop at rows)) n
]
