-- The sums over rows when one row changes.
use Rattle.std.proofs.Common.{◌≡◌, ℕ, zero, suc, nat_lt, nat_le, ◌&&◌, ◌||◌, Option, Some, None, ◌+◌, ◌-◌, ◌<◌, ◌≤◌, ◌^◌, cond, Bool, true, false, List, [], ◌∷◌, length, get_or, set, refl, ap, sym, ◌∙◌, subst, arith, length-set}
use Rattle.std.specs.List.{sum_by}
use Rattle.std.proofs.lemmas.List.Sums.{sum_by-cons, sum_by-set, get_or-le-sum_by}
use Rattle.std.proofs.lemmas.Bool.{lt-ltb}
use Rattle.flow_send.specs.declared.state.State.TheVariants.{Lost}
use Rattle.flow_send.specs.declared.totals.Totals.{Totals}
use Rattle.flow_send.specs.Rows.{Row, first_index, any_between, any_flying, is_flying, is_lost, end_row, row_at, flight_of, flying_of, stored_of, lost_of, totals_of, row_totals}
use Rattle.flow_send.specs.Sender.{lost_if_late, is_late, is_spent_row}
use Rattle.flow_send.specs.Acks.{count_ack, is_third}
use Rattle.flow_send.specs.Moved.{moved, Fit}

swap_is : (f : Row → ℕ) (rows : List Row) (at : ℕ) (y : Row) → at < length rows → sum_by f rows - f (row_at rows at) + f y ≡ sum_by f (set rows at y)
swap_is f rows at y lt = omega (arith, sum_by-set f rows at y end_row lt, get_or-le-sum_by f rows at end_row lt)

abbrev totals : ℕ → ℕ → ℕ → ℕ → Totals
totals a b c d = record { flight = a; flying = b; stored = c; lost = d }

totals_eq : (a b c d e f g h : ℕ) → a ≡ e → b ≡ f → c ≡ g → d ≡ h → totals a b c d ≡ totals e f g h
totals_eq a b c d e f g h p q r s =
    ap (λ w. totals w b c d) p ∙ (ap (λ x. totals e x c d) q ∙ (ap (λ y. totals e f y d) r ∙ ap (λ z. totals e f g z) s))

pub moved_set : (rows : List Row) (at : ℕ) (y : Row) → at < length rows → moved (totals_of rows) (row_totals (row_at rows at)) (row_totals y) ≡ totals_of (set rows at y)
moved_set rows at y lt =
    totals_eq _ _ _ _ _ _ _ _ (swap_is flight_of rows at y lt) (swap_is flying_of rows at y lt) (swap_is stored_of rows at y lt) (swap_is lost_of rows at y lt)

cond_le : (b : Bool) (n : ℕ) → cond b n 0 ≤ n
cond_le true n = let e : n ≤ n = omega arith in e
cond_le false n = let e : 0 ≤ n = omega arith in e

pub flight_stored : (rows : List Row) → sum_by flight_of rows ≤ sum_by stored_of rows
flight_stored [] = omega arith
flight_stored (r ∷ rows) = omega (arith, flight_stored rows, sum_by-cons flight_of r rows, sum_by-cons stored_of r rows, cond_le (is_flying r.state) (length r.fragment.bytes))

ones_le : (f : Row → ℕ) (rows : List Row) → ((r : Row) → f r ≤ 1) → sum_by f rows ≤ length rows
ones_le f [] h = omega arith
ones_le f (r ∷ rows) h = omega (arith, ones_le f rows h, sum_by-cons f r rows, h r)

-- sums fit where the bytes and the number of rows do
pub all_fit : (rows : List Row) → sum_by stored_of rows < 2 ^ 64 → length rows < 2 ^ 64 → Fit (totals_of rows)
all_fit rows s n = record {
  flight = omega (arith, s, flight_stored rows);
  flying = omega (arith, n, ones_le flying_of rows (λ r. cond_le (is_flying r.state) 1));
  stored = s;
  lost = omega (arith, n, ones_le lost_of rows (λ r. cond_le (is_lost r.state) 1));
}

pub push_fits : (rows : List Row) (r : Row) → sum_by stored_of rows + stored_of r < 2 ^ 64 → length rows + 1 < 2 ^ 64 → Fit (moved (totals_of rows) (totals 0 0 0 0) (row_totals r))
push_fits rows r s n = record {
  flight = omega (arith, s, flight_stored rows, cond_le (is_flying r.state) (length r.fragment.bytes));
  flying = omega (arith, n, ones_le flying_of rows (λ x. cond_le (is_flying x.state) 1), cond_le (is_flying r.state) 1);
  stored = omega (arith, s);
  lost = omega (arith, n, ones_le lost_of rows (λ x. cond_le (is_lost x.state) 1), cond_le (is_lost r.state) 1);
}

pub default_row : (rows : List Row) (at : ℕ) (d e : Row) → at < length rows → get_or rows at d ≡ get_or rows at e
default_row [] at d e lt = absurd (omega arith)
default_row (r ∷ rows) zero d e lt = refl
default_row (r ∷ rows) (suc at) d e lt = default_row rows at d e (omega arith)

set_stored : (rows : List Row) (at : ℕ) (y : Row) → at < length rows → stored_of y ≡ stored_of (row_at rows at) → sum_by stored_of (set rows at y) ≡ sum_by stored_of rows
set_stored rows at y lt e = omega (arith, sum_by-set stored_of rows at y end_row lt, e)

-- the sums after a row is changed
pub moved_at : (all before after : Totals) (rows : List Row) (at : ℕ) (x y : Row) → all ≡ totals_of rows → before ≡ row_totals x → after ≡ row_totals y → x ≡ get_or rows at x → at < length rows
    → moved all before after ≡ totals_of (set rows at y)
moved_at all before after rows at x y e f g h lt =
    let x_is : x ≡ row_at rows at = h ∙ default_row rows at x end_row lt in
    ap (λ (t : Totals). moved t before after) e ∙ (ap (λ (t : Totals). moved (totals_of rows) t after) (f ∙ ap row_totals x_is) ∙ (ap (λ (t : Totals). moved (totals_of rows) (row_totals (row_at rows at)) t) g ∙ moved_set rows at y lt))

-- they fit where it keeps its bytes
pub fits_at : (all before after : Totals) (rows : List Row) (at : ℕ) (x y : Row) → all ≡ totals_of rows → before ≡ row_totals x → after ≡ row_totals y → x ≡ get_or rows at x → at < length rows
    → stored_of y ≡ stored_of x → all.stored < 2 ^ 64 → length rows < 2 ^ 64 → Fit (moved all before after)
fits_at all before after rows at x y e f g h lt same s n =
    let x_is : x ≡ row_at rows at = h ∙ default_row rows at x end_row lt in
    let st : sum_by stored_of rows < 2 ^ 64 = omega (arith, s, ap (λ (t : Totals). t.stored) e) in
    let kept : stored_of y ≡ stored_of (row_at rows at) = same ∙ ap stored_of x_is in
    let fit : Fit (totals_of (set rows at y)) = all_fit (set rows at y) (omega (arith, set_stored rows at y lt kept, st)) (omega (arith, length-set rows at y, n)) in
    subst Fit (sym (moved_at all before after rows at x y e f g h lt)) fit

count_if : (r : Row) (t u : Bool) → stored_of (cond t (record r { state = Lost }) (cond u (record r { acks = r.acks + 1 }) r)) ≡ stored_of r
count_if r true u = refl
count_if r false true = refl
count_if r false false = refl

pub count_stored : (ordinal : ℕ) (r : Row) → stored_of (count_ack ordinal r) ≡ stored_of r
count_stored ordinal r = count_if r (is_third ordinal r) (is_flying r.state && nat_lt r.ordinal ordinal)

lost_if : (r : Row) (t : Bool) → stored_of (cond t (record r { state = Lost }) r) ≡ stored_of r
lost_if r true = refl
lost_if r false = refl

pub lost_stored : (moment resend : ℕ) (r : Row) → stored_of (lost_if_late moment resend r) ≡ stored_of r
lost_stored moment resend r = lost_if r (is_late moment resend r)

-- where no row is lost, or in flight
pub zero_if : (b : Bool) (n : ℕ) → cond b 1 0 + n ≡ 0 → (b ≡ false) × (n ≡ 0)
zero_if true n e = absurd (omega (arith, e))
zero_if false n e = (refl, omega (arith, e))

index_none_if : (n : ℕ) (o : Option ℕ) (b : Bool) → b ≡ false → o ≡ None → cond b (Some n) o ≡ None
index_none_if n o true e f = absurd cc
index_none_if n o false e f = f

pub none_lost : (n : ℕ) (rows : List Row) → sum_by lost_of rows ≡ 0 → first_index is_lost n rows ≡ None
none_lost n [] e = refl
none_lost n (r ∷ rows) e =
    let z = zero_if (is_lost r.state) (sum_by lost_of rows) (sym (sum_by-cons lost_of r rows) ∙ e) in
    index_none_if n (first_index is_lost (n + 1) rows) (is_lost r.state) z.0 (none_lost (n + 1) rows z.1)

any_flying_if : (b : Bool) (n : ℕ) (a : Bool) → nat_lt 0 n ≡ a → nat_lt 0 (cond b 1 0 + n) ≡ (b || a)
any_flying_if true n a e = let lt : 0 < 1 + n = omega arith in lt-ltb 0 (1 + n) lt
any_flying_if false n a e = let z : 0 + n ≡ n = omega arith in ap (λ i. nat_lt 0 i) z ∙ e

pub any_flying_is : (rows : List Row) → nat_lt 0 (sum_by flying_of rows) ≡ any_flying rows
any_flying_is [] = refl
any_flying_is (r ∷ rows) = ap (λ i. nat_lt 0 i) (sum_by-cons flying_of r rows) ∙ any_flying_if (is_flying r.state) (sum_by flying_of rows) (any_flying rows) (any_flying_is rows)

spent_if : (l s a : Bool) → l ≡ false → a ≡ false → ((l && s) || a) ≡ false
spent_if true s a e f = absurd cc
spent_if false s a e f = f

pub none_spent : (limit lo hi : ℕ) (rows : List Row) → sum_by lost_of rows ≡ 0 → any_between (is_spent_row limit) lo hi rows ≡ false
none_spent limit lo hi [] e = refl
none_spent limit zero zero (r ∷ rows) e = refl
none_spent limit zero (suc hi) (r ∷ rows) e =
    let z = zero_if (is_lost r.state) (sum_by lost_of rows) (sym (sum_by-cons lost_of r rows) ∙ e) in
    spent_if (is_lost r.state) (nat_le limit r.resends) (any_between (is_spent_row limit) zero hi rows) z.0 (none_spent limit zero hi rows z.1)
none_spent limit (suc lo) zero (r ∷ rows) e = refl
none_spent limit (suc lo) (suc hi) (r ∷ rows) e =
    let z = zero_if (is_lost r.state) (sum_by lost_of rows) (sym (sum_by-cons lost_of r rows) ∙ e) in
    none_spent limit lo hi rows z.1
