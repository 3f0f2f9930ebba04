-- What is known of acknowledged rows, through each change of the rows.
use Rattle.std.proofs.Common.{◌≡◌, ℕ, zero, suc, ◌+◌, ◌-◌, ◌<◌, ◌≤◌, nat_le, nat_lt, max, cond, Bool, true, false, not, ◌||◌, ◌&&◌, List, [], ◌∷◌, ◌++◌, length, set, get_or, drop, refl, ap, sym, ◌∙◌, subst, arith, inl, inr}
use Rattle.std.proofs.lemmas.Bool.{cases_lt}
use Rattle.std.proofs.lemmas.Grind.{get_or-set_at}
use Rattle.std.proofs.lemmas.List.{get_or-set_other}
use Rattle.flow_send.specs.declared.state.State.{State}
use Rattle.flow_send.specs.declared.state.State.TheVariants.{Unsent, Flying, Lost, Acknowledged, Abandoned}
use Rattle.flow_send.specs.declared.totals.Totals.{Totals}
use Rattle.flow_send.specs.Moved.{moved}
use Rattle.flow_send.specs.Rows.{Row, row_at, end_row, is_acknowledged, is_abandoned, is_settled, is_flying, is_lost, let_go, totals_of, row_totals, between, any_between, most_between}
use Rattle.flow_send.specs.Sender.{give_up_row, lost_if_late}
use Rattle.flow_send.specs.Acks.{acknowledge_row, new_ordinal, count_ack}
use Rattle.flow_send.specs.Passed.{AllAcked, ArePassed}
use Rattle.flow_send.proofs.Summing.{default_row, moved_at}

-- ---- rows in a row

pub acked_less : (j k : ℕ) (rows : List Row) → j ≤ k → AllAcked k rows → AllAcked j rows
acked_less zero k rows le h = tt
acked_less (suc j) zero rows le h = absurd (omega arith)
acked_less (suc j) (suc k) [] le h = absurd h
acked_less (suc j) (suc k) (r ∷ rows) le h = (h.0, acked_less j k rows (omega arith) h.1)

abbrev none_of : List Row
none_of = []

drop_none : (n : ℕ) → drop n none_of ≡ none_of
drop_none zero = refl
drop_none (suc n) = refl

acked_sum : (a k : ℕ) (rows : List Row) → AllAcked (a + k) rows → AllAcked k (drop a rows)
acked_sum zero k [] h = let e : zero + k ≡ k = omega arith in subst (λ (i : ℕ). AllAcked i []) e h
acked_sum zero k (r ∷ rows) h = let e : zero + k ≡ k = omega arith in subst (λ (i : ℕ). AllAcked i (r ∷ rows)) e h
acked_sum (suc a) k [] h = let e : suc a + k ≡ suc (a + k) = omega arith in absurd (subst (λ (i : ℕ). AllAcked i []) e h)
acked_sum (suc a) k (r ∷ rows) h = let e : suc a + k ≡ suc (a + k) = omega arith in acked_sum a k rows (subst (λ (i : ℕ). AllAcked i (r ∷ rows)) e h).1

drop_drop : (a b : ℕ) (rows : List Row) → drop a (drop b rows) ≡ drop (b + a) rows
drop_drop a zero [] = let e : zero + a ≡ a = omega arith in ap (λ i. drop i none_of) (sym e)
drop_drop a zero (r ∷ rows) = let e : zero + a ≡ a = omega arith in ap (λ i. drop i (r ∷ rows)) (sym e)
drop_drop a (suc b) [] = let e : suc b + a ≡ suc (b + a) = omega arith in drop_none a ∙ ap (λ i. drop i none_of) (sym e)
drop_drop a (suc b) (r ∷ rows) = let e : suc b + a ≡ suc (b + a) = omega arith in drop_drop a b rows ∙ ap (λ i. drop i (r ∷ rows)) (sym e)

-- from a later row on
pub acked_from : (from at to : ℕ) (rows : List Row) → from ≤ at → at ≤ to → AllAcked (to - from) (drop from rows) → AllAcked (to - at) (drop at rows)
acked_from from at to rows le lt h =
    let e : to - from ≡ at - from + (to - at) = omega arith in
    let f : from + (at - from) ≡ at = omega arith in
    subst (λ (xs : List Row). AllAcked (to - at) xs) (drop_drop (at - from) from rows ∙ ap (λ i. drop i rows) f)
    (acked_sum (at - from) (to - at) (drop from rows) (subst (λ (i : ℕ). AllAcked i (drop from rows)) e h))

acked_then : (a k : ℕ) (rows : List Row) → AllAcked a rows → AllAcked k (drop a rows) → AllAcked (a + k) rows
acked_then zero k [] f g = let e : zero + k ≡ k = omega arith in subst (λ (i : ℕ). AllAcked i []) (sym e) g
acked_then zero k (r ∷ rows) f g = let e : zero + k ≡ k = omega arith in subst (λ (i : ℕ). AllAcked i (r ∷ rows)) (sym e) g
acked_then (suc a) k [] f g = absurd f
acked_then (suc a) k (r ∷ rows) f g = let e : suc a + k ≡ suc (a + k) = omega arith in subst (λ (i : ℕ). AllAcked i (r ∷ rows)) (sym e) (f.0, acked_then a k rows f.1 g)

-- up to a later row
pub acked_join : (from at to : ℕ) (rows : List Row) → from ≤ at → at ≤ to → AllAcked (at - from) (drop from rows) → AllAcked (to - at) (drop at rows) → AllAcked (to - from) (drop from rows)
acked_join from at to rows le lt f g =
    let e : to - from ≡ at - from + (to - at) = omega arith in
    let s : from + (at - from) ≡ at = omega arith in
    subst (λ (i : ℕ). AllAcked i (drop from rows)) (sym e)
    (acked_then (at - from) (to - at) (drop from rows) f (subst (λ (xs : List Row). AllAcked (to - at) xs) (sym (drop_drop (at - from) from rows ∙ ap (λ i. drop i rows) s)) g))

acked_more : (k : ℕ) (rows more : List Row) → AllAcked k rows → AllAcked k (rows ++ more)
acked_more zero rows more h = tt
acked_more (suc k) [] more h = absurd h
acked_more (suc k) (r ∷ rows) more h = (h.0, acked_more k rows more h.1)

acked_set : (k at : ℕ) (rows : List Row) (y : Row) → (is_acknowledged (row_at rows at).state ≡ true → is_acknowledged y.state ≡ true) → AllAcked k rows → AllAcked k (set rows at y)
acked_set zero at rows y f h = tt
acked_set (suc k) at [] y f h = absurd h
acked_set (suc k) zero (r ∷ rows) y f h = (f h.0, h.1)
acked_set (suc k) (suc at) (r ∷ rows) y f h = (h.0, acked_set k at rows y f h.1)

-- ---- the counts

passed_none : (counts : List ℕ) (rows : List Row) → ArePassed counts [] → ArePassed counts rows
passed_none [] rows h = tt
passed_none (zero ∷ counts) rows h = (tt, passed_none counts (drop 1 rows) h.1)
passed_none (suc k ∷ counts) rows h = absurd h.0

pub passed_more : (counts : List ℕ) (rows more : List Row) → ArePassed counts rows → ArePassed counts (rows ++ more)
passed_more [] rows more h = tt
passed_more (k ∷ counts) [] more h = passed_none (k ∷ counts) more h
passed_more (k ∷ counts) (r ∷ rows) more h = (acked_more k (r ∷ rows) more h.0, passed_more counts rows more h.1)

pub passed_push : (counts : List ℕ) (rows : List Row) → ArePassed counts rows → ArePassed (counts ++ 0 ∷ []) rows
passed_push [] rows h = (tt, tt)
passed_push (k ∷ counts) rows h = (h.0, passed_push counts (drop 1 rows) h.1)

pub passed_pop : (counts : List ℕ) (rows : List Row) → ArePassed counts rows → ArePassed (drop 1 counts) (drop 1 rows)
passed_pop [] rows h = tt
passed_pop (k ∷ counts) rows h = h.1

pub passed_set : (counts : List ℕ) (at : ℕ) (rows : List Row) (y : Row) → (is_acknowledged (row_at rows at).state ≡ true → is_acknowledged y.state ≡ true) → ArePassed counts rows → ArePassed counts (set rows at y)
passed_set [] at rows y f h = tt
passed_set (k ∷ counts) at [] y f h = h
passed_set (k ∷ counts) zero (r ∷ rows) y f h = (acked_set k zero (r ∷ rows) y f h.0, h.1)
passed_set (k ∷ counts) (suc at) (r ∷ rows) y f h = (acked_set k (suc at) (r ∷ rows) y f h.0, passed_set counts at rows y f h.1)

pub passed_at : (counts : List ℕ) (at : ℕ) (rows : List Row) → ArePassed counts rows → AllAcked (get_or counts at 0) (drop at rows)
passed_at [] at rows h = tt
passed_at (k ∷ counts) zero [] h = h.0
passed_at (k ∷ counts) zero (r ∷ rows) h = h.0
passed_at (k ∷ counts) (suc at) [] h = subst (λ (xs : List Row). AllAcked (get_or counts at 0) xs) (drop_none at) (passed_at counts at [] h.1)
passed_at (k ∷ counts) (suc at) (r ∷ rows) h = passed_at counts at rows h.1

pub passed_note : (counts : List ℕ) (at k : ℕ) (rows : List Row) → AllAcked k (drop at rows) → ArePassed counts rows → ArePassed (set counts at k) rows
passed_note [] at k rows a h = tt
passed_note (c ∷ counts) zero k [] a h = (a, h.1)
passed_note (c ∷ counts) zero k (r ∷ rows) a h = (a, h.1)
passed_note (c ∷ counts) (suc at) k [] a h = (h.0, passed_note counts at k [] (subst (λ (xs : List Row). AllAcked k xs) (sym (drop_none at)) a) h.1)
passed_note (c ∷ counts) (suc at) k (r ∷ rows) a h = (h.0, passed_note counts at k rows a h.1)

-- the count gets as large as what was known there, or as what is known now, at most
pub passed_raised : (counts : List ℕ) (at known k m : ℕ) (rows : List Row) → known ≡ get_or counts at 0 → m ≡ max known k → AllAcked k (drop at rows) → ArePassed counts rows → ArePassed (set counts at m) rows
passed_raised counts at known k m rows is most a h = passed_note counts at m rows (elim (cases_lt k m) [
  | inl more ↦ acked_less m (get_or counts at 0) (drop at rows) (omega (arith, more, is, most)) (passed_at counts at rows h)
  | inr le ↦ acked_less m k (drop at rows) le a
]) h

-- the count of the first row reaches the end, once it is gone over
pub reaches_raised : (counts : List ℕ) (from at to known m : ℕ) → from ≤ at → at < length counts → m ≡ max known (to - at) → (from < at → to - from ≤ get_or counts from 0) → to - from ≤ get_or (set counts at m) from 0
reaches_raised counts from at to known m le lt most h = elim (cases_lt from at) [
  | inl before ↦ let e = get_or-set_other counts at from m 0 (λ q. absurd (omega (arith, before, q))) in let k = h before in omega (arith, e, k)
  | inr after ↦ let e = get_or-set_at counts at from m 0 (omega (arith, le, after)) lt in omega (arith, e, most, le, after)
]

pub reaches_end : (counts : List ℕ) (from at to : ℕ) → from ≤ at → to ≤ at → (from < at → to - from ≤ get_or counts from 0) → to - from ≤ get_or counts from 0
reaches_end counts from at to le end h = elim (cases_lt from at) [
  | inl before ↦ h before
  | inr after ↦ omega (arith, end, after)
]

-- ---- rows that are acknowledged

same_row : (r : Row) → is_acknowledged r.state ≡ true → acknowledge_row r ≡ r
same_row r e = ap (λ b. cond b r (let_go Acknowledged r)) e

same_whole : (k : ℕ) (rows : List Row) → AllAcked k rows → rows ≡ between acknowledge_row zero k rows
same_whole zero [] h = refl
same_whole zero (r ∷ rows) h = refl
same_whole (suc k) [] h = absurd h
same_whole (suc k) (r ∷ rows) h = ap (λ x. x ∷ rows) (sym (same_row r h.0)) ∙ ap (λ xs. acknowledge_row r ∷ xs) (same_whole k rows h.1)

-- those that are change nothing
pub same_between : (lo at k : ℕ) (rows : List Row) → lo ≤ at → AllAcked k (drop at rows) → between acknowledge_row lo at rows ≡ between acknowledge_row lo (at + k) rows
same_between lo at k [] le h = refl
same_between zero zero k (r ∷ rows) le h = let e : zero + k ≡ k = omega arith in same_whole k (r ∷ rows) h ∙ ap (λ i. between acknowledge_row zero i (r ∷ rows)) (sym e)
same_between zero (suc at) k (r ∷ rows) le h =
    let e : suc at + k ≡ suc (at + k) = omega arith in
    ap (λ xs. acknowledge_row r ∷ xs) (same_between zero at k rows (omega arith) h) ∙ ap (λ i. between acknowledge_row zero i (r ∷ rows)) (sym e)
same_between (suc lo) zero k (r ∷ rows) le h = absurd (omega arith)
same_between (suc lo) (suc at) k (r ∷ rows) le h =
    let e : suc at + k ≡ suc (at + k) = omega arith in
    ap (λ xs. r ∷ xs) (same_between lo at k rows (omega arith) h) ∙ ap (λ i. between acknowledge_row (suc lo) i (r ∷ rows)) (sym e)

no_ordinal : (r : Row) → is_acknowledged r.state ≡ true → new_ordinal r ≡ 0
no_ordinal r e = ap (λ b. cond b 0 r.ordinal) e

most_whole : (k : ℕ) (rows : List Row) → AllAcked k rows → most_between new_ordinal zero k rows ≡ 0
most_whole zero [] h = refl
most_whole zero (r ∷ rows) h = refl
most_whole (suc k) [] h = absurd h
most_whole (suc k) (r ∷ rows) h = omega (arith, no_ordinal r h.0, most_whole k rows h.1)

pub same_most : (lo at k : ℕ) (rows : List Row) → lo ≤ at → AllAcked k (drop at rows) → most_between new_ordinal lo at rows ≡ most_between new_ordinal lo (at + k) rows
same_most lo at k [] le h = refl
same_most zero zero k (r ∷ rows) le h = let e : zero + k ≡ k = omega arith in sym (most_whole k (r ∷ rows) h) ∙ ap (λ i. most_between new_ordinal zero i (r ∷ rows)) (sym e)
same_most zero (suc at) k (r ∷ rows) le h =
    let e : suc at + k ≡ suc (at + k) = omega arith in
    ap (λ i. max (new_ordinal r) i) (same_most zero at k rows (omega arith) h) ∙ ap (λ i. most_between new_ordinal zero i (r ∷ rows)) (sym e)
same_most (suc lo) zero k (r ∷ rows) le h = absurd (omega arith)
same_most (suc lo) (suc at) k (r ∷ rows) le h =
    let e : suc at + k ≡ suc (at + k) = omega arith in
    same_most lo at k rows (omega arith) h ∙ ap (λ i. most_between new_ordinal (suc lo) i (r ∷ rows)) (sym e)

-- none of them waits
abbrev open_row : Row → Bool
open_row r = not (is_settled r.state)

any_whole : (k hi : ℕ) (rows : List Row) → k ≤ hi → AllAcked k rows → any_between open_row zero hi rows ≡ any_between open_row k hi rows
any_whole zero hi rows le h = refl
any_whole (suc k) hi [] le h = absurd h
any_whole (suc k) zero (r ∷ rows) le h = absurd (omega (arith, le))
any_whole (suc k) (suc hi) (r ∷ rows) le h = ap (λ b. not (b || is_abandoned r.state) || any_between open_row zero hi rows) h.0 ∙ any_whole k hi rows (omega (arith, le)) h.1

any_sum : (lo k hi : ℕ) (rows : List Row) → lo + k ≤ hi → AllAcked k (drop lo rows) → any_between open_row lo hi rows ≡ any_between open_row (lo + k) hi rows
any_sum lo k hi [] le h = refl
any_sum zero k hi (r ∷ rows) le h = let e : zero + k ≡ k = omega arith in any_whole k hi (r ∷ rows) (omega (arith, le)) h ∙ ap (λ i. any_between open_row i hi (r ∷ rows)) (sym e)
any_sum (suc lo) k zero (r ∷ rows) le h = absurd (omega (arith, le))
any_sum (suc lo) k (suc hi) (r ∷ rows) le h =
    let e : suc lo + k ≡ suc (lo + k) = omega arith in
    any_sum lo k hi rows (omega (arith, le)) h ∙ ap (λ i. any_between open_row i (suc hi) (r ∷ rows)) (sym e)

pub any_behind : (from at to : ℕ) (rows : List Row) → from ≤ at → at ≤ to → AllAcked (at - from) (drop from rows) → any_between (λ r. not (is_settled r.state)) at to rows ≡ any_between (λ r. not (is_settled r.state)) from to rows
any_behind from at to rows le lt h =
    let s : from + (at - from) ≡ at = omega arith in
    sym (any_sum from (at - from) to rows (omega (arith, s, lt)) h ∙ ap (λ i. any_between open_row i to rows) s)

acked_if : (r : Row) (t : Bool) → is_acknowledged r.state ≡ t → is_acknowledged (cond t r (let_go Acknowledged r)).state ≡ true
acked_if r true e = e
acked_if r false e = refl

pub acked_row : (r : Row) → is_acknowledged (acknowledge_row r).state ≡ true
acked_row r = acked_if r (is_acknowledged r.state) refl

whole_acked : (k : ℕ) (rows : List Row) → k ≤ length rows → AllAcked k (between acknowledge_row zero k rows)
whole_acked zero rows le = tt
whole_acked (suc k) [] le = absurd (omega arith)
whole_acked (suc k) (r ∷ rows) le = (acked_row r, whole_acked k rows (omega arith))

all_sum : (lo k : ℕ) (rows : List Row) → lo + k ≤ length rows → AllAcked k (drop lo (between acknowledge_row lo (lo + k) rows))
all_sum zero k [] le = let e : zero + k ≡ 0 = omega (arith, le) in let f : k ≡ 0 = omega (arith, le) in subst (λ (i : ℕ). AllAcked i []) (sym f) tt
all_sum zero k (r ∷ rows) le =
    let e : zero + k ≡ k = omega arith in
    subst (λ (i : ℕ). AllAcked k (drop zero (between acknowledge_row zero i (r ∷ rows)))) (sym e) (drop_zero k (between acknowledge_row zero k (r ∷ rows)) (whole_acked k (r ∷ rows) (omega (arith, le))))
  where
    drop_zero : (k : ℕ) (xs : List Row) → AllAcked k xs → AllAcked k (drop zero xs)
    drop_zero k [] h = h
    drop_zero k (x ∷ xs) h = h
all_sum (suc lo) k [] le = absurd (omega (arith, le))
all_sum (suc lo) k (r ∷ rows) le =
    let e : suc lo + k ≡ suc (lo + k) = omega arith in
    subst (λ (i : ℕ). AllAcked k (drop (suc lo) (between acknowledge_row (suc lo) i (r ∷ rows)))) (sym e) (all_sum lo k rows (omega (arith, le)))

-- all of them are acknowledged afterwards
pub all_between : (lo hi : ℕ) (rows now : List Row) → lo ≤ hi → hi ≤ length rows → now ≡ between acknowledge_row lo hi rows → AllAcked (hi - lo) (drop lo now)
all_between lo hi rows now le inside e =
    let s : lo + (hi - lo) ≡ hi = omega arith in
    subst (λ (xs : List Row). AllAcked (hi - lo) (drop lo xs)) (sym e)
    (subst (λ (i : ℕ). AllAcked (hi - lo) (drop lo (between acknowledge_row lo i rows))) s (all_sum lo (hi - lo) rows (omega arith)))

-- what comes behind them is as before
pub between_drop : (f : Row → Row) (lo at : ℕ) (rows : List Row) → drop at (between f lo at rows) ≡ drop at rows
between_drop f lo at [] = refl
between_drop f zero zero (r ∷ rows) = refl
between_drop f zero (suc at) (r ∷ rows) = between_drop f zero at rows
between_drop f (suc lo) zero (r ∷ rows) = refl
between_drop f (suc lo) (suc at) (r ∷ rows) = between_drop f lo at rows

-- ---- one row changed

count_if : (r : Row) (f o a : Bool) → f ≡ false → is_acknowledged r.state ≡ true → is_acknowledged (cond ((f && o) && a) (record r { state = Lost }) (cond (f && o) (record r { acks = r.acks + 1 }) r)).state ≡ true
count_if r true o a e h = absurd cc
count_if r false o a e h = h

late_if : (r : Row) (f o : Bool) → f ≡ false → is_acknowledged r.state ≡ true → is_acknowledged (cond (f && o) (record r { state = Lost }) r).state ≡ true
late_if r true o e h = absurd cc
late_if r false o e h = h

given_if : (r : Row) (t : Bool) → is_acknowledged r.state ≡ t → is_acknowledged r.state ≡ true → is_acknowledged (cond t r (let_go Abandoned r)).state ≡ true
given_if r true e h = h
given_if r false e h = absurd cc

not_flying : (t : State) → is_acknowledged t ≡ true → is_flying t ≡ false
not_flying Unsent e = refl
not_flying Flying e = absurd cc
not_flying Lost e = refl
not_flying Acknowledged e = refl
not_flying Abandoned e = refl

pub counted_acked : (ordinal : ℕ) (r : Row) → is_acknowledged r.state ≡ true → is_acknowledged (count_ack ordinal r).state ≡ true
counted_acked ordinal r h = count_if r (is_flying r.state) (nat_lt r.ordinal ordinal) (nat_le 2 r.acks) (not_flying r.state h) h

pub lost_acked : (moment resend : ℕ) (r : Row) → is_acknowledged r.state ≡ true → is_acknowledged (lost_if_late moment resend r).state ≡ true
lost_acked moment resend r h = late_if r (is_flying r.state) (nat_le (r.moment + resend) moment) (not_flying r.state h) h

pub given_acked : (r : Row) → is_acknowledged r.state ≡ true → is_acknowledged (give_up_row r).state ≡ true
given_acked r h = given_if r (is_acknowledged r.state) refl h

-- what rows keep through it
pub kept_at : (counts : List ℕ) (all before after result : Totals) (rows : List Row) (at : ℕ) (x y : Row) → all ≡ totals_of rows → before ≡ row_totals x → after ≡ row_totals y → x ≡ get_or rows at x → at < length rows
    → result ≡ moved all before after → (is_acknowledged x.state ≡ true → is_acknowledged y.state ≡ true) → ArePassed counts rows → (result ≡ totals_of (set rows at y)) × ArePassed counts (set rows at y)
kept_at counts all before after result rows at x y e f g h lt m acked p = (
  m ∙ moved_at all before after rows at x y e f g h lt,
  passed_set counts at rows y (λ k. acked (ap (λ (r : Row). is_acknowledged r.state) (h ∙ default_row rows at x end_row lt) ∙ k)) p,
)

-- ---- a row that isn't lost any more

acked_found : (r : Row) (t : Bool) → is_acknowledged r.state ≡ t → is_lost (cond t r (let_go Acknowledged r)).state ≡ false
acked_found r true e = acked_lost r.state e
  where
    acked_lost : (t : State) → is_acknowledged t ≡ true → is_lost t ≡ false
    acked_lost Unsent e = refl
    acked_lost Flying e = refl
    acked_lost Lost e = absurd cc
    acked_lost Acknowledged e = refl
    acked_lost Abandoned e = refl
acked_found r false e = refl

given_found : (r : Row) (t : Bool) → is_acknowledged r.state ≡ t → is_lost (cond t r (let_go Abandoned r)).state ≡ false
given_found r true e = acked_found r true e
given_found r false e = refl

pub acked_unlost : (r : Row) → is_lost (acknowledge_row r).state ≡ false
acked_unlost r = acked_found r (is_acknowledged r.state) refl

pub given_unlost : (r : Row) → is_lost (give_up_row r).state ≡ false
given_unlost r = given_found r (is_acknowledged r.state) refl
