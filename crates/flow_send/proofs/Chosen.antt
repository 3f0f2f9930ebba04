-- Which row is sent, by its index.
use Rattle.std.proofs.Common.{◌≡◌, ℕ, zero, suc, ◌+◌, ◌<◌, cond, Bool, true, false, List, [], ◌∷◌, length, Option, Some, None, refl, ap, sym, ◌∙◌, subst, arith, eq-eqb}
use Rattle.std.specs.Prelude.{slice_set}
use Rattle.std.proofs.lemmas.List.{get_or-set_same}
use Rattle.std.proofs.lemmas.Bool.{ne_eqb}
use Rattle.flow_send.specs.declared.state.State.{State}
use Rattle.flow_send.specs.Rows.{Row, row_at, end_row, map_rows, first_index, is_lost, is_unsent}
use Rattle.flow_send.specs.Sender.{Sender}
use Rattle.flow_send.specs.declared.pick.Pick.{Pick}
use Rattle.flow_send.specs.declared.pick.Pick.TheVariants as pick
use Rattle.flow_send.specs.Choice.{Choice, Nothing, Send, first_in, or_else, notice_due, next_choice, put_at, sent_row, count_up, sent_after, chunk_for}
use Rattle.flow_send.specs.Picked.{picked, IsThere}
use Rattle.flow_send.proofs.Numbered.{map_length}

abbrev pub send_of : ℕ → List Row → Option ℕ → Choice
send_of n rows None = Nothing
send_of n rows (Some at) = Send (n + at) (row_at rows at)

-- one row further in front
abbrev one_on : Option ℕ → Option ℕ
one_on None = None
one_on (Some at) = Some (suc at)

index_on : (test : State → Bool) (n : ℕ) (rows : List Row) → first_index test (n + 1) rows ≡ one_on (first_index test n rows)
index_on test n [] = refl
index_on test n (r ∷ rows) = on_if (test r.state) (index_on test (n + 1) rows)
  where
    on_if : (t : Bool) → first_index test (n + 1 + 1) rows ≡ one_on (first_index test (n + 1) rows) → cond t (Some (n + 1)) (first_index test (n + 1 + 1) rows) ≡ one_on (cond t (Some n) (first_index test (n + 1) rows))
    on_if true h = let e : n + 1 ≡ suc n = omega arith in ap (λ k. Some k) e
    on_if false h = h

send_on : (n : ℕ) (r : Row) (rows : List Row) (o : Option ℕ) → send_of (n + 1) rows o ≡ send_of n (r ∷ rows) (one_on o)
send_on n r rows None = refl
send_on n r rows (Some at) = let e : n + 1 + at ≡ n + suc at = omega arith in ap (λ k. Send k (row_at rows at)) e

pub first_in_is : (test : State → Bool) (n : ℕ) (rows : List Row) → first_in test n rows ≡ send_of n rows (first_index test 0 rows)
first_in_is test n [] = refl
first_in_is test n (r ∷ rows) = in_if (test r.state) (first_in_is test (n + 1) rows)
  where
    in_if : (t : Bool) → first_in test (n + 1) rows ≡ send_of (n + 1) rows (first_index test 0 rows) → cond t (Send n r) (first_in test (n + 1) rows) ≡ send_of n (r ∷ rows) (cond t (Some 0) (first_index test 1 rows))
    in_if true h = let e : n ≡ n + 0 = omega arith in ap (λ k. Send k r) e
    in_if false h = h ∙ (send_on n r rows (first_index test 0 rows) ∙ ap (send_of n (r ∷ rows)) (sym (index_on test 0 rows)))

abbrev AtRow : List Row → Option ℕ → Type 0
AtRow rows None = Unit {0}
AtRow rows (Some at) = at < length rows

at_on : (r : Row) (rows : List Row) (o : Option ℕ) → AtRow rows o → AtRow (r ∷ rows) (one_on o)
at_on r rows None h = tt
at_on r rows (Some at) h = omega (arith, h)

there : (test : State → Bool) (rows : List Row) → AtRow rows (first_index test 0 rows)
there test [] = tt
there test (r ∷ rows) = there_if (test r.state) (there test rows)
  where
    there_if : (t : Bool) → AtRow rows (first_index test 0 rows) → AtRow (r ∷ rows) (cond t (Some 0) (first_index test 1 rows))
    there_if true h = omega arith
    there_if false h = subst (AtRow (r ∷ rows)) (sym (index_on test 0 rows)) (at_on r rows (first_index test 0 rows) h)

pub index_there : (test : State → Bool) (rows : List Row) (at : ℕ) → first_index test 0 rows ≡ Some at → at < length rows
index_there test rows at e = subst (AtRow rows) e (there test rows)

-- the row of one number changed
put_none : (m n : ℕ) (new : Row) (rows : List Row) → m < n → map_rows (put_at m new) n rows ≡ rows
put_none m n new [] lt = refl
put_none m n new (r ∷ rows) lt = rw (ne_eqb n m (λ e. absurd (omega (arith, e, lt)))) (ap (λ (rs : List Row). r ∷ rs) (put_none m (n + 1) new rows (omega (arith, lt))))

pub put_is : (n at : ℕ) (new : Row) (rows : List Row) → at < length rows → map_rows (put_at (n + at) new) n rows ≡ slice_set rows at new
put_is n at new [] lt = absurd (omega arith)
put_is n zero new (r ∷ rows) lt = let e : n ≡ n + 0 = omega arith in rw (eq-eqb n (n + 0) e) (ap (λ (rs : List Row). new ∷ rs) (put_none (n + 0) (n + 1) new rows (omega arith)))
put_is n (suc at) new (r ∷ rows) lt =
    let e : n + suc at ≡ n + 1 + at = omega arith in
    rw (ne_eqb n (n + suc at) (λ f. absurd (omega (arith, f)))) (ap (λ (rs : List Row). r ∷ rs) (ap (λ k. map_rows (put_at k new) (n + 1) rows) e ∙ put_is (n + 1) at new rows (omega (arith, lt))))

-- the next choice
pub next_lost : (s : Sender) (moment resend at : ℕ) → first_index is_lost 0 s.rows ≡ Some at → next_choice moment resend s ≡ Send (s.forward + 1 + at) (row_at s.rows at)
next_lost s moment resend at e =
    ap (λ o. or_else o (or_else (first_in is_unsent (s.forward + 1) s.rows) (notice_due moment resend s))) (first_in_is is_lost (s.forward + 1) s.rows ∙ ap (send_of (s.forward + 1) s.rows) e)

pub next_unsent : (s : Sender) (moment resend at : ℕ) → first_index is_lost 0 s.rows ≡ None → first_index is_unsent 0 s.rows ≡ Some at → next_choice moment resend s ≡ Send (s.forward + 1 + at) (row_at s.rows at)
next_unsent s moment resend at none e =
    ap (λ o. or_else o (or_else (first_in is_unsent (s.forward + 1) s.rows) (notice_due moment resend s))) (first_in_is is_lost (s.forward + 1) s.rows ∙ ap (send_of (s.forward + 1) s.rows) none)
    ∙ ap (λ o. or_else o (notice_due moment resend s)) (first_in_is is_unsent (s.forward + 1) s.rows ∙ ap (send_of (s.forward + 1) s.rows) e)

pub next_notice : (s : Sender) (moment resend : ℕ) → first_index is_lost 0 s.rows ≡ None → first_index is_unsent 0 s.rows ≡ None → next_choice moment resend s ≡ notice_due moment resend s
next_notice s moment resend none also =
    ap (λ o. or_else o (or_else (first_in is_unsent (s.forward + 1) s.rows) (notice_due moment resend s))) (first_in_is is_lost (s.forward + 1) s.rows ∙ ap (send_of (s.forward + 1) s.rows) none)
    ∙ ap (λ o. or_else o (notice_due moment resend s)) (first_in_is is_unsent (s.forward + 1) s.rows ∙ ap (send_of (s.forward + 1) s.rows) also)

-- the chunk of a choice that was sent
pub same_chunk : (s : Sender) (p : Pick) (moment : ℕ) → IsThere s p → chunk_for (sent_after moment (picked s p) s) (picked (sent_after moment (picked s p) s) p) ≡ chunk_for s (picked s p)
same_chunk s (pick.Row at) moment lt =
    let n = s.forward + 1 + at in
    let new = sent_row moment (count_up 64 s.order) (row_at s.rows at) in
    let t = sent_after moment (Send n (row_at s.rows at)) s in
    let e : row_at t.rows at ≡ new = ap (λ (rs : List Row). row_at rs at) (put_is (s.forward + 1) at new s.rows lt) ∙ get_or-set_same s.rows at new end_row lt in
    ap (λ r. chunk_for t (Send n r)) e
same_chunk s pick.Notice moment h = refl

pub still_there : (s : Sender) (p : Pick) (moment : ℕ) → IsThere s p → IsThere (sent_after moment (picked s p) s) p
still_there s (pick.Row at) moment lt =
    let n = s.forward + 1 + at in
    omega (arith, lt, map_length (put_at n (sent_row moment (count_up 64 s.order) (row_at s.rows at))) (s.forward + 1) s.rows)
still_there s pick.Notice moment h = tt
