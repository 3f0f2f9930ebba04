-- What each call keeps of the marks.
use Rattle.std.proofs.Common.{◌≡◌, ◌⊎◌, ℕ, zero, suc, ◌+◌, ◌<◌, ◌==◌, cond, map, Bool, true, false, List, [], ◌∷◌, ◌++◌, length, drop, refl, ap, sym, ◌∙◌, subst, arith, inl, inr}
use Rattle.std.specs.Prelude.{slice_set, nat_lt, ◌&&◌}
use Rattle.std.specs.List.{filter}
use Rattle.rtmfp_data_chunks.specs.HandsOver.{IsIn}
use Rattle.rtmfp_data_chunks.specs.Fragments.{Message}
use Rattle.flow_send.specs.declared.waiting.Waiting.{Waiting}
use Rattle.flow_send.specs.declared.loss.Loss.TheVariants.{Late, Third}
use Rattle.flow_send.specs.declared.state.State.{State}
use Rattle.flow_send.specs.declared.state.State.TheVariants as state
use Rattle.flow_send.specs.Rows.{Row, row_at, end_row, is_lost, is_flying, is_acknowledged, let_go, map_rows, settled_front}
use Rattle.flow_send.specs.Sender.{rows_of, has_number, give_up, without_message, is_late, lost_if_late}
use Rattle.flow_send.specs.Choice.{sent_row, put_at}
use Rattle.flow_send.specs.Acks.{Told, tells, acknowledge, count_ack, is_third}
use Rattle.flow_send.specs.Ordered.{Ordered, Follows}
use Rattle.flow_send.specs.Steady.{AllOk, is_fresh}
use Rattle.flow_send.specs.Marks.{Marked, marked_at, Covers, WillCover, Grows, is_losing}
use Rattle.flow_send.proofs.Chosen.{put_is}
use Rattle.flow_send.proofs.Lowest.{in_without, from_more}
use Rattle.flow_send.proofs.Marking.{KeepsLost, covers_map, covers_drop, covers_append, covers_fewer, covers_grown, covers_same, covers_lost, has_it}

-- ---- rows

same : (r : Row) → KeepsLost r r
same r = λ e. (e, refl)

give_if : (r : Row) (t u : Bool) → KeepsLost r (cond t (cond u r (let_go state.Abandoned r)) r)
give_if r true true = same r
give_if r true false = λ e. absurd cc
give_if r false u = same r

ack_if : (r : Row) (t u : Bool) → KeepsLost r (cond t (cond u r (let_go state.Acknowledged r)) r)
ack_if r true true = same r
ack_if r true false = λ e. absurd cc
ack_if r false u = same r

late_if : (moment resend : ℕ) (r : Row) (t : Bool) → is_late moment resend r ≡ t → (is_losing (Late moment resend) r ≡ true) × ((cond t (record r { state = state.Lost }) r).resends ≡ r.resends) ⊎ KeepsLost r (cond t (record r { state = state.Lost }) r)
late_if moment resend r true e = inl (e, refl)
late_if moment resend r false e = inr (same r)

count_if : (ordinal : ℕ) (r : Row) (t u : Bool) → is_third ordinal r ≡ t
    → (is_losing (Third ordinal) r ≡ true) × ((cond t (record r { state = state.Lost }) (cond u (record r { acks = r.acks + 1 }) r)).resends ≡ r.resends) ⊎ KeepsLost r (cond t (record r { state = state.Lost }) (cond u (record r { acks = r.acks + 1 }) r))
count_if ordinal r true u e = inl (e, refl)
count_if ordinal r false true e = inr (λ l. (l, refl))
count_if ordinal r false false e = inr (same r)

fresh_rows : (m : Marked) (ws : List Waiting) (x : Message) (k count n : ℕ) → Covers m ws n (rows_of x k count)
fresh_rows m ws x k zero n = tt
fresh_rows m ws x k (suc count) n = (λ e. absurd cc, fresh_rows m ws x (k + 1) count (n + 1))

-- ---- one message more, behind all that was sent

lost_fresh : (s : State) → is_lost s ≡ true → is_fresh s ≡ true → ⊥
lost_fresh state.Unsent e f = absurd cc
lost_fresh state.Flying e f = absurd cc
lost_fresh state.Lost e f = absurd cc
lost_fresh state.Acknowledged e f = absurd cc
lost_fresh state.Abandoned e f = absurd cc

pub covers_push : (m : Marked) (ws : List Waiting) (x : Waiting) (sent n : ℕ) (rows : List Row) → AllOk sent n rows → sent < x.number → Covers m ws n rows → Covers m (ws ++ x ∷ []) n rows
covers_push m ws x sent n [] ok lt c = tt
covers_push m ws x sent n (r ∷ rows) ok lt c = (
  λ l w i has s. elim (from_more w x ws i) [
    | inl j ↦ c.0 l w j has s
    | inr e ↦ absurd (
        let p = (has_it w n has).0 in
        let q = ap (λ (y : Waiting). y.number) e in
        lost_fresh r.state l (ok.0.fresh (omega (arith, p, q, lt))))
  ],
  covers_push m ws x sent (n + 1) rows ok.1 lt c.1,
)

-- ---- calls

pub begun_marks : (m : Marked) (ws : List Waiting) (n : ℕ) (rows : List Row) → rows ≡ [] → Covers m ws n rows
begun_marks m ws n rows e = subst (λ (rs : List Row). Covers m ws n rs) (sym e) tt

pub held_marks : (old new : Marked) (ws now : List Waiting) (x : Waiting) (sent n : ℕ) (rows more : List Row) (m : Message) (count : ℕ) → ((b : ℕ) → marked_at new b ≡ marked_at old b)
    → now ≡ ws ++ x ∷ [] → more ≡ rows ++ rows_of m m.number count → AllOk sent n rows → sent < x.number → Covers old ws n rows → Covers new now n more
held_marks old new ws now x sent n rows more m count e f g ok lt c =
    covers_same old new now n more e (subst (λ (vs : List Waiting). Covers old vs n more) (sym f) (subst (λ (rs : List Row). Covers old (ws ++ x ∷ []) n rs) (sym g)
    (covers_append old (ws ++ x ∷ []) n rows (rows_of m m.number count) (covers_push old ws x sent n rows ok lt c) (λ k. fresh_rows old (ws ++ x ∷ []) m m.number count k))))

pub ended_marks : (m : Marked) (ws : List Waiting) (n : ℕ) (rows new : List Row) → new ≡ rows ++ end_row ∷ [] → Covers m ws n rows → Covers m ws n new
ended_marks m ws n rows new e c = subst (λ (rs : List Row). Covers m ws n rs) (sym e) (covers_append m ws n rows (end_row ∷ []) c (λ k. (λ g. absurd cc, tt)))

pub settled_marks : (m : Marked) (ws : List Waiting) (forward passed : ℕ) (rows new : List Row) → passed ≡ settled_front rows → new ≡ drop (settled_front rows) rows → Covers m ws (forward + 1) rows → Covers m ws (forward + passed + 1) new
settled_marks m ws forward passed rows new p e c =
    subst (λ (i : ℕ). Covers m ws (forward + i + 1) new) (sym p) (subst (λ (rs : List Row). Covers m ws (forward + settled_front rows + 1) rs) (sym e) (covers_drop m ws forward (settled_front rows) rows c))

pub given_marks : (m : Marked) (ws now : List Waiting) (seq : ℕ) (w : Waiting) (forward passed : ℕ) (rows gone new : List Row) → now ≡ without_message seq ws → gone ≡ map_rows (give_up w) (forward + 1) rows → passed ≡ settled_front gone → new ≡ drop (settled_front gone) gone
    → Covers m ws (forward + 1) rows → Covers m now (forward + passed + 1) new
given_marks m ws now seq w forward passed rows gone new f g p e c =
    subst (λ (vs : List Waiting). Covers m vs (forward + passed + 1) new) (sym f) (covers_fewer m ws (without_message seq ws) (forward + passed + 1) new (in_without seq ws)
    (settled_marks m ws forward passed gone new p e (subst (λ (rs : List Row). Covers m ws (forward + 1) rs) (sym g) (covers_map m ws (give_up w) (forward + 1) rows (λ k r. give_if r (has_number w k) (is_acknowledged r.state)) c))))

pub acked_marks : (m : Marked) (ws : List Waiting) (a : Told) (n : ℕ) (rows new : List Row) → new ≡ map_rows (acknowledge a) n rows → Covers m ws n rows → Covers m ws n new
acked_marks m ws a n rows new e c = subst (λ (rs : List Row). Covers m ws n rs) (sym e) (covers_map m ws (acknowledge a) n rows (λ k r. ack_if r (tells a k) (is_acknowledged r.state)) c)

pub counted_marks : (old m : Marked) (ws : List Waiting) (ordinal n : ℕ) (rows new : List Row) → new ≡ map (count_ack ordinal) rows → Grows old m → WillCover m ws (Third ordinal) n rows → Covers old ws n rows → Covers m ws n new
counted_marks old m ws ordinal n rows new e g d c =
    subst (λ (rs : List Row). Covers m ws n rs) (sym e) (covers_lost m ws (count_ack ordinal) (Third ordinal) n rows (λ r. count_if ordinal r (is_third ordinal r) (is_flying r.state && nat_lt r.ordinal ordinal) refl) (covers_grown old m ws n rows g c) d)

pub lost_marks : (old m : Marked) (ws : List Waiting) (moment resend n : ℕ) (rows new : List Row) → new ≡ map (lost_if_late moment resend) rows → Grows old m → WillCover m ws (Late moment resend) n rows → Covers old ws n rows → Covers m ws n new
lost_marks old m ws moment resend n rows new e g d c =
    subst (λ (rs : List Row). Covers m ws n rs) (sym e) (covers_lost m ws (lost_if_late moment resend) (Late moment resend) n rows (λ r. late_if moment resend r (is_late moment resend r) refl) (covers_grown old m ws n rows g c) d)

in_kept : (test : Waiting → Bool) (ws : List Waiting) (w : Waiting) → IsIn w (filter test ws) → IsIn w ws
in_kept test [] w i = absurd i
in_kept test (x ∷ ws) w i = kept_if (test x) i (in_kept test ws w)
  where
    kept_if : (t : Bool) → IsIn w (cond t (x ∷ filter test ws) (filter test ws)) → (IsIn w (filter test ws) → IsIn w ws) → IsIn w (x ∷ ws)
    kept_if true (inl e) ih = inl e
    kept_if true (inr j) ih = inr (ih j)
    kept_if false j ih = inr (ih j)

pub told_marks : (m : Marked) (ws now : List Waiting) (test : Waiting → Bool) (forward passed : ℕ) (rows new : List Row) → now ≡ filter test ws → passed ≡ settled_front rows → new ≡ drop (settled_front rows) rows → Covers m ws (forward + 1) rows → Covers m now (forward + passed + 1) new
told_marks m ws now test forward passed rows new f p e c =
    subst (λ (vs : List Waiting). Covers m vs (forward + passed + 1) new) (sym f) (covers_fewer m ws (filter test ws) (forward + passed + 1) new (in_kept test ws) (settled_marks m ws forward passed rows new p e c))

-- all is as before but the marks, which mark the same
pub same_marks : (old new : Marked) (ws now : List Waiting) (n : ℕ) (rows same : List Row) → ((b : ℕ) → marked_at new b ≡ marked_at old b) → now ≡ ws → same ≡ rows → Covers old ws n rows → Covers new now n same
same_marks old new ws now n rows same e f g c = covers_same old new now n same e (subst (λ (vs : List Waiting). Covers old vs n same) (sym f) (subst (λ (rs : List Row). Covers old ws n rs) (sym g) c))

pub same_follows : (o p : Ordered) (n : ℕ) (rows same : List Row) → p ≡ o → same ≡ rows → Follows o n rows → Follows p n same
same_follows o p n rows same e f g = subst (λ (x : Ordered). Follows x n same) (sym e) (subst (λ (rs : List Row). Follows o n rs) (sym f) g)

pub sent_marks : (m : Marked) (ws : List Waiting) (ordinal n at moment : ℕ) (rows sent : List Row) → at < length rows → sent ≡ slice_set rows at (sent_row moment ordinal (row_at rows at)) → Covers m ws n rows → Covers m ws n sent
sent_marks m ws ordinal n at moment rows sent lt e c =
    let x = sent_row moment ordinal (row_at rows at) in
    subst (λ (rs : List Row). Covers m ws n rs) (sym (e ∙ sym (put_is n at x rows lt)))
    (covers_map m ws (put_at (n + at) x) n rows (λ k r. put_if r (k == n + at)) c)
  where
    put_if : (r : Row) (t : Bool) → KeepsLost r (cond t (sent_row moment ordinal (row_at rows at)) r)
    put_if r true = λ l. absurd cc
    put_if r false = same r
