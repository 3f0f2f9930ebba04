-- What each call keeps of the sendings in their order.
use Rattle.std.proofs.Common.{◌≡◌, ℕ, zero, suc, ◌+◌, ◌<◌, ◌==◌, cond, map, Bool, true, false, List, [], ◌∷◌, ◌++◌, length, drop, refl, sym, ◌∙◌, subst, inl, inr}
use Rattle.std.specs.Prelude.{slice_set}
use Rattle.std.proofs.lemmas.Bool.{eqb-true}
use Rattle.rtmfp_data_chunks.specs.Fragments.{Message}
use Rattle.flow_send.specs.declared.state.State.TheVariants.{Lost, Acknowledged, Abandoned}
use Rattle.flow_send.specs.declared.waiting.Waiting.{Waiting}
use Rattle.flow_send.specs.Rows.{Row, row_at, end_row, is_acknowledged, let_go, map_rows, settled_front}
use Rattle.flow_send.specs.Sender.{rows_of, has_number, give_up}
use Rattle.flow_send.specs.Choice.{sent_row, put_at}
use Rattle.flow_send.specs.Acks.{Told, tells, acknowledge, count_ack}
use Rattle.flow_send.specs.Ordered.{Ordered, AllThere, Follows, IsAdded}
use Rattle.flow_send.proofs.Numbered.{map_is}
use Rattle.flow_send.proofs.Chosen.{put_is}
use Rattle.flow_send.proofs.Orders.{KeepsFlight, IsSent, count_flies, keeps_ordinal, keeps_moment, follows_map, follows_append, follows_drop, follows_sent}

-- ---- rows

same : (r : Row) → KeepsFlight r r
same r = λ e. (e, refl, refl)

give_if : (r : Row) (t u : Bool) → KeepsFlight r (cond t (cond u r (let_go Abandoned r)) r)
give_if r true true = same r
give_if r true false = λ e. absurd cc
give_if r false u = same r

ack_if : (r : Row) (t u : Bool) → KeepsFlight r (cond t (cond u r (let_go Acknowledged r)) r)
ack_if r true true = same r
ack_if r true false = λ e. absurd cc
ack_if r false u = same r

pub late_if : (r : Row) (t : Bool) → KeepsFlight r (cond t (record r { state = Lost }) r)
late_if r true = λ e. absurd cc
late_if r false = same r

counted : (ordinal : ℕ) (r : Row) → KeepsFlight r (count_ack ordinal r)
counted ordinal r = λ e. (count_flies ordinal r e, keeps_ordinal ordinal r, keeps_moment ordinal r)

fresh_there : (queue : List (ℕ × ℕ × ℕ)) (m : Message) (k count n : ℕ) → AllThere queue n (rows_of m k count)
fresh_there queue m k zero n = tt
fresh_there queue m k (suc count) n = (λ e. absurd cc, fresh_there queue m (k + 1) count (n + 1))

-- ---- calls

pub begin : (o : Ordered) (n : ℕ) (rows : List Row) → o.queue ≡ [] → rows ≡ [] → Follows o n rows
begin o n rows q e = λ w. record { rising = subst Rattle.flow_send.specs.Ordered.Rising (sym q) tt; moments = subst Rattle.flow_send.specs.Ordered.NonFalling (sym q) tt; there = subst (λ (rs : List Row). AllThere o.queue n rs) (sym e) tt }

pub held : (o p : Ordered) (n : ℕ) (rows new : List Row) (m : Message) (count : ℕ) → p ≡ o → new ≡ rows ++ rows_of m m.number count → Follows o n rows → Follows p n new
held o p n rows new m count q e f =
    subst (λ (x : Ordered). Follows x n new) (sym q) (subst (λ (rs : List Row). Follows o n rs) (sym e) (follows_append o n rows (rows_of m m.number count) (λ k. fresh_there o.queue m m.number count k) f))

pub ended : (o : Ordered) (n : ℕ) (rows new : List Row) → new ≡ rows ++ end_row ∷ [] → Follows o n rows → Follows o n new
ended o n rows new e f = subst (λ (rs : List Row). Follows o n rs) (sym e) (follows_append o n rows (end_row ∷ []) (λ k. (λ g. absurd cc, tt)) f)

pub settled_on : (o : Ordered) (forward passed : ℕ) (rows new : List Row) → passed ≡ settled_front rows → new ≡ drop (settled_front rows) rows → Follows o (forward + 1) rows → Follows o (forward + passed + 1) new
settled_on o forward passed rows new p e f =
    subst (λ (i : ℕ). Follows o (forward + i + 1) new) (sym p) (subst (λ (rs : List Row). Follows o (forward + settled_front rows + 1) rs) (sym e) (follows_drop o forward (settled_front rows) rows f))

pub given : (o : Ordered) (w : Waiting) (forward passed : ℕ) (rows gone new : List Row) → gone ≡ map_rows (give_up w) (forward + 1) rows → passed ≡ settled_front gone → new ≡ drop (settled_front gone) gone → Follows o (forward + 1) rows → Follows o (forward + passed + 1) new
given o w forward passed rows gone new g p e f =
    settled_on o forward passed gone new p e (subst (λ (rs : List Row). Follows o (forward + 1) rs) (sym g) (follows_map o (give_up w) (forward + 1) rows (λ k r. give_if r (has_number w k) (is_acknowledged r.state)) f))

pub acked_on : (o : Ordered) (a : Told) (n : ℕ) (rows new : List Row) → new ≡ map_rows (acknowledge a) n rows → Follows o n rows → Follows o n new
acked_on o a n rows new e f = subst (λ (rs : List Row). Follows o n rs) (sym e) (follows_map o (acknowledge a) n rows (λ k r. ack_if r (tells a k) (is_acknowledged r.state)) f)

pub told_on : (o : Ordered) (a : Told) (ordinal n : ℕ) (rows new : List Row) → new ≡ map (count_ack ordinal) (map_rows (acknowledge a) n rows) → Follows o n rows → Follows o n new
told_on o a ordinal n rows new e f =
    subst (λ (rs : List Row). Follows o n rs) (sym (e ∙ map_is (count_ack ordinal) n (map_rows (acknowledge a) n rows)))
    (follows_map o (λ k r. count_ack ordinal r) n (map_rows (acknowledge a) n rows) (λ k r. counted ordinal r) (acked_on o a n rows (map_rows (acknowledge a) n rows) refl f))

pub sent_on : (old new : Ordered) (ordinal n at moment : ℕ) (rows sent : List Row) → at < length rows → IsAdded ordinal (n + at) moment old new → sent ≡ slice_set rows at (sent_row moment ordinal (row_at rows at)) → Follows old n rows → Follows new n sent
sent_on old new ordinal n at moment rows sent lt added e f =
    let x = sent_row moment ordinal (row_at rows at) in
    subst (λ (rs : List Row). Follows new n rs) (sym (e ∙ sym (put_is n at x rows lt)))
    (follows_sent old new ordinal (n + at) moment n (put_at (n + at) x) rows added (λ k r. put_if k r x (k == n + at) refl) f)
  where
    put_if : (k : ℕ) (r x : Row) (t : Bool) → (k == n + at) ≡ t → IsSent ordinal (n + at) moment k r (cond t (sent_row moment ordinal (row_at rows at)) r)
    put_if k r x true e = inr (eqb-true k (n + at) e, refl, refl)
    put_if k r x false e = inl refl
