-- Messages that are queued.
use Rattle.std.proofs.Common.{◌≡◌, ℕ, zero, suc, ◌+◌, ◌-◌, ◌*◌, ◌^◌, ◌<◌, ◌≤◌, nat_lt, cond, Bool, true, false, ◌||◌, List, [], ◌∷◌, ◌++◌, length, drop, Option, Some, None, refl, ap, sym, ◌∙◌, subst, arith}
use Rattle.std.specs.List.{sum_by}
use Rattle.std.proofs.lemmas.Bool.{ltb-false}
use Rattle.std.proofs.lemmas.List.{length-take, length-drop}
use Rattle.std.proofs.lemmas.List.Sums.{sum_by-cons}
use Rattle.rtmfp_data_chunks.specs.Fragments.{Message, fragments_of_length, piece}
use Rattle.flow_send.specs.declared.outcome.QueueRefusal.TheVariants.{Finished, TooLong, Backlog, SequenceSpent}
use Rattle.flow_send.specs.Rows.{Row, stored_of}
use Rattle.flow_send.specs.Sender.{Sender, next_of, bytes_held, fragments_held, new_row, rows_of}
use Rattle.flow_send.specs.Flow.{is_finished, queue_refusal}
use Rattle.flow_send.proofs.Steadies.{some_fragments}

push_suc : (m : Message) (n count : ℕ) → rows_of m n (suc count) ≡ rows_of m n count ++ new_row m (n + count) ∷ []
push_suc m n zero = let e : n ≡ n + 0 = omega arith in ap (λ k. new_row m k ∷ []) e
push_suc m n (suc count) =
    let e : n + 1 + count ≡ n + suc count = omega arith in
    ap (λ (rs : List Row). new_row m n ∷ rs) (push_suc m (n + 1) count ∙ ap (λ k. rows_of m (n + 1) count ++ new_row m k ∷ []) e)

-- one row more
pub rows_push : (m : Message) (n count : ℕ) → rows_of m n (count + 1) ≡ rows_of m n count ++ new_row m (n + count) ∷ []
rows_push m n count = let e : count + 1 ≡ suc count = omega arith in ap (rows_of m n) e ∙ push_suc m n count

-- the rows hold no more than the message's bytes
pub rows_stored : (m : Message) (k count : ℕ) → sum_by stored_of (rows_of m (m.number + k) count) ≤ length m.bytes - 1000 * k
rows_stored m k zero = omega arith
rows_stored m k (suc count) =
    let at : m.number + k - m.number ≡ k = omega arith in
    let next : m.number + k + 1 ≡ m.number + (k + 1) = omega arith in
    let others : sum_by stored_of (rows_of m (m.number + k + 1) count) ≤ length m.bytes - 1000 * (k + 1) = subst (λ (i : ℕ). sum_by stored_of (rows_of m i count) ≤ length m.bytes - 1000 * (k + 1)) (sym next) (rows_stored m (k + 1) count) in
    let one : stored_of (new_row m (m.number + k)) ≡ length (piece m.bytes k) = ap (λ i. length (piece m.bytes i)) at in
    let sum : sum_by stored_of (rows_of m (m.number + k) (suc count)) ≡ stored_of (new_row m (m.number + k)) + sum_by stored_of (rows_of m (m.number + k + 1) count) = sum_by-cons stored_of (new_row m (m.number + k)) (rows_of m (m.number + k + 1) count) in
    omega (arith, sum, one, others, length-take 1000 (drop (1000 * k) m.bytes), length-drop (1000 * k) m.bytes)

or_false : (a b : Bool) → (a || b) ≡ false → (a ≡ false) × (b ≡ false)
or_false true b e = absurd cc
or_false false b e = (refl, e)

record FourFalse (a b c d : Bool) : Type 0 where
  first : a ≡ false
  second : b ≡ false
  third : c ≡ false
  fourth : d ≡ false

all_false : {X : Type 0} (a b c d : Bool) (x y z w : X) → cond a (Some x) (cond b (Some y) (cond c (Some z) (cond d (Some w) None))) ≡ None → FourFalse a b c d
all_false true b c d x y z w e = absurd cc
all_false false true c d x y z w e = absurd cc
all_false false false true d x y z w e = absurd cc
all_false false false false true x y z w e = absurd cc
all_false false false false false x y z w e = record { first = refl; second = refl; third = refl; fourth = refl }

none_finished : (o : Option ℕ) → is_finished o ≡ false → o ≡ None
none_finished None e = refl
none_finished (Some n) e = absurd cc

pub record IsAllowed (s : Sender) (size : ℕ) : Type 0 where
  pub unfinished : s.finish ≡ None
  pub short : size ≤ 1048576
  pub bytes : bytes_held s + size ≤ 2097152
  pub fragments : fragments_held s + fragments_of_length size ≤ 65536
  pub numbers : next_of s + fragments_of_length size < 2 ^ 64

pub allowed : (s : Sender) (size : ℕ) → queue_refusal s size ≡ None → IsAllowed s size
allowed s size e =
    let many = nat_lt 2097152 (bytes_held s + size) || nat_lt 65536 (fragments_held s + fragments_of_length size) in
    let last = nat_lt (2 ^ 64 - 2) (next_of s + fragments_of_length size - 1) in
    let f = all_false (is_finished s.finish) (nat_lt 1048576 size) many last Finished (TooLong 1048576) (Backlog (bytes_held s)) SequenceSpent e in
    let g = or_false (nat_lt 2097152 (bytes_held s + size)) (nat_lt 65536 (fragments_held s + fragments_of_length size)) f.third in
    let short = ltb-false 1048576 size f.second in
    let bytes = ltb-false 2097152 (bytes_held s + size) g.0 in
    let fragments = ltb-false 65536 (fragments_held s + fragments_of_length size) g.1 in
    let numbers = ltb-false (2 ^ 64 - 2) (next_of s + fragments_of_length size - 1) f.fourth in
    record { unfinished = none_finished s.finish f.first; short = short; bytes = bytes; fragments = fragments; numbers = omega (arith, numbers, some_fragments size) }
