-- What a chunk that isn't refused leaves.
use Rattle.std.proofs.Common.{◌≡◌, ℕ, ◌+◌, ◌<◌, ◌≤◌, nat_lt, ◌==◌, cond, not, Bool, true, false, ◌&&◌, ◌||◌, length, Option, Some, None, refl, ap, sym, ◌∙◌, subst, arith, inl, inr}
use Rattle.std.proofs.lemmas.Bool.{cases_Bool, lt-ltb, ltb-false}
use Rattle.std.proofs.lemmas.Bool.Decides.{nat_tests}
use Rattle.rtmfp_data_chunks.specs.Runs.{Chunk, single}
use Rattle.flow_recv.specs.Receiver.{Receiver, span, covers, lacks, knows, end_of_first, living, held_in, add_run, spans_forward, runs_forward, spans_after, runs_after, holds, counted, passes_buffer, beyond_buffer, after_final}
use Rattle.flow_recv.specs.declared.outcome.FlowRefusal.{FlowRefusal}
use Rattle.flow_recv.specs.Outcome.{refusal, after_or, beyond}
use Rattle.flow_recv.proofs.Knowing.{Formed, knows_add, formed_add}
use Rattle.flow_recv.proofs.Holding.{living_le}
use Rattle.flow_recv.proofs.Bounds.{Extends, add_le}

or_false : (a b : Bool) → not (a || b) ≡ true → not b ≡ true
or_false true b e = absurd cc
or_false false b e = e

not_or : (a b : Bool) → a ≡ false → not b ≡ true → not (a || b) ≡ true
not_or true b e f = absurd cc
not_or false b e f = f

extends : (r : Receiver) (c : Chunk) → Formed r.spans → c.forward < c.seq → lacks r.spans c.seq ≡ true → Extends (spans_after r c) (spans_forward r c) c.seq
extends r c formed lt lack = record {
  keeps =
      λ n e.
      let k = knows_add c.seq c.seq (spans_forward r c) n (omega arith) (formed_add 0 c.forward r.spans (omega arith) formed) in
      or_false (covers n (span c.seq c.seq)) (knows (spans_forward r c) n) (ap not (sym k) ∙ e);
  lacked =
      let k = knows_add 0 c.forward r.spans c.seq (omega arith) formed in
      let out : covers c.seq (span 0 c.forward) ≡ false = grind (arith, nat_tests) in
      ap not k ∙ not_or (covers c.seq (span 0 c.forward)) (knows r.spans c.seq) out lack;
}

pub passes_if : (t u v w : Bool) (n : ℕ) → t ≡ true → u ≡ true → cond (t && u && v) (Some n) None ≡ None → v ≡ false
passes_if true true true w n e f g = absurd cc
passes_if true true false w n e f g = refl
passes_if true false v w n e f g = absurd cc
passes_if false u v w n e f g = absurd cc

within_if : (t : Bool) (low held len seq : ℕ) → cond t (nat_lt 3145728 (held + len)) (cond (nat_lt 2097152 (held + len)) true (nat_lt (low + 65536) seq)) ≡ false → held + len ≤ 3145728
within_if true low held len seq e = let f : nat_lt 3145728 (held + len) ≡ false = e in omega (arith, ltb-false 3145728 (held + len) f)
within_if false low held len seq e = elim (cases_Bool (nat_lt 2097152 (held + len))) [
  | inl t ↦ absurd (let f : true ≡ false = subst (λ (x : Bool). cond x true (nat_lt (low + 65536) seq) ≡ false) t e in cc)
  | inr f ↦ omega (arith, ltb-false 2097152 (held + len) f)
]

and_true : (a b : Bool) → (not a && b) ≡ true → (a ≡ false) × (b ≡ true)
and_true true b e = absurd cc
and_true false b e = (refl, e)

after_if : (r : Receiver) (c : Chunk) (t : Bool) → Formed r.spans → (c.abandon ≡ false → c.forward < c.seq) → held_in r.runs ≤ 3145728 → beyond_buffer r c ≡ None
    → holds r c ≡ t → held_in (living (spans_after r c) (cond t (add_run (single c.seq c.part c.bytes) r.runs) r.runs)) ≤ 3145728
after_if r c true formed below few none e =
    let p = and_true c.abandon (lacks r.spans c.seq) e in
    let lt = below p.0 in
    let ext = extends r c formed lt p.1 in
    let low = end_of_first (spans_forward r c) + 1 in
    let held = held_in (runs_forward r c) in
    let not_passes = passes_if (lacks r.spans c.seq) (nat_lt c.forward c.seq) (passes_buffer low held c) true held p.1 (lt-ltb c.forward c.seq lt) none in
    let count : counted c ≡ length c.bytes = rw p.0 refl in
    let within = within_if (c.seq == low) low held (counted c) c.seq not_passes in
    let le : held_in (living (spans_after r c) (add_run (single c.seq c.part c.bytes) r.runs)) ≤ held + length c.bytes =
    add_le (spans_after r c) (spans_forward r c) c.seq (length c.bytes) (single c.seq c.part c.bytes) r.runs ext refl refl (omega arith) in
    let goal : held_in (living (spans_after r c) (add_run (single c.seq c.part c.bytes) r.runs)) ≤ 3145728 = omega (arith, le, within, count) in goal
after_if r c false formed below few none e =
    let goal : held_in (living (spans_after r c) r.runs) ≤ 3145728 = omega (arith, living_le (spans_after r c) r.runs, few) in goal

pub bound_after : (r : Receiver) (c : Chunk) → Formed r.spans → (c.abandon ≡ false → c.forward < c.seq) → held_in r.runs ≤ 3145728 → beyond_buffer r c ≡ None → held_in (runs_after r c) ≤ 3145728
bound_after r c formed below few none = after_if r c (holds r c) formed below few none refl

beyond_none : (o : Option ℕ) → beyond o ≡ None → o ≡ None
beyond_none None e = refl
beyond_none (Some n) e = absurd cc

after_none : (o : Option ℕ) (f : Option FlowRefusal) → after_or o f ≡ None → f ≡ None
after_none None f e = e
after_none (Some n) f e = absurd cc

pub not_beyond : (r : Receiver) (c : Chunk) → refusal r c ≡ None → beyond_buffer r c ≡ None
not_beyond r c e = beyond_none (beyond_buffer r c) (after_none (after_final r c) (beyond (beyond_buffer r c)) e)

-- a fragment that is held has no more bytes than the buffer
added_if : (r : Receiver) (c : Chunk) (t : Bool) → (c.abandon ≡ false → c.forward < c.seq) → beyond_buffer r c ≡ None → holds r c ≡ t → cond t (length c.bytes) 0 ≤ 3145728
added_if r c true below none e =
    let p = and_true c.abandon (lacks r.spans c.seq) e in
    let lt = below p.0 in
    let low = end_of_first (spans_forward r c) + 1 in
    let held = held_in (runs_forward r c) in
    let not_passes = passes_if (lacks r.spans c.seq) (nat_lt c.forward c.seq) (passes_buffer low held c) true held p.1 (lt-ltb c.forward c.seq lt) none in
    let count : counted c ≡ length c.bytes = rw p.0 refl in
    let within = within_if (c.seq == low) low held (counted c) c.seq not_passes in
    let goal : length c.bytes ≤ 3145728 = omega (arith, within, count) in goal
added_if r c false below none e = let goal : 0 ≤ 3145728 = omega arith in goal

pub added_small : (r : Receiver) (c : Chunk) (added : ℕ) → (c.abandon ≡ false → c.forward < c.seq) → beyond_buffer r c ≡ None → added ≡ cond (holds r c) (length c.bytes) 0 → added ≤ 3145728
added_small r c added below none e = omega (arith, e, added_if r c (holds r c) below none refl)

pub held_small : (r : Receiver) (c : Chunk) → (c.abandon ≡ false → c.forward < c.seq) → beyond_buffer r c ≡ None → c.abandon ≡ false → lacks r.spans c.seq ≡ true → length c.bytes ≤ 3145728
held_small r c below none a l =
    let h : holds r c ≡ true = rw (a, l) refl in
    added_small r c (length c.bytes) below none (sym (ap (λ t. cond t (length c.bytes) 0) h))
