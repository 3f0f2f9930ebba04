-- What a chunk that isn't refused leaves is sound.
use Rattle.std.proofs.Common.{◌≡◌, ℕ, ◌<◌, ◌+◌, nat_le, max, cond, Bool, true, false, List, ◌∷◌, Option, Some, None, refl, ap, sym, ◌∙◌, arith}
use Rattle.std.specs.List.{filter}
use Rattle.std.proofs.lemmas.Bool.{leb-true}
use Rattle.flow_recv.specs.declared.spans.Span.{Span}
use Rattle.rtmfp_data_chunks.specs.Runs.{Chunk, Run, single}
use Rattle.flow_recv.specs.Receiver.{Receiver, span, add_run, holds, spans_forward, spans_after, runs_after, beyond_buffer, taken, may_hand, handed_next}
use Rattle.flow_recv.specs.Sound.{Sound}
use Rattle.flow_recv.specs.Keyed.{stays}
use Rattle.flow_recv.proofs.Passing.{passed_living}
use Rattle.flow_recv.proofs.Knowing.{apart_formed, apart_add, from_zero_add}
use Rattle.flow_recv.proofs.Taking.{bound_after}
use Rattle.flow_recv.proofs.Windows.{keeps_within}
use Rattle.flow_recv.proofs.Holding.{without_le}
use Rattle.flow_recv.proofs.Beside.{knows_more, near_held, beside_living, alive_living, alive_without}

abbrev pub held_runs : Receiver → Chunk → List Run
held_runs r c = cond (holds r c) (add_run (single c.seq c.part c.bytes) r.runs) r.runs

after_if : (r : Receiver) (c : Chunk) (t : ℕ) (above : List Span) (near : Bool) → r.spans ≡ span 0 t ∷ above → Sound r → near ≡ nat_le c.forward t
    → filter (stays (spans_after r c) c.seq c.seq) (cond near (held_runs r c) (filter (stays (spans_after r c) (t + 1) c.forward) (held_runs r c))) ≡ runs_after r c
after_if r c t above true e s n =
    let le = leb-true c.forward t (sym n) in
    beside_living (spans_after r c) r.spans c.seq (held_runs r c) (knows_more r c t above e (apart_formed r.spans s.apart) le) (near_held r c s.alive)
after_if r c t above false e s n = passed_living r c t above (held_runs r c) e (apart_formed r.spans s.apart) (near_held r c s.alive)

-- what the code leaves of the runs is what is kept of them
pub runs_are : (r : Receiver) (c : Chunk) (t end : ℕ) (above new : List Span) (held runs : List Run) → r.spans ≡ span 0 t ∷ above → Sound r
    → span 0 end ∷ new ≡ spans_after r c
    → held ≡ held_runs r c
    → runs ≡ filter (stays (span 0 end ∷ new) c.seq c.seq) (cond (nat_le c.forward t) held (filter (stays (span 0 end ∷ new) (t + 1) c.forward) held))
    → runs ≡ runs_after r c
runs_are r c t end above new held runs e s f h k =
    k
    ∙ (ap (λ (ss : List Span). filter (stays ss c.seq c.seq) (cond (nat_le c.forward t) held (filter (stays ss (t + 1) c.forward) held))) f
    ∙ (ap (λ (ys : List Run). filter (stays (spans_after r c) c.seq c.seq) (cond (nat_le c.forward t) ys (filter (stays (spans_after r c) (t + 1) c.forward) ys))) h ∙ after_if r c t above (nat_le c.forward t) e s refl))

pub taken_is : (r : Receiver) (c : Chunk) (spans : List Span) (runs : List Run) (last : Option ℕ) (highest : ℕ) → spans ≡ spans_after r c → runs ≡ runs_after r c
    → last ≡ cond c.last (Some c.seq) r.last → highest ≡ max c.seq r.highest
    → record { arriving = r.arriving; spans = spans; runs = runs; last = last; highest = highest } ≡ taken r c
taken_is r c spans runs last highest e f g h =
    let F : List Span → List Run → Option ℕ → ℕ → Receiver = λ a b d k. record { arriving = r.arriving; spans = a; runs = b; last = d; highest = k } in
    ap (λ a. F a runs last highest) e ∙ (ap (λ b. F (spans_after r c) b last highest) f ∙ (ap (λ d. F (spans_after r c) (runs_after r c) d highest) g ∙ ap (λ k. F (spans_after r c) (runs_after r c) (cond c.last (Some c.seq) r.last) k) h))

pub sound_taken : (r : Receiver) (c : Chunk) → Sound r → (c.abandon ≡ false → c.forward < c.seq) → beyond_buffer r c ≡ None → Sound (taken r c)
sound_taken r c s below none = record {
  bytes = bound_after r c (apart_formed r.spans s.apart) below s.bytes none;
  window = keeps_within r c s.apart s.zero s.window none;
  apart = apart_add c.seq c.seq (spans_forward r c) (omega arith) (apart_add 0 c.forward r.spans (omega arith) s.apart);
  zero = from_zero_add c.seq c.seq (spans_forward r c) (from_zero_add 0 c.forward r.spans s.zero);
  alive = alive_living r.spans (spans_after r c) c.seq (held_runs r c) (near_held r c s.alive);
}

pub sound_handed : (r : Receiver) → Sound r → Sound (handed_next r)
sound_handed r s = record {
  bytes = omega (arith, s.bytes, without_le (may_hand r) r.runs);
  window = s.window;
  apart = s.apart;
  zero = s.zero;
  alive = alive_without (may_hand r) r.spans r.runs s.alive;
}
