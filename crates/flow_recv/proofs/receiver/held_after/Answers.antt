use Rattle.std.proofs.Common.{ℕ, ◌≡◌, ◌+◌, ◌*◌, ◌/◌, ◌<◌, ◌∷◌, max, List, sym, ap, ◌∙◌, arith}
use Rattle.rtmfp_data_chunks.specs.Runs.{Run}
use Rattle.flow_recv.specs.Receiver.{held_in, living, span}
use Rattle.flow_recv.proofs.Beside.{all_living}
use Rattle.flow_recv.proofs.Passing.{forward_living}
use Rattle.std.specs.List.{filter}
use Rattle.flow_recv.specs.declared.spans.Span.{Span}
use Rattle.flow_recv.specs.Sound.{AllAlive}
use Rattle.flow_recv.specs.Keyed.{stays}
use Rattle.flow_recv.specs.Sums.{open_before, AllEndNear}
use Rattle.flow_recv.proofs.Summing.{drops, before_le}
use Rattle.flow_recv.proofs.receiver.held_after.Goals as goal

pub returns-then-forward-through : goal.returns-then-forward-through
returns-then-forward-through c =
    let m : c.args.through ≡ max c.args.through c.args.forward = omega arith in
    c.requires.held
    ∙ (ap (λ (ys : List Run). held_in ys) (sym (all_living (span 0 c.args.through ∷ c.args.above.now) c.args.runs.now c.requires.alive))
    ∙ ap (λ t. held_in (living (span 0 t ∷ c.args.above.now) c.args.runs.now)) m)

-- what is left after the blocks and after what is looked at
left : (t f low : ℕ) (above : List Span) (runs : List Run) (passed dying held : ℕ) → t < f → low ≡ max (f / 64 * 64) t + 1 → AllAlive (span 0 t ∷ above) runs → AllEndNear t runs
    → held ≡ held_in runs → passed ≡ open_before (f / 64) runs → held_in (filter (stays (span 0 f ∷ above) low f) runs) + dying ≡ held_in runs
    → held_in (living (span 0 (max t f) ∷ above) runs) + passed + dying ≡ held
left t f low above runs passed dying held lt e alive near h p d =
    let k = ap (λ (ys : List Run). held_in ys) (forward_living t f above runs lt alive) in
    omega (arith, k, drops t f low above runs lt e alive near, h, p, d)

is_left : (c : goal.After-dying_bytes) → held_in (living (span 0 (max c.args.through c.args.forward) ∷ c.args.above.now) c.args.runs.now) + c.open_before.result + c.dying_bytes.result ≡ c.args.held
is_left c =
    left c.args.through c.args.forward (c.max-low.result + 1) c.args.above.now c.args.runs.now c.open_before.result c.dying_bytes.result c.args.held (omega arith)
    (omega (arith, c.max-low.ensures, c.block_start.ensures, c.block_of-block.ensures)) c.requires.alive c.requires.near c.requires.held
    (c.open_before.ensures ∙ ap (λ b. open_before b c.args.runs.now) c.block_of-block.ensures) c.dying_bytes.ensures

pub returns : goal.returns
returns c = omega (arith, is_left c)

pub overflow_sub-result : goal.overflow_sub-result
overflow_sub-result c = omega (arith, before_le c.block_of-block.result c.args.runs.now, c.open_before.ensures, c.requires.held)

pub overflow_sub-result-2 : goal.overflow_sub-result-2
overflow_sub-result-2 c = omega (arith, is_left c)
