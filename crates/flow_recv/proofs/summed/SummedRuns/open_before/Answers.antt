use Rattle.std.proofs.Common.{List, ℕ, ◌≡◌, ◌-◌, ◌<◌, ◌^◌, ◌/◌, sym, ap, min, ◌∙◌, subst, arith}
use Rattle.rtmfp_data_chunks.specs.Runs.{Run}
use Rattle.flow_recv.specs.Receiver.{held_in}
use Rattle.flow_recv.specs.Sums.{open_before, AllEndNear, AreSums, sum_from}
use Rattle.flow_recv.proofs.Summing.{open_is, before_le}
use Rattle.flow_recv.proofs.summed.SummedRuns.open_before.Goals as goal

is_open : (sums : List ℕ) (runs : List Run) (through block first left count : ℕ) → AreSums sums runs → AllEndNear through runs → first ≡ through / 64 → left ≡ block - first → count ≡ min left 1028
    → sum_from sums first count ≡ open_before block runs
is_open sums runs through block first left count h near e f g =
    ap (λ b. sum_from sums b count) e
    ∙ open_is sums through block count runs h near (λ few. omega (arith, few, e, f, g)) (λ many. omega (arith, many, e, f, g))

pub sum_from-requires-clause-few : goal.sum_from-requires-clause-few
sum_from-requires-clause-few c =
    let s = c.self.inside in
    let near = subst (AllEndNear c.args.through) (sym c.self.view_is) c.requires.near in
    let few : held_in s.runs < 2 ^ 32 = subst (λ (ys : List Run). held_in ys < 2 ^ 32) (sym c.self.view_is) c.requires.few in
    omega (arith, is_open s.sums s.runs c.args.through c.args.block c.block_of-first.result c.saturating_sub.result c.min-count.result c.self.invariant near c.block_of-first.ensures c.saturating_sub.ensures c.min-count.ensures, before_le c.args.block s.runs, few)

pub returns : goal.returns
returns c =
    let s = c.self.inside in
    let near = subst (AllEndNear c.args.through) (sym c.self.view_is) c.requires.near in
    c.sum_from.ensures ∙ (is_open s.sums s.runs c.args.through c.args.block c.block_of-first.result c.saturating_sub.result c.min-count.result c.self.invariant near c.block_of-first.ensures c.saturating_sub.ensures c.min-count.ensures
    ∙ ap (λ (ys : List Run). open_before c.args.block ys) c.self.view_is)
