use Rattle.std.proofs.Common.{◌+◌, List, Some, None, subst, arith}
use Rattle.std.specs.declared.ops.Bound.TheVariants.{Excluded}
use Rattle.std.specs.Map.{values_of}
use Rattle.rtmfp_data_chunks.specs.Runs.{Run}
use Rattle.flow_recv.specs.Keyed.{IsFirstFrom}
use Rattle.rtmfp_data_chunks.proofs.Keys.{less_lt, lt_less}
use Rattle.flow_recv.proofs.Finding.{first_in, none_in}
use Rattle.flow_recv.proofs.held.HeldRuns.after.Goals as goal

pub returns-in-Some : goal.returns-in-Some
returns-in-Some c =
    let m = c.self.inside.map in
    let k = c.in-Some.first.now in
    subst (λ (rs : List Run). IsFirstFrom (c.args.first + 1) rs (Some k)) c.self.view_is
    (first_in (c.args.first + 1) (Excluded c.args.first) m (values_of m.entries) c.range.result c.next.new.self k c.in-Some.field-0-1.now c.self.invariant.keyed (c.range.ensures.in_range tt) c.in-Some.ensures.steps (λ q le. lt_less c.args.first q (omega (arith, le))) (λ e. let lt = less_lt c.args.first k e in omega (arith, lt)))

pub returns-in-None : goal.returns-in-None
returns-in-None c =
    let m = c.self.inside.map in
    subst (λ (rs : List Run). IsFirstFrom (c.args.first + 1) rs None) c.self.view_is
    (none_in (c.args.first + 1) (Excluded c.args.first) m (values_of m.entries) c.range.result c.self.invariant.keyed (c.range.ensures.in_range tt) c.in-None.ensures.steps.0 (λ q le. lt_less c.args.first q (omega (arith, le))))
