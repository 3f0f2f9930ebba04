use Rattle.std.proofs.Common.{◌≡◌, List, Option, length, sym, ap, ◌∙◌, arith}
use Rattle.rtmfp_data_chunks.specs.Runs.{Run}
use Rattle.flow_recv.specs.Keyed.{with_run, with_newest}
use Rattle.flow_recv.proofs.Counting.{count_with}
use Rattle.flow_recv.proofs.newest.NewestRuns.len.Goals as goal

pub returns-in-Some-clause-value : goal.returns-in-Some-clause-value
returns-in-Some-clause-value c =
    let i = c.self.inside in
    let x = c.in-Some.field-0 in
    let now : c.args.self.now ≡ with_run x i.older = sym c.self.view_is ∙ ap (λ (o : Option Run). with_newest o i.older) c.in-Some.is in
    omega (arith, c.len-older.ensures.value, ap (λ (rs : List Run). length rs) now, count_with x i.older)
