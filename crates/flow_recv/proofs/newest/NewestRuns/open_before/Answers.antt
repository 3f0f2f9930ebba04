use Rattle.std.proofs.Common.{◌≡◌, ◌<◌, ◌^◌, ◌+◌, List, Option, sym, ap, ◌∙◌, subst, arith}
use Rattle.rtmfp_data_chunks.specs.Runs.{Run}
use Rattle.flow_recv.specs.Receiver.{held_in}
use Rattle.flow_recv.specs.Keyed.{with_run, with_newest}
use Rattle.flow_recv.specs.Sums.{before, open_before, AllEndNear}
use Rattle.flow_recv.proofs.Summing.{sum_with, before_le}
use Rattle.flow_recv.proofs.Among.{near_newest, older_few}
use Rattle.flow_recv.proofs.newest.NewestRuns.open_before.Goals as goal

pub open_before-older-requires-clause-near : goal.open_before-older-requires-clause-near
open_before-older-requires-clause-near c =
    let i = c.self.inside in
    near_newest c.args.through i.newest i.older (subst (AllEndNear c.args.through) (sym c.self.view_is) c.requires.near)

pub open_before-older-requires-clause-few : goal.open_before-older-requires-clause-few
open_before-older-requires-clause-few c =
    let i = c.self.inside in
    let few : held_in (with_newest i.newest i.older) < 2 ^ 32 = subst (λ (rs : List Run). held_in rs < 2 ^ 32) (sym c.self.view_is) c.requires.few in
    let k : held_in i.older + 0 < 2 ^ 32 = older_few 0 i.newest i.older (omega (arith, few)) in
    omega (arith, k)

pub overflow_add-result : goal.overflow_add-result
overflow_add-result c =
    let i = c.self.inside in
    let x = c.in-Some.run' in
    let now : c.args.self.now ≡ with_run x i.older = sym c.self.view_is ∙ ap (λ (o : Option Run). with_newest o i.older) c.in-Some.is in
    let few : held_in (with_run x i.older) < 2 ^ 32 = subst (λ (rs : List Run). held_in rs < 2 ^ 32) now c.requires.few in
    omega (arith, few, c.open_before.ensures, c.open_before-older.ensures, sum_with (before c.args.block) x i.older, before_le c.args.block (with_run x i.older))

pub returns-in-Some : goal.returns-in-Some
returns-in-Some c =
    let i = c.self.inside in
    let x = c.in-Some.run' in
    let now : c.args.self.now ≡ with_run x i.older = sym c.self.view_is ∙ ap (λ (o : Option Run). with_newest o i.older) c.in-Some.is in
    omega (arith, c.open_before.ensures, c.open_before-older.ensures, ap (open_before c.args.block) now, sum_with (before c.args.block) x i.older)
