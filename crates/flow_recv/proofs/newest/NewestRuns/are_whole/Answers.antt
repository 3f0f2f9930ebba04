use Rattle.std.proofs.Common.{◌≡◌, Option, sym, ap, ◌∙◌, subst}
use Rattle.rtmfp_data_chunks.specs.Runs.{Run}
use Rattle.flow_recv.specs.Keyed.{AllWhole, with_run, with_newest}
use Rattle.flow_recv.proofs.Among.{all_whole_with}
use Rattle.flow_recv.proofs.newest.NewestRuns.are_whole.Goals as goal

pub returns-then-is_whole : goal.returns-then-is_whole
returns-then-is_whole c = λ e.
    let i = c.self.inside in
    let x = c.in-Some.run' in
    let now : c.args.self.now ≡ with_run x i.older = sym c.self.view_is ∙ ap (λ (o : Option Run). with_newest o i.older) c.in-Some.is in
    subst AllWhole (sym now) (all_whole_with x i.older (sym c.is_whole.ensures ∙ c.if-is_whole.true) (c.are_whole.ensures e))
