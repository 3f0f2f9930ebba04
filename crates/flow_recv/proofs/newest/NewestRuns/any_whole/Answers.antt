use Rattle.std.proofs.Common.{◌≡◌, ◌||◌, List, Option, sym, ap, ◌∙◌}
use Rattle.std.specs.Option.{is_some}
use Rattle.rtmfp_data_chunks.specs.Runs.{Run, is_whole}
use Rattle.flow_recv.specs.Receiver.{first_of}
use Rattle.flow_recv.specs.Keyed.{with_run, with_newest}
use Rattle.flow_recv.proofs.Among.{any_whole_with}
use Rattle.flow_recv.proofs.newest.NewestRuns.any_whole.Goals as goal

pub returns-then-is_whole : goal.returns-then-is_whole
returns-then-is_whole c =
    let i = c.self.inside in
    let x = c.in-Some.run' in
    let now : c.args.self.now ≡ with_run x i.older = sym c.self.view_is ∙ ap (λ (o : Option Run). with_newest o i.older) c.in-Some.is in
    c.if-is_whole.true ∙ sym (ap (λ (rs : List Run). is_some (first_of is_whole rs)) now ∙ (any_whole_with x i.older ∙ ap (λ b. b || is_some (first_of is_whole i.older)) (sym c.is_whole.ensures ∙ c.if-is_whole.true)))

pub returns-else-is_whole : goal.returns-else-is_whole
returns-else-is_whole c =
    let i = c.self.inside in
    let x = c.in-Some.run' in
    let now : c.args.self.now ≡ with_run x i.older = sym c.self.view_is ∙ ap (λ (o : Option Run). with_newest o i.older) c.in-Some.is in
    c.any_whole.ensures ∙ sym (ap (λ (rs : List Run). is_some (first_of is_whole rs)) now ∙ (any_whole_with x i.older ∙ ap (λ b. b || is_some (first_of is_whole i.older)) (sym c.is_whole.ensures ∙ c.if-is_whole.false)))
