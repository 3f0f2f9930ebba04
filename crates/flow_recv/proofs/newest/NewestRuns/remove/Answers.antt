use Rattle.std.proofs.Common.{Option, sym, ap, ◌∙◌, subst}
use Rattle.rtmfp_data_chunks.specs.Runs.{Run}
use Rattle.flow_recv.specs.Order.{InOrder}
use Rattle.flow_recv.specs.Keyed.{run_at, without_run, with_newest, IsNewest}
use Rattle.flow_recv.proofs.Among.{at_newest, at_older, without_newest, without_older, newest_without}
use Rattle.flow_recv.proofs.newest.NewestRuns.remove.Goals as goal

pub returns-then-begins-clause-run : goal.returns-then-begins-clause-run
returns-then-begins-clause-run c =
    let i = c.self.inside in
    c.take.ensures.value ∙ (sym (at_newest c.args.first i.newest i.older c.self.invariant (sym c.begins.ensures ∙ c.if-begins.true)) ∙ ap (run_at c.args.first) c.self.view_is)

pub returns-then-begins-clause-rest : goal.returns-then-begins-clause-rest
returns-then-begins-clause-rest c =
    let i = c.self.inside in
    ap (λ (o : Option Run). with_newest o i.older) c.take.ensures.after ∙ (sym (without_newest c.args.first i.newest i.older c.self.invariant (sym c.begins.ensures ∙ c.if-begins.true)) ∙ ap (without_run c.args.first) c.self.view_is)

pub invariant_of-self-2 : goal.invariant_of-self-2
invariant_of-self-2 c =
    let i = c.self.inside in
    subst (IsNewest i.newest) (sym c.remove.ensures.rest) (newest_without c.args.first i.newest i.older c.self.invariant (sym c.begins.ensures ∙ c.if-begins.false))

pub returns-clause-run : goal.returns-clause-run
returns-clause-run c =
    let i = c.self.inside in
    c.remove.ensures.run ∙ (sym (at_older c.args.first i.newest i.older (sym c.begins.ensures ∙ c.if-begins.false)) ∙ ap (run_at c.args.first) c.self.view_is)

pub returns-clause-rest : goal.returns-clause-rest
returns-clause-rest c =
    let i = c.self.inside in
    ap (with_newest i.newest) c.remove.ensures.rest ∙ (sym (without_older c.args.first i.newest i.older (subst (InOrder 0) (sym c.self.view_is) c.requires) (sym c.begins.ensures ∙ c.if-begins.false)) ∙ ap (without_run c.args.first) c.self.view_is)
