use Rattle.std.proofs.Common.{ℕ, Option, sym, ap, ◌∙◌, subst}
use Rattle.rtmfp_data_chunks.specs.Runs.{Run, is_whole}
use Rattle.flow_recv.specs.Receiver.{first_of, without_first}
use Rattle.flow_recv.specs.Order.{InOrder}
use Rattle.flow_recv.specs.Keyed.{with_newest, IsNewest, is_foremost}
use Rattle.flow_recv.proofs.Among.{take_newest, take_older, newest_first}
use Rattle.flow_recv.proofs.newest.NewestRuns.take_whole.Goals as goal

pub returns-then-is_foremost-clause-run : goal.returns-then-is_foremost-clause-run
returns-then-is_foremost-clause-run c =
    let i = c.self.inside in
    let e = ap (λ (o : Option ℕ). is_foremost o i.newest) (sym c.first_whole.ensures) ∙ (sym c.is_foremost.ensures ∙ c.if-is_foremost.true) in
    c.take.ensures.value ∙ (sym (take_newest i.newest i.older e).0 ∙ ap (first_of is_whole) c.self.view_is)

pub returns-then-is_foremost-clause-rest : goal.returns-then-is_foremost-clause-rest
returns-then-is_foremost-clause-rest c =
    let i = c.self.inside in
    let e = ap (λ (o : Option ℕ). is_foremost o i.newest) (sym c.first_whole.ensures) ∙ (sym c.is_foremost.ensures ∙ c.if-is_foremost.true) in
    ap (λ (o : Option Run). with_newest o i.older) c.take.ensures.after ∙ (sym (take_newest i.newest i.older e).1 ∙ ap (without_first is_whole) c.self.view_is)

pub invariant_of-self-2 : goal.invariant_of-self-2
invariant_of-self-2 c =
    let i = c.self.inside in
    subst (IsNewest i.newest) (sym c.take_whole.ensures.rest) (newest_first i.newest i.older c.self.invariant)

pub returns-clause-run : goal.returns-clause-run
returns-clause-run c =
    let i = c.self.inside in
    let e = ap (λ (o : Option ℕ). is_foremost o i.newest) (sym c.first_whole.ensures) ∙ (sym c.is_foremost.ensures ∙ c.if-is_foremost.false) in
    c.take_whole.ensures.run ∙ (sym (take_older i.newest i.older (subst (InOrder 0) (sym c.self.view_is) c.requires) e).0 ∙ ap (first_of is_whole) c.self.view_is)

pub returns-clause-rest : goal.returns-clause-rest
returns-clause-rest c =
    let i = c.self.inside in
    let e = ap (λ (o : Option ℕ). is_foremost o i.newest) (sym c.first_whole.ensures) ∙ (sym c.is_foremost.ensures ∙ c.if-is_foremost.false) in
    ap (with_newest i.newest) c.take_whole.ensures.rest ∙ (sym (take_older i.newest i.older (subst (InOrder 0) (sym c.self.view_is) c.requires) e).1 ∙ ap (without_first is_whole) c.self.view_is)
