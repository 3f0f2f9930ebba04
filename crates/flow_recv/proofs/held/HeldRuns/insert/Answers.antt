use Rattle.std.proofs.Common.{◌≡◌, List, None, ◌∙◌, ap, sym, subst}
use Rattle.std.specs.Set.{remove_key}
use Rattle.rtmfp_data_chunks.specs.Runs.{Run}
use Rattle.flow_recv.specs.Keyed.{run_at, with_run}
use Rattle.rtmfp_data_chunks.proofs.Keys.{is_key}
use Rattle.flow_recv.proofs.Keeping.{kept_with, kept_unchanged}
use Rattle.flow_recv.proofs.held.HeldRuns.insert.Goals as goal

pub invariant_of-self-in-Ok-insert : goal.invariant_of-self-in-Ok-insert
invariant_of-self-in-Ok-insert c =
    let i = c.self.inside in
    (kept_with i.indexed i.map.entries c.insert.new.self.entries i.whole.keys c.mark_whole.new.whole.keys c.args.run c.first-first.result c.is_whole.result c.self.invariant c.insert.ensures.ordered
    c.in-Ok-insert.ensures.entries c.first-first.ensures c.is_whole.ensures c.in-Ok.ensures.marked
    (subst (λ (xs : List Run). run_at c.args.run.first xs ≡ None) (sym c.self.view_is) c.requires)).0

pub returns-in-Ok-insert-clause-added : goal.returns-in-Ok-insert-clause-added
returns-in-Ok-insert-clause-added c =
    let i = c.self.inside in
    (kept_with i.indexed i.map.entries c.insert.new.self.entries i.whole.keys c.mark_whole.new.whole.keys c.args.run c.first-first.result c.is_whole.result c.self.invariant c.insert.ensures.ordered
    c.in-Ok-insert.ensures.entries c.first-first.ensures c.is_whole.ensures c.in-Ok.ensures.marked
    (subst (λ (xs : List Run). run_at c.args.run.first xs ≡ None) (sym c.self.view_is) c.requires)).1 ∙ ap (with_run c.args.run) c.self.view_is

pub invariant_of-self-in-Err : goal.invariant_of-self-in-Err
invariant_of-self-in-Err c =
    let i = c.self.inside in
    kept_unchanged i.indexed i.map.entries c.insert.new.self.entries i.whole.keys c.remove.new.self.keys c.first-first.result c.args.run.first c.is_whole.result c.self.invariant
    c.in-Err.ensures.err (c.remove.ensures.keys ∙ ap (remove_key (is_key c.first-first.result)) c.in-Ok.ensures.marked) c.first-first.ensures
    (subst (λ (xs : List Run). run_at c.args.run.first xs ≡ None) (sym c.self.view_is) c.requires)
