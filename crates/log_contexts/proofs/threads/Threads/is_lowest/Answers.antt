use Rattle.std.proofs.Common.{◌∙◌, false, subst, true}
use Rattle.std.specs.FinMap.{from_entries}
use Rattle.log_contexts.specs.Kept.{ThreadMap}
use Rattle.log_contexts.specs.Lowest.{TellsLowest}
use Rattle.log_contexts.proofs.Walked.{each_there, none_before, one_before}
use Rattle.log_contexts.proofs.threads.Threads.is_lowest.Goals as goal

pub returns-then-is_before : goal.returns-then-is_before
returns-then-is_before c =
    let all = c.into_iter-other-iterator.result in
    let same = c.into_iter-other-iterator.ensures.into_iter_gives ∙ c.iter-other-items.ensures.rest in
    subst (λ (m : ThreadMap). TellsLowest m.table c.args.digest.now c.args.tag.now c.args.near false) c.self.view_is
    (one_before c.args.digest.now c.args.near c.args.tag.now all c.loop-other.other-iterator c.next.new.self c.in-Some.other.now c.in-Some.thread.now c.loop-other.invariant c.in-Some.ensures.steps c.is_before.result c.is_before.ensures c.if-is_before.true
    (from_entries c.self.inside.map.entries) (each_there c.self.inside.map.entries all same c.iter-other-items.ensures.found))

pub returns : goal.returns
returns c =
    let same = c.into_iter-other-iterator.ensures.into_iter_gives ∙ c.iter-other-items.ensures.rest in
    subst (λ (m : ThreadMap). TellsLowest m.table c.args.digest.now c.args.tag.now c.args.near true) c.self.view_is
    (none_before c.args.digest.now c.args.near c.args.tag.now c.self.inside.map.entries c.into_iter-other-iterator.result c.loop-other.other-iterator same c.loop-other.invariant c.in-None.ensures.steps.0)
