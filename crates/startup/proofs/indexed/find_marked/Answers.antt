use Rattle.std.proofs.Common.{◌<◌, arith, length}
use Rattle.startup.specs.Sought.{fits}
use Rattle.startup.proofs.Marking.{from_place, from_next, none_left, none_further, first_is_lowest}
use Rattle.startup.proofs.indexed.find_marked.Goals as goal

pub loop-at-init : goal.loop-at-init
loop-at-init c = (omega arith, from_place (fits c.args.sought.now) c.args.marks.now c.args.word c.args.table.now.attempts c.place-start.result c.place-start.ensures c.requires.marked)

pub loop-at-preserved : goal.loop-at-preserved
loop-at-preserved c =
    let here = c.loop-at.invariant.0 in
    (omega (arith, here), from_next (fits c.args.sought.now) c.args.marks.now c.args.word c.args.table.now.attempts c.loop-at.at c.loop-at.invariant.1 c.in_default.ensures.none)

pub returns-then-mark-word : goal.returns-then-mark-word
returns-then-mark-word c =
    let inside : c.loop-at.at < length c.args.marks.now = omega arith in
    none_further (fits c.args.sought.now) c.args.marks.now c.args.word c.args.table.now.attempts c.loop-at.at c.loop-at.invariant.1 c.requires.order inside
    (c.place-start.ensures.behind c.loop-at.at c.loop-at.invariant.0 inside) (λ e. omega (arith, e))

pub returns-in-loop-at : goal.returns-in-loop-at
returns-in-loop-at c =
    let inside : c.loop-at.at < length c.args.marks.now = omega arith in
    first_is_lowest (fits c.args.sought.now) c.args.marks.now c.args.word c.args.table.now.attempts c.loop-at.at c.loop-at.invariant.1 c.requires.order inside
    c.in-Some.attempt.now (omega arith) c.in-Some.ensures.there c.in-Some.ensures.fits

pub returns : goal.returns
returns c = none_left (fits c.args.sought.now) c.args.marks.now c.args.word c.args.table.now.attempts c.loop-at.at c.loop-at.invariant.1 (omega arith)
