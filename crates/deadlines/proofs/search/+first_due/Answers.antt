use Rattle.std.proofs.Common.{arith, ◌≤◌, ◌*◌, ◌+◌}
use Rattle.deadlines.proofs.Below.{lowest_first, lowest_of_parts, lowest_of_right, none_below, none_of_right, none_past}
use Rattle.deadlines.proofs.search.+first_due.Goals as goal

pub returns-then-top-count-clause-none : goal.returns-then-top-count-clause-none
returns-then-top-count-clause-none t c = none_past _ c.args.count c.args.moment c.args.top c.if-top-count.true

pub returns-then-entries-top-clause-some : goal.returns-then-entries-top-clause-some
returns-then-entries-top-clause-some t c = lowest_first _ c.args.count c.args.moment c.args.top c.requires.heap c.if-top-count.false c.if-entries-top.true

pub returns-then-top-count-2-clause-none : goal.returns-then-top-count-2-clause-none
returns-then-top-count-2-clause-none t c =
    let left : c.args.count ≤ 2 * c.args.top + 1 = omega (arith, c.if-top-count-2.true) in
    let right : c.args.count ≤ 2 * c.args.top + 2 = omega (arith, left) in
    none_below c.args.entries.now c.args.count c.args.moment c.args.top c.if-entries-top.false (none_past _ _ _ _ left) (none_past _ _ _ _ right)

pub returns-in-None-clause-some : goal.returns-in-None-clause-some
returns-in-None-clause-some t c = lowest_of_right _ c.args.count c.args.moment c.args.top c.first_due-right.result c.if-entries-top.false c.in-None.ensures.none c.first_due-right.ensures.some

pub returns-in-None-clause-none : goal.returns-in-None-clause-none
returns-in-None-clause-none t c = none_of_right _ c.args.count c.args.moment c.args.top c.first_due-right.result c.if-entries-top.false c.in-None.ensures.none c.first_due-right.ensures.none

pub returns-in-Some-clause-some : goal.returns-in-Some-clause-some
returns-in-Some-clause-some t c = lowest_of_parts _ c.args.count c.args.moment c.args.top c.in-Some.place c.lower.result c.first_due-right.result c.if-entries-top.false
    c.in-Some.ensures.some c.first_due-right.ensures.some c.first_due-right.ensures.none c.lower.ensures.either c.lower.ensures.one c.lower.ensures.other
