use Rattle.std.proofs.Common.{ℕ, Option, IfNone, IfSome, is_some, sym, ap, subst}
use Rattle.endpoint_model.specs.FlowTimes.{is_row_due}
use Rattle.session_table.specs.Inside.{NonePasses, IsFirst}
use Rattle.session_table.proofs.Rounds.{own_alone, own_stands, with_first}
use Rattle.session_table.proofs.kept.Kept.first_in_round.Goals as goal

pub first_due-requires-clause-names : goal.first_due-requires-clause-names
first_due-requires-clause-names c = c.requires.kept.seats.names

pub first_due-requires-clause-rises : goal.first_due-requires-clause-rises
first_due-requires-clause-rises c = c.requires.kept.rises

pub first_due-requires-clause-awaits : goal.first_due-requires-clause-awaits
first_due-requires-clause-awaits c = c.requires.kept.awaits

pub better-requires-clause-there : goal.better-requires-clause-there
better-requires-clause-there c = ap is_some c.in-Some.ensures.some.stands

pub better-requires-clause-best : goal.better-requires-clause-best
better-requires-clause-best c =
    let k = c.args.self.now in
    own_stands k.rows.things k.rows.generations k.keys.keys k.deadlines k.busy c.args.moment c.requires.kept.seats c.ranges.moment.fits c.due-own.result c.due-own.ensures.some c.due-own.ensures.none

pub returns-in-Some-clause-kept : goal.returns-in-Some-clause-kept
returns-in-Some-clause-kept c = record { seats = c.requires.kept.seats; rises = c.in-Some.ensures.rises; awaits = c.in-Some.ensures.awaits }

pub returns-in-Some-clause-none : goal.returns-in-Some-clause-none
returns-in-Some-clause-none c =
    let k = c.args.self.now in
    subst (λ (o : Option ℕ). IfNone o (NonePasses (is_row_due c.args.moment) k.rows)) (sym c.better.ensures)
    (with_first k.rows.things k.rows.generations k.keys.keys k.deadlines k.busy c.args.moment c.requires.kept.seats c.ranges.moment.fits c.due-own.result c.due-own.ensures.some c.due-own.ensures.none c.in-Some.slot c.in-Some.ensures.some).0

pub returns-in-Some-clause-some : goal.returns-in-Some-clause-some
returns-in-Some-clause-some c =
    let k = c.args.self.now in
    subst (λ (o : Option ℕ). IfSome o (IsFirst (is_row_due c.args.moment) k.rows)) (sym c.better.ensures)
    (with_first k.rows.things k.rows.generations k.keys.keys k.deadlines k.busy c.args.moment c.requires.kept.seats c.ranges.moment.fits c.due-own.result c.due-own.ensures.some c.due-own.ensures.none c.in-Some.slot c.in-Some.ensures.some).1

pub returns-in-None-clause-kept : goal.returns-in-None-clause-kept
returns-in-None-clause-kept c = record { seats = c.requires.kept.seats; rises = c.in-None.ensures.rises; awaits = c.in-None.ensures.awaits }

pub returns-in-None-clause-none : goal.returns-in-None-clause-none
returns-in-None-clause-none c =
    let k = c.args.self.now in
    (own_alone k.rows.things k.rows.generations k.keys.keys k.deadlines k.busy c.args.moment c.requires.kept.seats c.ranges.moment.fits c.due-own.result c.due-own.ensures.some c.due-own.ensures.none c.in-None.ensures.none).0

pub returns-in-None-clause-some : goal.returns-in-None-clause-some
returns-in-None-clause-some c =
    let k = c.args.self.now in
    (own_alone k.rows.things k.rows.generations k.keys.keys k.deadlines k.busy c.args.moment c.requires.kept.seats c.ranges.moment.fits c.due-own.result c.due-own.ensures.some c.due-own.ensures.none c.in-None.ensures.none).1
