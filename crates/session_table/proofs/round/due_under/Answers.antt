use Rattle.std.proofs.Common.{sym, ◌∙◌}
use Rattle.session_table.proofs.Rounds as rounds
use Rattle.session_table.proofs.round.due_under.Goals as goal

pub index-requires : goal.index-requires
index-requires c = rounds.key_stands c.args.rows.now.things c.args.rows.now.generations c.args.keys.now.keys c.requires c.args.moment c.args.near c.in-Some.key c.in-Some.ensures

pub returns-then-is_row_due-clause-some : goal.returns-then-is_row_due-clause-some
returns-then-is_row_due-clause-some c =
    rounds.due_under c.args.rows.now.things c.args.rows.now.generations c.args.keys.now.keys c.requires c.args.moment c.args.near c.in-Some.key c.in-Some.ensures c.index.result.now c.index.ensures (sym c.is_row_due.ensures ∙ c.if-is_row_due.true)

pub returns-else-is_row_due-clause-none : goal.returns-else-is_row_due-clause-none
returns-else-is_row_due-clause-none c =
    rounds.idle_under c.args.rows.now.things c.args.rows.now.generations c.args.keys.now.keys c.requires c.args.moment c.args.near c.in-Some.key c.in-Some.ensures c.index.result.now c.index.ensures (sym c.is_row_due.ensures ∙ c.if-is_row_due.false)

pub returns-in-None-clause-none : goal.returns-in-None-clause-none
returns-in-None-clause-none c = rounds.none_under c.args.rows.now.things c.args.rows.now.generations c.args.keys.now.keys c.requires c.args.moment c.args.near c.in-None.ensures
