use Rattle.keyed_slab.proofs.Seated.{none_kept}
use Rattle.session_table.specs.Inside.{due_from, may_be_due_of}
use Rattle.session_table.specs.Table.{near_of}
use Rattle.session_table.proofs.Rounds.{empty_rises, ended_awaits}
use Rattle.session_table.proofs.kept.Kept.new.Goals as goal

pub returns-clause-kept : goal.returns-clause-kept
returns-clause-kept c = record {
  seats = none_kept near_of due_from may_be_due_of _ _ _ _ _ c.new.ensures.things c.new-2.ensures c.new-3.ensures c.new-4.ensures;
  rises = empty_rises _ _ c.new-5.ensures.nears;
  awaits = ended_awaits _ c.new-5.result c.new-5.ensures.moment;
}
