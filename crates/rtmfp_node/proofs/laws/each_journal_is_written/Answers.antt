use Rattle.rtmfp_node.proofs.Journaling.{each_journal_is_written}
use Rattle.rtmfp_node.proofs.laws.each_journal_is_written.Goals as goal

pub returns : goal.returns
returns c = each_journal_is_written
