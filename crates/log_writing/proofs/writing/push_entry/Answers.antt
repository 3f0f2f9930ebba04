use Rattle.log_writing.specs.Written.{written_entry}
use Rattle.log_writing.proofs.Lines.{entry_added}
use Rattle.log_writing.proofs.writing.push_entry.Goals as goal

pub returns : goal.returns
returns c = entry_added c.args.text.now c.push.new.self c.push_told.new.text c.push-2.new.self (written_entry c.args.entry.now) (cc) c.in_ok-push.ensures c.in_ok-push_told.ensures c.in_ok-push-2.ensures
