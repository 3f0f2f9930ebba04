use Rattle.audit_text.proofs.LinesRead.{bad, memory, only, reads}
use Rattle.audit_text.proofs.reading.read_log_line.Goals as goal

pub returns-clause-reads : goal.returns-clause-reads
returns-clause-reads c = reads c.args.line.now c.find_line.result c.find_line.ensures

pub returns-clause-only : goal.returns-clause-only
returns-clause-only c = only c.args.line.now c.find_line.result c.find_line.ensures

pub returns-clause-bad : goal.returns-clause-bad
returns-clause-bad c = bad c.args.line.now c.find_line.result c.find_line.ensures

pub returns-clause-memory : goal.returns-clause-memory
returns-clause-memory c = memory c.args.line.now c.find_line.result c.find_line.ensures
