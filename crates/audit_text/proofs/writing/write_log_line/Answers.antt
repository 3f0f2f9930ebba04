use Rattle.audit_text.specs.Grammar.{line_text}
use Rattle.audit_text.proofs.LinesRead.{written_back}
use Rattle.audit_text.proofs.Written.{line_written}
use Rattle.audit_text.proofs.writing.write_log_line.Goals as goal

pub returns-clause-text : goal.returns-clause-text
returns-clause-text c = line_written c.new-text.result c.push_line.new.text c.push.new.self c.bytes.result.now c.in_ok-message.message (line_text c.args.line.now) c.new-text.ensures c.in_ok-push_line.ensures c.in_ok-push.ensures c.bytes.ensures c.in_ok-message.ensures

pub returns-clause-back : goal.returns-clause-back
returns-clause-back c = λ w. written_back c.args.line.now c.in_ok-message.message
    (line_written c.new-text.result c.push_line.new.text c.push.new.self c.bytes.result.now c.in_ok-message.message (line_text c.args.line.now) c.new-text.ensures c.in_ok-push_line.ensures c.in_ok-push.ensures c.bytes.ensures c.in_ok-message.ensures) w
