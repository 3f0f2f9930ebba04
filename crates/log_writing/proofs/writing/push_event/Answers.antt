use Rattle.std.proofs.Common.{◌++◌, List, ap, ◌∙◌}
use Rattle.audit_text.specs.declared.line.LogLine.{LogLine}
use Rattle.log_writing.specs.Written.{said, text_of}
use Rattle.log_writing.proofs.Lines.{event_added, lines_are}
use Rattle.log_writing.proofs.writing.push_event.Goals as goal

pub returns : goal.returns
returns c = λ e nonce call entries.
    event_added c.args.text.now c.push_front.new.text c.push_call.new.text c.push.new.self c.push_entries.new.text c.args.name.now c.args.nonce.now c.args.moment (said c.args.call.now) c.args.entries.now (c.in_ok-push_front.ensures (said c.args.call.now)) c.in_ok-push_call.ensures c.in_ok-push.ensures c.in_ok-push_entries.ensures
    ∙ ap (λ (lines : List LogLine). c.args.text.now ++ text_of lines) (lines_are c.args.name.now c.args.moment e c.args.nonce.now (said c.args.call.now) c.args.entries.now nonce call entries)
