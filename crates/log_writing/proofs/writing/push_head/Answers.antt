use Rattle.log_writing.specs.Written.{head_line}
use Rattle.log_writing.proofs.Lines.{head_added, head_is}
use Rattle.log_writing.proofs.writing.push_head.Goals as goal

pub returns : goal.returns
returns c = λ setup peers sessions generation secret cookie_secret cert.
    head_added c.args.text.now c.push_log.new.text c.push.new.self c.args.name.now _ (head_line c.args.name.now setup) (head_is c.args.name.now setup _ peers sessions generation secret cookie_secret cert) c.in_ok-push_log.ensures c.in_ok-push.ensures
