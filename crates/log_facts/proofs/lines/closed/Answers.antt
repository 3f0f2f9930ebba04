use Rattle.log_values.specs.Events.{call_of}
use Rattle.log_facts.proofs.Joining.{by_first, closed_tells, in_time}
use Rattle.log_facts.proofs.lines.closed.Goals as goal

pub returns-then-closed_by_time : goal.returns-then-closed_by_time
returns-then-closed_by_time c = λ secrets setup now past nonce plain arrival is comes taken.
    by_first _ (in_time secrets setup now (call_of nonce c.args.call.now) past c.args.near (c.closed_by_time.ensures.yes nonce now past is c.if-closed_by_time.true))

pub returns : goal.returns
returns c = λ secrets setup now past nonce plain arrival is comes taken.
    closed_tells secrets setup now (call_of nonce c.args.call.now) past c.args.near c.closed_by_time.result c.closed_by_answer.result (c.closed_by_time.ensures.no nonce now past is) c.if-closed_by_time.false
    (c.closed_by_answer.ensures secrets setup now past nonce plain arrival is comes taken)
