use Rattle.std.proofs.Common.{inl}
use Rattle.log_facts.proofs.Joining.{by_first, by_second}
use Rattle.log_facts.proofs.lines.started.Goals as goal

pub returns-then-started : goal.returns-then-started
returns-then-started c = λ secrets setup last past plain n is comes counted.
    by_first _ (inl (c.started.ensures.yes last past is c.if-started.true))

pub returns : goal.returns
returns c = λ secrets setup last past plain n is comes counted.
    by_second _ _ c.started.result c.started_by_hello.result (c.started.ensures.no last past is) c.if-started.false
    (c.started_by_hello.ensures secrets setup last past c.args.nonce.now plain n is comes counted)
