use Rattle.std.proofs.Common.{ap, ◌∙◌}
use Rattle.log_digest.specs.Numbers.{number_in}
use Rattle.log_digest.proofs.Stamps.{numbered_entry}
use Rattle.log_digest.proofs.numbers.Numbers.add.Goals as goal

pub returns-in_ok-put-in-Some-clause-log : goal.returns-in_ok-put-in-Some-clause-log
returns-in_ok-put-in-Some-clause-log c = λ moment past are long.
    numbered_entry past c.args.self.now c.put.new.self moment c.args.entry.now c.in-Out.to c.in-Out.datagram c.in-Out.context c.number_in.result c.in-Some.number c.of.result
    c.in-Out.is (c.number_in.ensures ∙ ap number_in c.bytes.ensures) c.in-Some.is c.of.ensures are c.in_ok-put-in-Some.ensures.more
