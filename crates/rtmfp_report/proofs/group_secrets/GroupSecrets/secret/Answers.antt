use Rattle.std.proofs.Common.{◌^◌, rules, arith}
use Rattle.rtmfp_report.proofs.Secrets.{counted_is, first_is, next_is, none_is}
use Rattle.rtmfp_report.proofs.group_secrets.GroupSecrets.secret.Goals as goal

pub returns-in-Counted : goal.returns-in-Counted
returns-in-Counted c = counted_is c.args.self.now c.args.generation c.counted_secret.result c.in-Counted.is (omega arith) c.counted_secret.ensures

pub returns-then-generation-eq0 : goal.returns-then-generation-eq0
returns-then-generation-eq0 c = first_is c.args.self.now c.in-Given.first c.in-Given.next c.args.generation c.in-Given.is (search rules)

pub returns-then-generation-eq1 : goal.returns-then-generation-eq1
returns-then-generation-eq1 c = next_is c.args.self.now c.in-Given.first c.in-Given.next c.args.generation c.in-Given.is (search rules)

pub returns-else-generation-eq1 : goal.returns-else-generation-eq1
returns-else-generation-eq1 c =
    none_is c.args.self.now c.in-Given.first c.in-Given.next c.args.generation c.in-Given.is (search rules) (search rules)
