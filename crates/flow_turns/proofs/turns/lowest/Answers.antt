use Rattle.std.proofs.Common.{◌<◌, ◌^◌, arith, rules}
use Rattle.flow_turns.proofs.Turning.{no_bit, low_bit}
use Rattle.flow_turns.proofs.turns.lowest.Goals as goal

pub returns-then-rest-eq0 : goal.returns-then-rest-eq0
returns-then-rest-eq0 c = no_bit c.args.word c.args.from c.if-rest-eq0.true

pub returns : goal.returns
returns c =
    let fits : c.args.word < 2 ^ 64 = search rules in
    low_bit c.args.word c.args.from fits (omega (arith, c.if-rest-eq0.false))
