use Rattle.std.proofs.Common.{◌≤◌, arith}
use Rattle.endpoint_model.specs.Event.{own_of}
use Rattle.endpoint_model.specs.Views.{fact_in}
use Rattle.endpoint_laws.specs.Past.{facts_of, with_entry}
use Rattle.log_verdict.specs.Checks.{kept_with}
use Rattle.log_events.proofs.Keeping.{kept_few, kept_on}
use Rattle.log_events.proofs.Watching.{has_number, may_come, watch_more}
use Rattle.log_events.proofs.watch.EndWatch.add.Goals as goal

pub returns : goal.returns
returns c = λ secrets setup last call past rest is of line keyings begins.
    let may = may_come secrets setup last past c.args.self.now is call rest c.args.entry.now of line in
    let digest = c.in-Ok.ensures.log (own_of setup) last past is.digest may in
    let facts = facts_of (with_entry last c.args.entry.now past) in
    let next = kept_on (facts_of past) c.args.self.now.digest.roll is.digest.roll_is (fact_in c.args.entry.now) c.add.new.self.roll digest.roll_is c.args.self.now.kept c.keeps-before.result c.keeps-after.result is.kept_is c.keeps-before.ensures c.keeps-after.ensures in
    let few : kept_with facts ≤ c.peers.result = omega (arith, kept_few facts c.add.new.self.roll digest.roll_is, c.peers.ensures) in
    watch_more secrets setup last past c.args.self.now is call rest c.args.entry.now of line c.add.new.self c.add-4.new.self c.add-2.new.self c.state_in.new.nonces c.add-3.new.self c.kept_after-self.result
    digest
    (c.add-4.ensures.log setup last past is.generations)
    (c.in-Ok-add.ensures.log last past is.numbers (has_number secrets setup last past c.args.self.now is call rest c.args.entry.now of line))
    (c.in-Ok-state_in.ensures last past is.nonces)
    (c.in-Ok-add-2.ensures.log secrets setup (own_of setup) last past c.args.self.now.digest last is.contexts is.digest may keyings begins)
    (c.kept_after-self.ensures (kept_with facts) next few)
