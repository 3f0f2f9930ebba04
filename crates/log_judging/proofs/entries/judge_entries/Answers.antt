use Rattle.std.proofs.Common.{length}
use Rattle.std.specs.Option.{option_copied}
use Rattle.log_judging.proofs.Entering.{count_stays, one_more, it_fails, all_pass}
use Rattle.log_judging.proofs.entries.judge_entries.Goals as goal

pub loop-rest-preserved : goal.loop-rest-preserved
loop-rest-preserved c = record {
  all =
      one_more c.args.secrets.now c.args.number c.args.scene.now (option_copied c.args.packet) c.args.entries.now c.args.watch.now c.args.nonces.now
      c.loop-rest.rest.now c.entry-item.result c.loop-rest.count c.loop-rest.watch c.loop-rest.way c.loop-rest.nonces c.in-len1-up.len_at_least c.entry-item.is c.loop-rest.invariant.all c.in-Ok-None.field-0
      (record { is = λ setup now e before past stated on. c.in-Ok-None.ensures.found setup now e before past stated on.scene_is on.reads on.here on.nonces_are })
      c.judge_entry.new.watch c.judge_entry.new.way c.judge_entry.new.nonces c.in-Ok-None.field-0-is
      (λ none. record { is = λ setup now e before past stated on. c.in-Ok-None.ensures.goes_on setup now e before past stated on.scene_is on.reads on.here on.nonces_are none });
  small = count_stays c.loop-rest.rest.now c.loop-rest.count (length c.args.entries.now) c.in-len1-up.len_at_least c.loop-rest.invariant.small;
}

pub returns-in-Ok-Some : goal.returns-in-Ok-Some
returns-in-Ok-Some c =
    it_fails c.args.secrets.now c.args.number c.args.scene.now (option_copied c.args.packet) c.args.entries.now c.args.watch.now c.args.nonces.now
    c.loop-rest.rest.now c.entry-item.result c.loop-rest.count c.loop-rest.watch c.loop-rest.way c.loop-rest.nonces c.in-len1-up.len_at_least c.entry-item.is c.loop-rest.invariant.all c.in-Ok-Some.field-0
    (record { is = λ setup now e before past stated on. c.in-Ok-Some.ensures.found setup now e before past stated on.scene_is on.reads on.here on.nonces_are })
    c.in-Ok-Some.fault c.in-Ok-Some.field-0-is

pub returns : goal.returns
returns c =
    all_pass c.args.secrets.now c.args.number c.args.scene.now (option_copied c.args.packet) c.args.entries.now c.args.watch.now c.args.nonces.now
    c.loop-rest.rest.now c.loop-rest.count c.loop-rest.watch c.loop-rest.way c.loop-rest.nonces c.in_default.len_below c.loop-rest.invariant.all
