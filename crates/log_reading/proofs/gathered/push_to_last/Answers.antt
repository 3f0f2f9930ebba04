use Rattle.std.proofs.Common.{◌-◌, length}
use Rattle.log_reading.proofs.Grown.{events_kept, last_set, then_err, then_ok}
use Rattle.log_reading.proofs.gathered.push_to_last.Goals as goal

pub returns-clause-ok : goal.returns-clause-ok
returns-clause-ok c =
    then_ok c.push_entry.result (last_set c.args.entry c.args.events.now c.push_entry.new.event c.index-events-count.result) c.push_entry.ensures.ok

pub returns-clause-err : goal.returns-clause-err
returns-clause-err c =
    then_err c.push_entry.result (events_kept c.args.events.now (length c.args.events.now - 1) c.push_entry.new.event c.index-events-count.result) c.push_entry.ensures.err
