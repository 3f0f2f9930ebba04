use Rattle.std.proofs.Common.{◌∙◌, ap}
use Rattle.log_values.specs.declared.log.EndLog.{EndLog}
use Rattle.log_values.specs.Events.{events_of, setup_of}
use Rattle.log_reading.specs.Gathered.{to_last}
use Rattle.log_reading.proofs.Grown.{logs_kept, logs_set, setups_kept, then_err, then_ok}
use Rattle.log_reading.proofs.gathered.add_entry.Goals as goal

pub returns-clause-ok : goal.returns-clause-ok
returns-clause-ok c =
    let log = c.index_mut.result.now in
    then_ok c.extend_log.result (λ e. logs_set (to_last c.args.entry) c.args.logs.now.items c.args.who c.extend_log.new.log log (e ∙ ap (λ (x : EndLog). to_last c.args.entry (events_of x)) c.index_mut.ensures.value)) c.extend_log.ensures.ok

pub returns-clause-err : goal.returns-clause-err
returns-clause-err c =
    let log = c.index_mut.result.now in
    then_err c.extend_log.result (λ e. logs_kept c.args.logs.now.items c.args.who c.extend_log.new.log log (e ∙ ap events_of c.index_mut.ensures.value)) c.extend_log.ensures.err

pub returns-clause-setups : goal.returns-clause-setups
returns-clause-setups c =
    let log = c.index_mut.result.now in
    setups_kept c.args.logs.now.items c.args.who c.extend_log.new.log log (c.extend_log.ensures.setup ∙ ap setup_of c.index_mut.ensures.value)
