use Rattle.std.proofs.Common.{◌∙◌, ap}
use Rattle.log_values.specs.declared.log.EndLog.{EndLog}
use Rattle.log_values.specs.Events.{event_of, events_of, setup_of}
use Rattle.log_reading.specs.Gathered.{and_event}
use Rattle.log_reading.proofs.Grown.{logs_kept, logs_set, setups_kept, then_err, then_ok}
use Rattle.log_reading.proofs.gathered.add_event.Goals as goal

pub returns-clause-ok : goal.returns-clause-ok
returns-clause-ok c =
    let log = c.index_mut.result.now in
    then_ok c.push_event.result (λ e. logs_set (and_event (event_of c.args.event)) c.args.logs.now.items c.args.who c.push_event.new.log log (e ∙ ap (λ (x : EndLog). and_event (event_of c.args.event) (events_of x)) c.index_mut.ensures.value)) c.push_event.ensures.ok

pub returns-clause-err : goal.returns-clause-err
returns-clause-err c =
    let log = c.index_mut.result.now in
    then_err c.push_event.result (λ e. logs_kept c.args.logs.now.items c.args.who c.push_event.new.log log (e ∙ ap events_of c.index_mut.ensures.value)) c.push_event.ensures.err

pub returns-clause-setups : goal.returns-clause-setups
returns-clause-setups c =
    let log = c.index_mut.result.now in
    setups_kept c.args.logs.now.items c.args.who c.push_event.new.log log (c.push_event.ensures.setup ∙ ap setup_of c.index_mut.ensures.value)
