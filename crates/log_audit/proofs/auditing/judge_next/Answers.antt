use Rattle.std.proofs.Common.{refl, length}
use Rattle.std.proofs.lemmas.Option.{slice_get_read}
use Rattle.log_values.specs.Events.{event_of}
use Rattle.log_verdict.specs.Told.{setups_of}
use Rattle.log_audit.proofs.Histories.{setup_there}
use Rattle.log_audit.proofs.Keeping.{ends_go_on}
use Rattle.log_audit.proofs.auditing.judge_next.Goals as goal

pub returns-clause-judged : goal.returns-clause-judged
returns-clause-judged c = λ earlier are together number.
    let ends = c.args.ends.now.items in
    c.judge_at.ensures.judged (setups_of c.args.logs.now) c.args.who earlier (setup_there c.args.logs.now c.args.who c.index-logs-who.result c.requires.log c.index-logs-who.is)
    (are.each c.args.who c.index_mut.result.now (slice_get_read ends (length ends) c.args.who c.index_mut.result.now refl c.requires.end c.index_mut.ensures.value)) together number

pub returns-clause-goes_on : goal.returns-clause-goes_on
returns-clause-goes_on c = λ earlier are together number.
    let ends = c.args.ends.now.items in
    ends_go_on c.args.secrets.now (setups_of c.args.logs.now) (record { who = c.args.who; event = event_of c.args.event.now }) earlier c.judge_at.result ends c.judge_at.new.end c.judge_at.new.all c.requires.end are
    (c.judge_at.ensures.goes_on (setups_of c.args.logs.now) c.args.who earlier (setup_there c.args.logs.now c.args.who c.index-logs-who.result c.requires.log c.index-logs-who.is)
    (are.each c.args.who c.index_mut.result.now (slice_get_read ends (length ends) c.args.who c.index_mut.result.now refl c.requires.end c.index_mut.ensures.value)) together number)
