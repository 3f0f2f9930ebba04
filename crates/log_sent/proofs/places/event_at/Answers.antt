use Rattle.log_sent.proofs.Placed.{in_the_log, in_no_log}
use Rattle.log_sent.proofs.places.event_at.Goals as goal

pub returns-in-Some-clause-there : goal.returns-in-Some-clause-there
returns-in-Some-clause-there c =
    let at = in_the_log c.args.logs.now c.args.who c.args.at c.in-Some.log c.as_slice.result.now c.get-in-Some.result c.in-Some.ensures.lookup c.as_slice.ensures.value c.get-in-Some.ensures.lookup in at.there

pub returns-in-Some-clause-event : goal.returns-in-Some-clause-event
returns-in-Some-clause-event c =
    let at = in_the_log c.args.logs.now c.args.who c.args.at c.in-Some.log c.as_slice.result.now c.get-in-Some.result c.in-Some.ensures.lookup c.as_slice.ensures.value c.get-in-Some.ensures.lookup in at.event

pub returns-in-Some-clause-none : goal.returns-in-Some-clause-none
returns-in-Some-clause-none c =
    let at = in_the_log c.args.logs.now c.args.who c.args.at c.in-Some.log c.as_slice.result.now c.get-in-Some.result c.in-Some.ensures.lookup c.as_slice.ensures.value c.get-in-Some.ensures.lookup in at.none

pub returns-in-None-clause-none : goal.returns-in-None-clause-none
returns-in-None-clause-none c = λ e. in_no_log c.args.logs.now c.args.who c.args.at c.in-None.ensures.lookup
