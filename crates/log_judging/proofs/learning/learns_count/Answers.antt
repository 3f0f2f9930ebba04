use Rattle.std.proofs.Common.{sym, ◌∙◌}
use Rattle.endpoint_model.specs.Event.{learn_in}
use Rattle.log_values.specs.Events.{call_of}
use Rattle.log_judging.proofs.Counting.{none_counts}
use Rattle.log_judging.proofs.learning.learns_count.Goals as goal

pub returns-in-None : goal.returns-in-None
returns-in-None c =
    let event = c.args.event.now in
    none_counts c.args.secrets.now (learn_in (call_of event.nonce event.call)) event.entries.items (sym (c.learnt_by.ensures event.nonce) ∙ c.in-None.is)
