use Rattle.log_events.proofs.Watching.{watch_first}
use Rattle.log_events.proofs.watch.EndWatch.new.Goals as goal

pub returns : goal.returns
returns c = λ secrets setup first.
    watch_first secrets setup c.new.result c.new-2.result c.new-3.result c.new-4.result c.new-5.result c.new.ensures.log (c.new-2.ensures.log setup first) c.new-3.ensures c.new-4.ensures (c.new-5.ensures.log secrets setup)
