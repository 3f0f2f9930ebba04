use Rattle.std.proofs.Common.{None, sym, ap, ◌∙◌}
use Rattle.endpoint_model.specs.Event.{Call, moment_at, open_in, seek_in}
use Rattle.endpoint_laws.specs.Past.{opened_tag, sought_tag}
use Rattle.log_digest.specs.Changes.{drawn_in}
use Rattle.log_events.proofs.Watching.{watch_begun}
use Rattle.log_events.proofs.watch.EndWatch.begin.Goals as goal

pub returns : goal.returns
returns c = λ secrets setup last past e is call at none.
    watch_begun secrets setup last past c.args.self.now is (moment_at last e) e c.begin.new.self c.begin-2.new.self
    (c.begin.ensures.log last past e is.digest at (ap (λ (it : Call). drawn_in (seek_in it)) call ∙ sym c.drawn_by-drawn.ensures))
    (c.begin-2.ensures.log secrets setup past (moment_at last e) e is.contexts
    (ap (λ (it : Call). opened_tag (open_in it) None) call ∙ sym (c.opened_by-opened.ensures c.args.nonce.now))
    (ap (λ (it : Call). sought_tag (seek_in it) None) call ∙ sym (c.sought_by-sought.ensures c.args.nonce.now)) none)
