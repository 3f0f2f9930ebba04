use Rattle.std.proofs.Common.{ℕ, subst, ◌∙◌}
use Rattle.endpoint_model.specs.Event.{moment_at}
use Rattle.log_contexts.specs.Contexts.{HearsThere}
use Rattle.log_events.proofs.Watching.{given_draws_none, watch_begun}
use Rattle.log_events.proofs.watch.EndWatch.begin_in.Goals as goal

pub returns-clause-hears : goal.returns-clause-hears
returns-clause-hears c = λ secrets setup last past e datagram is at given there.
    let digest = c.begin.ensures.log last past e is.digest at (given_draws_none e datagram given) in
    subst (λ (now : ℕ). HearsThere secrets setup past now e c.args.given.now.near c.args.given.now.thing c.args.given.now.generation datagram c.begin_in.new.self c.begin_in.result) (c.moment-now.ensures ∙ digest.moment_is)
    (c.begin_in.ensures.log secrets setup last past c.args.self.now.digest e c.args.given.now.thing c.args.given.now.generation datagram is.contexts is.digest given there)

pub returns-clause-log : goal.returns-clause-log
returns-clause-log c = λ secrets setup last past e datagram is at given there.
    let digest = c.begin.ensures.log last past e is.digest at (given_draws_none e datagram given) in
    let hears = returns-clause-hears c secrets setup last past e datagram is at given there in
    watch_begun secrets setup last past c.args.self.now is (moment_at last e) e c.begin.new.self c.begin_in.new.self digest hears.log
