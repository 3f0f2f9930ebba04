use Rattle.std.proofs.Common.{sym, ◌∙◌, ap}
use Rattle.startup.specs.Attempts.{end_fact, after_end}
use Rattle.startup.specs.State.{StartupState}
use Rattle.startup.proofs.Startups.{session_end, session_left, session_end_is_kept}
use Rattle.startup.proofs.startup.Startup.end.Goals as goal

pub invariant_of-self : goal.invariant_of-self
invariant_of-self c =
    let i = c.self.inside in
    session_end_is_kept i.cert i.print i.cookies i.peers i.attempts.attempts i.kept.keyings c.self.invariant c.args.peer.now c.args.why (sym c.holds_session.ensures ∙ c.if-not-holds_session.false)
    c.end.new.self c.forget.new.self.keyings c.end.result c.end.ensures.fact c.end.ensures.ledger c.forget.ensures

pub returns-clause-fact : goal.returns-clause-fact
returns-clause-fact c =
    let i = c.self.inside in
    session_end i.cert i.print i.cookies i.peers i.attempts.attempts i.kept.keyings c.self.invariant c.args.peer.now c.args.why (sym c.holds_session.ensures ∙ c.if-not-holds_session.false)
    c.end.new.self c.forget.new.self.keyings c.end.result c.end.ensures.fact c.end.ensures.ledger c.forget.ensures
    ∙ ap (λ (t : StartupState). end_fact t c.args.peer.now c.args.why) c.self.view_is

pub returns-clause-after : goal.returns-clause-after
returns-clause-after c =
    let i = c.self.inside in
    session_left i.cert i.print i.cookies i.peers i.attempts.attempts i.kept.keyings c.self.invariant c.args.peer.now c.args.why (sym c.holds_session.ensures ∙ c.if-not-holds_session.false)
    c.end.new.self c.forget.new.self.keyings c.end.result c.end.ensures.fact c.end.ensures.ledger c.forget.ensures
    ∙ ap (λ (t : StartupState). after_end t c.args.peer.now c.args.why) c.self.view_is
