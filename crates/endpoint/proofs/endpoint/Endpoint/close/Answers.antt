use Rattle.endpoint.proofs.Extending.{closed, close_stands, seen}
use Rattle.endpoint.proofs.Reaching.{reached_more}
use Rattle.endpoint.proofs.endpoint.Endpoint.close.Goals as goal

pub returns-clause-stands : goal.returns-clause-stands
returns-clause-stands c =
    seen _ _ _ _ c.self.view_is (
    close_stands c.self.inside.end c.close_session.new.end c.args.near c.args.moment c.close_session.result c.args.out.now c.close_session.new.out
    (closed c.self.inside.end c.close_session.new.end c.args.moment c.args.near c.close_session.result c.args.out.now c.close_session.new.out
    c.close_session.ensures.ok c.close_session.ensures.refused c.close_session.ensures.memory c.close_session.ensures.err))

pub invariant_of-self : goal.invariant_of-self
invariant_of-self c =
    reached_more c.self.inside.end c.close_session.new.end _ c.self.invariant (
    close_stands c.self.inside.end c.close_session.new.end c.args.near c.args.moment c.close_session.result c.args.out.now c.close_session.new.out
    (closed c.self.inside.end c.close_session.new.end c.args.moment c.args.near c.close_session.result c.args.out.now c.close_session.new.out
    c.close_session.ensures.ok c.close_session.ensures.refused c.close_session.ensures.memory c.close_session.ensures.err))
    tt
