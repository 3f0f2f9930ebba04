use Rattle.std.proofs.Common.{◌≡◌, Err, IfSome, subst}
use Rattle.endpoint_model.specs.Effects.{open_refusal}
use Rattle.endpoint_model.specs.State.{State, at_moment}
use Rattle.endpoint.proofs.Extending.{opened, open_stands, seen}
use Rattle.endpoint.proofs.Reaching.{reached_more}
use Rattle.endpoint.proofs.endpoint.Endpoint.open.Goals as goal

pub returns-clause-refused : goal.returns-clause-refused
returns-clause-refused c =
    subst (λ (s : State). IfSome (open_refusal (at_moment s c.args.moment) c.args.epd.now.print c.args.candidates.now) (λ refusal. c.open_attempt.result ≡ Err refusal)) c.self.view_is c.open_attempt.ensures.refused

pub returns-clause-stands : goal.returns-clause-stands
returns-clause-stands c =
    seen _ _ _ _ c.self.view_is (
    open_stands c.self.inside.end c.open_attempt.new.end c.args.moment c.args.epd.now.print c.args.candidates.now c.args.draws.now c.open_attempt.result c.args.out.now c.open_attempt.new.out
    (opened c.self.inside.end c.open_attempt.new.end c.args.moment c.args.epd.now.print c.args.candidates.now c.args.draws.now c.open_attempt.result c.args.out.now c.open_attempt.new.out
    c.open_attempt.ensures.number c.open_attempt.ensures.ok c.open_attempt.ensures.refused c.open_attempt.ensures.memory c.open_attempt.ensures.err))

pub invariant_of-self : goal.invariant_of-self
invariant_of-self c =
    reached_more c.self.inside.end c.open_attempt.new.end _ c.self.invariant (
    open_stands c.self.inside.end c.open_attempt.new.end c.args.moment c.args.epd.now.print c.args.candidates.now c.args.draws.now c.open_attempt.result c.args.out.now c.open_attempt.new.out
    (opened c.self.inside.end c.open_attempt.new.end c.args.moment c.args.epd.now.print c.args.candidates.now c.args.draws.now c.open_attempt.result c.args.out.now c.open_attempt.new.out
    c.open_attempt.ensures.number c.open_attempt.ensures.ok c.open_attempt.ensures.refused c.open_attempt.ensures.memory c.open_attempt.ensures.err))
    (c.are_thirty_two.ensures, c.are_sized.ensures.nonce, c.are_sized.ensures.word, c.are_sized.ensures.tag)
