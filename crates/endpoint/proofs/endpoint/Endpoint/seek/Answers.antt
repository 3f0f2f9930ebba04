use Rattle.std.proofs.Common.{◌≡◌, Err, IfSome, subst}
use Rattle.endpoint_model.specs.Effects.{seek_refusal}
use Rattle.endpoint_model.specs.State.{State, at_moment}
use Rattle.endpoint.proofs.Extending.{searched, seek_stands, seen}
use Rattle.endpoint.proofs.Reaching.{reached_more}
use Rattle.endpoint.proofs.endpoint.Endpoint.seek.Goals as goal

pub returns-clause-refused : goal.returns-clause-refused
returns-clause-refused c =
    subst (λ (s : State). IfSome (seek_refusal (at_moment s c.args.moment) c.args.candidates.now) (λ refusal. c.search_for.result ≡ Err refusal)) c.self.view_is c.search_for.ensures.refused

pub returns-clause-stands : goal.returns-clause-stands
returns-clause-stands c =
    seen _ _ _ _ c.self.view_is (
    seek_stands c.self.inside.end c.search_for.new.end c.args.moment c.args.name.now c.args.candidates.now c.args.draws.now c.search_for.result c.args.out.now c.search_for.new.out
    (searched c.self.inside.end c.search_for.new.end c.args.moment c.args.name.now c.args.candidates.now c.args.draws.now c.search_for.result c.args.out.now c.search_for.new.out
    c.search_for.ensures.near c.search_for.ensures.ok c.search_for.ensures.refused c.search_for.ensures.memory c.search_for.ensures.err))

pub invariant_of-self : goal.invariant_of-self
invariant_of-self c =
    reached_more c.self.inside.end c.search_for.new.end _ c.self.invariant (
    seek_stands c.self.inside.end c.search_for.new.end c.args.moment c.args.name.now c.args.candidates.now c.args.draws.now c.search_for.result c.args.out.now c.search_for.new.out
    (searched c.self.inside.end c.search_for.new.end c.args.moment c.args.name.now c.args.candidates.now c.args.draws.now c.search_for.result c.args.out.now c.search_for.new.out
    c.search_for.ensures.near c.search_for.ensures.ok c.search_for.ensures.refused c.search_for.ensures.memory c.search_for.ensures.err))
    (c.is_service_name.ensures, c.are_sized.ensures.nonce, c.are_sized.ensures.word, c.are_sized.ensures.tag)
