use Rattle.endpoint.proofs.Extending.{unsought, unseek_stands, seen}
use Rattle.endpoint.proofs.Reaching.{reached_more}
use Rattle.endpoint.proofs.endpoint.Endpoint.unseek.Goals as goal

pub returns-clause-stands : goal.returns-clause-stands
returns-clause-stands c =
    seen _ _ _ _ c.self.view_is (
    unseek_stands c.self.inside.end c.give_up_search.new.end c.args.near c.give_up_search.result c.args.out.now c.give_up_search.new.out
    (unsought c.self.inside.end c.give_up_search.new.end 0 c.args.near c.give_up_search.result c.args.out.now c.give_up_search.new.out
    c.give_up_search.ensures.ok c.give_up_search.ensures.refused c.give_up_search.ensures.memory c.give_up_search.ensures.err))

pub invariant_of-self : goal.invariant_of-self
invariant_of-self c =
    reached_more c.self.inside.end c.give_up_search.new.end _ c.self.invariant (
    unseek_stands c.self.inside.end c.give_up_search.new.end c.args.near c.give_up_search.result c.args.out.now c.give_up_search.new.out
    (unsought c.self.inside.end c.give_up_search.new.end 0 c.args.near c.give_up_search.result c.args.out.now c.give_up_search.new.out
    c.give_up_search.ensures.ok c.give_up_search.ensures.refused c.give_up_search.ensures.memory c.give_up_search.ensures.err))
    tt
