use Rattle.endpoint.proofs.Extending.{row_added, row_stands, seen}
use Rattle.endpoint.proofs.Reaching.{reached_more}
use Rattle.endpoint.proofs.endpoint.Endpoint.add_row.Goals as goal

pub returns-clause-stands : goal.returns-clause-stands
returns-clause-stands c =
    seen _ _ _ _ c.self.view_is (
    row_stands c.self.inside.end c.add_row.new.self c.args.print c.args.addresses.now c.add_row.result
    (λ out. row_added c.self.inside.end c.add_row.new.self 0 c.args.print c.args.addresses.now c.add_row.result out
    c.add_row.ensures.ok c.add_row.ensures.refused c.add_row.ensures.memory c.add_row.ensures.err))

pub invariant_of-self : goal.invariant_of-self
invariant_of-self c =
    reached_more c.self.inside.end c.add_row.new.self _ c.self.invariant (
    row_stands c.self.inside.end c.add_row.new.self c.args.print c.args.addresses.now c.add_row.result
    (λ out. row_added c.self.inside.end c.add_row.new.self 0 c.args.print c.args.addresses.now c.add_row.result out
    c.add_row.ensures.ok c.add_row.ensures.refused c.add_row.ensures.memory c.add_row.ensures.err))
    tt
