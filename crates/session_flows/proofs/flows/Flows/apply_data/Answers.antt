use Rattle.std.proofs.Common.{◌≡◌, Some, sym, ◌∙◌}
use Rattle.session_flows.specs.Places.{index_from}
use Rattle.session_flows.proofs.Indexed.{is_at}
use Rattle.session_flows.proofs.flows.Flows.apply_data.Goals as goal

pub take_at-requires-clause-at : goal.take_at-requires-clause-at
take_at-requires-clause-at c = sym c.requires.judged.at ∙ c.in-Some.is

pub take_at-requires-clause-within : goal.take_at-requires-clause-within
take_at-requires-clause-within c =
    let place : index_from 0 c.args.chunk.now.flow c.args.self.now.taking ≡ Some c.in-Some.at = sym c.requires.judged.at ∙ c.in-Some.is in
    (is_at c.args.chunk.now.flow c.args.self.now.taking c.in-Some.at place).within
