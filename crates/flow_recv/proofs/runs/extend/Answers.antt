use Rattle.std.proofs.Common.{[], refl, ◌∙◌}
use Rattle.rtmfp_data_chunks.specs.Runs.{single}
use Rattle.flow_recv.proofs.Joining.{on_ok}
use Rattle.flow_recv.proofs.Placing.{extended_one, extended_both, neighbours_apart}
use Rattle.flow_recv.proofs.runs.extend.Goals as goal

pub returns-in_default-clause-added : goal.returns-in_default-clause-added
returns-in_default-clause-added c =
    on_ok c.append.result (λ j. j ∙ extended_one c.args.runs.now (single c.args.number c.args.part c.args.bytes.now) c.args.first c.requires.order c.requires.fits c.in_default.ensures) c.append.ensures.appended

pub join-requires-clause-apart : goal.join-requires-clause-apart
join-requires-clause-apart c = neighbours_apart c.args.runs.now (single c.args.number c.args.part []) c.args.first c.in-Some.later refl c.requires.order c.requires.fits c.in-Some.ensures

pub returns-clause-added : goal.returns-clause-added
returns-clause-added c =
    let one = single c.args.number c.args.part c.args.bytes.now in
    on_ok c.join.result (λ j. extended_both c.args.runs.now c.join.new.self one c.args.first c.in-Some.later refl c.requires.order c.requires.free c.requires.fits c.in-Some.ensures j) c.join.ensures.joined
