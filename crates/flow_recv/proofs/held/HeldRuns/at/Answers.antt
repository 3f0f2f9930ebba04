use Rattle.std.proofs.Common.{◌∙◌, ap}
use Rattle.flow_recv.specs.Keyed.{run_at}
use Rattle.std.specs.Map.{values_of}
use Rattle.flow_recv.proofs.Finding.{get_is}
use Rattle.flow_recv.proofs.held.HeldRuns.at.Goals as goal

pub returns : goal.returns
returns c =
    let es = c.self.inside.map.entries in
    c.get.ensures.value ∙ (get_is c.args.first es (values_of es) c.self.invariant.keyed ∙ ap (run_at c.args.first) c.self.view_is)
