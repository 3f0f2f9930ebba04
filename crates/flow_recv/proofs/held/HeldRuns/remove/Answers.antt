use Rattle.std.proofs.Common.{◌≡◌, ◌∙◌, ap}
use Rattle.std.specs.Map.{values_of}
use Rattle.flow_recv.specs.Keyed.{run_at, without_run, IsKept}
use Rattle.flow_recv.proofs.Keeping.{kept_without}
use Rattle.flow_recv.proofs.Finding.{get_is}
use Rattle.flow_recv.proofs.held.HeldRuns.remove.Goals as goal

both : (c : goal.After-remove-2) → IsKept c.self.inside.indexed c.remove-2.new.self.entries c.remove.new.self.keys × (values_of c.remove-2.new.self.entries ≡ without_run c.args.first (values_of c.self.inside.map.entries))
both c =
    let i = c.self.inside in
    kept_without i.indexed i.map.entries c.remove-2.new.self.entries i.whole.keys c.remove.new.self.keys c.args.first c.self.invariant c.remove-2.ensures.ordered c.remove-2.ensures.entries c.remove.ensures.keys

pub invariant_of-self : goal.invariant_of-self
invariant_of-self c = (both c).0

pub returns-clause-run : goal.returns-clause-run
returns-clause-run c =
    let es = c.self.inside.map.entries in
    c.remove-2.ensures.value ∙ (get_is c.args.first es (values_of es) c.self.invariant.keyed ∙ ap (run_at c.args.first) c.self.view_is)

pub returns-clause-rest : goal.returns-clause-rest
returns-clause-rest c = (both c).1 ∙ ap (without_run c.args.first) c.self.view_is
