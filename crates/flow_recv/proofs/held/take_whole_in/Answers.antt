use Rattle.std.proofs.Common.{◌≡◌, false, [], sym, ◌∙◌}
use Rattle.std.specs.Map.{values_of, lookup}
use Rattle.rtmfp_data_chunks.specs.Runs.{is_whole}
use Rattle.rtmfp_data_chunks.proofs.Keys.{is_key}
use Rattle.flow_recv.specs.Receiver.{first_of, without_first}
use Rattle.flow_recv.specs.Keyed.{IsKept}
use Rattle.flow_recv.proofs.Keeping.{kept_unlisted, no_whole, none_listed}
use Rattle.flow_recv.proofs.held.take_whole_in.Goals as goal

pub returns-in_default-clause-rest : goal.returns-in_default-clause-rest
returns-in_default-clause-rest c =
    let runs = values_of c.args.map.now.entries in
    sym (no_whole runs (none_listed runs c.in_default.ensures)).1

parts : (c : goal.After-remove) → IsKept false c.remove.new.self.entries [] × (values_of c.remove.new.self.entries ≡ without_first is_whole (values_of c.args.map.now.entries))
    × (lookup (is_key c.in-Some.first) c.args.map.now.entries ≡ first_of is_whole (values_of c.args.map.now.entries))
parts c = kept_unlisted c.args.map.now.entries c.remove.new.self.entries c.in-Some.first c.requires c.remove.ensures.ordered c.remove.ensures.entries c.in-Some.ensures

pub returns-clause-run : goal.returns-clause-run
returns-clause-run c = c.remove.ensures.value ∙ (parts c).2

pub returns-clause-rest : goal.returns-clause-rest
returns-clause-rest c = (parts c).1

pub returns-clause-kept : goal.returns-clause-kept
returns-clause-kept c = (parts c).0
