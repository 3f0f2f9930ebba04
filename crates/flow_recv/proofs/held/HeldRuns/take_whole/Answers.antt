use Rattle.std.proofs.Common.{◌≡◌, true, ◌∙◌, ap, sym, rules}
use Rattle.std.specs.Map.{values_of, lookup}
use Rattle.rtmfp_data_chunks.specs.Runs.{is_whole}
use Rattle.flow_recv.specs.Receiver.{first_of, without_first}
use Rattle.flow_recv.specs.Keyed.{IsKept}
use Rattle.rtmfp_data_chunks.proofs.Keys.{is_key}
use Rattle.flow_recv.proofs.Keeping.{kept_taken, no_whole, no_keys}
use Rattle.flow_recv.proofs.held.HeldRuns.take_whole.Goals as goal

pub returns-in_default-clause-run : goal.returns-in_default-clause-run
returns-in_default-clause-run c =
    let i = c.self.inside in
    let t : c.self.inside.indexed ≡ true = search rules in
    let none = no_keys i.whole.keys c.in_default.ensures.variant.1 in
    sym (no_whole (values_of i.map.entries) (sym (c.self.invariant.whole t) ∙ none)).0 ∙ ap (first_of is_whole) c.self.view_is

pub returns-in_default-clause-rest : goal.returns-in_default-clause-rest
returns-in_default-clause-rest c =
    let i = c.self.inside in
    let t : c.self.inside.indexed ≡ true = search rules in
    let none = no_keys i.whole.keys c.in_default.ensures.variant.1 in
    sym (no_whole (values_of i.map.entries) (sym (c.self.invariant.whole t) ∙ none)).1 ∙ ap (without_first is_whole) c.self.view_is

parts : (c : goal.After-remove) → IsKept c.self.inside.indexed c.remove.new.self.entries c.pop_first.new.self.keys × (values_of c.remove.new.self.entries ≡ without_first is_whole (values_of c.self.inside.map.entries))
    × (lookup (is_key c.in-Some.first) c.self.inside.map.entries ≡ first_of is_whole (values_of c.self.inside.map.entries))
parts c =
    let i = c.self.inside in
    let t : c.self.inside.indexed ≡ true = search rules in
    kept_taken i.indexed i.map.entries c.remove.new.self.entries i.whole.keys c.pop_first.new.self.keys c.in-Some.first t c.self.invariant c.remove.ensures.ordered c.remove.ensures.entries c.in-Some.ensures.removal

pub invariant_of-self-2 : goal.invariant_of-self-2
invariant_of-self-2 c = (parts c).0

pub returns-clause-run : goal.returns-clause-run
returns-clause-run c = c.remove.ensures.value ∙ ((parts c).2 ∙ ap (first_of is_whole) c.self.view_is)

pub returns-clause-rest : goal.returns-clause-rest
returns-clause-rest c = (parts c).1 ∙ ap (without_first is_whole) c.self.view_is
