use Rattle.std.proofs.Common.{◌∙◌, ap, sym}
use Rattle.std.specs.Map.{set_value}
use Rattle.std.proofs.lemmas.Map.Steps.{set_value_same}
use Rattle.flow_recv.specs.Keyed.{over}
use Rattle.flow_recv.proofs.Joining.{on_ok, on_err}
use Rattle.rtmfp_data_chunks.proofs.Keys.{is_key}
use Rattle.flow_recv.proofs.Keeping.{set_changed, changed_none}
use Rattle.flow_recv.proofs.held.append_both_at.Goals as goal

pub returns-in-Some-clause-appended : goal.returns-in-Some-clause-appended
returns-in-Some-clause-appended c =
    let es = c.args.map.now.entries in
    let y = c.in-Some.run'.now in
    on_ok c.append_both.result (λ j. (c.get_mut.follows.holds c.append_both.new.self).0 ∙ (ap (set_value (is_key c.args.first) es) j ∙ set_changed (λ v. over v c.args.bytes.now c.args.later.now) c.args.first es y (sym c.in-Some.ensures.value))) c.append_both.ensures.joined

pub returns-in-Some-clause-unchanged : goal.returns-in-Some-clause-unchanged
returns-in-Some-clause-unchanged c =
    let es = c.args.map.now.entries in
    let y = c.in-Some.run'.now in
    on_err c.append_both.result (λ j. (c.get_mut.follows.holds c.append_both.new.self).0 ∙ (ap (set_value (is_key c.args.first) es) j ∙ set_value_same (is_key c.args.first) es y (sym c.in-Some.ensures.value))) c.append_both.ensures.unchanged

pub returns-in-None-clause-appended : goal.returns-in-None-clause-appended
returns-in-None-clause-appended c =
    let es = c.args.map.now.entries in
    ap (λ m. m.entries) c.get_mut.follows.holds-at-none ∙ sym (changed_none (λ v. over v c.args.bytes.now c.args.later.now) c.args.first es (sym c.in-None.ensures.value))
