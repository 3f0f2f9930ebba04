use Rattle.std.proofs.Common.{◌∙◌, ap, sym}
use Rattle.std.specs.Map.{set_value}
use Rattle.flow_recv.specs.Keyed.{emptied}
use Rattle.rtmfp_data_chunks.proofs.Keys.{is_key}
use Rattle.flow_recv.proofs.Keeping.{set_changed, changed_none}
use Rattle.flow_recv.proofs.held.take_out_at.Goals as goal

pub returns-in-Some-clause-left : goal.returns-in-Some-clause-left
returns-in-Some-clause-left c =
    let es = c.args.map.now.entries in
    let y = c.in-Some.run'.now in
    (c.get_mut.follows.holds c.take_out.new.self).0 ∙ (ap (set_value (is_key c.args.first) es) c.take_out.ensures.left ∙ set_changed emptied c.args.first es y (sym c.in-Some.ensures.value))

pub returns-in-None-clause-left : goal.returns-in-None-clause-left
returns-in-None-clause-left c =
    let es = c.args.map.now.entries in
    ap (λ m. m.entries) c.get_mut.follows.holds-at-none ∙ sym (changed_none emptied c.args.first es (sym c.in-None.ensures.value))
