use Rattle.std.proofs.Common.{◌∙◌, ap, sym}
use Rattle.flow_recv.proofs.Keeping.{set_changed, changed_none}
use Rattle.flow_recv.proofs.held.put_back_at.Goals as goal

pub returns-in-Some : goal.returns-in-Some
returns-in-Some c =
    let es = c.args.map.now.entries in
    (c.get_mut.follows.holds c.args.run).0 ∙ set_changed (λ y. c.args.run) c.args.first es c.in-Some.left.now (sym c.in-Some.ensures.value)

pub returns-in-None : goal.returns-in-None
returns-in-None c =
    let es = c.args.map.now.entries in
    ap (λ m. m.entries) c.get_mut.follows.holds-at-none ∙ sym (changed_none (λ y. c.args.run) c.args.first es (sym c.in-None.ensures.value))
