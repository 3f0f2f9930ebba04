use Rattle.std.proofs.Common.{◌≡◌, Bool, false, if◌then◌else◌, sym, ap, ◌∙◌}
use Rattle.session_core.specs.Sealed.{is_spent, sealed_part, with_part}
use Rattle.session_core.proofs.session.Session.seal.Goals as goal

pub returns-clause-written : goal.returns-clause-written
returns-clause-written c =
    let unspent : is_spent c.args.self.now ≡ false = sym c.is_spent.ensures.value ∙ c.if-is_spent.false in
    c.seal_behind_id.ensures.written ∙ sym (ap (λ (b : Bool). if b then c.args.out.now else with_part c.args.out.now (sealed_part c.args.self.now c.args.packet.now)) unspent)
