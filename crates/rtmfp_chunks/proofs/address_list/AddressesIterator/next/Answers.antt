use Rattle.std.proofs.Common.{◌∙◌, sym, ap, length, arith}
use Rattle.rtmfp_chunks.proofs.AddressLists.{address_read, address_unread}
use Rattle.rtmfp_chunks.proofs.address_list.AddressesIterator.next.Goals as goal

pub returns-in-Ok-clause-steps : goal.returns-in-Ok-clause-steps
returns-in-Ok-clause-steps c = sym c.self.view_is ∙ address_read c.self.inside.rest.now _ (sym c.in-Ok.ensures.exact)

pub returns-in-Ok-clause-goes : goal.returns-in-Ok-clause-goes
returns-in-Ok-clause-goes c =
    let shorter = ap length (returns-in-Ok-clause-steps c) in
    record { on = λ finite. (tt, tt, omega (arith, shorter)); keeps = tt; rests = λ finite. tt }

pub returns-in-Err-clause-steps : goal.returns-in-Err-clause-steps
returns-in-Err-clause-steps c =
    let none = sym c.self.view_is ∙ address_unread c.self.inside.rest.now c.in-Err.field-0 (sym c.in-Err.ensures.exact) in
    (none, none)
