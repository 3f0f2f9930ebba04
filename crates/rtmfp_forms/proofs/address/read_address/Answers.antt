use Rattle.std.proofs.Common.{arith, ◌∙◌}
use Rattle.rtmfp_forms.proofs.Addresses.{address_takes, address_complete, address_short, address_only_short}
use Rattle.rtmfp_forms.proofs.address.read_address.Goals as goal

pub returns-clause-ok : goal.returns-clause-ok
returns-clause-ok c = address_takes c.args.bytes.now _ (λ i. omega (arith, c.type_inv.bytes i)) c.address_of.ensures

pub returns-clause-complete : goal.returns-clause-complete
returns-clause-complete c a n le h = c.address_of.ensures ∙ address_complete c.args.bytes.now a n le h

pub returns-clause-short : goal.returns-clause-short
returns-clause-short c = rw c.address_of.ensures (address_short c.args.bytes.now)

pub returns-clause-only_short : goal.returns-clause-only_short
returns-clause-only_short c = rw c.address_of.ensures (address_only_short c.args.bytes.now)
