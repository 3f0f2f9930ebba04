use Rattle.std.proofs.Common.{sym}
use Rattle.std.proofs.lemmas.Bool.{ltb-true, ltb-false}
use Rattle.flow_send.proofs.Slotting.{below_at, from_at, from_none}
use Rattle.flow_send.proofs.slots.is_below.Goals as goal

pub returns-in-Some-clause-below : goal.returns-in-Some-clause-below
returns-in-Some-clause-below c e = below_at c.args.number c.args.at 0 c.args.slots.now.items c.in-Some.found c.requires (sym c.in-Some.ensures) (ltb-true c.in-Some.found.message.number c.args.number e)

pub returns-in-Some-clause-from : goal.returns-in-Some-clause-from
returns-in-Some-clause-from c e = from_at c.args.number c.args.at 0 c.args.slots.now.items c.in-Some.found c.requires (sym c.in-Some.ensures) (ltb-false c.in-Some.found.message.number c.args.number e)

pub returns-in-None-clause-from : goal.returns-in-None-clause-from
returns-in-None-clause-from c e = from_none c.args.number c.args.at c.args.slots.now.items (sym c.in-None.ensures)
