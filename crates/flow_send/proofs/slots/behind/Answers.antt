use Rattle.std.proofs.Common.{sym}
use Rattle.flow_send.proofs.Slotting.{behind_one, behind_other, behind_none}
use Rattle.flow_send.proofs.slots.behind.Goals as goal

pub returns-in-Some : goal.returns-in-Some
returns-in-Some c = behind_one c.args.number c.args.at c.args.slots.now.items c.in-Some.found c.requires.line (sym c.in-Some.ensures) c.if-found-number.true

pub returns-in_default : goal.returns-in_default
returns-in_default c = behind_other c.args.number c.args.at c.args.slots.now.items c.in-Some.found c.requires.line (sym c.in-Some.ensures) c.if-found-number.false c.requires.place

pub returns-in_default-2 : goal.returns-in_default-2
returns-in_default-2 c = behind_none c.args.number c.args.at c.args.slots.now.items (sym c.in_default.ensures) c.requires.place
