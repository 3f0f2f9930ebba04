use Rattle.std.proofs.Common.{is_some, sym, ap}
use Rattle.session_table.proofs.slot.slot_near.Goals as goal

pub returns-in-Some-clause-there : goal.returns-in-Some-clause-there
returns-in-Some-clause-there c = ap is_some (c.requires.seats.names.seated c.args.near c.in-Some.key (sym c.in-Some.ensures)).stands
