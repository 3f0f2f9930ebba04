use Rattle.log_packets.proofs.Entries.{get_some, get_number, get_none}
use Rattle.log_packets.proofs.secrets.SecretMap.get.Goals as goal

pub returns-clause-some : goal.returns-clause-some
returns-clause-some c = get_some c.self.inside.map.entries c.args.self.now c.args.generation c.get.result c.self.view_is c.get.ensures.value

pub returns-clause-number : goal.returns-clause-number
returns-clause-number c = get_number c.self.inside.map.entries c.args.self.now c.args.generation c.get.result c.self.view_is c.get.ensures.value c.self.invariant

pub returns-clause-none : goal.returns-clause-none
returns-clause-none c = get_none c.self.inside.map.entries c.args.self.now c.args.generation c.get.result c.self.view_is c.get.ensures.value
