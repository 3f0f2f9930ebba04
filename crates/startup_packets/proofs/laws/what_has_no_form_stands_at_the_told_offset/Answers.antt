use Rattle.startup_packets.proofs.Standing.{certificate_stands_there, part_stands_there}
use Rattle.startup_packets.proofs.laws.what_has_no_form_stands_at_the_told_offset.Goals as goal

pub returns-clause-certificate : goal.returns-clause-certificate
returns-clause-certificate c = certificate_stands_there

pub returns-clause-part : goal.returns-clause-part
returns-clause-part c = part_stands_there
