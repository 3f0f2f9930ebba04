use Rattle.std.proofs.Common.{rules}
use Rattle.cookies.proofs.edges.a_cookie_has_its_moment_its_address_and_its_tag.Goals as goal

pub returns-clause-v4 : goal.returns-clause-v4
returns-clause-v4 c = search rules

pub returns-clause-v6 : goal.returns-clause-v6
returns-clause-v6 c = search rules
