use Rattle.std.proofs.Common.{rules}
use Rattle.startup.proofs.edges.a_field_of_129_bytes_is_wide.Goals as goal

pub returns-clause-tag_first : goal.returns-clause-tag_first
returns-clause-tag_first c = search rules

pub returns-clause-then_cookie : goal.returns-clause-then_cookie
returns-clause-then_cookie c = search rules
