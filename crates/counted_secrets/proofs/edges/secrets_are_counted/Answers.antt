use Rattle.std.proofs.Common.{◌^◌, arith}
use Rattle.counted_secrets.proofs.Counted.{known_below, none_above}
use Rattle.counted_secrets.proofs.edges.secrets_are_counted.Goals as goal

pub returns-clause-known : goal.returns-clause-known
returns-clause-known c generation less = known_below (2 ^ 64) generation less

pub returns-clause-none : goal.returns-clause-none
returns-clause-none c = none_above 7 7 (omega arith)
