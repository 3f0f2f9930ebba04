use Rattle.std.proofs.Common.{◌≡◌, map, take}
use Rattle.c_shapes.specs.Shapes.{placed}
use Rattle.c_shapes.proofs.addresses.addresses_of.Given as goal

abbrev pub invariant-loop-one : goal.invariant-loop-one
invariant-loop-one l = l.places.items ≡ map placed (take l.one-index l.given)
