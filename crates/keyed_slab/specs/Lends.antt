-- What a slab ends as, where a `&mut` to one of its things is lent.
use Rattle.std.specs.Prelude.{ℕ}
use Rattle.std.specs.Borrow.{Lends, Fml, RattleType, MutBor}
use Rattle.keyed_slab.specs.KeyedSlab.{Seats, with_thing}
use Rattle.keyed_slab.specs.contracts.keyed_slab.KeyedSlab.{the_row}

module _ (T : RattleType) (s : MutBor (Seats T.Denot)) (slot : ℕ) where
  -- Once the borrow ends, the slot has the last value that was written.
  abbrev pub lends_thing : MutBor T.Denot → Fml
  lends_thing r = Lends (the_row T) T s r (with_thing s.now slot)
