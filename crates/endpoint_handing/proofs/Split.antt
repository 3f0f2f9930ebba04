-- Packets that were split, by one end and by any.
use Rattle.std.proofs.Common.{ℕ, List, [], ◌∷◌, inl, inr, refl}
use Rattle.flow_history.specs.Deeds.{Context, Deed, Begins, Leaves, OpensFlow, ActsOn, MakesFlow}
use Rattle.flow_history.specs.Deeds.{TakesFrom, HandsOn, AcksOn, In, Out, Splits, History}
use Rattle.flow_history.specs.Lawful.{SplitsAs, SplitsUnder, WasSplit, WasSplitBy}

under_is : (c : Context) (id : ℕ) (d : Deed) → SplitsUnder c id d →
    (size : ℕ) × (packet : List ℕ) × SplitsAs c id size packet d
under_is c id (Splits at i size packet) e = (size, packet, (e.0, e.1, refl, refl))
under_is c id (Begins at) e = absurd e
under_is c id (Leaves at) e = absurd e
under_is c id (OpensFlow n b) e = absurd e
under_is c id (ActsOn n act) e = absurd e
under_is c id (MakesFlow n b) e = absurd e
under_is c id (TakesFrom n chunk) e = absurd e
under_is c id (HandsOn n) e = absurd e
under_is c id (AcksOn n pairs) e = absurd e
under_is c id (In at pieces) e = absurd e
under_is c id (Out at pieces) e = absurd e

pub split_by_is : (who : ℕ) (c : Context) (id : ℕ) (h : History) → WasSplitBy who c id h →
    (size : ℕ) × (packet : List ℕ) × WasSplit c id size packet h
split_by_is who c id [] was = absurd was
split_by_is who c id (d ∷ h) (inl e) = let k = under_is c id d.deed e.1 in (k.0, k.1, inl k.2)
split_by_is who c id (d ∷ h) (inr before) = let k = split_by_is who c id h before in (k.0, k.1, inr k.2)
