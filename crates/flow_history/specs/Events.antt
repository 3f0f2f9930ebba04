-- What an end does in one call is a list of deeds, the first one first.
use Rattle.std.specs.Prelude.{ℕ, ◌≡◌, List, [], ◌∷◌, ◌++◌}
use Rattle.flow_history.specs.Deeds.{Deed, done, History}
use Rattle.flow_history.specs.Lawful.{MayDo, IsLawful, IsHonestDeed, IsHonest}

abbrev pub onto : ℕ → List Deed → History → History
onto who [] h = h
onto who (d ∷ deeds) h = onto who deeds (done who d ∷ h)

-- Each may be done after those before it, and what comes was sent.
abbrev pub MayDoAll : ℕ → List Deed → History → Type 0
MayDoAll who [] h = Unit {0}
MayDoAll who (d ∷ deeds) h = (MayDo h who d × IsHonestDeed h d)
    × MayDoAll who deeds (done who d ∷ h)

-- A lawful and honest history stays one.
abbrev pub EventsKeep : Type 0
EventsKeep = (who : ℕ) (deeds : List Deed) (h : History) → IsLawful h → IsHonest h →
    MayDoAll who deeds h → IsLawful (onto who deeds h) × IsHonest (onto who deeds h)

-- One thing comes after another.
abbrev pub ThenDo : Type 0
ThenDo = (who : ℕ) (first second : List Deed) (h : History) → MayDoAll who first h →
    MayDoAll who second (onto who first h) →
    MayDoAll who (first ++ second) h
    × (onto who (first ++ second) h ≡ onto who second (onto who first h))
