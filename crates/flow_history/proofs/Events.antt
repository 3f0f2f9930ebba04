-- An event keeps a history lawful and honest, deed by deed.
use Rattle.std.proofs.Common.{◌≡◌, ℕ, List, [], ◌∷◌, ◌++◌, refl}
use Rattle.flow_history.specs.Deeds.{Deed, History}
use Rattle.flow_history.specs.Lawful.{IsLawful, IsHonest}
use Rattle.flow_history.specs.Events.{onto, MayDoAll}

pub events_keep : (who : ℕ) (deeds : List Deed) (h : History) → IsLawful h → IsHonest h →
    MayDoAll who deeds h → IsLawful (onto who deeds h) × IsHonest (onto who deeds h)
events_keep who [] h lawful honest may = (lawful, honest)
events_keep who (d ∷ deeds) h lawful honest may =
    events_keep who deeds (record { who = who; deed = d } ∷ h) (may.0.0, lawful)
    (may.0.1, honest) may.1

pub then_do : (who : ℕ) (first second : List Deed) (h : History) → MayDoAll who first h →
    MayDoAll who second (onto who first h) →
    MayDoAll who (first ++ second) h ×
    (onto who (first ++ second) h ≡ onto who second (onto who first h))
then_do who [] second h may more = (more, refl)
then_do who (d ∷ deeds) second h may more = let k =
    then_do who deeds second (record { who = who; deed = d } ∷ h) may.1 more in ((may.0, k.0), k.1)
