-- What a history of many ends states of its flows.
use Rattle.std.specs.Prelude.{ℕ, map, if◌then◌else◌, Bool, List, [], ◌∷◌, ◌++◌}
use Rattle.rtmfp_data_chunks.specs.Fragments.{Message}
use Rattle.flow_history.specs.Flow.{sending_at, taking_at}
use Rattle.flow_history.specs.Run.{queued_act, abandoned_act, handed_next_by, IsOrdered}
use Rattle.flow_history.specs.Deeds.{Name, same_name, Deed, ActsOn, HandsOn, History, steps_of}

pub data Entry : Type 0 where
  Queued : (n : Name) (m : Message) → Entry
  Abandoned : (n : Name) (seq : ℕ) → Entry
  Handed : (n : Name) (m : Message) → Entry

-- what an end states with a deed after a history, in order
abbrev pub entries_of : History → ℕ → Deed → List Entry
entries_of h who (ActsOn n act) =
    map (λ (m : Message). Queued n m) (queued_act (sending_at (steps_of n h) who) act)
    ++ map (λ (k : ℕ). Abandoned n k) (abandoned_act (sending_at (steps_of n h) who) act)
entries_of h who (HandsOn n) =
    map (λ (m : Message). Handed n m) (handed_next_by (taking_at (steps_of n h) who))
entries_of h who deed = []

-- the newest first
abbrev pub log_of : History → List Entry
log_of [] = []
log_of (d ∷ earlier) = entries_of earlier d.who d.deed ++ log_of earlier

abbrev pub queued_of : Name → List Entry → List Message
queued_of n [] = []
queued_of n (Queued o m ∷ rest) = if same_name o n then m ∷ queued_of n rest
    else queued_of n rest
queued_of n (entry ∷ rest) = queued_of n rest

abbrev pub abandoned_of : Name → List Entry → List ℕ
abandoned_of n [] = []
abandoned_of n (Abandoned o seq ∷ rest) = if same_name o n then seq ∷ abandoned_of n rest
    else abandoned_of n rest
abandoned_of n (entry ∷ rest) = abandoned_of n rest

-- the oldest first
abbrev pub handed_of : Name → List Entry → List Message
handed_of n [] = []
handed_of n (Handed o m ∷ rest) = handed_of n rest ++ (if same_name o n then m ∷ [] else [])
handed_of n (entry ∷ rest) = handed_of n rest

-- Wherever the flow is opened, its metadata tells this order.
abbrev pub HasOrder : Bool → Name → History → Type 0
HasOrder b n h = IsOrdered b (steps_of n h)
