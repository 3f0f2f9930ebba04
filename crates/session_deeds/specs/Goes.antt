-- What a thing does with a session's flows, as deeds.
use Rattle.std.specs.Prelude.{◌≡◌, ◌⊎◌, List, [], ◌∷◌, Some}
use Rattle.flow_history.specs.Said.{IsGiven, IsTold}
use Rattle.flow_history.specs.Deeds.{Piece, Data, Ack}
use Rattle.flow_history.specs.Keeping.{Flows}
use Rattle.session_flows.specs.Keeping.{FlowsState, Did}
use Rattle.session_flows.specs.Keeping.{Stated, Opened, Queued, Abandoned, Finished, Handed}
use Rattle.session_deeds.specs.Deeds.{Deed, ActsOn, Acks, did, did_all, told_all, MayAll}
use Rattle.session_deeds.specs.Shows.{Shows}

-- what is stated of messages
abbrev pub of_messages : List Stated → List Stated
of_messages [] = []
of_messages (Opened flow ∷ later) = of_messages later
of_messages (Queued flow seq message ∷ later) = Queued flow seq message ∷ of_messages later
of_messages (Abandoned flow seq ∷ later) = Abandoned flow seq ∷ of_messages later
of_messages (Finished flow seq ∷ later) = of_messages later
of_messages (Handed flow seq message ∷ later) = Handed flow seq message ∷ of_messages later

-- Each of the deeds may be done in its turn. They leave the flows that the thing leaves, and state
-- what it states of messages, in its order.
pub record IsDoneBy (came : List Piece) (fl : Flows) (d : Did) (deeds : List Deed) : Type 0 where
  pub may : MayAll came fl deeds
  pub shows : Shows d.flows (did_all fl deeds)
  pub states : told_all fl deeds ≡ of_messages d.stated

-- whatever flows the session keeps, the thing is a list of deeds of theirs
abbrev pub Goes : List Piece → FlowsState → Did → Type 0
Goes came s d = (fl : Flows) → Shows s fl → (deeds : List Deed) × IsDoneBy came fl d deeds

-- ---- what goes out

-- the deed gives this chunk, or tells this ack
abbrev pub Says : Flows → Deed → Piece → Type 0
Says fl (ActsOn flow act) (Data f x) = (f ≡ flow) × IsGiven (Some (fl.opened flow)) act x
Says fl (Acks flow pairs) (Ack f a) = (f ≡ flow) × IsTold (Some (fl.made flow)) pairs a
Says fl deed piece = ⊥

-- one of the deeds does
abbrev pub IsSaid : Flows → List Deed → Piece → Type 0
IsSaid fl [] piece = ⊥
IsSaid fl (d ∷ later) piece = Says fl d piece ⊎ IsSaid (did fl d) later piece

abbrev pub AllSaid : Flows → List Deed → List Piece → Type 0
AllSaid fl deeds [] = Unit {0}
AllSaid fl deeds (p ∷ later) = IsSaid fl deeds p × AllSaid fl deeds later
