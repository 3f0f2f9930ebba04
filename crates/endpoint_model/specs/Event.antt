-- What an end is given at its beginning, its calls with their arguments and answers, and what they
-- added.
use Rattle.std.specs.Prelude.{ℕ, Bool, true, false, List, Option, Some, None, max}
use Rattle.sha2.specs.Sha256.{sha256}
use Rattle.rtmfp_forms.specs.Address.{AddressParts}
use Rattle.crypto_profile.specs.declared.group.GroupSecret.{GroupSecret}
use Rattle.introducer.specs.declared.refusal.RowRefusal.{RowRefusal}
use Rattle.endpoint_model.specs.declared.config.Config.{Config}
use Rattle.endpoint_model.specs.declared.config.Draws.{Draws}
use Rattle.endpoint_model.specs.declared.answers.OpenRefusal.{OpenRefusal}
use Rattle.endpoint_model.specs.declared.answers.SeekRefusal.{SeekRefusal}
use Rattle.session_flows.specs.declared.refusal.CallRefusal.{CallRefusal}
use Rattle.endpoint_model.specs.declared.answers.Stopped.{Stopped as Stop}
use Rattle.endpoint_model.specs.declared.entry.Entry.{Entry}
use Rattle.endpoint_model.specs.FlowCall.{FlowCall}

-- what an end is given: its limits, its certificate, the number of its first generation, the secret
-- of its group in that generation, and the secret of its cookies
pub record Setup : Type 0 where
  pub config : Config
  pub cert : List ℕ
  pub generation : ℕ
  pub secret : List ℕ
  pub cookie_secret : List ℕ

-- the own fingerprint
abbrev pub own_of : Setup → List ℕ
own_of setup = sha256 setup.cert

-- the secret of the group in the first generation, with its number
abbrev pub first_group : Setup → GroupSecret
first_group setup = record { generation = setup.generation; secret = setup.secret }

-- A call; an open names its peer by the fingerprint, a seek by the name, and one on flows its
-- session by the session ID. A learn tells the secret of the group's next generation, to which an
-- advance goes over; a narrow how long a packet of a session may be that goes out whole.
pub data Call : Type 0 where
  Open : (peer : List ℕ) → (candidates : List AddressParts) → (draws : Draws) → Call
  Seek : (name : List ℕ) → (candidates : List AddressParts) → (draws : Draws) → Call
  Unseek : (near : ℕ) → Call
  Cancel : (n : ℕ) → Call
  Close : (near : ℕ) → Call
  AddRow : (print : List ℕ) → (addresses : List AddressParts) → Call
  Introduce : Call
  Narrow : (limit : ℕ) → Call
  Learn : (secret : List ℕ) → Call
  Advance : Call
  OnFlows : (near : ℕ) → (call : FlowCall) → Call
  Receive : (from : AddressParts) → (datagram : List ℕ) → (draws : Draws) → Call
  Tick : (draws : Draws) → Call

-- what an open, a seek and a receive are given
pub record OpenCall : Type 0 where
  pub peer : List ℕ
  pub candidates : List AddressParts
  pub draws : Draws

pub record SeekCall : Type 0 where
  pub name : List ℕ
  pub candidates : List AddressParts
  pub draws : Draws

pub record ReceiveCall : Type 0 where
  pub from : AddressParts
  pub datagram : List ℕ
  pub draws : Draws

-- What a call has for those who ask of one kind of calls alone, so that no other kind touches them.
abbrev pub open_in : Call → Option OpenCall
open_in (Open peer candidates draws) =
    Some (record { peer = peer; candidates = candidates; draws = draws })
open_in call = None

abbrev pub seek_in : Call → Option SeekCall
seek_in (Seek name candidates draws) =
    Some (record { name = name; candidates = candidates; draws = draws })
seek_in call = None

abbrev pub unseek_in : Call → Option ℕ
unseek_in (Unseek near) = Some near
unseek_in call = None

abbrev pub cancel_in : Call → Option ℕ
cancel_in (Cancel n) = Some n
cancel_in call = None

abbrev pub close_in : Call → Option ℕ
close_in (Close near) = Some near
close_in call = None

abbrev pub learn_in : Call → Option (List ℕ)
learn_in (Learn secret) = Some secret
learn_in call = None

abbrev pub is_advance : Call → Bool
is_advance Advance = true
is_advance call = false

abbrev pub receive_in : Call → Option ReceiveCall
receive_in (Receive from datagram draws) =
    Some (record { from = from; datagram = datagram; draws = draws })
receive_in call = None

abbrev pub tick_in : Call → Option Draws
tick_in (Tick draws) = Some draws
tick_in call = None

-- what a call answered; a learn and an advance tell the number of the generation
pub data Answer : Type 0 where
  Began : (n : ℕ) → Answer
  Searching : (near : ℕ) → Answer
  Done : Answer
  Succeeds : (generation : ℕ) → Answer
  NotOpened : (refusal : OpenRefusal) → Answer
  NotSought : (refusal : SeekRefusal) → Answer
  Refused : (refusal : CallRefusal) → Answer
  NotAdded : (refusal : RowRefusal) → Answer
  Stopped : (stop : Stop) → Answer
  OutOfMemory : Answer

-- A call of an end, at the moment that it was given (0 for a call that is given none), with its
-- answer and the entries that it added.
pub record Event : Type 0 where
  pub moment : ℕ
  pub call : Call
  pub answer : Answer
  pub entries : List Entry

-- The moment of an event is the largest that the end was given so far.
abbrev pub moment_at : ℕ → Event → ℕ
moment_at last e = max last e.moment
