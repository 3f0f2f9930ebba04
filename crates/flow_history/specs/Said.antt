-- What was given and told of a flow, and what of it went out in datagrams.
use Rattle.std.specs.Prelude.{ℕ, ◌≡◌, ◌⊎◌, Bool, [], ◌∷◌, Option, Some, None}
use Rattle.rtmfp_data_chunks.specs.Runs.{Chunk}
use Rattle.rtmfp_data_chunks.specs.HandsOver.{IsIn}
use Rattle.flow_recv.specs.Receiver.{Receiver}
use Rattle.flow_send.specs.Sender.{Sender}
use Rattle.flow_send.specs.Choice.{choice, chunk_for}
use Rattle.flow_send.specs.Acks.{Told}
use Rattle.flow_exchange.specs.Sending.{Act, Sends, ack_of}
use Rattle.flow_exchange.specs.Pair.{ack_by}
use Rattle.flow_history.specs.Flow.{Opened, Carried, Acts, Acks, Touch, BySender, ByReceiver, Goes}
use Rattle.flow_history.specs.Flow.{Steps, sending_at, taking_at}

-- ---- given

-- Options that tell an order tell the flow's.
abbrev pub TellsOrder : Option Bool → Bool → Type 0
TellsOrder None b = Unit {0}
TellsOrder (Some a) b = a ≡ b

-- the chunk that a sender gives in an act
abbrev pub given_by : Sender → Act → Option Chunk
given_by s (Sends moment resend) = chunk_for s (choice moment resend s)
given_by s act = None

-- this act of an open flow gives the chunk
pub record IsGiven (kept : Option (Option Opened)) (act : Act) (x : Carried) : Type 0 where
  pub flow : Opened
  pub is_open : kept ≡ Some (Some flow)
  pub given : given_by flow.sender act ≡ Some x.chunk
  pub order : TellsOrder x.order flow.arriving

abbrev pub Gives : Option (Option Opened) → Touch → Carried → Type 0
Gives kept (BySender (Acts act)) x = IsGiven kept act x
Gives kept touch x = ⊥

abbrev pub WasGiven : Steps → Carried → Type 0
WasGiven [] x = ⊥
WasGiven (s ∷ earlier) x = Gives (sending_at earlier s.who) s.touch x ⊎ WasGiven earlier x

-- ---- told

-- the ack is what a receiver of the flow tells, with so many pairs
pub record IsTold (kept : Option (Option Receiver)) (pairs : ℕ) (a : Told) : Type 0 where
  pub receiver : Receiver
  pub is_made : kept ≡ Some (Some receiver)
  pub told : ack_of a ≡ ack_by receiver pairs

abbrev pub Tells : Option (Option Receiver) → Touch → Told → Type 0
Tells kept (ByReceiver (Acks pairs)) a = IsTold kept pairs a
Tells kept touch a = ⊥

abbrev pub WasTold : Steps → Told → Type 0
WasTold [] a = ⊥
WasTold (s ∷ earlier) a = Tells (taking_at earlier s.who) s.touch a ⊎ WasTold earlier a

-- ---- went out

abbrev pub Carries : Touch → Carried → Type 0
Carries (Goes chunks acks) x = IsIn x chunks
Carries touch x = ⊥

abbrev pub Went : Steps → Carried → Type 0
Went [] x = ⊥
Went (s ∷ earlier) x = Carries s.touch x ⊎ Went earlier x

abbrev pub CarriesBack : Touch → Told → Type 0
CarriesBack (Goes chunks acks) a = IsIn a acks
CarriesBack touch a = ⊥

abbrev pub WentBack : Steps → Told → Type 0
WentBack [] a = ⊥
WentBack (s ∷ earlier) a = CarriesBack s.touch a ⊎ WentBack earlier a
