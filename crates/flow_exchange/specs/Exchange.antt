-- One sender and one receiver over a network that loses, repeats and reorders.
use Rattle.std.specs.Prelude.{ℕ, ◌≡◌, ◌≢◌, ◌<◌, ◌≤◌, ◌⊎◌, Bool, true, false, List, [], ◌∷◌, ◌++◌}
use Rattle.std.specs.Prelude.{Option, Some, None, length, slice_get, map}
use Rattle.std.specs.List.{filter}
use Rattle.rtmfp_data_chunks.specs.Fragments.{Message, Spans, fragment_of, next_number}
use Rattle.rtmfp_data_chunks.specs.Runs.{Chunk, Missing, number_of, handed_in_order, runs_of}
use Rattle.rtmfp_data_chunks.specs.Runs.{is_whole, message_of, has_number}
use Rattle.rtmfp_data_chunks.specs.HandsOver.{IsIn}

-- an ack: all at or below a number, and spans above
pub record Ack : Type 0 where
  pub upto : ℕ
  pub spans : List (ℕ × ℕ)

abbrev pub InSpans : ℕ → List (ℕ × ℕ) → Type 0
InSpans n [] = ⊥
InSpans n (r ∷ rs) = ((r.0 ≤ n) × (n ≤ r.1)) ⊎ InSpans n rs

-- the ack acknowledges number n
abbrev pub Acknowledges : Ack → ℕ → Type 0
Acknowledges a n = (n ≤ a.upto) ⊎ InSpans n a.spans

-- what has happened so far, each list with the newest first but for the messages handed
pub record World : Type 0 where
  pub first : ℕ
  pub queued : List Message
  pub abandoned : List ℕ
  pub finish : Option ℕ
  pub sent : List Chunk
  pub taken : List Chunk
  pub told : List Ack
  pub heard : List Ack
  pub handed : List Message

abbrev pub start : ℕ → World
start first = record {
  first = first;
  queued = [];
  abandoned = [];
  finish = None;
  sent = [];
  taken = [];
  told = [];
  heard = [];
  handed = [];
}

-- what may happen. A loss is a chunk or an ack that is never taken; a refused one too
pub data Event : Type 0 where
  Queued : (m : Message) → Event
  Abandoned : (n : ℕ) → Event
  Finished : (n : ℕ) → Event
  Sent : (c : Chunk) → Event
  Taken : (c : Chunk) → Event
  Told : (a : Ack) → Event
  Heard : (a : Ack) → Event
  Handed : (m : Message) → Event

abbrev pub after : World → Event → World
after w (Queued m) = record w { queued = m ∷ w.queued }
after w (Abandoned n) = record w { abandoned = n ∷ w.abandoned }
after w (Finished n) = record w { finish = Some n }
after w (Sent c) = record w { sent = c ∷ w.sent }
after w (Taken c) = record w { taken = c ∷ w.taken }
after w (Told a) = record w { told = a ∷ w.told }
after w (Heard a) = record w { heard = a ∷ w.heard }
after w (Handed m) = record w { handed = w.handed ++ m ∷ [] }

-- number n is one of an abandoned message
pub record IsAbandoned (queued : List Message) (abandoned : List ℕ) (n : ℕ) : Type 0 where
  pub message : Message
  pub was_queued : IsIn message queued
  pub was_abandoned : IsIn message.number abandoned
  pub spans : Spans message n

-- number n is acknowledged to the sender
pub record IsAcknowledged (heard : List Ack) (n : ℕ) : Type 0 where
  pub ack : Ack
  pub was_heard : IsIn ack heard
  pub tells : Acknowledges ack n

-- number n is none of the flow's, is abandoned, or is acknowledged
abbrev pub IsSettled : World → ℕ → Type 0
IsSettled w n = (n < w.first) ⊎ IsAbandoned w.queued w.abandoned n ⊎ IsAcknowledged w.heard n

-- a chunk has the fragment of its number, or is the notice of the forward number, or the end
pub data Tells (queued : List Message) (finish : Option ℕ) (c : Chunk) : Type 0 where
  Fragment_of : c.abandon ≡ false → c.forward < c.seq →
      fragment_of queued c.seq ≡ Some (record { part = c.part; bytes = c.bytes }) →
      Tells queued finish c
  Notice : c.abandon ≡ true → c.seq ≡ c.forward → Tells queued finish c
  End_of : c.abandon ≡ true → c.last ≡ true → c.forward < c.seq → finish ≡ Some c.seq →
      Tells queued finish c

pub record MaySend (w : World) (c : Chunk) : Type 0 where
  pub tells : Tells w.queued w.finish c
  pub forward : (n : ℕ) → n ≤ c.forward → IsSettled w n

-- the message that is handed next
abbrev pub IsNext : Bool → World → Message → Type 0
IsNext false w m = slice_get (handed_in_order w.taken) (length w.handed) ≡ Some m
IsNext true w m = IsIn m (map message_of (filter is_whole (runs_of w.taken))) ×
    (has_number m.number w.handed ≡ false)

-- whether the event may come, by what has happened so far. arriving: the flow is in arrival order
abbrev pub May : Bool → World → Event → Type 0
May arriving w (Queued m) = (w.finish ≡ None) × (m.number ≡ next_number w.first w.queued)
May arriving w (Abandoned n) = Unit {0}
May arriving w (Finished n) = (w.finish ≡ None) × (n ≡ next_number w.first w.queued)
May arriving w (Sent c) = MaySend w c
May arriving w (Taken c) = IsIn c w.sent
May arriving w (Told a) = (n : ℕ) → Acknowledges a n → number_of w.taken n ≢ Missing
May arriving w (Heard a) = IsIn a w.told
May arriving w (Handed m) = IsNext arriving w m

-- each event may come after those before it
abbrev pub IsRun : Bool → World → List Event → Type 0
IsRun arriving w [] = Unit {0}
IsRun arriving w (e ∷ es) = May arriving w e × IsRun arriving (after w e) es

-- what has happened after these events
abbrev pub run : World → List Event → World
run w [] = w
run w (e ∷ es) = run (after w e) es
