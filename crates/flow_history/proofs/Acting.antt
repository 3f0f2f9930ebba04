-- What an act of a sender does, beside any world: the same as alone, and the world grows by what it
-- alone would note.
use Rattle.std.proofs.Common.{◌≡◌, ℕ, Bool, true, false, List, ◌++◌, Option, Some, None, refl, sym}
use Rattle.std.proofs.Common.{inl, inr}
use Rattle.rtmfp_data_chunks.specs.Runs.{Chunk}
use Rattle.rtmfp_data_chunks.specs.HandsOver.{IsIn}
use Rattle.flow_send.specs.declared.waiting.MessageOptions.{MessageOptions}
use Rattle.flow_send.specs.Sender.{Sender, waits, first_number, overdue}
use Rattle.flow_send.specs.Choice.{Choice, choice, chunk_for}
use Rattle.flow_exchange.specs.Exchange.{World}
use Rattle.flow_exchange.specs.Sending.{Act, Queues, Abandons, AbandonsFirst, AbandonsOverdue}
use Rattle.flow_exchange.specs.Sending.{Finishes, Loses, Sends, Hears, Sending, queues, finishes}
use Rattle.flow_exchange.specs.Sending.{abandons, abandons_one, sends, acts}
use Rattle.flow_history.specs.Flow.{alone}
use Rattle.flow_history.specs.Said.{given_by}

pub record Alike (v : World) (x y : Sending) : Type 0 where
  pub sender : y.sender ≡ x.sender
  pub queued : y.world.queued ≡ x.world.queued ++ v.queued
  pub abandoned : y.world.abandoned ≡ x.world.abandoned ++ v.abandoned
  pub handed : y.world.handed ≡ v.handed
  pub told : y.world.told ≡ v.told
  pub sent : (c : Chunk) → IsIn c v.sent → IsIn c y.world.sent

abbrev with_world : Sender → World → Sending
with_world s v = record { sender = s; world = v }

queues_alike : (s : Sender) (v : World) (bytes : List ℕ) (options : MessageOptions) (o : Option ℕ) →
    Alike v (queues (alone s) bytes options o) (queues (with_world s v) bytes options o)
queues_alike s v bytes options None =
    record {
      sender = refl;
      queued = refl;
      abandoned = refl;
      handed = refl;
      told = refl;
      sent =
          λ c i. i;
    }
queues_alike s v bytes options (Some n) =
    record {
      sender = refl;
      queued = refl;
      abandoned = refl;
      handed = refl;
      told = refl;
      sent =
          λ c i. i;
    }

finishes_alike : (s : Sender) (v : World) (o : Option ℕ) →
    Alike v (finishes (alone s) o) (finishes (with_world s v) o)
finishes_alike s v None = record {
  sender = refl;
  queued = refl;
  abandoned = refl;
  handed =
      refl;
  told = refl;
  sent = λ c i. i;
}
finishes_alike s v (Some n) = record {
  sender = refl;
  queued = refl;
  abandoned = refl;
  handed =
      refl;
  told = refl;
  sent = λ c i. i;
}

abandons_alike : (s : Sender) (v : World) (n : ℕ) (t : Bool) →
    Alike v (abandons (alone s) n t) (abandons (with_world s v) n t)
abandons_alike s v n true = record {
  sender = refl;
  queued = refl;
  abandoned = refl;
  handed =
      refl;
  told = refl;
  sent = λ c i. i;
}
abandons_alike s v n false = record {
  sender = refl;
  queued = refl;
  abandoned = refl;
  handed =
      refl;
  told = refl;
  sent = λ c i. i;
}

abandons_one_alike : (s : Sender) (v : World) (o : Option ℕ) →
    Alike v (abandons_one (alone s) o) (abandons_one (with_world s v) o)
abandons_one_alike s v None = record {
  sender = refl;
  queued = refl;
  abandoned = refl;
  handed =
      refl;
  told = refl;
  sent = λ c i. i;
}
abandons_one_alike s v (Some n) = abandons_alike s v n (waits s n)

sends_alike : (s : Sender) (v : World) (moment : ℕ) (chosen : Choice) (o : Option Chunk) →
    Alike v (sends (alone s) moment chosen o) (sends (with_world s v) moment chosen o)
sends_alike s v moment chosen None =
    record {
      sender = refl;
      queued = refl;
      abandoned = refl;
      handed = refl;
      told = refl;
      sent =
          λ c i. i;
    }
sends_alike s v moment chosen (Some d) =
    record {
      sender = refl;
      queued = refl;
      abandoned = refl;
      handed = refl;
      told = refl;
      sent =
          λ c i. inr i;
    }

pub alike : (s : Sender) (v : World) (act : Act) →
    Alike v (acts (alone s) act) (acts (with_world s v) act)
alike s v (Queues bytes options) = queues_alike s v bytes options s.finish
alike s v (Abandons n) = abandons_one_alike s v (Some n)
alike s v AbandonsFirst = abandons_one_alike s v (first_number s.waiting)
alike s v (AbandonsOverdue moment) = abandons_one_alike s v (overdue moment s)
alike s v Finishes = finishes_alike s v s.finish
alike s v (Loses moment resend) = record {
  sender = refl;
  queued = refl;
  abandoned = refl;
  handed =
      refl;
  told = refl;
  sent = λ c i. i;
}
alike s v (Sends moment resend) =
    sends_alike s v moment (choice moment resend s) (chunk_for s (choice moment resend s))
alike s v (Hears a) = record {
  sender = refl;
  queued = refl;
  abandoned = refl;
  handed = refl;
  told =
      refl;
  sent = λ c i. i;
}

-- the chunk that is given is among those sent
sends_given : (s : Sender) (v : World) (moment : ℕ) (chosen : Choice) (o : Option Chunk)
    (c : Chunk) → o ≡ Some c → IsIn c (sends (with_world s v) moment chosen o).world.sent
sends_given s v moment chosen None c e = absurd cc
sends_given s v moment chosen (Some d) c e = inl (let f : d ≡ c = cc in sym f)

pub given : (s : Sender) (v : World) (act : Act) (c : Chunk) → given_by s act ≡ Some c →
    IsIn c (acts (with_world s v) act).world.sent
given s v (Queues bytes options) c e = absurd cc
given s v (Abandons n) c e = absurd cc
given s v AbandonsFirst c e = absurd cc
given s v (AbandonsOverdue moment) c e = absurd cc
given s v Finishes c e = absurd cc
given s v (Loses moment resend) c e = absurd cc
given s v (Sends moment resend) c e =
    sends_given s v moment (choice moment resend s) (chunk_for s (choice moment resend s)) c e
given s v (Hears a) c e = absurd cc
