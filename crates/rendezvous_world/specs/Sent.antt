-- The datagrams that ends sent, in their order over the whole run.
use Rattle.std.specs.Prelude.{ℕ, List, [], ◌∷◌, ◌++◌, Option, Some, None}
use Rattle.crypto_profile.specs.declared.keys.Context.{Context}
use Rattle.rtmfp_forms.specs.Address.{AddressParts}
use Rattle.endpoint_model.specs.declared.entry.Entry.{Entry}
use Rattle.endpoint_model.specs.Views.{Sending, out_in}
use Rattle.rendezvous_world.specs.declared.journal.JournalLine.{JournalLine}

-- a datagram that an end sent
pub record Sent : Type 0 where
  -- the number of the end
  pub by : ℕ
  -- where to
  pub to : AddressParts
  pub datagram : List ℕ
  -- what it is sealed for
  pub context : Context

-- a datagram that went out from this end
abbrev pub sent_from : ℕ → Sending → Sent
sent_from by out =
    record { by = by; to = out.to; datagram = out.datagram; context = out.context }

-- one that went out from this end, if there is one, and then these
abbrev pub with_sent : ℕ → Option Sending → List Sent → List Sent
with_sent by None later = later
with_sent by (Some out) later = sent_from by out ∷ later

-- those among the entries of a call of this end
abbrev pub sent_among : ℕ → List Entry → List Sent
sent_among by [] = []
sent_among by (entry ∷ rest) = with_sent by (out_in entry) (sent_among by rest)

abbrev pub sent_in : List JournalLine → List Sent
sent_in [] = []
sent_in (line ∷ lines) = sent_among line.end line.out.entries ++ sent_in lines
