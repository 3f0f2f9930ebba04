-- What the fields of a world keep.
use Rattle.std.specs.Prelude.{ℕ, ◌≡◌, ◌+◌, ◌-◌, ◌*◌, ◌<◌, ◌≤◌, ◌^◌, List, [], ◌∷◌, map, length, get_or, Option, Some, None}
use Rattle.sha2.specs.Sha256.{sha256}
use Rattle.rtmfp_forms.specs.Address.{AddressParts}
use Rattle.rtmfp_text.specs.declared.names.Named.{Named}
use Rattle.endpoint_model.specs.Event.{own_of}
use Rattle.counted_secrets.specs.Secrets.{counted_secret}
use Rattle.rendezvous_world.specs.declared.end.End.{End}
use Rattle.rendezvous_world.specs.declared.sent.Letter.{Letter}
use Rattle.rendezvous_world.specs.declared.journal.JournalLine.{JournalLine}
use Rattle.rendezvous_world.specs.Seen.{EndSeen, Seen, first_generation}
use Rattle.rendezvous_world.specs.Kept.{IsWorld}
use Rattle.rendezvous_world.specs.Keyed.{AreKeys}
use Rattle.rendezvous_world.specs.Sent.{Sent, sent_among, sent_in}

abbrev pub end_seen : End → EndSeen
end_seen end = record {
  name = end.name;
  setup = record {
    config = end.config;
    cert = end.cert;
    generation = first_generation;
    secret = counted_secret first_generation;
    cookie_secret = sha256 end.cert;
  };
  state = end.endpoint;
}

abbrev pub world_seen : ℕ → List End → List JournalLine → Seen
world_seen moment ends lines = record { moment = moment; ends = map end_seen ends; lines = lines }

-- the fingerprint and the name of an end
abbrev pub named_of : EndSeen → Named
named_of end = record { print = own_of end.setup; name = end.name }

-- ---- sent datagrams

abbrev pub sent_of : Letter → Sent
sent_of letter = record {
  by = letter.by;
  to = letter.to.now;
  datagram = letter.datagram.now;
  context = letter.context.now;
}

abbrev pub sent_found : Option Letter → Option Sent
sent_found None = None
sent_found (Some letter) = Some (sent_of letter)

-- who sent a datagram, and where to
abbrev pub passing : Option Sent → Option (ℕ × AddressParts)
passing None = None
passing (Some sent) = Some (sent.by, sent.to)

-- how many datagrams a line sent
abbrev pub count_in : JournalLine → ℕ
count_in line = length (sent_among line.end line.out.entries)

-- for each line how many datagrams were sent before it, on top of so many
abbrev pub starts_after : ℕ → List JournalLine → List ℕ
starts_after before [] = []
starts_after before (line ∷ lines) = before ∷ starts_after (before + count_in line) lines

-- So many of these numbers are below another, at least one, and the next one isn't.
pub record IsCut (starts : List ℕ) (number count : ℕ) : Type 0 where
  pub some : 0 < count
  pub inside : count ≤ length starts
  pub below : get_or starts (count - 1) 0 < number
  pub above : count < length starts → number ≤ get_or starts count 0

-- ---- all of it

pub record IsKept (moment : ℕ) (ends : List End) (named : List Named) (lines : List JournalLine)
    (starts : List ℕ) (sent : ℕ) (keyed : List ℕ) : Type 0 where
  pub names : named ≡ map named_of (map end_seen ends)
  pub begins : starts ≡ starts_after 0 lines
  pub total : sent ≡ length (sent_in lines)
  pub fits : sent ≤ length lines * 2 ^ 64
  pub keys : AreKeys keyed (sent_in lines)
  pub world : IsWorld (world_seen moment ends lines)
