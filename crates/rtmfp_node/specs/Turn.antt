-- The turns of a node.
use Rattle.std.specs.Prelude.{◌≡◌, ℕ, zero, suc, ◌+◌, ◌-◌, ◌^◌, min, Bool, List, [], ◌∷◌, ◌++◌, drop, length, take, Option, Some, None}
use Rattle.rtmfp_host.specs.Linking.{next_given, after_call}
use Rattle.rtmfp_host.specs.Ticking.{next_moment, after_moment}
use Rattle.rtmfp_host.specs.Drawing.{next_block}
use Rattle.rtmfp_host.specs.Writing.{Appends}
use Rattle.rtmfp_host.specs.declared.link.LinkCall.{LinkCall}
use Rattle.rtmfp_host.specs.declared.link.LinkCall.TheVariants.{Bind, Receive, Send}
use Rattle.endpoint_model.specs.declared.config.Config.{Config}
use Rattle.endpoint_model.specs.declared.entry.Entry.{Entry}
use Rattle.endpoint_model.specs.Event.{Setup, Event}
use Rattle.endpoint_model.specs.Views.{Sending, out_in}
use Rattle.endpoint_laws.specs.Contexts.{Secrets}
use Rattle.rtmfp_report.specs.KeptKeys.{given_secrets}
use Rattle.rtmfp_words.specs.Node.{Serving}
use Rattle.rtmfp_node.specs.Outside.{Told}
use Rattle.rtmfp_node.specs.Events.{AreWholeEvents, AreZeroEvents, draws_of, entries_of}
use Rattle.rtmfp_node.specs.Reached.{Reached, at_first, reached_after}
use Rattle.rtmfp_node.specs.Report.{events_text, front_of, head_text, unsent_text}

-- ---- sends

abbrev pub outs_by : Option Sending → List Sending
outs_by None = []
outs_by (Some out) = out ∷ []

-- the datagrams that go out, in their order
abbrev pub outs_in : List Entry → List Sending
outs_in [] = []
outs_in (entry ∷ entries) = outs_by (out_in entry) ++ outs_in entries

-- one send for each of these datagrams, in order, each done or not
abbrev pub AreSends : List Sending → List LinkCall → Type 0
AreSends [] sends = sends ≡ []
AreSends (out ∷ outs) sends = (done : Bool) × (later : List LinkCall) ×
    (sends ≡ Send out.to out.datagram done ∷ later) × AreSends outs later

-- ---- what the end is given

-- the first bytes of the certificate: those of the words, or the first of the first block
abbrev pub instance_in : Option (List ℕ) → List ℕ → List ℕ
instance_in None block = take 16 block
instance_in (Some bytes) block = bytes

abbrev pub config_of : Serving → Config
config_of v = record { max_peers = 65536; max_sessions = 4096; introduces = v.introduce }

-- The certificate and the cookie secret come of the first block. The words have the group's secret,
-- which is that of its first generation; the next one is learnt in turn 0.
abbrev pub setup_of : Serving → List ℕ → Setup
setup_of v block = record {
  config = config_of v;
  cert = instance_in v.instance block ++ v.name;
  generation = 0;
  secret = v.group;
  cookie_secret = take 32 (drop 16 block);
}

-- what is written before the events of turn 0, by the first block
abbrev pub head_of : Serving → List ℕ → List ℕ
head_of v block = head_text v.journal (setup_of v block)

-- ---- turn 0 and the others

-- the group's secrets that the words have: that of generation 0, and that of generation 1
abbrev pub secrets_of : Serving → Secrets
secrets_of v = given_secrets v.group v.next

-- Turn 0, with its events: a moment; a learn, where there is a next secret; a draw and an open for
-- each opening; what stands in front of their lines, and these; a send for each datagram.
pub record TurnZero (v : Serving) (head : List ℕ) (before after : Told) (log : List Event)
    : Type 0 where
  pub events : AreZeroEvents v.next v.openings (next_moment before.clock) before.blocks log
  pub sends : List LinkCall
  pub sent : AreSends (outs_in (entries_of log)) sends
  pub left : after.line.left ≡ before.line.left
  pub calls : after.line.calls ≡ before.line.calls ++ sends
  pub clock : after.clock ≡ after_moment before.clock
  pub blocks : after.blocks ≡ drop (length v.openings) before.blocks
  pub text : Appends before.text after.text
      ((head ++ events_text v.journal (secrets_of v) 0 at_first log)
      ++ unsent_text (front_of v.journal 0) 0 sends)

-- a receive waits 50 ms at most
abbrev pub until_of : ℕ → ℕ
until_of first = min (first + 50) (2 ^ 64 - 1)

-- after the draw, the first moment, the receive and the second moment of a turn
abbrev pub after_wait : Told → Told
after_wait before = record {
  line = record {
    left = drop 1 before.line.left;
    calls = before.line.calls ++ Receive (until_of (next_moment before.clock)) ∷ [];
  };
  clock = after_moment (after_moment before.clock);
  blocks = drop 1 before.blocks;
  text = before.text;
}

-- after so many of the draws of turn 0, which come after its moment
abbrev pub after_draws : ℕ → Told → Told
after_draws drawn before = record {
  line = before.line;
  clock = after_moment before.clock;
  blocks = drop drawn before.blocks;
  text = before.text;
}

-- A turn with this number, before which the run came so far, with its events: an advance, where
-- this is its turn; a draw, a moment, a receive, a second moment; the calls of the end at that;
-- their lines; a send for each datagram.
pub record Turn (v : Serving) (turn : ℕ) (far : Reached) (before after : Told) (log : List Event)
    : Type 0 where
  pub events : AreWholeEvents v.advance turn v.send (next_given before.line.left)
      (next_moment (after_moment before.clock)) (draws_of (next_block before.blocks)) log
  pub sends : List LinkCall
  pub sent : AreSends (outs_in (entries_of log)) sends
  pub left : after.line.left ≡ drop 1 before.line.left
  pub calls : after.line.calls
      ≡ before.line.calls ++ Receive (until_of (next_moment before.clock)) ∷ sends
  pub clock : after.clock ≡ after_moment (after_moment before.clock)
  pub blocks : after.blocks ≡ drop 1 before.blocks
  pub text : Appends before.text after.text
      (events_text v.journal (secrets_of v) turn far log
      ++ unsent_text (front_of v.journal turn) far.sent sends)

-- so many turns from turn 1 on, one after another, with their events
abbrev pub Turns : Serving → ℕ → Reached → Told → Told → List Event → Type 0
Turns v zero far before after log = (after ≡ before) × (log ≡ [])
Turns v (suc n) far before after log =
    (middle : Told) × (earlier last : List Event) × Turns v n far before middle earlier ×
    Turn v (n + 1) (reached_after far earlier) middle after last × (log ≡ earlier ++ last)

-- ---- the whole run

-- after the first draw and the bind
abbrev pub after_bind : Serving → Told → Told
after_bind v before = record before {
  line = after_call before.line (Bind v.bind);
  blocks = drop 1 before.blocks;
}

-- A run of so many turns, with its log: a draw and a bind, turn 0, and the turns.
pub record Run (v : Serving) (turns : ℕ) (before after : Told) (log : List Event) : Type 0 where
  pub opened : Told
  pub first : List Event
  pub later : List Event
  pub turn_zero : TurnZero v (head_of v (next_block before.blocks)) (after_bind v before) opened
      first
  pub others : Turns v turns (reached_after at_first first) opened after later
  pub whole : log ≡ first ++ later
