-- What each step keeps of a world.
use Rattle.std.specs.Prelude.{ℕ, ◌≡◌, ◌<◌, ◌^◌, ◌⊎◌, List, [], ◌∷◌, length, slice_get, Option, Some, None}
use Rattle.std.specs.List.{AllByRecursion}
use Rattle.glare_core.specs.Steps.{Among}
use Rattle.glare_core.specs.Told.{AllDifferent}
use Rattle.endpoint_model.specs.Event.{own_of}
use Rattle.endpoint_laws.specs.Laws.{IsSetup, AreCalls}
use Rattle.endpoint_laws.specs.Contexts.{Knows}
use Rattle.endpoint_laws.specs.Draws.{drawn_in}
use Rattle.endpoint_laws.specs.History.{log_of, past_at, IsHonest}
use Rattle.rendezvous_world.specs.declared.journal.JournalLine.{JournalLine}
use Rattle.rendezvous_world.specs.declared.step.Step.{Step}
use Rattle.rendezvous_world.specs.Deed.{Deed, Calls, deed_of}
use Rattle.rendezvous_world.specs.Calls.{peer_in}
use Rattle.rendezvous_world.specs.Draws.{two_numbers}
use Rattle.rendezvous_world.specs.Seen.{EndSeen, Seen, group_secrets, setup_at}
use Rattle.rendezvous_world.specs.History.{history_of}
use Rattle.rendezvous_world.specs.Stepping.{IsAnswered}
use Rattle.rendezvous_world.specs.Sound.{StandsUpTo}

-- Ends with the same of these bytes are the same end.
abbrev pub AreApart : (EndSeen → List ℕ) → List EndSeen → Type 0
AreApart bytes ends = (a b : ℕ) (x y : EndSeen) → slice_get ends a ≡ Some x →
    slice_get ends b ≡ Some y → bytes x ≡ bytes y → a ≡ b

abbrev pub name_of : EndSeen → List ℕ
name_of end = end.name

abbrev pub print_of : EndSeen → List ℕ
print_of end = own_of end.setup

-- The end that a call names is one of so many.
abbrev pub IsNamed : ℕ → Option ℕ → Type 0
IsNamed count None = Unit {0}
IsNamed count (Some peer) = peer < count

abbrev pub HasPeerIn : ℕ → Deed → Type 0
HasPeerIn count (Calls end call) = IsNamed count (peer_in call)
HasPeerIn count deed = Unit {0}

abbrev pub HasPeer : ℕ → Step → Type 0
HasPeer count step = HasPeerIn count (deed_of step)

-- The line is of one of so many ends, and its number fits into 32 bits.
pub record IsLineIn (count : ℕ) (line : JournalLine) : Type 0 where
  pub end : line.end < count
  pub peer : HasPeer count line.step
  pub small : line.line < 2 ^ 32

-- Each line is below those after it.
abbrev pub Rise : List JournalLine → Type 0
Rise [] = Unit {0}
Rise (line ∷ lines) = AllByRecursion (λ later. line.line < later.line) lines × Rise lines

-- A line has this number.
abbrev pub HasNumber : ℕ → List JournalLine → Type 0
HasNumber number [] = ⊥
HasNumber number (line ∷ lines) = (number ≡ line.line) ⊎ HasNumber number lines

-- The nonce is that of a line.
pub record IsOfLine (nonce : List ℕ) (lines : List JournalLine) : Type 0 where
  pub number : ℕ
  pub there : HasNumber number lines
  pub is : nonce ≡ two_numbers 0 number

pub record IsWorld (w : Seen) : Type 0 where
  -- each end stands for its own log, but that it may have noted a moment which has passed
  pub stand : (who : ℕ) (end : EndSeen) → slice_get w.ends who ≡ Some end →
      StandsUpTo w.moment end.setup (log_of who (history_of w)) end.state
  -- what it was given has its sizes
  pub given : (who : ℕ) (end : EndSeen) → slice_get w.ends who ≡ Some end → IsSetup end.setup
  -- its first secret and each that it learnt are those of the group for their generations
  pub known : (who : ℕ) (end : EndSeen) → slice_get w.ends who ≡ Some end →
      Knows group_secrets end.setup (past_at who (history_of w))
  -- different ends have different names and different fingerprints
  pub names : AreApart name_of w.ends
  pub prints : AreApart print_of w.ends
  -- what was given to calls has its sizes
  pub calls : (who : ℕ) → AreCalls (log_of who (history_of w))
  pub lines : AllByRecursion (IsLineIn (length w.ends)) w.lines
  pub rise : Rise w.lines
  -- each line tells what its step can answer
  pub answers : AllByRecursion IsAnswered w.lines
  pub honest : IsHonest group_secrets (setup_at w.ends) (history_of w)
  -- the nonces that calls drew are those of lines, none of which gave two
  pub nonces : AllDifferent (drawn_in (history_of w))
  pub drawn : (nonce : List ℕ) → Among nonce (drawn_in (history_of w)) → IsOfLine nonce w.lines
