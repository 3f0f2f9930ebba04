-- What a link has still to give and what was called of it, where it tells them.
use Rattle.std.specs.Prelude.{◌≡◌, ℕ, ◌≤◌, Bool, true, false, List, [], ◌∷◌, ◌++◌, length, drop, take, Option, Some, None, IfSome}
use Rattle.rtmfp_host.specs.declared.link.Given.{Given}
use Rattle.rtmfp_host.specs.declared.link.Given.TheVariants.{Datagram, Quiet}
use Rattle.rtmfp_host.specs.declared.link.LinkCall.{LinkCall}
use Rattle.rtmfp_host.specs.declared.link.LinkCall.TheVariants.{Receive}
use Rattle.rtmfp_host.specs.declared.link.Got.{Got}
use Rattle.rtmfp_host.specs.declared.link.Got.TheVariants.{Datagram as GotDatagram, Quiet as GotQuiet, Failed as NotGot}
use Rattle.rtmfp_host.specs.declared.link.Sent.{Sent}
use Rattle.rtmfp_host.specs.declared.link.Sent.TheVariants.{Done, Failed}

-- the places that are left, and the calls in their order
pub record Line : Type 0 where
  pub left : List Given
  pub calls : List LinkCall

-- of a link: what it tells, how often a bind or a receive has failed, and how often a send has
pub record LinkSeen : Type 0 where
  pub line : Option Line
  pub faults : ℕ
  pub losses : ℕ

-- an empty list gives a quiet
abbrev pub next_given : List Given → Given
next_given [] = Quiet
next_given (given ∷ left) = given

abbrev pub after_call : Line → LinkCall → Line
after_call line call = record { left = line.left; calls = line.calls ++ call ∷ [] }

-- a call that takes no place
abbrev pub Calls : Option Line → Option Line → LinkCall → Type 0
Calls before None call = Unit {0}
Calls None (Some now) call = ⊥
Calls (Some before) (Some now) call = now ≡ after_call before call

abbrev pub is_done : Sent → Bool
is_done Done = true
is_done Failed = false

-- a datagram is within the buffer
abbrev pub Fits : Got → Type 0
Fits (GotDatagram from length) = length ≤ 2048
Fits GotQuiet = Unit {0}
Fits NotGot = Unit {0}

-- what a receive gave, with this buffer after it; nothing where it failed
abbrev pub given_by : Got → List ℕ → Option Given
given_by (GotDatagram from length) buf = Some (Datagram from (take length buf))
given_by GotQuiet buf = Some Quiet
given_by NotGot buf = None

-- the place that was taken is gone; a receive that failed takes none
abbrev pub left_after : Option Given → List Given → List Given
left_after None left = left
left_after (Some given) left = drop 1 left

abbrev pub after_receive : Line → Option Given → ℕ → Line
after_receive line given until = record {
  left = left_after given line.left;
  calls = line.calls ++ Receive until ∷ [];
}

-- what one receive does: it gives the first place, or fails
abbrev pub Receives : Option Line → Option Line → ℕ → Option Given → Type 0
Receives before None until given = Unit {0}
Receives None (Some now) until given = ⊥
Receives (Some before) (Some now) until given =
    IfSome given (λ g. g ≡ next_given before.left) × (now ≡ after_receive before given until)

-- the bytes of a datagram that is to be given fit the buffer
abbrev pub given_len : Given → ℕ
given_len (Datagram from bytes) = length bytes
given_len Quiet = 0

abbrev pub IsShortGiven : Given → Type 0
IsShortGiven given = given_len given ≤ 2048
