-- Short names for the values at which the rules' edges are stated.
use Rattle.std.specs.Prelude.{◌≡◌, ℕ, List, [], ◌∷◌, false, replicate}
use Rattle.std.specs.FinMap.{entries}
use Rattle.crypto_profile.specs.declared.group.GroupSecret.{GroupSecret}
use Rattle.rtmfp_forms.specs.Address.{AddressParts}
use Rattle.startup.specs.declared.aim.Aim.TheVariants.{AtPeer, ByName}
use Rattle.startup.specs.declared.attempt.Stage.TheVariants.{Hello, Keying}
use Rattle.startup.specs.State.{AttemptState, Attempts}

-- 10.0.0.last, port 1935
abbrev pub v4 : ℕ → ℕ → AddressParts
v4 origin last = record {
  v6 = false;
  origin = origin;
  host = 10 ∷ 0 ∷ 0 ∷ last ∷ replicate 12 0;
  port = 1935;
}

-- an attempt, but with these moments of its start and of its last sending, and after so many
-- repeats
abbrev pub timed : ℕ → ℕ → ℕ → AttemptState → AttemptState
timed start last gap a = record a { start = start; last = last; gap = gap }

-- an attempt, but towards this peer, with this number
abbrev pub towards : List ℕ → ℕ → AttemptState → AttemptState
towards peer n a = record a { aim = AtPeer peer n }

-- a search for this name, but else as an attempt
abbrev pub searching : List ℕ → AttemptState → AttemptState
searching name a = record a { aim = ByName name }

-- an attempt, but in the hello stage, or in the keying stage with an address, a cookie, and the
-- generation and secret that it keeps
abbrev pub in_hello : AttemptState → AttemptState
in_hello a = record a { stage = Hello }

abbrev pub in_keying : AddressParts → List ℕ → GroupSecret → AttemptState → AttemptState
in_keying at cookie g a = record a { stage = Keying at cookie g }

-- the attempts are two, under the near ids 5 and 6
abbrev pub AreTwo : Attempts → AttemptState → AttemptState → Type 0
AreTwo attempts a b = entries attempts ≡ (5, a) ∷ (6, b) ∷ []
