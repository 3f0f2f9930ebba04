-- Short names for the values at which the rules' edges are stated.
use Rattle.std.specs.Prelude.{ℕ, [], ◌∷◌, Option}
use Rattle.glare_core.specs.declared.facts.Held.{Held}
use Rattle.glare_core.specs.declared.facts.Joined.{Joined}
use Rattle.glare_core.specs.declared.answers.Keying.{Keying}
use Rattle.glare_core.specs.Ledger.{PeerRow}

-- the row of a peer with which this is held, and whose greatest number was this
abbrev pub row : Option Held → ℕ → PeerRow
row held floor = record { held = held; floor = floor }

-- a keying with this number of the peer whose fingerprint is 5, with session ID 20
abbrev pub keying : ℕ → Keying
keying n = record { peer = 5 ∷ []; n = n; ni = 3 ∷ []; far = 20 }

-- a session with that peer under near id 10, whose attempt has this number
abbrev pub session : ℕ → Joined
session n = record { peer = 5 ∷ []; n = n; near = 10; far = 20; ni = 3 ∷ []; nr = 4 ∷ []; k = 2 }
