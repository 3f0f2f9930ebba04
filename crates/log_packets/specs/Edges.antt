-- Values for the rows of this crate.
use Rattle.std.specs.Prelude.{ℕ, List, [], ◌∷◌, replicate, Bool}
use Rattle.crypto_profile.specs.declared.keys.Context.{Context}
use Rattle.crypto_profile.specs.declared.keys.Context.TheVariants.{Session}
use Rattle.rtmfp_packet.specs.Walk.{Placed}

-- the context of a session in one direction
abbrev pub towards : Bool → Context
towards to_responder = Session 0 (7 ∷ []) (8 ∷ []) (5 ∷ []) (6 ∷ []) 4 3 to_responder

-- a datagram of so many bytes
abbrev pub long : ℕ → List ℕ
long count = replicate count 9

-- a chunk of this type with this payload
abbrev pub chunk : ℕ → List ℕ → Placed
chunk kind payload = record { kind = kind; at = 1; payload = payload }
