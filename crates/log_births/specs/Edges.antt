-- Values for the rows of this crate. A fingerprint and a nonce are short lists of bytes here.
use Rattle.std.specs.Prelude.{ℕ, List, [], ◌∷◌}
use Rattle.glare_core.specs.declared.facts.Held.{Held}
use Rattle.glare_core.specs.declared.facts.Held.TheVariants.{Opening}
use Rattle.glare_core.specs.declared.facts.Joined.{Joined}
use Rattle.endpoint_laws.specs.Admissible.{Offer}
use Rattle.endpoint_model.specs.Keying.{initiator_part}
use Rattle.log_packets.specs.Asked.{InitiatorFields}

-- an attempt that is held with a peer, and a session
abbrev pub attempt : Held
attempt = Opening 2 3 (7 ∷ [])

abbrev pub session : Joined
session = record { peer = 5 ∷ []; n = 2; near = 3; far = 9; ni = 7 ∷ []; nr = 8 ∷ []; k = 4 }

-- the offer of a peer with this number, and with this session ID
abbrev pub offer : ℕ → ℕ → Offer
offer n far = record { peer = 5 ∷ []; n = n; ni = 7 ∷ []; far = far }

-- a keying with this session ID, of an attempt with this number at the end with this fingerprint
abbrev pub keying : ℕ → ℕ → List ℕ → InitiatorFields
keying near n own = record {
  near = near;
  cookie = [];
  cert = [];
  part = initiator_part (7 ∷ []) n own;
  sign = [];
}
