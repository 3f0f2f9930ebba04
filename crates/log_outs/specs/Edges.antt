-- Values for the rows of this crate. A nonce and a fingerprint are a byte here.
use Rattle.std.specs.Prelude.{ℕ, List, [], ◌∷◌, Bool}
use Rattle.crypto_profile.specs.declared.keys.Context.{Context}
use Rattle.glare_core.specs.declared.facts.Joined.{Joined}
use Rattle.glare_core.specs.Tells.{as_initiator, as_responder}
use Rattle.endpoint_model.specs.Keying.{responder_part}
use Rattle.endpoint_laws.specs.Contexts.{session_context}
use Rattle.log_digest.specs.Nonces.{NonceSet}
use Rattle.log_packets.specs.Asked.{InitiatorFields}
use Rattle.log_outs.specs.declared.attempts.Attempt.{Attempt}

-- a session with the peer 5, under the session ID 3
abbrev pub session : Joined
session = record { peer = 5 ∷ []; n = 2; near = 3; far = 4; ni = 7 ∷ []; nr = 8 ∷ []; k = 0 }

-- this end
abbrev pub here : List ℕ
here = 6 ∷ []

-- the context of that session in a generation and a direction, where it was born here, and where it
-- was opened here
abbrev pub born_here : ℕ → Bool → Context
born_here generation to_responder =
    session_context generation (as_responder here session) to_responder

abbrev pub opened_here : ℕ → Bool → Context
opened_here generation to_responder =
    session_context generation (as_initiator here session) to_responder

-- the responder's component of its keying, with this count
abbrev pub component : ℕ → List ℕ
component k = responder_part (8 ∷ []) k here (7 ∷ [])

-- an attempt with the peer 5 and this component, and a keying with this certificate and component
abbrev pub attempt : List ℕ → Attempt
attempt part = record { peer = 5 ∷ []; part = part }

abbrev pub keying : List ℕ → List ℕ → InitiatorFields
keying cert part = record { near = 3; cookie = []; cert = cert; part = part; sign = [] }

-- nonces that are all different, or aren't
abbrev pub nonces : Bool → NonceSet
nonces different = record { each = []; different = different }
