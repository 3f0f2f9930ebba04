-- The two ends of a session.
use Rattle.std.specs.Prelude.{◌≡◌, ℕ, ◌+◌, ◌-◌, ◌^◌, ◌<◌, List, Bool, true, not}
use Rattle.crypto_profile.specs.Opening.{plain_of}
use Rattle.session_core.specs.declared.stage.Role.{Role}
use Rattle.session_core.specs.declared.stage.Role.TheVariants.{Initiator, Responder}
use Rattle.session_core.specs.Session.{SessionState, IsKeyed, context_of}
use Rattle.session_core.specs.Sealed.{sealed_part}
use Rattle.session_core.specs.Hearing.{count_of, opens_in}

abbrev pub other_role : Role → Role
other_role Initiator = Responder
other_role Responder = Initiator

-- these are the two ends of one session: their keys are those of one secret, and they have its
-- generation, its nonces, and each other's fingerprints and session IDs
pub record AreEnds (a b : SessionState) : Type 0 where
  pub secret : List ℕ
  pub keyed : IsKeyed secret a
  pub keyed_there : IsKeyed secret b
  pub generation : a.generation ≡ b.generation
  pub ni : a.joined.ni ≡ b.joined.ni
  pub nr : a.joined.nr ≡ b.joined.nr
  pub first : a.own ≡ b.joined.peer
  pub second : a.joined.peer ≡ b.own
  pub near : a.joined.near ≡ b.joined.far
  pub far : a.joined.far ≡ b.joined.near
  pub roles : a.role ≡ other_role b.role

-- ---- laws

-- The context away from one end is that towards the other.
abbrev pub ContextsMeet : Type 0
ContextsMeet = (a b : SessionState) (outward : Bool) → AreEnds a b →
    context_of a outward ≡ context_of b (not outward)

-- What one end seals opens at the other, with the same plain packet and the next count.
abbrev pub SealedOpensThere : Type 0
SealedOpensThere = (a b : SessionState) (plain : List ℕ) → AreEnds a b → a.sealed < 2 ^ 64 - 1
    → (opens_in b (sealed_part a plain) ≡ true) ×
    (plain_of b.inward (sealed_part a plain) ≡ plain) ×
    (count_of (sealed_part a plain) ≡ a.sealed + 1)
