-- What opens in a context under the secret that a map has for its generation, and what is signed under it.
use Rattle.std.proofs.Common.{◌≡◌, ℕ, List, drop, Bool, Some, refl, sym, subst, ◌∙◌}
use Rattle.std.specs.FinMap.{get}
use Rattle.crypto_profile.specs.declared.keys.Context.{Context}
use Rattle.crypto_profile.specs.Sealing.{Opens}
use Rattle.packet_scramble.specs.Datagram.{sid_of}
use Rattle.glare_core.specs.declared.facts.Joined.{Joined}
use Rattle.session_core.specs.declared.stage.Role.{Role}
use Rattle.session_core.specs.declared.stage.Role.TheVariants.{Initiator, Responder}
use Rattle.session_core.specs.Session.{context_between}
use Rattle.endpoint_model.specs.Keying.{IsSigned}
use Rattle.endpoint_laws.specs.Contexts.{Secrets, generation_of, OpensUnder}

one_of : (a b : List ℕ) → Some a ≡ Some b → a ≡ b
one_of a b e = cc

module _ (secrets : Secrets) (context : Context) (secret : List ℕ) (known : get secrets (generation_of context) ≡ Some secret) where
  pub only_secret : (other : List ℕ) → get secrets (generation_of context) ≡ Some other → other ≡ secret
  only_secret other is = one_of other secret (sym is ∙ known)

  -- what opens under it, and the other way round
  pub opens_known : (sid : ℕ) (datagram plain : List ℕ) → sid_of datagram ≡ sid → Opens secret context sid (drop 4 datagram) plain → OpensUnder secrets context sid datagram plain
  opens_known sid datagram plain id opens = record { secret = secret; known = known; id = id; opens = opens }

  pub known_opens : (sid : ℕ) (datagram plain : List ℕ) → OpensUnder secrets context sid datagram plain → Opens secret context sid (drop 4 datagram) plain
  known_opens sid datagram plain under = subst (λ (other : List ℕ). Opens other context sid (drop 4 datagram) plain) (only_secret under.secret under.known) under.opens

  -- what is signed under it is signed under that under which such a datagram opens
  pub signed_known : (sid : ℕ) (datagram plain : List ℕ) (under : OpensUnder secrets context sid datagram plain) (payload sign : List ℕ) → IsSigned secret payload sign → IsSigned under.secret payload sign
  signed_known sid datagram plain under payload sign = subst (λ (other : List ℕ). IsSigned other payload sign) (sym (only_secret under.secret under.known))

  pub known_signed : (sid : ℕ) (datagram plain : List ℕ) (under : OpensUnder secrets context sid datagram plain) (payload sign : List ℕ) → IsSigned under.secret payload sign → IsSigned secret payload sign
  known_signed sid datagram plain under payload sign = subst (λ (other : List ℕ). IsSigned other payload sign) (only_secret under.secret under.known)

-- the generation of a session's context
pub context_generation : (g : ℕ) (j : Joined) (own : List ℕ) (role : Role) (outward : Bool) → generation_of (context_between g j own role outward) ≡ g
context_generation g j own Initiator outward = refl
context_generation g j own Responder outward = refl
