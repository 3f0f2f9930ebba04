-- When a datagram opens, and what was sealed in it.
use Rattle.std.specs.Prelude.{ℕ, List, ◌∷◌, ◌≡◌, ◌==◌, ◌%◌, ◌^◌, nat_lt, length, take, drop, replicate, Bool, true, false, ◌&&◌, Option, Some, None, is_none, if◌then◌else◌}
use Rattle.std.specs.FinMap.{get}
use Rattle.std.specs.Str.{bytes_eq}
use Rattle.crypto_profile.specs.declared.keys.Context.{Context}
use Rattle.crypto_profile.specs.declared.keys.Context.TheVariants.{Startup, Session}
use Rattle.crypto_profile.specs.Keys.{Keys}
use Rattle.crypto_profile.specs.Opening.{open_refusal, plain_of}
use Rattle.crypto_profile.specs.Sealing.{number_of, sealed_in}
use Rattle.packet_scramble.specs.Datagram.{datagram, sid_of}
use Rattle.endpoint_laws.specs.Contexts.{Secrets, generation_of, OpensUnder, OpensFirst, next_contexts}

-- ---- by the bytes alone

-- the session ID of a datagram that has 36 bytes or more: one of fewer opens nowhere
abbrev pub sid_in : List ℕ → Option ℕ
sid_in bytes = if nat_lt (length bytes) 36 then None else Some (sid_of bytes)

abbrev pub is_sid : Option ℕ → ℕ → Bool
is_sid None sid = false
is_sid (Some id) sid = id == sid

-- whether packets of the context may have this number
abbrev pub fits : Context → List ℕ → Bool
fits (Startup generation) number = true
fits (Session generation ni nr fp_i fp_r sid_i sid_r to_responder) number =
    bytes_eq (take 8 number) (replicate 8 0)

-- the sealed part of a datagram that goes under the session ID, where its number is one of the
-- context
abbrev pub part_for : Context → ℕ → List ℕ → Option (List ℕ)
part_for context sid bytes =
    if is_sid (sid_in bytes) sid && fits context (number_of (drop 4 bytes)) then
    Some (drop 4 bytes) else None

-- ---- by keys

-- whether the tag of a part is right
abbrev pub is_tagged : Keys → ℕ → List ℕ → Bool
is_tagged keys sid part = is_none (open_refusal keys sid part)

-- the plain packet that is held: that of a part whose tag is right, else the one before
abbrev pub held_then : Keys → ℕ → List ℕ → List ℕ → List ℕ
held_then keys sid part before = if is_tagged keys sid part then plain_of keys part else before

-- ---- by secrets

-- Whether the datagram opens so; it has then this plain packet, and no other.
pub record IsOpened (secrets : Secrets) (context : Context) (sid : ℕ) (bytes : List ℕ)
    (opens : Bool) (plain : List ℕ) : Type 0 where
  pub yes : opens ≡ true → OpensUnder secrets context sid bytes plain
  pub no : (other : List ℕ) → OpensUnder secrets context sid bytes other →
      (opens ≡ true) × (other ≡ plain)

abbrev pub startup_of : ℕ → Option ℕ → List Context
startup_of current next = Startup current ∷ next_contexts next

-- The generation in whose startup context, the first of these, the datagram opens; it has then this
-- plain packet, and no other.
pub record IsFirstOpened (secrets : Secrets) (current : ℕ) (next : Option ℕ) (sid : ℕ)
    (bytes : List ℕ) (found : Option ℕ) (plain : List ℕ) : Type 0 where
  pub yes : (generation : ℕ) → found ≡ Some generation →
      OpensFirst secrets (startup_of current next) sid bytes (Startup generation) plain
  pub no : (context : Context) (other : List ℕ) →
      OpensFirst secrets (startup_of current next) sid bytes context other → (generation : ℕ) ×
      (context ≡ Startup generation) × (found ≡ Some generation) × (other ≡ plain)

-- the same of this generation alone, if there is one
pub record IsOpenedIn (secrets : Secrets) (next : Option ℕ) (sid : ℕ) (bytes : List ℕ)
    (found : Option ℕ) (plain : List ℕ) : Type 0 where
  pub yes : (generation : ℕ) → found ≡ Some generation →
      OpensFirst secrets (next_contexts next) sid bytes (Startup generation) plain
  pub no : (context : Context) (other : List ℕ) →
      OpensFirst secrets (next_contexts next) sid bytes context other → (generation : ℕ) ×
      (context ≡ Startup generation) × (found ≡ Some generation) × (other ≡ plain)

-- The datagram is this plain packet, sealed under the secret of the context's generation, the
-- session ID and the number.
pub record IsSealed (secrets : Secrets) (context : Context) (bytes : List ℕ) (sid : ℕ)
    (number plain : List ℕ) : Type 0 where
  pub numbered : length number ≡ 16
  pub secret : List ℕ
  pub known : get secrets (generation_of context) ≡ Some secret
  pub is : bytes ≡ datagram sid (sealed_in secret context sid number plain)

-- Whether the datagram was sealed so; its session ID, its number and its plain packet are then
-- these, and no others. A session ID has 32 bits.
pub record WasSealed (secrets : Secrets) (context : Context) (bytes : List ℕ) (sealed : Bool)
    (plain : List ℕ) : Type 0 where
  pub yes : sealed ≡ true →
      IsSealed secrets context bytes (sid_of bytes) (number_of (drop 4 bytes)) plain
  pub no : (sid : ℕ) (number other : List ℕ) →
      IsSealed secrets context bytes sid number other → (sealed ≡ true) ×
      (sid % 2 ^ 32 ≡ sid_of bytes) × (number ≡ number_of (drop 4 bytes)) × (other ≡ plain)
