-- Histories that aren't honest, aren't fresh, or aren't agreed.
use Rattle.std.specs.FinMap.{get}
use Rattle.std.specs.Prelude.{Some, ℕ, ◌≡◌, ◌≢◌, ◌⊎◌, List, [], ◌∷◌, length, Bool, true}
use Rattle.crypto_profile.specs.declared.keys.Context.{Context}
use Rattle.crypto_profile.specs.declared.keys.Context.TheVariants.{Startup}
use Rattle.crypto_profile.specs.Keys.{keys_of}
use Rattle.crypto_profile.specs.Sealing.{sealed_in}
use Rattle.packet_scramble.specs.Datagram.{datagram}
use Rattle.rtmfp_forms.specs.Address.{AddressParts}
use Rattle.identity.specs.Order.{Prevails}
use Rattle.glare_core.specs.declared.facts.Why.{Why}
use Rattle.glare_core.specs.declared.facts.Why.TheVariants.{Glare, Override, Near}
use Rattle.glare_core.specs.declared.facts.Fact.TheVariants.{Started, Born, Opened, Confirmed, Ended}
use Rattle.glare_core.specs.declared.facts.Joined.{Joined}
use Rattle.glare_core.specs.Tells.{as_initiator, as_responder}
use Rattle.glare_core.specs.declared.facts.Held.TheVariants.{HalfOpen}
use Rattle.endpoint_model.specs.declared.config.Draws.{Draws}
use Rattle.endpoint_model.specs.declared.entry.Entry.{Entry}
use Rattle.endpoint_model.specs.declared.entry.Entry.TheVariants.{Fact as FactEntry, Learnt, Out}
use Rattle.endpoint_model.specs.Event.{Setup, own_of, Cancel, Receive}
use Rattle.endpoint_laws.specs.Past.{is_close}
use Rattle.endpoint_laws.specs.Past.{nothing_done}
use Rattle.endpoint_laws.specs.Contexts.{Secrets, session_context, inward, OpensUnder, OpensInStartup}
use Rattle.endpoint_laws.specs.History.{Happened, IsHonest, IsFresh, past_at}
use Rattle.endpoint_laws.specs.Agreed.{IsAgreed}
use Rattle.endpoint_checks.specs.Logs.{doing, says}

-- an end did this, in a call that takes no datagram
abbrev pub did : ℕ → List Entry → Happened
did who entries = record { who = who; event = doing 0 (Cancel 0) entries }

-- an end took this datagram
abbrev pub took : ℕ → AddressParts → List ℕ → Draws → List Entry → Happened
took who from sent draws entries = record {
  who = who;
  event = doing 0 (Receive from sent draws) entries;
}

-- ---- honest

-- the datagram of a startup packet in the generation of an end
abbrev pub startup_sent : Setup → ℕ → List ℕ → List ℕ → List ℕ
startup_sent setup sid number plain =
    datagram sid (sealed_in setup.secret (Startup setup.generation) sid number plain)

-- Of a startup packet for end 0 under a session ID.
pub record ForgedRefused (secrets : Secrets) (ends : ℕ → Setup) (from to : AddressParts)
    (draws : Draws) (number plain other peer ni : List ℕ) (context : Context) (n : ℕ) : Type 0 where
  -- nobody sent it; others sent other bytes, or the same in another context; it is sent later, or
  -- in the same call
  pub unsent
      : IsHonest secrets ends (took 0 from (startup_sent (ends 0) 0 number plain) draws [] ∷ []) → ⊥
  pub others_sent : other ≢ startup_sent (ends 0) 0 number plain →
      IsHonest secrets ends (took 0 from (startup_sent (ends 0) 0 number plain) draws []
      ∷ did 1 (Out to other (Startup (ends 0).generation) ∷ []) ∷ []) → ⊥
  pub other_context : context ≢ Startup (ends 0).generation →
      IsHonest secrets ends (took 0 from (startup_sent (ends 0) 0 number plain) draws []
      ∷ did 1 (Out to (startup_sent (ends 0) 0 number plain) context ∷ []) ∷ []) → ⊥
  -- in the startup context of another generation, though of the same secret
  pub other_generation : (generation : ℕ) → generation ≢ (ends 0).generation →
      IsHonest secrets ends (took 0 from (startup_sent (ends 0) 0 number plain) draws []
      ∷ did 1 (Out to (startup_sent (ends 0) 0 number plain) (Startup generation) ∷ []) ∷ []) → ⊥
  pub sent_later
      : IsHonest secrets ends
      (did 1 (Out to (startup_sent (ends 0) 0 number plain) (Startup (ends 0).generation) ∷ [])
      ∷ took 0 from (startup_sent (ends 0) 0 number plain) draws [] ∷ []) → ⊥
  pub sent_itself
      : IsHonest secrets ends
      (took 0 from (startup_sent (ends 0) 0 number plain) draws
      (Out to (startup_sent (ends 0) 0 number plain) (Startup (ends 0).generation) ∷ []) ∷ []) → ⊥
  -- under the session ID of an attempt
  pub under_attempt
      : IsHonest secrets ends (took 0 from (startup_sent (ends 0) 5 number plain) draws []
      ∷ did 0 (says (Started peer n 5 ni)) ∷ []) → ⊥
  -- also where the next generation is known, in which it may open as well
  pub known_next : (next : ℕ) → next ≢ (ends 0).generation →
      IsHonest secrets ends (took 0 from (startup_sent (ends 0) 0 number plain) draws []
      ∷ did 1 (Out to (startup_sent (ends 0) 0 number plain) (Startup next) ∷ [])
      ∷ did 0 (Learnt next ∷ []) ∷ []) → ⊥
  -- one that opens in the next generation alone and was sent in the current one
  pub in_next : (next : ℕ) (again there : List ℕ) → next ≢ (ends 0).generation →
      ((other : List ℕ) → OpensUnder secrets (Startup (ends 0).generation) 0 again other → ⊥) →
      OpensUnder secrets (Startup next) 0 again there →
      IsHonest secrets ends (took 0 from again draws []
      ∷ did 1 (Out to again (Startup (ends 0).generation) ∷ [])
      ∷ did 0 (Learnt next ∷ []) ∷ []) → ⊥

-- Of a datagram that opens in the context of a session that was born at end 0, of a keying that
-- opened in this generation.
pub record ForgedInSessionsRefused (secrets : Secrets) (ends : ℕ → Setup) (from to : AddressParts)
    (draws : Draws) (keying sent : List ℕ) (generation : ℕ) (context : Context) (j : Joined)
    : Type 0 where
  pub unsent : IsHonest secrets ends (took 0 from sent draws []
      ∷ took 0 from keying draws (says (Born j)) ∷ []) → ⊥
  pub other_context : context
      ≢ session_context generation (as_responder (own_of (ends 0)) j) true →
      IsHonest secrets ends (took 0 from sent draws [] ∷ did 1 (Out to sent context ∷ [])
      ∷ took 0 from keying draws (says (Born j)) ∷ []) → ⊥
  -- as in that of another generation
  pub other_generation : (other : ℕ) → other ≢ generation →
      IsHonest secrets ends (took 0 from sent draws []
      ∷ did 1 (Out to sent (session_context other (as_responder (own_of (ends 0)) j) true) ∷ [])
      ∷ took 0 from keying draws (says (Born j)) ∷ []) → ⊥
  -- also when the session is closing, which either end closed
  pub closing : (why : Why) → is_close why ≡ true →
      IsHonest secrets ends (took 0 from sent draws [] ∷ did 0 (says (Ended j.peer j.near why))
      ∷ took 0 from keying draws (says (Born j)) ∷ []) → ⊥

-- ---- fresh

pub record StaleRefused (ends : ℕ → Setup) (p q ni : List ℕ) (n m near id : ℕ) (j k : Joined)
    : Type 0 where
  -- a nonce drawn twice: for two attempts at two ends, or at one; for an attempt and a session; for
  -- two sessions
  pub attempts : IsFresh ends (did 0 (says (Started p n near ni)) ∷ did 1 (says (Started q m id ni))
      ∷ []) → ⊥
  pub one_end : IsFresh ends (did 0 (says (Started p n near ni)) ∷ did 0 (says (Started q m id ni))
      ∷ []) → ⊥
  pub in_one_call
      : IsFresh ends (did 0 (FactEntry (Started p n near ni) ∷ FactEntry (Started q m id ni) ∷ [])
      ∷ []) → ⊥
  pub attempt_and_session : j.nr ≡ ni →
      IsFresh ends (did 0 (says (Started p n near ni)) ∷ did 1 (says (Born j)) ∷ []) → ⊥
  pub sessions : j.nr ≡ k.nr → IsFresh ends (did 0 (says (Born j)) ∷ did 1 (says (Born k)) ∷ []) → ⊥
  -- two ends with one fingerprint
  pub prints : own_of (ends 0) ≡ own_of (ends 1) → IsFresh ends (did 0 [] ∷ did 1 [] ∷ []) → ⊥

-- ---- agreed

-- the datagrams that the two ends take, and what is given with them: end 0 a responder's keying,
-- and end 1 an initiator's
pub record Sent : Type 0 where
  pub from : AddressParts
  pub draws : Draws
  pub answer : List ℕ
  pub keying : List ℕ

-- an attempt of an end, the birth of a session, and an attempt that opens as one: the values are
-- those of the session as the end has it
abbrev pub starts : ℕ → Joined → Happened
starts who j = did who (says (Started j.peer j.n j.near j.ni))

abbrev pub bears : Sent → ℕ → Joined → Happened
bears m who j = took who m.from m.keying m.draws (says (Born j))

abbrev pub opens : Sent → ℕ → Joined → Happened
opens m who j = took who m.from m.answer m.draws (says (Opened j))

abbrev pub confirms : ℕ → Joined → Happened
confirms who j = did who (says (Confirmed j.peer j.near))

-- The keying opens at end 1 in this generation, and the answer at end 0 in that one: as the first
-- thing that the end does, and after one attempt of its own.
pub record OpensAtBoth (secrets : Secrets) (ends : ℕ → Setup) (s t : Joined) (m : Sent) (g h : ℕ)
    : Type 0 where
  pub keying : OpensInStartup secrets (ends 1) nothing_done m.keying h
  pub keying_after : OpensInStartup secrets (ends 1) (past_at 1 (starts 1 t ∷ [])) m.answer h
  pub answer : OpensInStartup secrets (ends 0) (past_at 0 (starts 0 s ∷ [])) m.answer g

-- Of two ends with different fingerprints, where end 0 has s with end 1, and end 1 has t with end
-- 0.
pub record DisagreedRefused (secrets : Secrets) (ends : ℕ → Setup) (s t : Joined) (m : Sent)
    (g h : ℕ) : Type 0 where
  -- they keep different sessions: by either nonce, or by an identifier that isn't crossed
  pub kept : (s.ni ≢ t.ni) ⊎ ((s.nr ≢ t.nr) ⊎ ((s.near ≢ t.far) ⊎ (s.far ≢ t.near))) →
      IsAgreed secrets ends (confirms 1 t ∷ opens m 0 s ∷ bears m 1 t ∷ starts 0 s ∷ []) → ⊥
  -- also where that is over since
  pub kept_before : s.nr ≢ t.nr →
      IsAgreed secrets ends (did 0 (says (Ended s.peer s.near Near)) ∷ confirms 1 t ∷ opens m 0 s
      ∷ bears m 1 t
      ∷ starts 0 s ∷ []) → ⊥
  -- an attempt opens that wasn't born, is born only then, was born with another count or another
  -- session ID
  pub unborn : IsAgreed secrets ends (opens m 0 s ∷ starts 0 s ∷ []) → ⊥
  pub born_later : IsAgreed secrets ends (bears m 1 t ∷ opens m 0 s ∷ starts 0 s ∷ []) → ⊥
  pub other_count : t.k ≢ s.k →
      IsAgreed secrets ends (opens m 0 s ∷ bears m 1 t ∷ starts 0 s ∷ []) → ⊥
  pub other_id : t.near ≢ s.far →
      IsAgreed secrets ends (opens m 0 s ∷ bears m 1 t ∷ starts 0 s ∷ []) → ⊥
  -- the keys of its session differ, in either direction
  pub other_keys : (secret : List ℕ) (to_responder : Bool) → t.n ≡ s.n → t.ni ≡ s.ni →
      get secrets g ≡ Some secret →
      keys_of secret (session_context g (as_initiator (own_of (ends 0)) s) to_responder)
      ≢ keys_of secret (session_context h (as_responder (own_of (ends 1)) t) to_responder) →
      IsAgreed secrets ends (opens m 0 s ∷ bears m 1 t ∷ starts 0 s ∷ []) → ⊥
  -- it began at the two ends in different generations
  pub other_generation : t.n ≡ s.n → t.ni ≡ s.ni → g ≢ h →
      IsAgreed secrets ends (opens m 0 s ∷ bears m 1 t ∷ starts 0 s ∷ []) → ⊥
  -- an attempt is born twice, in two calls and in one
  pub twice : (u : Joined) → t.n ≡ s.n → t.ni ≡ s.ni → u.peer ≡ t.peer → u.n ≡ s.n → u.ni ≡ s.ni →
      t ≢ u → OpensInStartup secrets (ends 1) (past_at 1 (bears m 1 t ∷ [])) m.keying h →
      IsAgreed secrets ends (bears m 1 u ∷ bears m 1 t ∷ starts 0 s ∷ []) → ⊥
  pub twice_at_once : (u : Joined) → t.n ≡ s.n → t.ni ≡ s.ni → u.peer ≡ t.peer → u.n ≡ s.n →
      u.ni ≡ s.ni → t ≢ u →
      IsAgreed secrets ends (took 1 m.from m.keying m.draws (FactEntry (Born t)
      ∷ FactEntry (Born u) ∷ []) ∷ starts 0 s ∷ []) → ⊥
  -- of two attempts that are crossed one opens while the other isn't over, and both open
  pub crossed : IsAgreed secrets ends (opens m 0 s ∷ starts 1 t ∷ starts 0 s ∷ []) → ⊥
  pub both : IsAgreed secrets ends (opens m 1 t ∷ opens m 0 s ∷ starts 1 t ∷ starts 0 s ∷ []) → ⊥
  -- the attempt of an end that prevails is ended for Glare
  pub spared : (near : ℕ) → Prevails (own_of (ends 0)) s.peer →
      IsAgreed secrets ends (did 0 (says (Ended s.peer near Glare)) ∷ starts 0 s ∷ []) → ⊥
  -- a kept session is ended for Override, which its peer has not ended
  pub overridden : (near : ℕ) →
      IsAgreed secrets ends (did 0 (says (Ended s.peer near Override)) ∷ opens m 0 s ∷ starts 0 s
      ∷ []) → ⊥

abbrev pub HistoriesRefuseForged : Type 0
HistoriesRefuseForged = (secrets : Secrets) (ends : ℕ →
    Setup) (from to : AddressParts) (draws : Draws)
    (number plain other peer ni : List ℕ) (context : Context) (n : ℕ) → length number ≡ 16
    → get secrets (ends 0).generation ≡ Some (ends 0).secret →
    ForgedRefused secrets ends from to draws number plain other peer ni context n

abbrev pub HistoriesRefuseForgedInSessions : Type 0
HistoriesRefuseForgedInSessions = (secrets : Secrets) (ends : ℕ →
    Setup) (from to : AddressParts) (draws : Draws) (keying sent plain : List ℕ) (generation : ℕ)
    (context : Context) (j : Joined)
    → OpensInStartup secrets (ends 0) nothing_done keying generation →
    OpensUnder secrets (inward (ends 0) generation (HalfOpen j)) j.near sent plain →
    ForgedInSessionsRefused secrets ends from to draws keying sent generation context j

abbrev pub HistoriesRefuseStale : Type 0
HistoriesRefuseStale = (ends : ℕ → Setup) (p q ni : List ℕ) (n m near id : ℕ) (j k : Joined) →
    StaleRefused ends p q ni n m near id j k

abbrev pub HistoriesRefuseDisagreed : Type 0
HistoriesRefuseDisagreed = (secrets : Secrets) (ends : ℕ → Setup) (s t : Joined) (m : Sent)
    (g h : ℕ) → own_of (ends 0) ≢ own_of (ends 1) →
    s.peer ≡ own_of (ends 1) → t.peer ≡ own_of (ends 0) → OpensAtBoth secrets ends s t m g h →
    DisagreedRefused secrets ends s t m g h
