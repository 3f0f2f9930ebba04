-- What an entry has for those who ask of one thing alone: a fact, a datagram, a session that is
-- over, a search that begins or is over, or a generation that was learnt or became current. Whoever
-- asks by these isn't touched by entries of other kinds.
use Rattle.std.specs.Prelude.{ℕ, List, Option, Some, None}
use Rattle.rtmfp_forms.specs.Address.{AddressParts}
use Rattle.crypto_profile.specs.declared.keys.Context.{Context}
use Rattle.glare_core.specs.declared.facts.Fact.{Fact}
use Rattle.glare_core.specs.declared.facts.Why.{Why}
use Rattle.endpoint_model.specs.declared.entry.Entry.{Entry}
use Rattle.endpoint_model.specs.declared.entry.Entry.TheVariants.{Fact as FactEntry, Closed, Sought, Unsought, Learnt, Advanced, Out}

-- the fact that an entry is
abbrev pub fact_in : Entry → Option Fact
fact_in (FactEntry fact) = Some fact
fact_in entry = None

-- a datagram that went out: where to, its bytes, and what it was sealed for
pub record Sending : Type 0 where
  pub to : AddressParts
  pub datagram : List ℕ
  pub context : Context

-- the datagram that an entry is
abbrev pub out_in : Entry → Option Sending
out_in (Out to datagram context) =
    Some (record { to = to; datagram = datagram; context = context })
out_in entry = None

-- the session ID of the session that was closing and is over
abbrev pub closed_in : Entry → Option ℕ
closed_in (Closed near) = Some near
closed_in entry = None

-- a search: its session ID, and the name
pub record NamedSearch : Type 0 where
  pub near : ℕ
  pub name : List ℕ

-- the search that began
abbrev pub sought_in : Entry → Option NamedSearch
sought_in (Sought near name) = Some (record { near = near; name = name })
sought_in entry = None

-- a search that is over, and why
pub record EndedSearch : Type 0 where
  pub near : ℕ
  pub why : Why

abbrev pub unsought_in : Entry → Option EndedSearch
unsought_in (Unsought near why) = Some (record { near = near; why = why })
unsought_in entry = None

-- the number of the generation whose secret was learnt
abbrev pub learnt_in : Entry → Option ℕ
learnt_in (Learnt generation) = Some generation
learnt_in entry = None

-- the number of the generation that became the current one
abbrev pub advanced_in : Entry → Option ℕ
advanced_in (Advanced generation) = Some generation
advanced_in entry = None
