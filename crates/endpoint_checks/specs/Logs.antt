-- Short logs, and when one is refused.
use Rattle.std.specs.Prelude.{ℕ, List, [], ◌∷◌}
use Rattle.glare_core.specs.declared.facts.Why.{Why}
use Rattle.glare_core.specs.declared.facts.Fact.{Fact}
use Rattle.glare_core.specs.declared.facts.Fact.TheVariants.{Born, Ended}
use Rattle.glare_core.specs.declared.facts.Joined.{Joined}
use Rattle.endpoint_model.specs.declared.entry.Entry.{Entry}
use Rattle.endpoint_model.specs.declared.entry.Entry.TheVariants.{Fact as FactEntry}
use Rattle.endpoint_model.specs.Event.{Setup, Call, Answer, Done, Event}
use Rattle.endpoint_laws.specs.Contexts.{Secrets, EventOpenedIn}
use Rattle.endpoint_laws.specs.Past.{Past, with_begun, with_fact}
use Rattle.endpoint_laws.specs.Lawful.{IsLawful}

-- a call at a moment, what it answered, and what it added
abbrev pub answering : ℕ → Call → Answer → List Entry → Event
answering moment call answer entries = record {
  moment = moment;
  call = call;
  answer = answer;
  entries = entries;
}

-- one that was done
abbrev pub doing : ℕ → Call → List Entry → Event
doing moment call entries = answering moment call Done entries

-- one fact as the entries of a call
abbrev pub says : Fact → List Entry
says fact = FactEntry fact ∷ []

-- The log isn't lawful where these are the secrets of the group.
abbrev pub IsRefused : Secrets → Setup → List Event → Type 0
IsRefused secrets setup log = IsLawful secrets setup log → ⊥

-- a session with this near id, of the first attempt of its initiator
abbrev pub joined : List ℕ → ℕ → ℕ → List ℕ → List ℕ → Joined
joined peer near far ni nr = record {
  peer = peer;
  n = 1;
  near = near;
  far = far;
  ni = ni;
  nr = nr;
  k = 0;
}

-- ---- pasts

-- After this was done, a session was born at 0 in this event,
abbrev pub past_of_birth : Past → Event → Joined → Past
past_of_birth before e j = with_fact 0 (Born j) (with_begun 0 e before)

-- and then it ended, at 0 as well.
abbrev pub past_of_end : Past → Event → Joined → Why → Past
past_of_end before e j why = with_fact 0 (Ended j.peer j.near why) (past_of_birth before e j)

-- It was born in this generation, in which the datagram of the event opened.
abbrev pub WasBornIn : Secrets → Setup → ℕ → Past → Event → Type 0
WasBornIn secrets setup generation before e =
    EventOpenedIn secrets setup (with_begun 0 e before) generation
