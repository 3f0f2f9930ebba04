-- What an end keeps, and what one thing that it does leaves and adds.
use Rattle.std.specs.Prelude.{ℕ, zero, suc, ◌+◌, ◌%◌, ◌^◌, ◌==◌, ◌≤◌, ◌&&◌, ◌||◌, not, Bool, max, nat_le, if◌then◌else◌, List, [], ◌∷◌, ◌++◌, length, Option, Some, None, ◌≡◌, refl}
use Rattle.std.specs.Ordering.{nat_cmp}
use Rattle.std.specs.FinMap.{FinMap, insert, remove, empty, contains_key, len, code}
use Rattle.std.specs.Coded.{Coded, code_by, coded×, coded_ℕ, coded_bool, coded_option}
use Rattle.rtmfp_forms.specs.Address.{AddressParts}
use Rattle.crypto_profile.specs.declared.group.GroupSecret.{GroupSecret}
use Rattle.introducer.specs.Directory.{AddressRows, rows_code}
use Rattle.glare_core.specs.declared.facts.Fact.{Fact}
use Rattle.startup.specs.State.{StartupState, new_startup}
use Rattle.session_core.specs.Session.{SessionState}
use Rattle.session_flows.specs.Keeping.{no_flows}
use Rattle.endpoint_model.specs.declared.row.Row.{Row}
use Rattle.endpoint_model.specs.declared.config.Config.{Config}
use Rattle.endpoint_model.specs.declared.entry.Entry.{Entry}
use Rattle.endpoint_model.specs.declared.entry.Entry.TheVariants.{Fact as FactEntry}
use Rattle.endpoint_model.specs.Event.{Setup, first_group}
use Rattle.endpoint_model.specs.Added.{Added}

-- the rows of the sessions, by their near ids
abbrev pub Sessions : Type 0
Sessions = FinMap nat_cmp Row

-- the row of a session that begins
abbrev pub new_row : SessionState → Row
new_row session = record {
  session = session;
  moves = None;
  flows = no_flows;
  gathering = [];
  packets = 0;
}

-- the longest plain packet of a session that any session sends, in bytes
abbrev pub longest_packet : ℕ
longest_packet = 1164

pub record State : Type 0 where
  pub config : Config
  -- the largest moment that was given
  pub moment : ℕ
  -- how many startup packets were sealed
  pub sealed : ℕ
  -- the longest plain packet of a session that goes out whole, in bytes
  pub limit : ℕ
  -- the group's secret in the current generation, and in the next one where that is known
  pub group : GroupSecret
  pub next : Option GroupSecret
  -- the certificate, the secret of the cookies, what is held with the peers, and the attempts
  pub startup : StartupState
  pub sessions : Sessions
  -- whether it forwards hellos to the ends that it keeps sessions with
  pub introduces : Bool
  -- the addresses that hellos for other ends are answered with, by the fingerprints of these
  pub redirects : AddressRows

-- a new end, which knows no generation but its first one
abbrev pub fresh : Setup → State
fresh setup = record {
  config = setup.config;
  moment = 0;
  sealed = 0;
  limit = longest_packet;
  group = first_group setup;
  next = None;
  startup = new_startup setup.cert setup.cookie_secret setup.config.max_peers;
  sessions = empty;
  introduces = setup.config.introduces;
  redirects = empty;
}

-- an end keeps the largest moment that it was given
abbrev pub at_moment : State → ℕ → State
at_moment s moment = record s { moment = max s.moment moment }

abbrev pub with_startup : State → StartupState → State
with_startup s startup = record s { startup = startup }

abbrev pub with_sessions : State → Sessions → State
with_sessions s sessions = record s { sessions = sessions }

abbrev pub with_row : State → ℕ → Row → State
with_row s near row = with_sessions s (insert s.sessions near row)

-- a session is forgotten
abbrev pub without_row : State → ℕ → State
without_row s near = with_sessions s (remove s.sessions near)

-- the session in a row is changed
abbrev pub with_session : State → ℕ → Row → SessionState → State
with_session s near row session = with_row s near (record row { session = session })

abbrev pub with_sealed : State → ℕ → State
with_sealed s sealed = record s { sealed = sealed }

-- from now on no longer packet of a session goes out whole
abbrev pub narrowing : State → ℕ → State
narrowing s limit = record s { limit = limit }

-- ---- session IDs

-- how many attempts, searches and sessions there are
abbrev pub uses : State → ℕ
uses s = len s.startup.attempts + len s.sessions

-- an attempt, a search or a session has the session ID
abbrev pub is_used : State → ℕ → Bool
is_used s near = contains_key s.startup.attempts near || contains_key s.sessions near

-- it may be given to a new one: it isn't 0, and none has it
abbrev pub is_free : State → ℕ → Bool
is_free s near = not (near == 0) && not (is_used s near)

-- the session ID after one, modulo 2^32
abbrev pub next_id : ℕ → ℕ
next_id id = (id + 1) % 2 ^ 32

-- the first of so many session IDs from one on that is free, or the one after them
abbrev pub free_among : ℕ → State → ℕ → ℕ
free_among zero s id = id
free_among (suc tries) s id = if is_free s id then id else free_among tries s (next_id id)

-- The first free session ID from a word on: 0 and those in use are so many, so the one after them
-- is free where none of them is.
unfoldable pub free_from : State → ℕ → ℕ
free_from s word = free_among (uses s + 1) s word

-- the limit on attempts, searches and sessions, where there is no place for one more
abbrev pub full : State → Option ℕ
full s = if nat_le s.config.max_sessions (uses s) then Some s.config.max_sessions else None

-- ---- what is done

-- the state after a thing, and the entries that it added
pub record Did : Type 0 where
  pub state : State
  pub entries : List Entry

abbrev pub nothing : State → Did
nothing s = record { state = s; entries = [] }

-- a thing after these entries
abbrev pub after_entries : List Entry → Did → Did
after_entries entries d = record { state = d.state; entries = entries ++ d.entries }

-- one thing, and then what another does in the state that the first left
abbrev pub then_do : Did → (State → Did) → Did
then_do d next = after_entries d.entries (next d.state)

-- a fact, where there is one
abbrev pub fact_entries : Option Fact → List Entry
fact_entries None = []
fact_entries (Some fact) = FactEntry fact ∷ []

-- The state is what the thing left, and its entries were added to these.
pub record Does (d : Did) (new : State) (before after : List Entry) : Type 0 where
  pub state : new ≡ d.state
  pub entries : after ≡ before ++ d.entries

-- The same of an outbox, whose free room fell by a place for each entry at most.
pub record Done (d : Did) (new : State) (before after : Added) : Type 0 where
  pub state : new ≡ d.state
  pub entries : after.entries ≡ before.entries ++ d.entries
  pub free : before.free ≤ after.free + length d.entries
  pub room : after.room ≡ before.room

-- ---- how a state is stored: as the tuple of its fields

abbrev pub state_code : Coded Config → Coded GroupSecret → Coded StartupState → Coded Row →
    Coded AddressParts → Coded State
state_code config group startup row address =
    code_by (Config × (ℕ × (ℕ × (ℕ × (GroupSecret × (Option GroupSecret ×
    (StartupState × (Sessions × (Bool × AddressRows)))))))))
    (coded× config (coded× coded_ℕ (coded× coded_ℕ (coded× coded_ℕ (coded× group
    (coded× (coded_option group) (coded× startup (coded× (code coded_ℕ row)
    (coded× coded_bool (rows_code address))))))))))
    (λ s. (
      s.config,
      (
        s.moment,
        (
          s.sealed,
          (
            s.limit,
            (
              s.group,
              (s.next, (s.startup, (s.sessions, (s.introduces, s.redirects)))),
            ),
          ),
        ),
      ),
    ))
    (λ p. record {
      config = p.0;
      moment = p.1.0;
      sealed = p.1.1.0;
      limit = p.1.1.1.0;
      group = p.1.1.1.1.0;
      next = p.1.1.1.1.1.0;
      startup = p.1.1.1.1.1.1.0;
      sessions = p.1.1.1.1.1.1.1.0;
      introduces = p.1.1.1.1.1.1.1.1.0;
      redirects = p.1.1.1.1.1.1.1.1.1;
    })
    (λ _. refl)
