-- What a session took of the datagrams that its end was given.
use Rattle.std.specs.Prelude.{ℕ, List, [], ◌∷◌, ◌≡◌, ◌≤◌, max, Bool, true, ◌&&◌, Option, Some, None, Ok, is_ok, if◌then◌else◌, refl}
use Rattle.std.specs.Coded.{Coded, code_by, coded×, coded_ℕ, coded_option}
use Rattle.crypto_profile.specs.declared.keys.Context.{Context}
use Rattle.crypto_profile.specs.Taken.{answer}
use Rattle.crypto_profile.specs.Window.{WindowState, window_of, window_answer, window_after}
use Rattle.endpoint_laws.specs.Past.{Taken}
use Rattle.rtmfp_packet.specs.declared.head.Mode.{Mode}
use Rattle.rtmfp_packet.specs.Whole.{Whole}
use Rattle.endpoint_laws.specs.Contexts.{Secrets, OpensUnder, ReadsUnder}
use Rattle.endpoint_laws.specs.Taken.{count_in, IsNewAfter, PassesIn, TookIn}

-- the window of the numbers that opened, and when the last datagram was taken
pub record Heard : Type 0 where
  pub window : WindowState
  pub last : Option ℕ

abbrev pub heard_code : Coded WindowState → Coded Heard
heard_code window =
    code_by (WindowState × Option ℕ) (coded× window (coded_option coded_ℕ))
    (λ h. (h.window, h.last)) (λ p. record { window = p.0; last = p.1 }) (λ _. refl)

abbrev pub nothing_heard : Heard
nothing_heard = record { window = window_of []; last = None }

abbrev pub latest : Option ℕ → ℕ → ℕ
latest None moment = moment
latest (Some before) moment = max before moment

-- A datagram with this count is taken where its number is new and it is a packet of the session.
abbrev pub takes : ℕ → Bool → Heard → Bool
takes count fits h = is_ok (window_answer h.window count) && fits

abbrev pub heard_with : ℕ → ℕ → Bool → Heard → Heard
heard_with count moment fits h = record {
  window = window_after h.window count;
  last = if takes count fits h then Some (latest h.last moment) else h.last;
}

module _ (secrets : Secrets) (context : Context) (mode : Mode) (near : ℕ) where
  -- It is what the session with this context under this session ID took of these datagrams: its
  -- window answers as they do, and its moment is the largest at which one was taken.
  pub record IsHearingOf (taken : List Taken) (h : Heard) : Type 0 where
    pub counts : List ℕ
    pub window_is : h.window ≡ window_of counts
    pub is_new : (count : ℕ) → answer counts count ≡ Ok tt →
        IsNewAfter secrets context near count taken
    pub answers : (count : ℕ) → IsNewAfter secrets context near count taken →
        answer counts count ≡ Ok tt
    pub took : (moment : ℕ) → h.last ≡ Some moment → TookIn secrets context mode near moment taken
    pub within : (moment : ℕ) → TookIn secrets context mode near moment taken →
        (last : ℕ) × (h.last ≡ Some last) × (moment ≤ last)

  -- The datagram opens there with this count, and is a packet of this mode where `fits` says so.
  pub record OpensAs (datagram : List ℕ) (count : ℕ) (fits : Bool) : Type 0 where
    pub plain : List ℕ
    pub opens : OpensUnder secrets context near datagram plain
    pub count_is : count_in datagram ≡ count
    pub reads : fits ≡ true → (packet : Whole) × ReadsUnder secrets context near datagram packet ×
        (packet.head.mode ≡ mode)
    pub fits_where : (packet : Whole) → ReadsUnder secrets context near datagram packet →
        packet.head.mode ≡ mode → fits ≡ true

  -- It is what the session took of these and of this one, which it took exactly where the answer
  -- says so.
  pub record Hears (before : List Taken) (h : Heard) (t : Taken) (took : Bool) : Type 0 where
    pub log : IsHearingOf (t ∷ before) h
    pub passes : took ≡ true → PassesIn secrets context mode near before t.datagram
    pub passed : PassesIn secrets context mode near before t.datagram → took ≡ true

-- ---- laws

-- A datagram that doesn't open in a session changes nothing of what it took.
abbrev pub OthersArentHeard : Type 0
OthersArentHeard = (secrets : Secrets) (context : Context) (mode : Mode) (near : ℕ)
    (taken : List Taken) (h : Heard) (t : Taken) →
    IsHearingOf secrets context mode near taken h →
    ((plain : List ℕ) → OpensUnder secrets context near t.datagram plain → ⊥) →
    IsHearingOf secrets context mode near (t ∷ taken) h
