-- What a chunk that isn't discarded is found to be, before anything changes.
use Rattle.std.specs.Prelude.{ℕ, ◌+◌, ◌≤◌, List, length, ◌≡◌, refl, Option, Some, None, Result, Ok, Err}
use Rattle.std.specs.FinMap.{get}
use Rattle.std.specs.Coded.{Coded, code_by, coded×, coded_list}
use Rattle.sha2.specs.Sha256.{sha256}
use Rattle.crypto_profile.specs.declared.group.GroupSecret.{GroupSecret}
use Rattle.rtmfp_forms.specs.Address.{AddressParts}
use Rattle.cookies.specs.declared.CookieTest.{CookieTest}
use Rattle.cookies.specs.declared.CookieTest.TheVariants.{Bad, Moved, Expired, Current}
use Rattle.cookies.specs.Cookie.{cookie_test}
use Rattle.glare_core.specs.declared.answers.Keying.{Keying}
use Rattle.glare_core.specs.declared.answers.Judged.{Judged}
use Rattle.glare_core.specs.declared.answers.Judged.TheVariants.{Again as IsAgain, Birth as IsBirth}
use Rattle.glare_core.specs.Ledger.{held_with}
use Rattle.glare_core.specs.Calls.{way_of, again_or_way}
use Rattle.rtmfp_base.specs.declared.cause.Cause.{Cause}
use Rattle.startup.specs.declared.judging.Hearing.{Hearing}
use Rattle.startup.specs.declared.judging.Hearing.TheVariants.{Change, Again, Birth}
use Rattle.startup.specs.declared.leaving.Found.{Found}
use Rattle.startup.specs.declared.leaving.Greeting.{Greeting}
use Rattle.startup.specs.State.{AttemptState, StartupState, SpreadParts}
use Rattle.startup.specs.Attempts.{hello_spread, hello_cause_at}
use Rattle.startup.specs.Redirects.{after_extension}
use Rattle.startup_packets.specs.Readings.{InitiatorKeying}
use Rattle.startup.specs.Keyings.{keying_of, repeated_session, initiator_cause}

-- what was found, where no cause stands
abbrev pub unless_cause : {A : Type 0} → A → Option Cause → Result A Cause
unless_cause found None = Ok found
unless_cause found (Some cause) = Err cause

-- the same by what the ledger judges: its session is held, or would be born
abbrev pub heard_as : Keying → Judged → Hearing
heard_as keying (IsAgain j) = Again keying j
heard_as keying (IsBirth way) = Birth keying way

-- what hearing an initiator's keying would be, by the test of its cookie
abbrev pub hearing : StartupState → InitiatorKeying → CookieTest → Hearing
hearing s keying Current =
    heard_as (keying_of keying)
    (again_or_way (repeated_session (held_with s.ledger (sha256 keying.cert)) (keying_of keying))
    (way_of s.ledger (sha256 keying.cert)))
hearing s keying Bad = Change
hearing s keying Moved = Change
hearing s keying Expired = Change

-- the same, or why it is discarded
abbrev pub judged_initiator : StartupState → List ℕ → AddressParts → ℕ → Option ℕ → GroupSecret →
    InitiatorKeying → Result Hearing Cause
judged_initiator s payload from now full g keying =
    unless_cause (hearing s keying (cookie_test s.cookie_secret keying.cookie from now))
    (initiator_cause s payload from now full g keying)

-- the attempt that is chosen was found
pub record IsFound (s : StartupState) (found : Found) (chosen : Option (ℕ × AttemptState)) :
    Type 0 where
  pub attempt : AttemptState
  pub chosen_is : chosen ≡ Some (found.near, attempt)
  pub there : get s.attempts found.near ≡ Some attempt

-- the attempt that was found, with its near id
abbrev pub with_near : ℕ → Option AttemptState → Option (ℕ × AttemptState)
with_near near None = None
with_near near (Some a) = Some (near, a)

abbrev pub found_in : StartupState → Found → Option (ℕ × AttemptState)
found_in s found = with_near found.near (get s.attempts found.near)

-- The attempt or search that is chosen was found for the hello of an end with this certificate,
-- which isn't discarded.
pub record IsGreeted (s : StartupState) (greeting : Greeting) (chosen : Option (ℕ × AttemptState))
    (cert : List ℕ) : Type 0 where
  pub found : IsFound s greeting.found chosen
  pub print : greeting.print ≡ sha256 cert
  pub none : hello_cause_at s chosen cert ≡ None

-- ---- redirects

-- what a redirect adds: the attempt that was found, and its further candidates
pub record ExtensionParts : Type 0 where
  pub found : Found
  pub new : List AddressParts

-- The attempt is there, and takes the further candidates beside its own.
pub record Extends (s : StartupState) (extension : ExtensionParts) : Type 0 where
  pub attempt : AttemptState
  pub there : get s.attempts extension.found.near ≡ Some attempt
  pub few : length attempt.candidates + length extension.new ≤ 16

-- what further candidates of the attempt that is chosen leave, and its hellos for them
abbrev pub after_extension_of : StartupState → Option (ℕ × AttemptState) → List AddressParts → ℕ →
    StartupState
after_extension_of s None new moment = s
after_extension_of s (Some e) new moment = after_extension s e new moment

abbrev pub extension_spread : Option (ℕ × AttemptState) → List AddressParts → Option SpreadParts
extension_spread None new = None
extension_spread (Some e) new = Some (hello_spread e.1 new)

-- how an extension is stored: as the pair of its fields
abbrev pub extension_code : Coded Found → Coded AddressParts → Coded ExtensionParts
extension_code found address =
    code_by (Found × List AddressParts) (coded× found (coded_list address))
    (λ e. (e.found, e.new)) (λ p. record { found = p.0; new = p.1 }) (λ _. refl)
