-- What no chunk changes: the fingerprint whose end the ledger is of.
use Rattle.std.proofs.Common.{◌≡◌, ℕ, List, [], ◌∷◌, Option, Some, None, Result, Ok, Err, refl, sym, ◌∙◌}
use Rattle.rtmfp_forms.specs.Address.{AddressParts}
use Rattle.crypto_profile.specs.declared.group.GroupSecret.{GroupSecret}
use Rattle.cookies.specs.declared.CookieTest.{CookieTest}
use Rattle.cookies.specs.declared.CookieTest.TheVariants.{Bad, Moved, Expired as OldCookie, Current}
use Rattle.cookies.specs.Cookie.{cookie_test}
use Rattle.glare_core.specs.declared.facts.Fact.{Fact}
use Rattle.glare_core.specs.declared.facts.Joined.{Joined}
use Rattle.glare_core.specs.declared.answers.Keying.{Keying}
use Rattle.glare_core.specs.declared.answers.Heard.{Heard}
use Rattle.glare_core.specs.declared.answers.Heard.TheVariants.{Again as HeardAgain, Birth as HeardBirth}
use Rattle.glare_core.specs.Ledger.{Ledger}
use Rattle.glare_core.specs.Calls.{heard, heard_noted}
use Rattle.rtmfp_base.specs.declared.cause.Cause.{Cause}
use Rattle.startup.specs.declared.aim.Aim.{Aim}
use Rattle.startup.specs.declared.aim.Aim.TheVariants.{AtPeer, ByName}
use Rattle.startup.specs.State.{AttemptState, StartupState}
use Rattle.startup.specs.Attempts.{after_answer_as, after_answer, after_change}
use Rattle.startup.specs.Judging.{after_extension_of}
use Rattle.startup_packets.specs.Readings.{InitiatorKeying, initiator_keying_in}
use Rattle.startup.specs.Keyings.{keying_of, after_again_or_birth, after_keyed_with, after_keyed_reading, after_keying, after_opening}
use Rattle.end_state.specs.declared.settings.Settings.{Settings}
use Rattle.end_state.specs.Stored.{IsEnd}

-- A state of startup has the own fingerprint of another.
pub record IsSameEnd (s t : StartupState) : Type 0 where
  pub own_is : t.ledger.own ≡ s.ledger.own

abbrev same : (s : StartupState) → IsSameEnd s s
same s = record { own_is = refl }

-- ---- attempts

answered_as : (s : StartupState) (print : List ℕ) (e : ℕ × AttemptState) (from : AddressParts) (cookie : List ℕ) (moment : ℕ) (g : GroupSecret) (aim : Aim) → IsSameEnd s (after_answer_as s print e from cookie moment g aim)
answered_as s print e from cookie moment g (AtPeer peer n) = record { own_is = refl }
answered_as s print e from cookie moment g (ByName name) = record { own_is = refl }

pub answer_keeps : (s : StartupState) (print : List ℕ) (found : Option (ℕ × AttemptState)) (from : AddressParts) (cookie : List ℕ) (moment : ℕ) (g : GroupSecret) → IsSameEnd s (after_answer s print found from cookie moment g)
answer_keeps s print None from cookie moment g = same s
answer_keeps s print (Some e) from cookie moment g = answered_as s print e from cookie moment g e.1.aim

pub change_keeps : (s : StartupState) (found : Option (ℕ × AttemptState)) (cookie : List ℕ) (moment : ℕ) → IsSameEnd s (after_change s found cookie moment)
change_keeps s None cookie moment = same s
change_keeps s (Some e) cookie moment = record { own_is = refl }

pub extension_keeps : (s : StartupState) (found : Option (ℕ × AttemptState)) (new : List AddressParts) (moment : ℕ) → IsSameEnd s (after_extension_of s found new moment)
extension_keeps s None new moment = same s
extension_keeps s (Some e) [] moment = same s
extension_keeps s (Some e) (first ∷ others) moment = record { own_is = refl }

-- ---- keyings

own_heard : (l : Ledger) (answer : Heard) → (heard_noted l answer).own ≡ l.own
own_heard l (HeardAgain near) = refl
own_heard l (HeardBirth None born) = refl
own_heard l (HeardBirth (Some fact) born) = refl

born_keeps : (s : StartupState) (keying : Keying) (near : ℕ) (nr : List ℕ) (g : GroupSecret) (held : Option Joined) → IsSameEnd s (after_again_or_birth s keying near nr g held)
born_keeps s keying near nr g (Some j) = same s
born_keeps s keying near nr g None = record { own_is = own_heard s.ledger (heard s.ledger keying near nr) }

tested_keeps : (s : StartupState) (near : ℕ) (nr : List ℕ) (g : GroupSecret) (keying : InitiatorKeying) (test : CookieTest) → IsSameEnd s (after_keyed_with s near nr g keying test)
tested_keeps s near nr g keying Current = born_keeps s (keying_of keying) near nr g _
tested_keeps s near nr g keying Bad = same s
tested_keeps s near nr g keying Moved = same s
tested_keeps s near nr g keying OldCookie = same s

reading_keeps : (s : StartupState) (from : AddressParts) (now near : ℕ) (nr : List ℕ) (g : GroupSecret) (reading : Result InitiatorKeying Cause) → IsSameEnd s (after_keyed_reading s from now near nr g reading)
reading_keeps s from now near nr g (Ok keying) = tested_keeps s near nr g keying (cookie_test s.cookie_secret keying.cookie from now)
reading_keeps s from now near nr g (Err cause) = same s

pub keying_keeps : (s : StartupState) (payload : List ℕ) (from : AddressParts) (now near : ℕ) (nr : List ℕ) (g : GroupSecret) → IsSameEnd s (after_keying s payload from now near nr g)
keying_keeps s payload from now near nr g = reading_keeps s from now near nr g (initiator_keying_in payload)

pub opening_keeps : (s : StartupState) (near : ℕ) (fact : Fact) → IsSameEnd s (after_opening s near fact)
opening_keeps s near fact = record { own_is = refl }

-- ---- so what an end keeps beside it stays as it should be

pub end_stays : (settings : Settings) (print : List ℕ) (s t : StartupState) →
    IsEnd settings print s → IsSameEnd s t → IsEnd settings print t
end_stays settings print s t is kept = record {
  print_is = is.print_is ∙ sym kept.own_is;
  few = is.few;
}
