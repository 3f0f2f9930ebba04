-- What an end does for others as an introducer: whom it forwards a hello to, and which addresses it
-- answers one with (RFC 7016 sections 3.5.1.4 and 3.5.1.5; rows and the choice of a session are
-- own).
use Rattle.std.specs.Prelude.{ℕ, ◌||◌, not, Bool, true, false, is_some, if◌then◌else◌, List, [], ◌∷◌, Option, Some, None}
use Rattle.std.specs.FinMap.{get, insert}
use Rattle.rtmfp_forms.specs.Address.{AddressParts}
use Rattle.crypto_profile.specs.declared.group.GroupSecret.{GroupSecret}
use Rattle.identity.specs.declared.discriminator.Epd.{Epd}
use Rattle.identity.specs.Discriminators.{discriminator_of}
use Rattle.glare_core.specs.declared.facts.Held.{Held}
use Rattle.glare_core.specs.declared.facts.Held.TheVariants.{Opening, HalfOpen, KeptAsResponder, KeptAsInitiator}
use Rattle.glare_core.specs.Ledger.{held_with}
use Rattle.rtmfp_base.specs.Reasons.{where_true, first_that_stands}
use Rattle.startup.specs.declared.answer.Answer.{Answer}
use Rattle.rtmfp_base.specs.declared.cause.Cause.{Cause}
use Rattle.rtmfp_base.specs.declared.cause.Cause.TheVariants.{NotSelected}
use Rattle.startup.specs.Attempts.{wide}
use Rattle.identity.specs.Targets.{selects, target_of}
use Rattle.startup.specs.Redirects.{redirect_answer}
use Rattle.endpoint_model.specs.State.{State}

-- ---- what is told by calls

-- a row of addresses for the end of a fingerprint; one that is there is replaced
abbrev pub with_redirect : State → List ℕ → List AddressParts → State
with_redirect s print addresses = record s { redirects = insert s.redirects print addresses }

-- an end that introduces from now on
abbrev pub introducing : State → State
introducing s = record s { introduces = true }

-- ---- whom it introduces

-- the session ID of what is held, where that is a session that is kept
abbrev pub kept_id : Option Held → Option ℕ
kept_id None = None
kept_id (Some (Opening n near ni)) = None
kept_id (Some (HalfOpen j)) = None
kept_id (Some (KeptAsResponder j)) = Some j.near
kept_id (Some (KeptAsInitiator j)) = Some j.near

-- The session that a hello for a fingerprint is forwarded to: an end that introduces forwards it in
-- the session that it keeps with the end of that fingerprint.
abbrev pub forwarded_to : State → List ℕ → Option ℕ
forwarded_to s print = if s.introduces then kept_id (held_with s.startup.ledger print) else None

-- The addresses that such a hello is answered with, whether or not the end introduces.
abbrev pub redirected_to : State → List ℕ → Option (List AddressParts)
redirected_to s print = get s.redirects print

-- the end that a discriminator selects is one that is introduced
abbrev pub introduces_to : State → Option Epd → Bool
introduces_to s None = false
introduces_to s (Some epd) =
    is_some (forwarded_to s epd.print) || is_some (redirected_to s epd.print)

-- ---- why a hello isn't answered

-- Its tag is wide, or its discriminator selects neither this end nor one that is introduced; only
-- ends that are named by their fingerprints are introduced.
abbrev pub hello_cause : State → List ℕ → List ℕ → Option Cause
hello_cause s epd tag =
    first_that_stands (
    wide tag
    ∷ where_true (not (selects (target_of epd) s.startup.cert
    || introduces_to s (discriminator_of epd))) NotSelected
    ∷ [])

-- ---- the redirect that answers it

-- under the group's secret under which the hello came
abbrev pub redirect_of : List ℕ → AddressParts → Option (List AddressParts) → GroupSecret →
    Option Answer
redirect_of tag to None g = None
redirect_of tag to (Some addresses) g = Some (redirect_answer tag addresses to g)
