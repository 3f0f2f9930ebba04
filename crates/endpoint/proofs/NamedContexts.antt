-- A datagram opens in no other context than the one that its session ID names, where it names one.
use Rattle.std.proofs.Common.{◌≡◌, ℕ, nat_lt, if◌then◌else◌, Bool, true, false, List, [], ◌∷◌, length, drop, Option, Some, None, refl, sym, ap, ◌∙◌}
use Rattle.std.specs.FinMap.{get}
use Rattle.rtmfp_base.specs.Reasons.{first_that_stands}
use Rattle.crypto_profile.specs.declared.keys.Context.{Context}
use Rattle.crypto_profile.specs.declared.keys.Context.TheVariants.{Startup as StartupContext}
use Rattle.crypto_profile.specs.declared.sealing.SealFault.{SealFault}
use Rattle.crypto_profile.specs.Opening.{open_refusal}
use Rattle.packet_scramble.specs.Datagram.{sid_of}
use Rattle.session_core.specs.Session.{context_of}
use Rattle.session_core.specs.Hearing.{opens_in as opens_in_session}
use Rattle.endpoint_model.specs.declared.row.Row.{Row}
use Rattle.endpoint_model.specs.declared.place.Place.{Place}
use Rattle.endpoint_model.specs.declared.place.Place.TheVariants.{Startup, Attempt, Session}
use Rattle.endpoint_model.specs.State.{State}
use Rattle.endpoint_model.specs.Admission.{places_of, startup_keys}
use Rattle.endpoint_laws.specs.OpensIn.{startup_unless, context_at, context_first, context_in_session, opens_in}
use Rattle.end_state.specs.NamedContext.{context_towards, context_of_place, only_place, named_context}

in_startup : (generation : ℕ) (o : Option SealFault) (c : Context) → startup_unless generation o ≡ Some c → ◌≡◌ {A = Option Context} (Some (StartupContext generation)) (Some c)
in_startup generation None c e = e
in_startup generation (Some fault) c e = absurd (cc)

if_opened : (opens : Bool) (own c : Context) → ◌≡◌ {A = Option Context} (if opens then Some own else None) (Some c) → ◌≡◌ {A = Option Context} (Some own) (Some c)
if_opened true own c e = e
if_opened false own c e = absurd (cc)

in_session : (o : Option Row) (part : List ℕ) (c : Context) → context_in_session o part ≡ Some c → context_towards o ≡ Some c
in_session None part c e = e
in_session (Some row) part c e = if_opened (opens_in_session row.session part) (context_of row.session false) c e

at_place : (s : State) (place : Place) (part : List ℕ) (c : Context) → context_at s place part ≡ Some c → context_of_place s (Some place) ≡ Some c
at_place s (Startup generation) part c e = in_startup generation (open_refusal (startup_keys s (Startup generation)) 0 part) c e
at_place s (Attempt near generation) part c e = in_startup generation (open_refusal (startup_keys s (Attempt near generation)) near part) c e
at_place s (Session near) part c e = in_session (get s.sessions near) part c e

one_stands : (o : Option Context) → first_that_stands (o ∷ []) ≡ o
one_stands None = refl
one_stands (Some c) = refl

at_only : (s : State) (places : List Place) (part : List ℕ) (context other : Context) → context_of_place s (only_place places) ≡ Some context → context_first s places part ≡ Some other → other ≡ context
at_only s [] part context other named e = absurd (cc)
at_only s (place ∷ []) part context other named e =
    let here : context_of_place s (Some place) ≡ Some other = at_place s place part other (sym (one_stands (context_at s place part)) ∙ e) in
    let both : Some other ≡ Some context = sym here ∙ named in
    cc
at_only s (place ∷ next ∷ rest) part context other named e = absurd (cc)

by_length : (short : Bool) (s : State) (places : List Place) (part : List ℕ) (context other : Context) → ◌≡◌ {A = Option Context} (if short then None else context_of_place s (only_place places)) (Some context)
    → ◌≡◌ {A = Option Context} (if short then None else context_first s places part) (Some other) → other ≡ context
by_length true s places part context other named e = absurd (cc)
by_length false s places part context other named e = at_only s places part context other named e

-- a datagram opens in no other context than the one that its session ID names alone
pub opens_only_in : (s : State) (datagram : List ℕ) (context other : Context) → named_context s datagram ≡ Some context → opens_in s datagram ≡ Some other → other ≡ context
opens_only_in s datagram context other named opens = by_length (nat_lt (length datagram) 36) s (places_of s (sid_of datagram)) (drop 4 datagram) context other named opens
