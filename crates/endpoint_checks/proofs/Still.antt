-- In a log in which nothing went out and no generation was learnt, all is in the first generation.
use Rattle.std.proofs.Common.{ℕ, List, [], ◌∷◌, ◌≡◌, inl, inr, refl, sym, ap, subst, ◌∙◌, true, false, Option, Some, None}
use Rattle.std.specs.Prelude.{Bool, if◌then◌else◌}
use Rattle.crypto_profile.specs.declared.keys.Context.{Context}
use Rattle.crypto_profile.specs.declared.keys.Context.TheVariants.{Startup}
use Rattle.glare_core.specs.declared.facts.Held.{Held}
use Rattle.rtmfp_forms.specs.Address.{AddressParts}
use Rattle.packet_scramble.specs.Datagram.{sid_of}
use Rattle.endpoint_model.specs.Event.{Setup, Call, ReceiveCall, receive_in}
use Rattle.glare_core.specs.declared.facts.Fact.{Fact}
use Rattle.endpoint_model.specs.declared.entry.Entry.TheVariants.{Fact as FactEntry}
use Rattle.endpoint_checks.specs.Logs.{doing, says}
use Rattle.endpoint_checks.proofs.Pasts.{some_event}
use Rattle.endpoint_laws.specs.Past.{Past, begun, stamped, out_done, learnt_done, advanced_done, current_of, next_of, next_left, next_after, current_after, is_event, before_event, last_call, receive_of}
use Rattle.endpoint_laws.specs.Contexts.{Secrets, generation_of, next_contexts, startup_contexts, OpensFirst, IsKeying, KeyingWent, IsAttemptIn, StartupContextsOf, OpensInStartup, CallOpensIn, EventOpenedIn, BegunUnder}
use Rattle.endpoint_laws.specs.Admissible.{Admissible, Offer}
use Rattle.endpoint_laws.specs.Lawful.{KeyingGoesIn, TakesHelloOf}

-- what was done in short logs, up to an event: one fact of a call, and two
abbrev pub after_one : Call → Fact → Past
after_one c fact = begun 0 some_event ∷ stamped 0 (FactEntry fact) ∷ begun 0 (doing 0 c (says fact)) ∷ []

abbrev pub after_two : Call → Fact → Fact → Past
after_two c one two = begun 0 some_event ∷ stamped 0 (FactEntry two) ∷ stamped 0 (FactEntry one) ∷ begun 0 (doing 0 c (FactEntry one ∷ FactEntry two ∷ [])) ∷ []

-- Nothing went out, and no generation was learnt or became the current one.
abbrev pub IsStill : Past → Type 0
IsStill [] = Unit {0}
IsStill (s ∷ earlier) = (out_done s.what ≡ None) × (learnt_done s.what ≡ None) × (advanced_done s.what ≡ None) × IsStill earlier

still_current : (setup : Setup) (past : Past) → IsStill past → current_of setup past ≡ setup.generation
still_current setup [] still = refl
still_current setup (s ∷ earlier) still = ap (λ (o : Option ℕ). current_after o (current_of setup earlier)) still.2 ∙ still_current setup earlier still.3

still_next : (past : Past) → IsStill past → next_of past ≡ None
still_next [] still = refl
still_next (s ∷ earlier) still =
    ap (λ (o : Option ℕ). next_after o (next_left (advanced_done s.what) (next_of earlier))) still.1 ∙ ap (λ (o : Option ℕ). next_left o (next_of earlier)) still.2 ∙ still_next earlier still.3

-- ---- contexts

pub still_contexts : (setup : Setup) (past : Past) → IsStill past → startup_contexts setup past ≡ Startup setup.generation ∷ []
still_contexts setup past still =
    ap (λ (g : ℕ). Startup g ∷ next_contexts (next_of past)) (still_current setup past still) ∙ ap (λ (o : Option ℕ). Startup setup.generation ∷ next_contexts o) (still_next past still)

-- Nothing went out.
abbrev pub IsSilent : Past → Type 0
IsSilent [] = Unit {0}
IsSilent (s ∷ earlier) = (out_done s.what ≡ None) × IsSilent earlier

silent : (past : Past) → IsStill past → IsSilent past
silent [] still = tt
silent (s ∷ earlier) still = (still.0, silent earlier still.3)

pub none_went : (secrets : Secrets) (near g : ℕ) (past : Past) → IsSilent past → KeyingWent secrets near g past → ⊥
none_went secrets near g [] quiet went = went
none_went secrets near g (s ∷ earlier) quiet (inl here) = subst (IsKeying secrets near g) quiet.0 here
none_went secrets near g (s ∷ earlier) quiet (inr older) = none_went secrets near g earlier quiet.1 older.3

pub no_keying : (secrets : Secrets) (near g : ℕ) (past : Past) → IsStill past → KeyingWent secrets near g past → ⊥
no_keying secrets near g past still went = none_went secrets near g past (silent past still) went

pub one_context : (secrets : Secrets) (g h sid : ℕ) (datagram plain : List ℕ) → OpensFirst secrets (Startup h ∷ []) sid datagram (Startup g) plain → g ≡ h
one_context secrets g h sid datagram plain (inl here) = ap generation_of (sym here.0)
one_context secrets g h sid datagram plain (inr none) = absurd none.1

named_still : (secrets : Secrets) (setup : Setup) (past : Past) (sid : ℕ) (contexts : List Context) → IsStill past → StartupContextsOf secrets setup past sid contexts → contexts ≡ Startup setup.generation ∷ []
named_still secrets setup past sid contexts still (inl zero) = zero.1 ∙ still_contexts setup past still
named_still secrets setup past sid contexts still (inr other) = other.2.2 ∙ ap (λ (g : ℕ). Startup g ∷ []) (hello other.2.1)
  where
    hello : {g : ℕ} → IsAttemptIn secrets setup sid g past → g ≡ setup.generation
    hello {g} (inl went) = absurd (no_keying secrets sid g past still went)
    hello {g} (inr is) = is.1 ∙ still_current setup past still

pub still_opens : (secrets : Secrets) (setup : Setup) (past : Past) (datagram : List ℕ) (g : ℕ) → IsStill past → OpensInStartup secrets setup past datagram g → g ≡ setup.generation
still_opens secrets setup past datagram g still o =
    one_context secrets g setup.generation (sid_of datagram) datagram o.plain
    (subst (λ (cs : List Context). OpensFirst secrets cs (sid_of datagram) datagram (Startup g) o.plain) (named_still secrets setup past (sid_of datagram) o.contexts still o.named) o.opens)

-- ---- what began

still_either : (b : Bool) (x y : Past) → IsStill x → IsStill y → IsStill (if b then x else y)
still_either true x y p q = p
still_either false x y p q = q

still_before : (past : Past) → IsStill past → IsStill (before_event past)
still_before [] still = tt
still_before (s ∷ earlier) still = still_either (is_event s.what) earlier (before_event earlier) still.3 (still_before earlier still.3)

still_call : (secrets : Secrets) (setup : Setup) (past : Past) (o : Option ReceiveCall) (g : ℕ) → IsStill past → CallOpensIn secrets setup past o g → g ≡ setup.generation
still_call secrets setup past None g still opened = absurd opened
still_call secrets setup past (Some r) g still opened = still_opens secrets setup past r.datagram g still opened

still_event : (secrets : Secrets) (setup : Setup) (past : Past) (g : ℕ) → IsStill past → EventOpenedIn secrets setup past g → g ≡ setup.generation
still_event secrets setup past g still opened = still_call secrets setup (before_event past) (receive_of (last_call past)) g (still_before past still) opened

pub still_begun : (secrets : Secrets) (setup : Setup) (thing : Held) (g : ℕ) (past : Past) → BegunUnder secrets setup thing g past → IsStill past → g ≡ setup.generation
still_begun secrets setup thing g [] begun still = absurd begun
still_begun secrets setup thing g (s ∷ earlier) (inl here) still = still_event secrets setup earlier g still.3 here.1
still_begun secrets setup thing g (s ∷ earlier) (inr older) still = still_begun secrets setup thing g earlier older.1 still.3

-- ---- keyings

pub still_admissible : (secrets : Secrets) (setup : Setup) (past : Past) (now : ℕ) (from : AddressParts) (datagram : List ℕ) (offer : Offer) → IsStill past → (a : Admissible secrets setup past now from datagram offer) → a.generation ≡ setup.generation
still_admissible secrets setup past now from datagram offer still a =
    one_context secrets a.generation setup.generation 0 datagram a.reads.plain
    (subst (λ (cs : List Context). OpensFirst secrets cs 0 datagram (Startup a.generation) a.reads.plain) (still_contexts setup past still) a.opens)

still_hello : (secrets : Secrets) (setup : Setup) (past : Past) (peer : List ℕ) (near g : ℕ) (o : Option ReceiveCall) → IsStill past → TakesHelloOf secrets setup past peer near g o → g ≡ setup.generation
still_hello secrets setup past peer near g None still takes = absurd takes
still_hello secrets setup past peer near g (Some r) still takes =
    one_context secrets g setup.generation 0 r.datagram takes.reads.plain (subst (λ (cs : List Context). OpensFirst secrets cs 0 r.datagram (Startup g) takes.reads.plain) (still_contexts setup past still) takes.opens)

pub still_goes : (secrets : Secrets) (setup : Setup) (past : Past) (call : Call) (peer : List ℕ) (near g : ℕ) → IsStill past → KeyingGoesIn secrets setup past call peer near g → g ≡ setup.generation
still_goes secrets setup past call peer near g still (inl went) = absurd (no_keying secrets near g past still went)
still_goes secrets setup past call peer near g still (inr first) = still_hello secrets setup past peer near g (receive_in call) still first.1

-- the lines of answers, in the first generation
pub still_answer : (secrets : Secrets) (setup : Setup) (past : Past) (sent : List ℕ) (P : ℕ → Type 0) → IsStill past → (g : ℕ) × OpensInStartup secrets setup past sent g × P g → P setup.generation
still_answer secrets setup past sent P still line = subst P (still_opens secrets setup past sent line.0 still line.1) line.2
