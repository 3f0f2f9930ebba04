-- A thing that an end does keeps the agreement, and its facts meet their lines.
use Rattle.std.proofs.Common.{◌≡◌, ℕ, ◌+◌, List, [], ◌∷◌, ◌++◌, Bool, true, false, if◌then◌else◌, Option, Some, None, inl, refl, sym, subst, ◌∙◌, arith}
use Rattle.glare_core.specs.declared.facts.Why.{Why}
use Rattle.glare_core.specs.declared.facts.Why.TheVariants.{Cancelled, Expired, Glare, Override, Unconfirmed, Near, Far, Idle}
use Rattle.glare_core.specs.declared.facts.Fact.{Fact}
use Rattle.glare_core.specs.declared.facts.Fact.TheVariants.{Started, Born, Opened, Confirmed, Ended}
use Rattle.rtmfp_base.specs.declared.cause.Cause.{Cause}
use Rattle.session_core.specs.Session.{SessionState}
use Rattle.session_core.specs.Sealed.{after_seal, is_spent}
use Rattle.endpoint_model.specs.Views.{fact_in}
use Rattle.endpoint_model.specs.declared.entry.Entry.{Entry}
use Rattle.endpoint_model.specs.declared.entry.Entry.TheVariants.{Discard}
use Rattle.endpoint_model.specs.Event.{Setup, Call}
use Rattle.endpoint_laws.specs.Contexts.{Secrets}
use Rattle.endpoint_laws.specs.Past.{Past, stamped, onto}
use Rattle.endpoint_laws.specs.Lawful.{FactLine, EndedLine, BornFollows}
use Rattle.endpoint_model.specs.State.{State, Did, nothing, then_do}
use Rattle.endpoint_model.specs.Effects.{discarded}
use Rattle.endpoint_laws.proofs.Lines.{FactPart, FactMeets, EntriesMeet}
use Rattle.endpoint_laws.proofs.Tied.{sealed_once, Tied}
use Rattle.endpoint_laws.proofs.PacketPieces.{any_sends}
use Rattle.endpoint_laws.proofs.Small.{Any, Sends}
use Rattle.endpoint_laws.proofs.Moving.{IsAlike, alike_itself, tied_session, tied_more, tied_alike}

-- ---- entries one after another

pub onto_append : (now : ℕ) (xs ys : List Entry) (past : Past) → onto now (xs ++ ys) past ≡ onto now ys (onto now xs past)
onto_append now [] ys past = refl
onto_append now (x ∷ xs) ys past = onto_append now xs ys (stamped now x ∷ past)

follows_more : (peer : List ℕ) (xs ys : List Entry) → BornFollows peer xs → BornFollows peer (xs ++ ys)
follows_more peer [] ys f = absurd f
follows_more peer (entry ∷ xs) ys f = f

ended_more : (secrets : Secrets) (setup : Setup) (now : ℕ) (call : Call) (past : Past) (xs ys : List Entry) (peer : List ℕ) (near : ℕ) (why : Why) → EndedLine secrets setup now call past xs peer near why → EndedLine secrets setup now call past (xs ++ ys) peer near why
ended_more secrets setup now call past xs ys peer near Cancelled f = f
ended_more secrets setup now call past xs ys peer near Expired f = f
ended_more secrets setup now call past xs ys peer near Glare f = follows_more peer xs ys f
ended_more secrets setup now call past xs ys peer near Override f = follows_more peer xs ys f
ended_more secrets setup now call past xs ys peer near Unconfirmed f = f
ended_more secrets setup now call past xs ys peer near Near f = f
ended_more secrets setup now call past xs ys peer near Far f = f
ended_more secrets setup now call past xs ys peer near Idle f = f

line_more : (secrets : Secrets) (setup : Setup) (now : ℕ) (call : Call) (past : Past) (xs ys : List Entry) (fact : Fact) → FactLine secrets setup now call past xs fact → FactLine secrets setup now call past (xs ++ ys) fact
line_more secrets setup now call past xs ys (Started peer n near ni) f = f
line_more secrets setup now call past xs ys (Born j) f = f
line_more secrets setup now call past xs ys (Opened j) f = f
line_more secrets setup now call past xs ys (Confirmed peer near) f = f
line_more secrets setup now call past xs ys (Ended peer near why) f = ended_more secrets setup now call past xs ys peer near why f

fact_more : (secrets : Secrets) (setup : Setup) (now : ℕ) (call : Call) (past : Past) (xs ys : List Entry) (o : Option Fact) → FactMeets secrets setup now call past xs o → FactMeets secrets setup now call past (xs ++ ys) o
fact_more secrets setup now call past xs ys None f = tt
fact_more secrets setup now call past xs ys (Some fact) f = (f.0, line_more secrets setup now call past xs ys fact f.1)

part_more : (secrets : Secrets) (setup : Setup) (now : ℕ) (call : Call) (past : Past) (xs ys : List Entry) (entry : Entry) → FactPart secrets setup now call past xs entry → FactPart secrets setup now call past (xs ++ ys) entry
part_more secrets setup now call past xs ys entry f = (fact_more secrets setup now call past xs ys (fact_in entry) f.0, f.1)

pub meet_append : (secrets : Secrets) (setup : Setup) (now : ℕ) (call : Call) (past : Past) (xs ys : List Entry) → EntriesMeet FactPart secrets setup now call past xs →
    EntriesMeet FactPart secrets setup now call (onto now xs past) ys → EntriesMeet FactPart secrets setup now call past (xs ++ ys)
meet_append secrets setup now call past [] ys f g = g
meet_append secrets setup now call past (x ∷ xs) ys f g = (part_more secrets setup now call past xs ys x f.0, meet_append secrets setup now call (stamped now x ∷ past) xs ys f.1 g)

-- ---- what a thing keeps

pub record Goes (secrets : Secrets) (setup : Setup) (call : Call) (past : Past) (s : State) (d : Did) : Type 0 where
  pub meets : EntriesMeet FactPart secrets setup s.moment call past d.entries
  pub tied : Tied secrets setup (onto s.moment d.entries past) d.state
  pub moment : d.state.moment ≡ s.moment

-- what holds whatever the call is, and whatever was done
abbrev pub Keeps : Secrets → Setup → Call → State → Did → Type 0
Keeps secrets setup call s d = (past : Past) → Tied secrets setup past s → Goes secrets setup call past s d

pub goes_nothing : (secrets : Secrets) (setup : Setup) (call : Call) (s : State) → Keeps secrets setup call s (nothing s)
goes_nothing secrets setup call s past t = record { meets = tt; tied = t; moment = refl }

pub goes_then : (secrets : Secrets) (setup : Setup) (call : Call) (past : Past) (s : State) (d : Did) (next : State → Did) → Goes secrets setup call past s d →
    Goes secrets setup call (onto s.moment d.entries past) d.state (next d.state) → Goes secrets setup call past s (then_do d next)
goes_then secrets setup call past s d next f g =
    let e : Did = next d.state in
    let P : ℕ → Type 0 = λ m. EntriesMeet FactPart secrets setup m call (onto s.moment d.entries past) e.entries in
    let Q : ℕ → Type 0 = λ m. Tied secrets setup (onto m e.entries (onto s.moment d.entries past)) e.state in
    let R : Past → Type 0 = λ p. Tied secrets setup p e.state in
    record {
      meets = meet_append secrets setup s.moment call past d.entries e.entries f.meets (subst P f.moment g.meets);
      tied = subst R (sym (onto_append s.moment d.entries e.entries past)) (subst Q f.moment g.tied);
      moment = g.moment ∙ f.moment;
    }

pub keeps_if : (secrets : Secrets) (setup : Setup) (call : Call) (s : State) (b : Bool) (d e : Did) → (b ≡ true → Keeps secrets setup call s d) → (b ≡ false → Keeps secrets setup call s e) → Keeps secrets setup call s (if b then d else e)
keeps_if secrets setup call s true d e f g = f refl
keeps_if secrets setup call s false d e f g = g refl

-- ---- discards and sendings

pub goes_discarded : (secrets : Secrets) (setup : Setup) (call : Call) (s : State) (at : ℕ) (cause : Cause) → Keeps secrets setup call s (discarded s at cause)
goes_discarded secrets setup call s at cause past t = record { meets = ((tt, tt), tt); tied = tied_more secrets setup past s (stamped s.moment (Discard at cause)) (omega arith) refl refl refl refl refl refl t; moment = refl }

pub seal_alike : (b : Bool) (moment : ℕ) (session : SessionState) → IsAlike moment session (if b then session else sealed_once session)
seal_alike true moment session = alike_itself moment session
seal_alike false moment session = record { joined = refl; own = refl; generation = refl; inward = refl; outward = refl; role = refl; held = refl; thing = λ e. refl; stage = λ f. f; since = λ e. inl refl }

-- what goes out
pub goes_sends : (secrets : Secrets) (setup : Setup) (call : Call) → Sends Any (Keeps secrets setup call)
goes_sends secrets setup call = any_sends (record {
  steps = record {
    does_nothing = goes_nothing secrets setup call;
    and_then = λ s d e first later past t. let one = first past t in goes_then secrets setup call past s d (λ u. e) one (later (onto s.moment d.entries past) one.tied);
  };
  out = λ s generation keys to sid plain past t. record {
    meets = ((tt, tt), tt);
    tied = tied_alike secrets setup _ s s.moment (s.sealed + 1) (omega arith) (tied_more secrets setup past s _ (omega arith) refl refl refl refl refl refl t);
    moment = refl;
  };
  out_in = λ s near row to body is past t. record {
    meets = ((tt, tt), tt);
    tied = tied_session secrets setup _ s near row (record row { session = after_seal row.session }) (tied_more secrets setup past s _ (omega arith) refl refl refl refl refl refl t) is (seal_alike (is_spent row.session) s.moment row.session);
    moment = refl;
  };
  packets = λ s near row is past t. record {
    meets = tt;
    tied = tied_session secrets setup past s near row (record row { packets = row.packets + 1 }) t is (alike_itself s.moment row.session);
    moment = refl;
  };
})
