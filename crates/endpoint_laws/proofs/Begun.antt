-- The generation in which a session began, by the thing that it was first.
use Rattle.std.proofs.Common.{◌≡◌, ℕ, [], ◌∷◌, Option, Some, None, ◌⊎◌, inl, inr, sym, subst}
use Rattle.glare_core.specs.declared.facts.Fact.{Fact}
use Rattle.glare_core.specs.declared.facts.Fact.TheVariants.{Started, Born, Opened, Confirmed, Ended}
use Rattle.glare_core.specs.declared.facts.Joined.{Joined}
use Rattle.glare_core.specs.declared.facts.Held.{Held}
use Rattle.glare_core.specs.declared.facts.Held.TheVariants.{HalfOpen, KeptAsResponder, KeptAsInitiator}
use Rattle.session_core.specs.declared.stage.Role.{Role}
use Rattle.session_core.specs.declared.stage.Role.TheVariants.{Initiator, Responder}
use Rattle.session_core.specs.Session.{SessionState}
use Rattle.endpoint_model.specs.Event.{Setup}
use Rattle.endpoint_model.specs.declared.entry.Entry.TheVariants.{Fact as FactEntry}
use Rattle.endpoint_laws.specs.Past.{Past, Stamped, stamped, fact_done}
use Rattle.endpoint_laws.specs.Contexts.{Secrets, BeganWith, Begins, EventOpenedIn, BegunUnder}
use Rattle.endpoint_laws.specs.OfTheLog.{WasThing}

-- what a session of this role is when it begins
abbrev pub born_thing : Role → Joined → Held
born_thing Initiator j = KeptAsInitiator j
born_thing Responder j = HalfOpen j

-- the fact with which it begins
abbrev pub born_fact : Role → Joined → Fact
born_fact Initiator j = Opened j
born_fact Responder j = Born j

-- an open session of the peer's attempt began as a half-open one
opened_later : (secrets : Secrets) (setup : Setup) (j : Joined) (generation : ℕ) (past : Past) → BegunUnder secrets setup (HalfOpen j) generation past → BegunUnder secrets setup (KeptAsResponder j) generation past
opened_later secrets setup j generation [] begun = begun
opened_later secrets setup j generation (s ∷ earlier) begun = by (λ before. opened_later secrets setup j generation earlier before) (fact_done s.what) begun
  where
    by : (BegunUnder secrets setup (HalfOpen j) generation earlier → BegunUnder secrets setup (KeptAsResponder j) generation earlier) → (o : Option Fact) → (Begins (HalfOpen j) o × EventOpenedIn secrets setup earlier generation) ⊎ ((Begins (HalfOpen j) o → ⊥) × BegunUnder secrets setup (HalfOpen j) generation earlier) →
        (Begins (KeptAsResponder j) o × EventOpenedIn secrets setup earlier generation) ⊎ ((Begins (KeptAsResponder j) o → ⊥) × BegunUnder secrets setup (KeptAsResponder j) generation earlier)
    by later None (inl here) = absurd here.0
    by later None (inr before) = inr (before.0, later before.1)
    by later (Some fact) (inl here) = inl here
    by later (Some fact) (inr before) = inr (before.0, later before.1)

pub begun_as : (secrets : Secrets) (setup : Setup) (role : Role) (j : Joined) (thing : Held) (generation : ℕ) (past : Past) → WasThing role j thing → BegunUnder secrets setup (born_thing role j) generation past →
    BegunUnder secrets setup thing generation past
begun_as secrets setup Initiator j thing generation past was begun = subst (λ (h : Held). BegunUnder secrets setup h generation past) (sym was) begun
begun_as secrets setup Responder j thing generation past (inl was) begun = subst (λ (h : Held). BegunUnder secrets setup h generation past) (sym was) begun
begun_as secrets setup Responder j thing generation past (inr was) begun = subst (λ (h : Held). BegunUnder secrets setup h generation past) (sym was) (opened_later secrets setup j generation past begun)

-- ---- what is done leaves it

-- The sessions under this session ID keep theirs.
abbrev pub KeepsBegun : ℕ → Past → Past → Type 0
KeepsBegun near past now =
    (secrets : Secrets) (setup : Setup) (role : Role) (j : Joined) → j.near ≡ near → (generation : ℕ) → BegunUnder secrets setup (born_thing role j) generation past → BegunUnder secrets setup (born_thing role j) generation now

began_by : (role : Role) (j : Joined) (fact : Fact) → BeganWith (born_thing role j) fact → fact ≡ born_fact role j
began_by Initiator j fact e = e
began_by Responder j fact e = e

-- after a fact with which another session begins, or none
pub begun_after : (secrets : Secrets) (setup : Setup) (role : Role) (j : Joined) (generation : ℕ) (past : Past) (moment : ℕ) (fact : Fact) → (fact ≡ born_fact role j → ⊥) → BegunUnder secrets setup (born_thing role j) generation past →
    BegunUnder secrets setup (born_thing role j) generation (stamped moment (FactEntry fact) ∷ past)
begun_after secrets setup role j generation past moment fact other begun = inr ((λ e. other (began_by role j fact e)), begun)

-- a fact with which no session begins
abbrev pub IsNoBegin : Fact → Type 0
IsNoBegin (Started peer n near ni) = Unit {0}
IsNoBegin (Born j) = ⊥
IsNoBegin (Opened j) = ⊥
IsNoBegin (Confirmed peer near) = Unit {0}
IsNoBegin (Ended peer near why) = Unit {0}

begins_none : (fact : Fact) (role : Role) (j : Joined) → IsNoBegin fact → fact ≡ born_fact role j → ⊥
begins_none fact Initiator j none e = subst IsNoBegin e none
begins_none fact Responder j none e = subst IsNoBegin e none

pub begun_beside : (secrets : Secrets) (setup : Setup) (role : Role) (j : Joined) (generation : ℕ) (past : Past) (moment : ℕ) (fact : Fact) → IsNoBegin fact → BegunUnder secrets setup (born_thing role j) generation past →
    BegunUnder secrets setup (born_thing role j) generation (stamped moment (FactEntry fact) ∷ past)
begun_beside secrets setup role j generation past moment fact none = begun_after secrets setup role j generation past moment fact (begins_none fact role j none)

-- after what states no fact
pub begun_on : (secrets : Secrets) (setup : Setup) (thing : Held) (generation : ℕ) (past : Past) (x : Stamped) → fact_done x.what ≡ None → BegunUnder secrets setup thing generation past → BegunUnder secrets setup thing generation (x ∷ past)
begun_on secrets setup thing generation past x none begun = inr (subst (λ (o : Option Fact). Begins thing o → ⊥) (sym none) (λ e. e), begun)

-- the session is as it was
pub begun_like : (secrets : Secrets) (setup : Setup) (past : Past) (old new : SessionState) → new.role ≡ old.role → new.joined ≡ old.joined → new.generation ≡ old.generation → BegunUnder secrets setup (born_thing old.role old.joined) old.generation past →
    BegunUnder secrets setup (born_thing new.role new.joined) new.generation past
begun_like secrets setup past old new role joined generation begun =
    subst (λ (r : Role). BegunUnder secrets setup (born_thing r new.joined) new.generation past) (sym role)
    (subst (λ (j : Joined). BegunUnder secrets setup (born_thing old.role j) new.generation past) (sym joined)
    (subst (λ (g : ℕ). BegunUnder secrets setup (born_thing old.role old.joined) g past) (sym generation) begun))
