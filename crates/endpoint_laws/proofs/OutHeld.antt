-- What is held has nonces of the facts, and their sizes.
use Rattle.std.proofs.Common.{◌≡◌, ℕ, ◌^◌, ◌<◌, ◌≤◌, List, [], ◌∷◌, length, Bool, true, false, Option, Some, None, inl, inr, ◌⊎◌, refl, sym, ap, subst, ◌∙◌}
use Rattle.glare_core.specs.declared.facts.Fact.{Fact}
use Rattle.glare_core.specs.declared.facts.Fact.TheVariants.{Started, Born, Opened, Confirmed, Ended}
use Rattle.glare_core.specs.declared.facts.Held.{Held}
use Rattle.glare_core.specs.declared.facts.Held.TheVariants.{Opening, HalfOpen, KeptAsResponder, KeptAsInitiator}
use Rattle.glare_core.specs.declared.facts.Joined.{Joined}
use Rattle.glare_core.specs.Standing.{peer_of, after, held}
use Rattle.glare_core.specs.Steps.{Among}
use Rattle.glare_core.proofs.Tails.{same_end}
use Rattle.session_core.specs.declared.stage.Role.{Role}
use Rattle.session_core.specs.declared.stage.Role.TheVariants.{Initiator, Responder}
use Rattle.session_core.specs.declared.stage.Stage.{Stage}
use Rattle.session_core.specs.declared.stage.Stage.TheVariants.{Opening as StageOpening, Open, NearClose, FarLinger, Closed}
use Rattle.session_core.specs.Session.{SessionState, context_between, context_of}
use Rattle.session_core.specs.Closing.{is_held}
use Rattle.std.specs.FinMap.{get}
use Rattle.glare_core.proofs.Accounts.{reads_held}
use Rattle.endpoint_model.specs.declared.row.Row.{Row}
use Rattle.endpoint_model.specs.State.{State}
use Rattle.endpoint_laws.specs.Past.{Past, facts_of, fact_and, fact_done, Closes, IsClosing}
use Rattle.endpoint_laws.specs.Contexts.{Secrets, BegunUnder, outward}
use Rattle.endpoint_laws.specs.OfTheLog.{WasThing}
use Rattle.endpoint_model.specs.Event.{Setup, own_of}
use Rattle.endpoint_laws.specs.Lawful.{nonces_of, InSession, IsFarOf}
use Rattle.endpoint_laws.proofs.Begun.{born_thing, begun_as}
use Rattle.endpoint_laws.proofs.Tied.{Tied, HasKeys, thing_of}
use Rattle.endpoint_laws.proofs.OutFacts.{opened_nonces, nonce_stays, opened_stays}
use Rattle.endpoint_laws.proofs.OutNumbers.{Known}

-- ---- nonces

-- the nonce that this end drew for a session is one of the facts
abbrev pub HasNonce : List Fact → Option Held → Type 0
HasNonce facts None = Unit {0}
HasNonce facts (Some (Opening n near ni)) = Unit {0}
HasNonce facts (Some (HalfOpen j)) = Among j.nr (nonces_of facts)
HasNonce facts (Some (KeptAsResponder j)) = Among j.nr (nonces_of facts)
HasNonce facts (Some (KeptAsInitiator j)) = Among j.ni (opened_nonces facts)

nonce_kept : (fact : Fact) (earlier : List Fact) (o : Option Held) → HasNonce earlier o → HasNonce (fact ∷ earlier) o
nonce_kept fact earlier None h = tt
nonce_kept fact earlier (Some (Opening n near ni)) h = tt
nonce_kept fact earlier (Some (HalfOpen j)) h = nonce_stays j.nr fact earlier h
nonce_kept fact earlier (Some (KeptAsResponder j)) h = nonce_stays j.nr fact earlier h
nonce_kept fact earlier (Some (KeptAsInitiator j)) h = opened_stays j.ni fact earlier h

nonce_after : (fact : Fact) (earlier : List Fact) (o : Option Held) → HasNonce earlier o → HasNonce (fact ∷ earlier) (after fact o)
nonce_after (Started peer n near ni) earlier o h = tt
nonce_after (Born j) earlier o h = inl refl
nonce_after (Opened j) earlier None h = tt
nonce_after (Opened j) earlier (Some (Opening n near ni)) h = inl refl
nonce_after (Opened j) earlier (Some (HalfOpen k)) h = h
nonce_after (Opened j) earlier (Some (KeptAsResponder k)) h = h
nonce_after (Opened j) earlier (Some (KeptAsInitiator k)) h = inr h
nonce_after (Confirmed peer near) earlier None h = tt
nonce_after (Confirmed peer near) earlier (Some (Opening n near' ni)) h = tt
nonce_after (Confirmed peer near) earlier (Some (HalfOpen k)) h = h
nonce_after (Confirmed peer near) earlier (Some (KeptAsResponder k)) h = h
nonce_after (Confirmed peer near) earlier (Some (KeptAsInitiator k)) h = h
nonce_after (Ended peer near why) earlier o h = tt

has_nonce : (p : List ℕ) (facts : List Fact) → HasNonce facts (held p facts)
has_nonce p [] = tt
has_nonce p (fact ∷ earlier) = elim (same_end (peer_of fact) p) [
  | inl d ↦ rw d.1 (nonce_after fact earlier (held p earlier) (has_nonce p earlier))
  | inr d ↦ rw d.1 (nonce_kept fact earlier (held p earlier) (has_nonce p earlier))
]

known_thing : (g : ℕ) (facts : List Fact) (own : List ℕ) (role : Role) (stage : Stage) (j : Joined) → HasNonce facts (Some (thing_of role stage j)) → Known (context_between g j own role true) facts
known_thing g facts own Initiator stage j h = h
known_thing g facts own Responder StageOpening j h = h
known_thing g facts own Responder Open j h = h
known_thing g facts own Responder NearClose j h = h
known_thing g facts own Responder FarLinger j h = h
known_thing g facts own Responder Closed j h = h

-- the context of a session that is held is known
held_known : (g : ℕ) (facts : List Fact) (own : List ℕ) (role : Role) (stage : Stage) (j : Joined) → held j.peer facts ≡ Some (thing_of role stage j) → Known (context_between g j own role true) facts
held_known g facts own role stage j is = known_thing g facts own role stage j (subst (λ (o : Option Held). HasNonce facts o) is (has_nonce j.peer facts))

-- ---- sizes

abbrev pub IsSized : Fact → Type 0
IsSized (Started peer n near ni) = (length peer ≡ 32) × (near < 2 ^ 32) × (length ni ≤ 16)
IsSized (Born j) = (j.near < 2 ^ 32) × (length j.ni ≤ 16) × (length j.nr ≤ 16)
IsSized (Opened j) = Unit {0}
IsSized (Confirmed peer near) = Unit {0}
IsSized (Ended peer near why) = Unit {0}

abbrev pub AreSized : List Fact → Type 0
AreSized [] = Unit {0}
AreSized (fact ∷ earlier) = IsSized fact × AreSized earlier

abbrev pub HasSizes : List ℕ → Option Held → Type 0
HasSizes p None = Unit {0}
HasSizes p (Some (Opening n near ni)) = (length p ≡ 32) × (near < 2 ^ 32) × (length ni ≤ 16)
HasSizes p (Some (HalfOpen j)) = (j.near < 2 ^ 32) × (length j.ni ≤ 16) × (length j.nr ≤ 16) × (j.peer ≡ p)
HasSizes p (Some (KeptAsResponder j)) = (j.near < 2 ^ 32) × (length j.ni ≤ 16) × (length j.nr ≤ 16) × (j.peer ≡ p)
HasSizes p (Some (KeptAsInitiator j)) = Unit {0}

sized_after : (p : List ℕ) (fact : Fact) (o : Option Held) → peer_of fact ≡ p → IsSized fact → HasSizes p o → HasSizes p (after fact o)
sized_after p (Started peer n near ni) o is f h = (sym (ap length is) ∙ f.0, f.1, f.2)
sized_after p (Born j) o is f h = (f.0, f.1, f.2, is)
sized_after p (Opened j) None is f h = tt
sized_after p (Opened j) (Some (Opening n near ni)) is f h = tt
sized_after p (Opened j) (Some (HalfOpen k)) is f h = h
sized_after p (Opened j) (Some (KeptAsResponder k)) is f h = h
sized_after p (Opened j) (Some (KeptAsInitiator k)) is f h = tt
sized_after p (Confirmed peer near) None is f h = tt
sized_after p (Confirmed peer near) (Some (Opening n near' ni)) is f h = h
sized_after p (Confirmed peer near) (Some (HalfOpen k)) is f h = h
sized_after p (Confirmed peer near) (Some (KeptAsResponder k)) is f h = h
sized_after p (Confirmed peer near) (Some (KeptAsInitiator k)) is f h = tt
sized_after p (Ended peer near why) o is f h = tt

has_sizes : (p : List ℕ) (facts : List Fact) → AreSized facts → HasSizes p (held p facts)
has_sizes p [] sized = tt
has_sizes p (fact ∷ earlier) sized = elim (same_end (peer_of fact) p) [
  | inl d ↦ rw d.1 (sized_after p fact (held p earlier) d.0 sized.0 (has_sizes p earlier sized.1))
  | inr d ↦ rw d.1 (has_sizes p earlier sized.1)
]

pub held_sized : (p : List ℕ) (facts : List Fact) (thing : Held) → AreSized facts → held p facts ≡ Some thing → HasSizes p (Some thing)
held_sized p facts thing sized is = subst (λ (o : Option Held). HasSizes p o) is (has_sizes p facts sized)

-- ---- the session in whose context a datagram goes

in_session : (secrets : Secrets) (setup : Setup) (past : Past) (g : ℕ) (role : Role) (stage : Stage) (j : Joined) → held j.peer (facts_of past) ≡ Some (thing_of role stage j) → BegunUnder secrets setup (born_thing role j) g past →
    InSession secrets setup past j.far (context_between g j (own_of setup) role true)
in_session secrets setup past g Initiator stage j is b = (KeptAsInitiator j, j.near, inl (record { peer = j.peer; is_held = is; id = refl }), b, refl, refl)
in_session secrets setup past g Responder StageOpening j is b = (HalfOpen j, j.near, inl (record { peer = j.peer; is_held = is; id = refl }), b, refl, refl)
in_session secrets setup past g Responder Open j is b = (KeptAsResponder j, j.near, inl (record { peer = j.peer; is_held = is; id = refl }), begun_as secrets setup Responder j (KeptAsResponder j) g past (inr refl) b, refl, refl)
in_session secrets setup past g Responder NearClose j is b = (KeptAsResponder j, j.near, inl (record { peer = j.peer; is_held = is; id = refl }), begun_as secrets setup Responder j (KeptAsResponder j) g past (inr refl) b, refl, refl)
in_session secrets setup past g Responder FarLinger j is b = (KeptAsResponder j, j.near, inl (record { peer = j.peer; is_held = is; id = refl }), begun_as secrets setup Responder j (KeptAsResponder j) g past (inr refl) b, refl, refl)
in_session secrets setup past g Responder Closed j is b = (KeptAsResponder j, j.near, inl (record { peer = j.peer; is_held = is; id = refl }), begun_as secrets setup Responder j (KeptAsResponder j) g past (inr refl) b, refl, refl)

-- one that is closing has a nonce of the facts, too

nonce_and : (o : Option Fact) (earlier : List Fact) (h : Option Held) → HasNonce earlier h → HasNonce (fact_and o earlier) h
nonce_and None earlier h n = n
nonce_and (Some fact) earlier h n = nonce_kept fact earlier h n

closed_nonce : (near : ℕ) (thing : Held) (facts : List Fact) (o : Option Fact) → Closes near thing facts o → HasNonce facts (Some thing)
closed_nonce near thing facts None c = absurd c
closed_nonce near thing facts (Some (Started peer n id ni)) c = absurd c
closed_nonce near thing facts (Some (Born j)) c = absurd c
closed_nonce near thing facts (Some (Opened j)) c = absurd c
closed_nonce near thing facts (Some (Confirmed peer id)) c = absurd c
closed_nonce near thing facts (Some (Ended peer id why)) c = subst (λ (o : Option Held). HasNonce facts o) c.2 (has_nonce peer facts)

closing_nonce : (near : ℕ) (thing : Held) (at : ℕ) (past : Past) → IsClosing near thing at past → HasNonce (facts_of past) (Some thing)
closing_nonce near thing at [] c = absurd c
closing_nonce near thing at (s ∷ earlier) (inl b) = nonce_and (fact_done s.what) (facts_of earlier) (Some thing) (closed_nonce near thing (facts_of earlier) (fact_done s.what) b.0)
closing_nonce near thing at (s ∷ earlier) (inr p) = nonce_and (fact_done s.what) (facts_of earlier) (Some thing) (closing_nonce near thing at earlier p.1)

was_known : (g : ℕ) (facts : List Fact) (own : List ℕ) (role : Role) (j : Joined) (thing : Held) → WasThing role j thing → HasNonce facts (Some thing) → Known (context_between g j own role true) facts
was_known g facts own Initiator j thing w h = subst (λ (t : Held). HasNonce facts (Some t)) w h
was_known g facts own Responder j thing (inl w) h = subst (λ (t : Held). HasNonce facts (Some t)) w h
was_known g facts own Responder j thing (inr w) h = subst (λ (t : Held). HasNonce facts (Some t)) w h

was_in_session : (secrets : Secrets) (setup : Setup) (past : Past) (g near : ℕ) (role : Role) (j : Joined) (thing : Held) (at : ℕ) → WasThing role j thing → IsClosing near thing at past → BegunUnder secrets setup (born_thing role j) g past →
    InSession secrets setup past j.far (context_between g j (own_of setup) role true)
was_in_session secrets setup past g near Initiator j thing at w c b = (thing, near, inr (at, c), begun_as secrets setup Initiator j thing g past w b, ap (outward setup g) (sym w), subst (λ (t : Held). IsFarOf t j.far) (sym w) refl)
was_in_session secrets setup past g near Responder j thing at (inl w) c b = (thing, near, inr (at, c), begun_as secrets setup Responder j thing g past (inl w) b, ap (outward setup g) (sym w), subst (λ (t : Held). IsFarOf t j.far) (sym w) refl)
was_in_session secrets setup past g near Responder j thing at (inr w) c b = (thing, near, inr (at, c), begun_as secrets setup Responder j thing g past (inr w) b, ap (outward setup g) (sym w), subst (λ (t : Held). IsFarOf t j.far) (sym w) refl)

-- A datagram may go out in the session: its keys are those of its generation, its nonce is known, and it is held or closing.
pub record MaySend (secrets : Secrets) (setup : Setup) (past : Past) (session : SessionState) : Type 0 where
  pub keyed : HasKeys secrets session
  pub known : Known (context_of session true) (facts_of past)
  pub stands : InSession secrets setup past session.joined.far (context_of session true)

either_way : (b : Bool) → (b ≡ true) ⊎ (b ≡ false)
either_way true = inl refl
either_way false = inr refl

-- in the end's own name
module _ (secrets : Secrets) (setup : Setup) (past : Past) (session : SessionState) (own : session.own ≡ own_of setup) where
  as_own : InSession secrets setup past session.joined.far (context_between session.generation session.joined (own_of setup) session.role true) → InSession secrets setup past session.joined.far (context_of session true)
  as_own i = subst (λ (o : List ℕ). InSession secrets setup past session.joined.far (context_between session.generation session.joined o session.role true)) (sym own) i

  -- one that is held
  pub may_send_held : HasKeys secrets session → BegunUnder secrets setup (born_thing session.role session.joined) session.generation past →
      held session.joined.peer (facts_of past) ≡ Some (thing_of session.role session.stage session.joined) → MaySend secrets setup past session
  may_send_held keyed begun thing = record {
    keyed = keyed;
    known = held_known session.generation (facts_of past) session.own session.role session.stage session.joined thing;
    stands = as_own (in_session secrets setup past session.generation session.role session.stage session.joined thing begun);
  }

pub may_send : (secrets : Secrets) (setup : Setup) (past : Past) (s : State) (near : ℕ) (row : Row) → Tied secrets setup past s → get s.sessions near ≡ Some row → MaySend secrets setup past row.session
may_send secrets setup past s near row tied there =
    let session : SessionState = row.session in
    let j : Joined = session.joined in
    let is = tied.sessions near row there in
    elim (either_way (is_held session.stage)) [
      | inl e ↦ may_send_held secrets setup past session is.own is.known is.begun (sym (reads_held 0 s.startup.ledger (facts_of past) tied.account j.peer) ∙ is.thing e)
      | inr e ↦
          let c = is.closed e in
          record {
            keyed = is.known;
            known = was_known session.generation (facts_of past) session.own session.role j c.thing c.was (closing_nonce near c.thing c.at past c.closing);
            stands = as_own secrets setup past session is.own (was_in_session secrets setup past session.generation near session.role j c.thing c.at c.was c.closing is.begun);
          }
    ]
