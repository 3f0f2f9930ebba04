-- A session begins in a new context, and what is held has begun.
use Rattle.std.proofs.Common.{◌≡◌, ℕ, List, [], ◌∷◌, Option, Some, None, inl, inr, ◌⊎◌, refl, sym}
use Rattle.std.proofs.Common.{subst, ap, ◌∙◌, Bool, true, false, not}
use Rattle.glare_core.specs.declared.facts.Fact.{Fact}
use Rattle.glare_core.specs.declared.facts.Fact.TheVariants.{Started, Born, Opened, Confirmed}
use Rattle.glare_core.specs.declared.facts.Fact.TheVariants.{Ended}
use Rattle.glare_core.specs.declared.facts.Held.{Held}
use Rattle.glare_core.specs.declared.facts.Held.TheVariants.{Opening, HalfOpen, KeptAsResponder}
use Rattle.glare_core.specs.declared.facts.Held.TheVariants.{KeptAsInitiator}
use Rattle.glare_core.specs.declared.facts.Joined.{Joined}
use Rattle.glare_core.specs.Standing.{opened, confirmed, held}
use Rattle.glare_core.specs.Things.{IsSession}
use Rattle.glare_core.specs.Account.{AreLawful}
use Rattle.glare_core.specs.Steps.{Among}
use Rattle.glare_core.specs.Told.{AllDifferent}
use Rattle.session_core.specs.declared.stage.Role.TheVariants.{Initiator, Responder}
use Rattle.flow_history.specs.Deeds.{Context, back}
use Rattle.endpoint_laws.specs.Lawful.{nonces_of}
use Rattle.endpoint_handing.specs.Told.{sends_in}
use Rattle.endpoint_handing.specs.Once.{SendsIn, TakesIn, HasBegun, HeldSends}
use Rattle.endpoint_laws.proofs.OutFacts.{opened_nonces, nonce_stays, opened_stays, not_opened}
use Rattle.endpoint_laws.proofs.OutFacts.{Left, Here, Before, left_by_last}

-- ---- a context that was begun in has the end's nonce

born_same : (own : List ℕ) (j k : Joined) →
    sends_in Responder own j ≡ sends_in Responder own k → j.nr ≡ k.nr
born_same own j k e = ap (λ (c : Context). c.session.nr) e

opened_same : (own : List ℕ) (j k : Joined) →
    sends_in Initiator own j ≡ sends_in Initiator own k → j.ni ≡ k.ni
opened_same own j k e = ap (λ (c : Context). c.session.ni) e

-- the two ends of a session send in different directions, and so they take
not_both : (own other : List ℕ) (j k : Joined) (c : Context) → sends_in Responder own j ≡ c →
    sends_in Initiator other k ≡ c → ⊥
not_both own other j k c e f =
    let clash : false ≡ true = ap (λ (d : Context). d.to_responder) (e ∙ sym f) in cc

forth : (a b : Context) → back a ≡ back b → a ≡ b
forth a b e =
    turned a ∙ ap back e ∙ sym (turned b)
  where
    twice : (way : Bool) → way ≡ not (not way)
    twice true = refl
    twice false = refl

    turned : (c : Context) → c ≡ back (back c)
    turned c = ap (λ (way : Bool). let d : Context = record { session = c.session; to_responder = way } in d) (twice c.to_responder)

sent_born : (own : List ℕ) (j : Joined) (facts : List Fact) →
    HasBegun (SendsIn own (sends_in Responder own j)) facts →
    Among j.nr (nonces_of facts)
sent_born own j [] h = h
sent_born own j (Started peer n near ni ∷ earlier) (inl e) = absurd e
sent_born own j (Born k ∷ earlier) (inl e) = inl (sym (born_same own k j e))
sent_born own j (Opened k ∷ earlier) (inl e) =
    absurd (not_both own own j k (sends_in Responder own j) refl e)
sent_born own j (Confirmed peer near ∷ earlier) (inl e) = absurd e
sent_born own j (Ended peer near why ∷ earlier) (inl e) = absurd e
sent_born own j (fact ∷ earlier) (inr h) = nonce_stays j.nr fact earlier (sent_born own j earlier h)

sent_opened : (own : List ℕ) (j : Joined) (facts : List Fact) →
    HasBegun (SendsIn own (sends_in Initiator own j)) facts →
    Among j.ni (opened_nonces facts)
sent_opened own j [] h = h
sent_opened own j (Started peer n near ni ∷ earlier) (inl e) = absurd e
sent_opened own j (Born k ∷ earlier) (inl e) =
    absurd (not_both own own k j (sends_in Initiator own j) e refl)
sent_opened own j (Opened k ∷ earlier) (inl e) = inl (sym (opened_same own k j e))
sent_opened own j (Confirmed peer near ∷ earlier) (inl e) = absurd e
sent_opened own j (Ended peer near why ∷ earlier) (inl e) = absurd e
sent_opened own j (fact ∷ earlier) (inr h) =
    opened_stays j.ni fact earlier (sent_opened own j earlier h)

taken_born : (own : List ℕ) (j : Joined) (facts : List Fact) →
    HasBegun (TakesIn own (back (sends_in Responder own j))) facts →
    Among j.nr (nonces_of facts)
taken_born own j [] h = h
taken_born own j (Started peer n near ni ∷ earlier) (inl e) = absurd e
taken_born own j (Born k ∷ earlier) (inl e) =
    inl (sym (born_same own k j (forth (sends_in Responder own k) (sends_in Responder own j) e)))
taken_born own j (Opened k ∷ earlier) (inl e) =
    absurd (not_both own own j k (sends_in Responder own j) refl
    (forth (sends_in Initiator own k) (sends_in Responder own j) e))
taken_born own j (Confirmed peer near ∷ earlier) (inl e) = absurd e
taken_born own j (Ended peer near why ∷ earlier) (inl e) = absurd e
taken_born own j (fact ∷ earlier) (inr h) =
    nonce_stays j.nr fact earlier (taken_born own j earlier h)

taken_opened : (own : List ℕ) (j : Joined) (facts : List Fact) →
    HasBegun (TakesIn own (back (sends_in Initiator own j))) facts →
    Among j.ni (opened_nonces facts)
taken_opened own j [] h = h
taken_opened own j (Started peer n near ni ∷ earlier) (inl e) = absurd e
taken_opened own j (Born k ∷ earlier) (inl e) =
    absurd (not_both own own k j (sends_in Initiator own j)
    (forth (sends_in Responder own k) (sends_in Initiator own j) e) refl)
taken_opened own j (Opened k ∷ earlier) (inl e) =
    inl (sym (opened_same own k j (forth (sends_in Initiator own k) (sends_in Initiator own j) e)))
taken_opened own j (Confirmed peer near ∷ earlier) (inl e) = absurd e
taken_opened own j (Ended peer near why ∷ earlier) (inl e) = absurd e
taken_opened own j (fact ∷ earlier) (inr h) =
    opened_stays j.ni fact earlier (taken_opened own j earlier h)

-- ---- a session begins in a new context

sends_new : (own : List ℕ) (from : ℕ) (fact : Fact) (earlier : List Fact) (c : Context) →
    AreLawful own from (fact ∷ earlier) → AllDifferent (nonces_of (fact ∷ earlier)) →
    SendsIn own c fact → HasBegun (SendsIn own c) earlier → ⊥
sends_new own from (Started peer n near ni) earlier c lawful d e h = e
sends_new own from (Born j) earlier c lawful d e h =
    d.0 (sent_born own j earlier (subst (λ (x : Context). HasBegun (SendsIn own x) earlier)
    (sym e) h))
sends_new own from (Opened j) earlier c lawful d e h =
    not_opened own from j.peer earlier j.n j.near j.ni lawful.2 d lawful.0
    (sent_opened own j earlier (subst (λ (x : Context). HasBegun (SendsIn own x) earlier)
    (sym e) h))
sends_new own from (Confirmed peer near) earlier c lawful d e h = e
sends_new own from (Ended peer near why) earlier c lawful d e h = e

takes_new : (own : List ℕ) (from : ℕ) (fact : Fact) (earlier : List Fact) (c : Context) →
    AreLawful own from (fact ∷ earlier) → AllDifferent (nonces_of (fact ∷ earlier)) →
    TakesIn own c fact → HasBegun (TakesIn own c) earlier → ⊥
takes_new own from (Started peer n near ni) earlier c lawful d e h = e
takes_new own from (Born j) earlier c lawful d e h =
    d.0 (taken_born own j earlier (subst (λ (x : Context). HasBegun (TakesIn own x) earlier)
    (sym e) h))
takes_new own from (Opened j) earlier c lawful d e h =
    not_opened own from j.peer earlier j.n j.near j.ni lawful.2 d lawful.0
    (taken_opened own j earlier (subst (λ (x : Context). HasBegun (TakesIn own x) earlier)
    (sym e) h))
takes_new own from (Confirmed peer near) earlier c lawful d e h = e
takes_new own from (Ended peer near why) earlier c lawful d e h = e

pub begins_once : (own : List ℕ) (from : ℕ) (fact : Fact) (earlier : List Fact) (c : Context) →
    AreLawful own from (fact ∷ earlier) → AllDifferent (nonces_of (fact ∷ earlier)) →
    ((SendsIn own c fact → HasBegun (SendsIn own c) earlier → ⊥) × (TakesIn own c fact →
    HasBegun (TakesIn own c) earlier → ⊥))
begins_once own from fact earlier c lawful d =
    (sends_new own from fact earlier c lawful d, takes_new own from fact earlier c lawful d)

-- ---- a context names its ends

pub names_sender : (own other : List ℕ) (c : Context) (fact fact' : Fact) → SendsIn own c fact →
    SendsIn other c fact' → own ≡ other
names_sender own other c (Born j) (Born k) e f =
    ap (λ (d : Context). d.session.responder) (e ∙ sym f)
names_sender own other c (Born j) (Opened k) e f = absurd (not_both own other j k c e f)
names_sender own other c (Opened j) (Born k) e f = absurd (not_both other own k j c f e)
names_sender own other c (Opened j) (Opened k) e f =
    ap (λ (d : Context). d.session.initiator) (e ∙ sym f)
names_sender own other c (Started peer n near ni) fact' e f = absurd e
names_sender own other c (Confirmed peer near) fact' e f = absurd e
names_sender own other c (Ended peer near why) fact' e f = absurd e
names_sender own other c (Born j) (Started peer n near ni) e f = absurd f
names_sender own other c (Born j) (Confirmed peer near) e f = absurd f
names_sender own other c (Born j) (Ended peer near why) e f = absurd f
names_sender own other c (Opened j) (Started peer n near ni) e f = absurd f
names_sender own other c (Opened j) (Confirmed peer near) e f = absurd f
names_sender own other c (Opened j) (Ended peer near why) e f = absurd f

pub names_taker : (own other : List ℕ) (c : Context) (fact fact' : Fact) → TakesIn own c fact →
    TakesIn other c fact' → own ≡ other
names_taker own other c (Born j) (Born k) e f =
    ap (λ (d : Context). d.session.responder) (e ∙ sym f)
names_taker own other c (Born j) (Opened k) e f =
    absurd (not_both own other j k (sends_in Responder own j) refl
    (forth (sends_in Initiator other k) (sends_in Responder own j) (f ∙ sym e)))
names_taker own other c (Opened j) (Born k) e f =
    absurd (not_both other own k j (sends_in Responder other k) refl
    (forth (sends_in Initiator own j) (sends_in Responder other k) (e ∙ sym f)))
names_taker own other c (Opened j) (Opened k) e f =
    ap (λ (d : Context). d.session.initiator) (e ∙ sym f)
names_taker own other c (Started peer n near ni) fact' e f = absurd e
names_taker own other c (Confirmed peer near) fact' e f = absurd e
names_taker own other c (Ended peer near why) fact' e f = absurd e
names_taker own other c (Born j) (Started peer n near ni) e f = absurd f
names_taker own other c (Born j) (Confirmed peer near) e f = absurd f
names_taker own other c (Born j) (Ended peer near why) e f = absurd f
names_taker own other c (Opened j) (Started peer n near ni) e f = absurd f
names_taker own other c (Opened j) (Confirmed peer near) e f = absurd f
names_taker own other c (Opened j) (Ended peer near why) e f = absurd f

-- ---- what is held has begun

opened_is : (j : Joined) (o : Option Held) (thing : Held) → opened j o ≡ Some thing →
    (KeptAsInitiator j ≡ thing) ⊎ (o ≡ Some thing)
opened_is j None thing e = absurd cc
opened_is j (Some (Opening n near ni)) thing e = inl cc
opened_is j (Some (HalfOpen k)) thing e = inr e
opened_is j (Some (KeptAsResponder k)) thing e = inr e
opened_is j (Some (KeptAsInitiator k)) thing e = inr e

confirmed_is : (o : Option Held) (thing : Held) → confirmed o ≡ Some thing →
    (o ≡ Some thing) ⊎ ((j : Joined) × (o ≡ Some (HalfOpen j)) × (KeptAsResponder j ≡ thing))
confirmed_is None thing e = absurd cc
confirmed_is (Some (Opening n near ni)) thing e = inl e
confirmed_is (Some (HalfOpen j)) thing e = inr (j, refl, cc)
confirmed_is (Some (KeptAsResponder j)) thing e = inl e
confirmed_is (Some (KeptAsInitiator j)) thing e = inl e

-- the facts that begin what is held, whatever begins them
pub record Beginning (own : List ℕ) (begins : Held → Fact → Type 0) : Type 0 where
  pub born : (j : Joined) → begins (HalfOpen j) (Born j)
  pub opened : (j : Joined) → begins (KeptAsInitiator j) (Opened j)
  pub confirmed : (j : Joined) (facts : List Fact) → HasBegun (begins (HalfOpen j)) facts →
      HasBegun (begins (KeptAsResponder j)) facts

begun_last : (own p : List ℕ) (begins : Held → Fact → Type 0) (fact : Fact) (earlier : List Fact)
    (thing : Held) → Beginning own begins → IsSession thing → Left p fact earlier thing →
    ((x : Held) → held p earlier ≡ Some x → IsSession x → HasBegun (begins x) earlier) →
    HasBegun (begins thing) (fact ∷ earlier)
begun_last own p begins fact earlier thing b s (Before other was) ih = inr (ih thing was s)
begun_last own p begins (Started q n near ni) earlier thing b s (Here is left) ih =
    absurd (let e : Opening n near ni ≡ thing = cc in subst IsSession (sym e) s)
begun_last own p begins (Born j) earlier thing b s (Here is left) ih =
    let e : HalfOpen j ≡ thing = cc in
    subst (λ (x : Held). HasBegun (begins x) (Born j ∷ earlier)) e (inl (b.born j))
begun_last own p begins (Opened j) earlier thing b s (Here is left) ih =
    elim (opened_is j (held p earlier) thing left) [
      | inl e ↦ subst (λ (x : Held). HasBegun (begins x) (Opened j ∷ earlier)) e (inl (b.opened j))
      | inr was ↦ inr (ih thing was s)
    ]
begun_last own p begins (Confirmed q near) earlier thing b s (Here is left) ih =
    elim (confirmed_is (held p earlier) thing left) [
      | inl was ↦ inr (ih thing was s)
      | inr k ↦ inr
          (subst (λ (x : Held). HasBegun (begins x) earlier) k.2
          (b.confirmed k.0 earlier (ih (HalfOpen k.0) k.1 tt)))
    ]
begun_last own p begins (Ended q near why) earlier thing b s (Here is left) ih = absurd cc

held_begun : (own p : List ℕ) (begins : Held → Fact → Type 0) (facts : List Fact) (thing : Held) →
    Beginning own begins → held p facts ≡ Some thing → IsSession thing →
    HasBegun (begins thing) facts
held_begun own p begins [] thing b e s = absurd cc
held_begun own p begins (fact ∷ earlier) thing b e s =
    begun_last own p begins fact earlier thing b s (left_by_last p fact earlier thing e)
    (λ x was k. held_begun own p begins earlier x b was k)

held_is_session : (own : List ℕ) (c : Context) (thing : Held) → HeldSends own c thing →
    IsSession thing
held_is_session own c (Opening n near ni) sends = absurd sends
held_is_session own c (HalfOpen j) sends = tt
held_is_session own c (KeptAsResponder j) sends = tt
held_is_session own c (KeptAsInitiator j) sends = tt

begun_as : (less more : Fact → Type 0) (facts : List Fact) →
    ((fact : Fact) → less fact → more fact) → HasBegun less facts → HasBegun more facts
begun_as less more [] f h = absurd h
begun_as less more (fact ∷ earlier) f (inl h) = inl (f fact h)
begun_as less more (fact ∷ earlier) f (inr h) = inr (begun_as less more earlier f h)

pub held_sends : (own peer : List ℕ) (facts : List Fact) (thing : Held) (c : Context) →
    held peer facts ≡ Some thing → HeldSends own c thing → HasBegun (SendsIn own c) facts
held_sends own peer facts thing c e sends =
    begun_as (λ fact. HeldSends own c thing → SendsIn own c fact) (SendsIn own c) facts
    (λ fact begins. begins sends)
    (held_begun own peer (λ x fact. HeldSends own c x → SendsIn own c fact) facts thing
    (record { born = λ j is. is; opened = λ j is. is; confirmed = λ j fs h. h }) e
    (held_is_session own c thing sends))

pub held_takes : (own peer : List ℕ) (facts : List Fact) (thing : Held) (c : Context) →
    held peer facts ≡ Some thing → HeldSends own c thing → HasBegun (TakesIn own (back c)) facts
held_takes own peer facts thing c e sends =
    begun_as (λ fact. HeldSends own c thing → TakesIn own (back c) fact) (TakesIn own (back c))
    facts (λ fact begins. begins sends)
    (held_begun own peer (λ x fact. HeldSends own c x → TakesIn own (back c) fact) facts thing
    (record {
      born = λ j is. ap back is;
      opened = λ j is. ap back is;
      confirmed = λ j fs h. h;
    }) e (held_is_session own c thing sends))

-- ---- of all ends

some_began : (begins : Fact → Type 0) (P : Type 0) (facts : List Fact) →
    ((fact : Fact) → begins fact → P) → HasBegun begins facts → P
some_began begins P [] f h = absurd h
some_began begins P (fact ∷ earlier) f (inl h) = f fact h
some_began begins P (fact ∷ earlier) f (inr h) = some_began begins P earlier f h

has_some : (begins : Fact → Type 0) (facts : List Fact) → HasBegun begins facts → facts ≡ [] → ⊥
has_some begins [] h e = h
has_some begins (fact ∷ earlier) h e = absurd cc

sends_nowhere : (own : ℕ → List ℕ) (facts : ℕ → List Fact) (who from : ℕ) (fact : Fact)
    (c : Context) → ((other : ℕ) → (facts other ≡ [] → ⊥) → own other ≡ own who → other ≡ who) →
    AreLawful (own who) from (fact ∷ facts who) → AllDifferent (nonces_of (fact ∷ facts who)) →
    (other : ℕ) → SendsIn (own who) c fact → HasBegun (SendsIn (own other) c) (facts other) → ⊥
sends_nowhere own facts who from fact c apart lawful d other e h =
    let print : own other ≡ own who =
    some_began (SendsIn (own other) c) (own other ≡ own who) (facts other)
    (λ f k. names_sender (own other) (own who) c f fact k e) h in
    let one : other ≡ who = apart other (has_some (SendsIn (own other) c) (facts other) h) print in
    (begins_once (own who) from fact (facts who) c lawful d).0 e
    (subst (λ (w : ℕ). HasBegun (SendsIn (own w) c) (facts w)) one h)

takes_nowhere : (own : ℕ → List ℕ) (facts : ℕ → List Fact) (who from : ℕ) (fact : Fact)
    (c : Context) → ((other : ℕ) → (facts other ≡ [] → ⊥) → own other ≡ own who → other ≡ who) →
    AreLawful (own who) from (fact ∷ facts who) → AllDifferent (nonces_of (fact ∷ facts who)) →
    (other : ℕ) → TakesIn (own who) c fact → HasBegun (TakesIn (own other) c) (facts other) → ⊥
takes_nowhere own facts who from fact c apart lawful d other e h =
    let print : own other ≡ own who =
    some_began (TakesIn (own other) c) (own other ≡ own who) (facts other)
    (λ f k. names_taker (own other) (own who) c f fact k e) h in
    let one : other ≡ who = apart other (has_some (TakesIn (own other) c) (facts other) h) print in
    (begins_once (own who) from fact (facts who) c lawful d).1 e
    (subst (λ (w : ℕ). HasBegun (TakesIn (own w) c) (facts w)) one h)

pub context_is_new : (own : ℕ → List ℕ) (facts : ℕ → List Fact) (who from : ℕ) (fact : Fact)
    (c : Context) → ((other : ℕ) → (facts other ≡ [] → ⊥) → own other ≡ own who → other ≡ who) →
    AreLawful (own who) from (fact ∷ facts who) → AllDifferent (nonces_of (fact ∷ facts who)) →
    (other : ℕ) →
    ((SendsIn (own who) c fact → HasBegun (SendsIn (own other) c) (facts other) → ⊥) ×
    (TakesIn (own who) c fact → HasBegun (TakesIn (own other) c) (facts other) → ⊥))
context_is_new own facts who from fact c apart lawful d other = (
  sends_nowhere own facts who from fact c apart lawful d other,
  takes_nowhere own facts who from fact c apart lawful d other,
)
