-- What facts say of nonces: an attempt that is held was begun with its nonce, and wasn't opened before.
use Rattle.std.proofs.Common.{◌≡◌, ℕ, List, [], ◌∷◌, Option, Some, None, inl, inr, refl, sym, subst, ◌∙◌}
use Rattle.glare_core.specs.declared.facts.Fact.{Fact}
use Rattle.glare_core.specs.declared.facts.Fact.TheVariants.{Started, Born, Opened, Confirmed, Ended}
use Rattle.glare_core.specs.declared.facts.Held.{Held}
use Rattle.glare_core.specs.declared.facts.Held.TheVariants.{Opening, HalfOpen, KeptAsResponder, KeptAsInitiator}
use Rattle.glare_core.specs.declared.facts.Joined.{Joined}
use Rattle.glare_core.specs.Standing.{peer_of, opened, confirmed, after, held}
use Rattle.glare_core.specs.Account.{AreLawful}
use Rattle.glare_core.specs.Steps.{Among}
use Rattle.glare_core.specs.Told.{AllDifferent}
use Rattle.glare_core.proofs.Tails.{same_end}
use Rattle.endpoint_laws.specs.Lawful.{nonces_of}

-- the nonces of the attempts that were opened
abbrev pub opened_nonces : List Fact → List (List ℕ)
opened_nonces [] = []
opened_nonces (Started peer n near ni ∷ earlier) = opened_nonces earlier
opened_nonces (Born j ∷ earlier) = opened_nonces earlier
opened_nonces (Opened j ∷ earlier) = j.ni ∷ opened_nonces earlier
opened_nonces (Confirmed peer near ∷ earlier) = opened_nonces earlier
opened_nonces (Ended peer near why ∷ earlier) = opened_nonces earlier

pub nonce_stays : (x : List ℕ) (fact : Fact) (earlier : List Fact) → Among x (nonces_of earlier) → Among x (nonces_of (fact ∷ earlier))
nonce_stays x (Started peer n near ni) earlier a = inr a
nonce_stays x (Born j) earlier a = inr a
nonce_stays x (Opened j) earlier a = a
nonce_stays x (Confirmed peer near) earlier a = a
nonce_stays x (Ended peer near why) earlier a = a

pub opened_stays : (x : List ℕ) (fact : Fact) (earlier : List Fact) → Among x (opened_nonces earlier) → Among x (opened_nonces (fact ∷ earlier))
opened_stays x (Started peer n near ni) earlier a = a
opened_stays x (Born j) earlier a = a
opened_stays x (Opened j) earlier a = inr a
opened_stays x (Confirmed peer near) earlier a = a
opened_stays x (Ended peer near why) earlier a = a

pub different_before : (fact : Fact) (earlier : List Fact) → AllDifferent (nonces_of (fact ∷ earlier)) → AllDifferent (nonces_of earlier)
different_before (Started peer n near ni) earlier d = d.1
different_before (Born j) earlier d = d.1
different_before (Opened j) earlier d = d
different_before (Confirmed peer near) earlier d = d
different_before (Ended peer near why) earlier d = d

-- ---- what is held, by the last fact

-- the last fact is of this peer and left this, or this was left before
pub data Left (p : List ℕ) (fact : Fact) (earlier : List Fact) (thing : Held) : Type 0 where
  Here : (is : peer_of fact ≡ p) → (left : after fact (held p earlier) ≡ Some thing) → Left p fact earlier thing
  Before : (other : peer_of fact ≡ p → ⊥) → (was : held p earlier ≡ Some thing) → Left p fact earlier thing

pub left_by_last : (p : List ℕ) (fact : Fact) (earlier : List Fact) (thing : Held) → held p (fact ∷ earlier) ≡ Some thing → Left p fact earlier thing
left_by_last p fact earlier thing h = elim (same_end (peer_of fact) p) [
  | inl d ↦ Here d.0 (rw d.1 at h)
  | inr d ↦ Before d.0 (rw d.1 at h)
]

-- an attempt is left by its Started, or was held before
pub data AttemptLeft (p : List ℕ) (fact : Fact) (earlier : List Fact) (n near : ℕ) (ni : List ℕ) : Type 0 where
  Begun : (is : fact ≡ Started p n near ni) → AttemptLeft p fact earlier n near ni
  Stayed : (was : held p earlier ≡ Some (Opening n near ni)) → AttemptLeft p fact earlier n near ni

by_opened : (j : Joined) (o : Option Held) (n near : ℕ) (ni : List ℕ) → opened j o ≡ Some (Opening n near ni) → ⊥
by_opened j None n near ni e = cc
by_opened j (Some (Opening m near' ni')) n near ni e = cc
by_opened j (Some (HalfOpen k)) n near ni e = cc
by_opened j (Some (KeptAsResponder k)) n near ni e = cc
by_opened j (Some (KeptAsInitiator k)) n near ni e = cc

by_confirmed : (o : Option Held) (n near : ℕ) (ni : List ℕ) → confirmed o ≡ Some (Opening n near ni) → o ≡ Some (Opening n near ni)
by_confirmed None n near ni e = e
by_confirmed (Some (Opening m near' ni')) n near ni e = e
by_confirmed (Some (HalfOpen k)) n near ni e = absurd (cc)
by_confirmed (Some (KeptAsResponder k)) n near ni e = absurd (cc)
by_confirmed (Some (KeptAsInitiator k)) n near ni e = absurd (cc)

attempt_in : (p : List ℕ) (fact : Fact) (earlier : List Fact) (n near : ℕ) (ni : List ℕ) → Left p fact earlier (Opening n near ni) → AttemptLeft p fact earlier n near ni
attempt_in p (Started q m near' ni') earlier n near ni (Here is left) = Begun (cc)
attempt_in p (Born j) earlier n near ni (Here is left) = absurd (cc)
attempt_in p (Opened j) earlier n near ni (Here is left) = absurd (by_opened j (held p earlier) n near ni left)
attempt_in p (Confirmed q near') earlier n near ni (Here is left) = Stayed (by_confirmed (held p earlier) n near ni left)
attempt_in p (Ended q near' why) earlier n near ni (Here is left) = absurd (cc)
attempt_in p fact earlier n near ni (Before other was) = Stayed was

pub attempt_left : (p : List ℕ) (fact : Fact) (earlier : List Fact) (n near : ℕ) (ni : List ℕ) → held p (fact ∷ earlier) ≡ Some (Opening n near ni) → AttemptLeft p fact earlier n near ni
attempt_left p fact earlier n near ni h = attempt_in p fact earlier n near ni (left_by_last p fact earlier (Opening n near ni) h)

-- ---- attempts and nonces

-- a held attempt has a nonce of the facts
pub attempt_nonce : (p : List ℕ) (facts : List Fact) (n near : ℕ) (ni : List ℕ) → held p facts ≡ Some (Opening n near ni) → Among ni (nonces_of facts)
attempt_nonce p [] n near ni h = absurd (cc)
attempt_nonce p (fact ∷ earlier) n near ni h = elim (attempt_left p fact earlier n near ni h) [
  | Begun is ↦ subst (λ (f : Fact). Among ni (nonces_of (f ∷ earlier))) (sym is) (inl refl)
  | Stayed was ↦ nonce_stays ni fact earlier (attempt_nonce p earlier n near ni was)
]

-- an opened nonce is one of the facts
pub opened_is_nonce : (own : List ℕ) (from : ℕ) (x : List ℕ) (facts : List Fact) → AreLawful own from facts → Among x (opened_nonces facts) → Among x (nonces_of facts)
opened_is_nonce own from x [] lawful a = a
opened_is_nonce own from x (Started peer n near ni ∷ earlier) lawful a = inr (opened_is_nonce own from x earlier lawful.2 a)
opened_is_nonce own from x (Born j ∷ earlier) lawful a = inr (opened_is_nonce own from x earlier lawful.2 a)
opened_is_nonce own from x (Opened j ∷ earlier) lawful (inl e) =
    subst (λ (y : List ℕ). Among y (nonces_of earlier)) (sym e) (attempt_nonce j.peer earlier j.n j.near j.ni lawful.0)
opened_is_nonce own from x (Opened j ∷ earlier) lawful (inr a) = opened_is_nonce own from x earlier lawful.2 a
opened_is_nonce own from x (Confirmed peer near ∷ earlier) lawful a = opened_is_nonce own from x earlier lawful.2 a
opened_is_nonce own from x (Ended peer near why ∷ earlier) lawful a = opened_is_nonce own from x earlier lawful.2 a

started_apart : (p q : List ℕ) (earlier : List Fact) (n near m near' : ℕ) (ni ni' : List ℕ) → AllDifferent (nonces_of (Started p n near ni ∷ earlier)) →
    held q earlier ≡ Some (Opening m near' ni') → ni ≡ ni' → ⊥
started_apart p q earlier n near m near' ni ni' d h e =
    d.0 (subst (λ (y : List ℕ). Among y (nonces_of earlier)) (sym e) (attempt_nonce q earlier m near' ni' h))

begun_apart : (p q : List ℕ) (fact : Fact) (earlier : List Fact) (n near m near' : ℕ) (ni ni' : List ℕ) → fact ≡ Started p n near ni → AllDifferent (nonces_of (fact ∷ earlier)) →
    held q earlier ≡ Some (Opening m near' ni') → ni ≡ ni' → ⊥
begun_apart p q fact earlier n near m near' ni ni' is d h e =
    started_apart p q earlier n near m near' ni ni' (subst (λ (f : Fact). AllDifferent (nonces_of (f ∷ earlier))) is d) h e

-- two held attempts have different nonces, where all nonces are different
pub two_attempts : (p q : List ℕ) (facts : List Fact) (n near m near' : ℕ) (ni ni' : List ℕ) → AllDifferent (nonces_of facts) →
    held p facts ≡ Some (Opening n near ni) → held q facts ≡ Some (Opening m near' ni') → (p ≡ q → ⊥) → ni ≡ ni' → ⊥
two_attempts p q [] n near m near' ni ni' d h k apart e = cc
two_attempts p q (fact ∷ earlier) n near m near' ni ni' d h k apart e = elim (attempt_left p fact earlier n near ni h) [
  | Begun is ↦ elim (attempt_left q fact earlier m near' ni' k) [
    | Begun is' ↦ apart (cc (sym is ∙ is'))
    | Stayed was' ↦ begun_apart p q fact earlier n near m near' ni ni' is d was' e
  ]
  | Stayed was ↦ elim (attempt_left q fact earlier m near' ni' k) [
    | Begun is' ↦ begun_apart q p fact earlier m near' n near ni' ni is' d was (sym e)
    | Stayed was' ↦ two_attempts p q earlier n near m near' ni ni' (different_before fact earlier d) was was' apart e
  ]
]

opened_first : (own : List ℕ) (from : ℕ) (p : List ℕ) (fact : Fact) (earlier : List Fact) (n near : ℕ) (ni : List ℕ) → AreLawful own from (fact ∷ earlier) →
    AllDifferent (nonces_of earlier) → held p earlier ≡ Some (Opening n near ni) → held p (fact ∷ earlier) ≡ Some (Opening n near ni) →
    (Among ni (opened_nonces earlier) → ⊥) → Among ni (opened_nonces (fact ∷ earlier)) → ⊥
opened_first own from p (Started peer m near' ni') earlier n near ni lawful d was h none a = none a
opened_first own from p (Born j) earlier n near ni lawful d was h none a = none a
opened_first own from p (Confirmed peer near') earlier n near ni lawful d was h none a = none a
opened_first own from p (Ended peer near' why) earlier n near ni lawful d was h none a = none a
opened_first own from p (Opened j) earlier n near ni lawful d was h none (inr a) = none a
opened_first own from p (Opened j) earlier n near ni lawful d was h none (inl e) = elim (left_by_last p (Opened j) earlier (Opening n near ni) h) [
  | Here is left ↦ by_opened j (held p earlier) n near ni left
  | Before other was' ↦ two_attempts j.peer p earlier j.n j.near n near j.ni ni d lawful.0 was other (sym e)
]

-- a held attempt wasn't opened, where all nonces are different
pub not_opened : (own : List ℕ) (from : ℕ) (p : List ℕ) (facts : List Fact) (n near : ℕ) (ni : List ℕ) → AreLawful own from facts → AllDifferent (nonces_of facts) →
    held p facts ≡ Some (Opening n near ni) → Among ni (opened_nonces facts) → ⊥
not_opened own from p [] n near ni lawful d h a = a
not_opened own from p (fact ∷ earlier) n near ni lawful d h a = elim (attempt_left p fact earlier n near ni h) [
  | Begun is ↦ begun_not_opened fact is lawful d a
  | Stayed was ↦ opened_first own from p fact earlier n near ni lawful (different_before fact earlier d) was h
      (not_opened own from p earlier n near ni lawful.2 (different_before fact earlier d) was) a
]
  where
    begun_not_opened : (f : Fact) → f ≡ Started p n near ni → AreLawful own from (f ∷ earlier) → AllDifferent (nonces_of (f ∷ earlier)) → Among ni (opened_nonces (f ∷ earlier)) → ⊥
    begun_not_opened (Started q m near' ni') is lawful d a =
        let same : ni ≡ ni' = cc in
        d.0 (subst (λ (y : List ℕ). Among y (nonces_of earlier)) same (opened_is_nonce own from ni earlier lawful.2 a))
    begun_not_opened (Born j) is lawful d a = absurd (cc)
    begun_not_opened (Opened j) is lawful d a = absurd (cc)
    begun_not_opened (Confirmed q near') is lawful d a = absurd (cc)
    begun_not_opened (Ended q near' why) is lawful d a = absurd (cc)
