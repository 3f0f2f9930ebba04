-- The attempts and the ledger name the same things after each step that starts no attempt.
use Rattle.std.proofs.Common.{inl, inr, ℕ, List, ◌≡◌, ◌⊎◌, Bool, true, false, cond, ◌==◌, refl, sym, ap, subst, ◌∙◌, Option, Some, None, is_some}
use Rattle.std.specs.Str.{bytes_eq}
use Rattle.std.specs.Ordering.{nat_cmp, eq_by_cmp}
use Rattle.std.specs.Cmp.{unsigned_tied}
use Rattle.std.proofs.lemmas.Cmp.{nat_cmp_total}
use Rattle.std.proofs.lemmas.Bool.{eq-eqb, eqb-true, cases_Bool}
use Rattle.std.specs.FinMap.{get, insert, remove, get-remove, get-empty, empty}
use Rattle.crypto_profile.specs.declared.group.GroupSecret.{GroupSecret}
use Rattle.rtmfp_forms.specs.Address.{AddressParts}
use Rattle.startup.specs.declared.answer.Answer.{Answer}
use Rattle.startup.specs.declared.answer.Keyed.TheVariants.{Birth as BirthKeyed}
use Rattle.glare_core.specs.declared.facts.Why.{Why}
use Rattle.glare_core.specs.declared.facts.Why.TheVariants.{Glare as ForGlare, Override as ForOverride}
use Rattle.glare_core.specs.declared.facts.Fact.{Fact}
use Rattle.glare_core.specs.declared.facts.Fact.TheVariants.{Born, Ended}
use Rattle.glare_core.specs.declared.facts.Joined.{Joined}
use Rattle.glare_core.specs.declared.facts.Held.{Held}
use Rattle.glare_core.specs.declared.facts.Held.TheVariants.{Opening, HalfOpen, KeptAsResponder, KeptAsInitiator}
use Rattle.glare_core.specs.declared.answers.Keying.{Keying}
use Rattle.glare_core.specs.declared.answers.Heard.{Heard}
use Rattle.glare_core.specs.declared.answers.Heard.TheVariants.{Birth}
use Rattle.glare_core.specs.Standing.{peer_of, after}
use Rattle.glare_core.specs.Ledger.{Ledger, PeerRow, row_in, row_after, held_with, noted}
use Rattle.rtmfp_base.specs.Reasons.{where_true}
use Rattle.glare_core.specs.Calls.{is_born_of, again_of, heard, heard_noted, again_or, way_made, born_fact, opened_fact}
use Rattle.glare_core.proofs.Tails.{same_end}
use Rattle.glare_core.proofs.Maps.{row_inserted}
use Rattle.startup.specs.declared.aim.Aim.{Aim}
use Rattle.startup.specs.declared.aim.Aim.TheVariants.{AtPeer, ByName}
use Rattle.startup.specs.Aims.{peer_of_aim, IsHeldAs}
use Rattle.startup.specs.State.{AttemptState, Attempts, KeptKeyings, StartupState, AreKept, IsSound, is_born_here, peer_of_attempt}
use Rattle.startup.specs.declared.kept.KeptKeying.{KeptKeying}
use Rattle.startup.proofs.Prints.{get_put, get_taken}
use Rattle.startup.specs.Keyings.{again_or_birth, session_answer, kept_keying, born_session, repeated_session, attempt_gone, opening_id, without, after_again_or_birth, opened_with, after_opening}
use Rattle.startup_packets.specs.Readings.{ResponderKeying}

-- ---- the ledger

-- what is held after a fact: with its peer what it leaves, with others what was held
pub held_after : (l : Ledger) (fact : Fact) (q : List ℕ)
    → held_with (noted l fact) q ≡ cond (bytes_eq (peer_of fact) q) (after fact (held_with l (peer_of fact))) (held_with l q)
held_after l fact q =
    ap (λ (r : PeerRow). r.held) (row_inserted l.rows (peer_of fact) (row_after fact (row_in l.rows (peer_of fact))) q)
    ∙ elim (same_end (peer_of fact) q) [ inl d ↦ rw d.1 refl | inr d ↦ rw d.1 refl ]

pub held_after_own : (l : Ledger) (fact : Fact) → held_with (noted l fact) (peer_of fact) ≡ after fact (held_with l (peer_of fact))
held_after_own l fact =
    held_after l fact (peer_of fact) ∙ elim (same_end (peer_of fact) (peer_of fact)) [ inl d ↦ rw d.1 refl | inr d ↦ absurd (d.0 refl) ]

pub held_after_other : (l : Ledger) (fact : Fact) (q : List ℕ) → (peer_of fact ≡ q → ⊥) → held_with (noted l fact) q ≡ held_with l q
held_after_other l fact q ne = held_after l fact q ∙ elim (same_end (peer_of fact) q) [ inl d ↦ absurd (ne d.0) | inr d ↦ rw d.1 refl ]

-- ---- the attempts

same_id : (q k : ℕ) → ((q ≡ k) × (eq_by_cmp nat_cmp q k ≡ true)) ⊎ ((q ≡ k → ⊥) × (eq_by_cmp nat_cmp q k ≡ false))
same_id q k =
    elim (cases_Bool (q == k)) [
      | inl t ↦ inl (eqb-true q k t, unsigned_tied q k ∙ t)
      | inr f ↦ inr ((λ e. let clash : true ≡ false = sym (eq-eqb q k e) ∙ f in cc), unsigned_tied q k ∙ f)
    ]

-- what is there without some attempt was there before, and isn't that attempt
record IsLeft (attempts : Attempts) (gone : Option ℕ) (near : ℕ) (a : AttemptState) : Type 0 where
  was : get attempts near ≡ Some a
  other : gone ≡ Some near → ⊥

left : (attempts : Attempts) (gone : Option ℕ) (near : ℕ) (a : AttemptState) → get (without attempts gone) near ≡ Some a → IsLeft attempts gone near a
left attempts None near a e = record { was = e; other = λ some. cc }
left attempts (Some k) near a e =
    let found = sym (get-remove nat_cmp_total attempts k near) ∙ e in
    elim (same_id near k) [
      | inl d ↦ let clash : None ≡ Some a = ap (λ b. cond b None (get attempts near)) (sym d.1) ∙ found in absurd (cc)
      | inr d ↦
          record {
            was = ap (λ b. cond b None (get attempts near)) (sym d.1) ∙ found;
            other = λ some. d.0 (let is : k ≡ near = cc in sym is);
          }
    ]

stays : (attempts : Attempts) (gone : Option ℕ) (near : ℕ) → (gone ≡ Some near → ⊥) → get (without attempts gone) near ≡ get attempts near
stays attempts None near ne = refl
stays attempts (Some k) near ne =
    get-remove nat_cmp_total attempts k near
    ∙ elim (same_id near k) [ inl d ↦ absurd (ne (ap (λ (n : ℕ). Some n) (sym d.0))) | inr d ↦ rw d.1 refl ]

-- ---- what is kept of the sessions that were born here

module _ (l : Ledger) (m : KeptKeyings) (fact : Fact) where
  -- something is kept of the session with the fact's peer, which was born here
  pub kept_put : (k : KeptKeying) → ((q : List ℕ) → (peer_of fact ≡ q → ⊥) → is_some (get m q) ≡ is_born_here (held_with l q)) →
      is_born_here (held_with (noted l fact) (peer_of fact)) ≡ true → AreKept (noted l fact) (insert m (peer_of fact) k)
  kept_put k others born q = ap is_some (get_put m (peer_of fact) k q) ∙ elim (same_end (peer_of fact) q) [
    | inl d ↦ ap (λ b. is_some (cond b (Some k) (get m q))) d.1 ∙ sym (ap (λ p. is_born_here (held_with (noted l fact) p)) (sym d.0) ∙ born)
    | inr d ↦ ap (λ b. is_some (cond b (Some k) (get m q))) d.1 ∙ others q d.0 ∙ sym (ap is_born_here (held_after_other l fact q d.0))
  ]

  -- what is kept of the session with the fact's peer is forgotten
  pub kept_taken : AreKept l m → is_born_here (held_with (noted l fact) (peer_of fact)) ≡ false → AreKept (noted l fact) (remove m (peer_of fact))
  kept_taken are gone q = ap is_some (get_taken m (peer_of fact) q) ∙ elim (same_end (peer_of fact) q) [
    | inl d ↦ ap (λ b. is_some (cond b None (get m q))) d.1 ∙ sym (ap (λ p. is_born_here (held_with (noted l fact) p)) (sym d.0) ∙ gone)
    | inr d ↦ ap (λ b. is_some (cond b None (get m q))) d.1 ∙ are q ∙ sym (ap is_born_here (held_after_other l fact q d.0))
  ]

  -- the fact makes no session of a thing that was none, and no other thing of one
  pub kept_stays : AreKept l m → is_born_here (held_with (noted l fact) (peer_of fact)) ≡ is_born_here (held_with l (peer_of fact)) → AreKept (noted l fact) m
  kept_stays are same q = elim (same_end (peer_of fact) q) [
    | inl d ↦ are q ∙ ap (λ p. is_born_here (held_with l p)) (sym d.0) ∙ sym same ∙ ap (λ p. is_born_here (held_with (noted l fact) p)) d.0
    | inr d ↦ are q ∙ sym (ap is_born_here (held_after_other l fact q d.0))
  ]

-- ---- a step

record IsAttemptAt (thing : Option Held) (near : ℕ) : Type 0 where
  n : ℕ
  ni : List ℕ
  is : thing ≡ Some (Opening n near ni)

attempt_is : (thing : Option Held) (near : ℕ) → opening_id thing ≡ Some near → IsAttemptAt thing near
attempt_is None near e = absurd (cc)
attempt_is (Some (Opening n k ni)) near e = record { n = n; ni = ni; is = let same : k ≡ near = cc in ap (λ (i : ℕ). Some (Opening n i ni)) same }
attempt_is (Some (HalfOpen j)) near e = absurd (cc)
attempt_is (Some (KeptAsResponder j)) near e = absurd (cc)
attempt_is (Some (KeptAsInitiator j)) near e = absurd (cc)

-- what a fact leaves where its peer's attempt, if one was held, isn't kept, with these kept keyings
abbrev pub stepped : StartupState → Fact → KeptKeyings → StartupState
stepped s fact kept = record s { ledger = noted s.ledger fact; attempts = without s.attempts (opening_id (held_with s.ledger (peer_of fact))); kept = kept }

-- what is held as it aims at still is after a fact of a peer whose attempt, if any, is another one
still_held : (l : Ledger) (fact : Fact) (near : ℕ) (ni : List ℕ) (aim : Aim) → (opening_id (held_with l (peer_of fact)) ≡ Some near → ⊥) → IsHeldAs l near ni aim → IsHeldAs (noted l fact) near ni aim
still_held l fact near ni (AtPeer peer n) other is =
    held_after_other l fact peer (λ same. other (ap (λ q. opening_id (held_with l q)) same ∙ ap opening_id is)) ∙ is
still_held l fact near ni (ByName name) other is = tt

-- Where a fact leaves no attempt with its peer, and that attempt isn't kept, all is sound.
pub sound_after : (s : StartupState) (fact : Fact) (kept : KeptKeyings) → IsSound s → opening_id (held_with (noted s.ledger fact) (peer_of fact)) ≡ None → AreKept (noted s.ledger fact) kept →
    IsSound (stepped s fact kept)
sound_after s fact kept sound none are =
    let p = peer_of fact in
    let gone = opening_id (held_with s.ledger p) in
    record {
      own = sound.own;
      held = λ near a e.
          let there = left s.attempts gone near a e in
          still_held s.ledger fact near a.ni a.aim there.other (sound.held near a there.was);
      stages = λ near a e. sound.stages near a (left s.attempts gone near a e).was;
      there = λ peer n near ni e.
          elim (same_end p peer) [
            | inl d ↦
                let clash : None ≡ Some near = sym none ∙ ap (λ q. opening_id (held_with (noted s.ledger fact) q)) d.0 ∙ ap opening_id e in
                absurd (cc)
            | inr d ↦
                let old = sound.there peer n near ni (sym (held_after_other s.ledger fact peer d.0) ∙ e) in
                ap peer_of_attempt
                (stays s.attempts gone near (λ some.
                let at = attempt_is (held_with s.ledger p) near some in
                let same : Some p ≡ Some peer = sym (sound.there p at.n near at.ni at.is) ∙ old in
                d.0 (cc)))
                ∙ old
          ];
      kept = are;
    }

-- ---- a birth

-- a held attempt, or a session, is ended first
ended_is_sound : (s : StartupState) (fact : Fact) → IsSound s → after fact (held_with s.ledger (peer_of fact)) ≡ None → IsSound (stepped s fact (remove s.kept (peer_of fact)))
ended_is_sound s fact sound ends = sound_after s fact (remove s.kept (peer_of fact)) sound (ap opening_id (held_after_own s.ledger fact ∙ ends))
    (kept_taken s.ledger s.kept fact sound.kept (ap is_born_here (held_after_own s.ledger fact ∙ ends)))

-- the session is born where nothing is held
born_is_sound : (s : StartupState) (j : Joined) (kept : KeptKeyings) (k : KeptKeying) → IsSound s → ((q : List ℕ) → (j.peer ≡ q → ⊥) → is_some (get kept q) ≡ is_born_here (held_with s.ledger q)) →
    IsSound (stepped s (Born j) (insert kept j.peer k))
born_is_sound s j kept k sound others = sound_after s (Born j) (insert kept j.peer k) sound (ap opening_id (held_after_own s.ledger (Born j)))
    (kept_put s.ledger kept (Born j) k others (ap is_born_here (held_after_own s.ledger (Born j))))

-- what a birth leaves, by what was held
abbrev birth_of : StartupState → Keying → ℕ → List ℕ → KeptKeying → Option Held → StartupState
birth_of s keying near nr k thing =
    record s {
      ledger = heard_noted s.ledger (Birth (way_made keying.peer thing) (born_fact s.ledger keying near nr));
      attempts = without s.attempts (opening_id thing);
      kept = insert s.kept keying.peer k;
    }

-- ended first, and then born
two_steps : (s : StartupState) (keying : Keying) (near : ℕ) (nr : List ℕ) (k : KeptKeying) (id : ℕ) (why : Why) (thing : Option Held) → IsSound s → held_with s.ledger keying.peer ≡ thing
    → IsSound (record s { ledger = noted (noted s.ledger (Ended keying.peer id why)) (born_fact s.ledger keying near nr); attempts = without s.attempts (opening_id thing); kept = insert s.kept keying.peer k })
two_steps s keying near nr k id why thing sound is =
    let ended : Fact = Ended keying.peer id why in
    let j : Joined = record { peer = keying.peer; n = keying.n; near = near; far = keying.far; ni = keying.ni; nr = nr; k = s.ledger.started } in
    let first : StartupState = stepped s ended (remove s.kept keying.peer) in
    let second : IsSound (stepped first (Born j) (insert s.kept keying.peer k)) =
    born_is_sound first j s.kept k (ended_is_sound s ended sound refl) (λ q ne. sound.kept q ∙ sym (ap is_born_here (held_after_other s.ledger ended q ne))) in
    let none : opening_id (held_with (noted s.ledger ended) keying.peer) ≡ None = ap opening_id (held_after_own s.ledger ended) in
    let left_are : without (without s.attempts (opening_id (held_with s.ledger keying.peer))) (opening_id (held_with (noted s.ledger ended) keying.peer)) ≡ without s.attempts (opening_id thing) =
    ap (without (without s.attempts (opening_id (held_with s.ledger keying.peer)))) none ∙ ap (λ t. without s.attempts (opening_id t)) is in
    subst (λ (a : Attempts). IsSound (record s { ledger = noted (noted s.ledger ended) (Born j); attempts = a; kept = insert s.kept keying.peer k })) left_are second

birth_by : (s : StartupState) (keying : Keying) (near : ℕ) (nr : List ℕ) (k : KeptKeying) (thing : Option Held) → IsSound s → held_with s.ledger keying.peer ≡ thing → IsSound (birth_of s keying near nr k thing)
birth_by s keying near nr k None sound is =
    let j : Joined = record { peer = keying.peer; n = keying.n; near = near; far = keying.far; ni = keying.ni; nr = nr; k = s.ledger.started } in
    subst (λ t. IsSound (record s { ledger = noted s.ledger (Born j); attempts = without s.attempts (opening_id t); kept = insert s.kept keying.peer k })) is (born_is_sound s j s.kept k sound (λ q ne. sound.kept q))
birth_by s keying near nr k (Some (Opening n id ni)) sound is = two_steps s keying near nr k id ForGlare (Some (Opening n id ni)) sound is
birth_by s keying near nr k (Some (HalfOpen j)) sound is = two_steps s keying near nr k j.near ForOverride (Some (HalfOpen j)) sound is
birth_by s keying near nr k (Some (KeptAsResponder j)) sound is = two_steps s keying near nr k j.near ForOverride (Some (KeptAsResponder j)) sound is
birth_by s keying near nr k (Some (KeptAsInitiator j)) sound is = two_steps s keying near nr k j.near ForOverride (Some (KeptAsInitiator j)) sound is

pub birth_is_sound : (s : StartupState) (keying : Keying) (near : ℕ) (nr : List ℕ) (k : KeptKeying) → IsSound s → IsSound (birth_of s keying near nr k (held_with s.ledger keying.peer))
birth_is_sound s keying near nr k sound = birth_by s keying near nr k (held_with s.ledger keying.peer) sound refl

-- what a keying gives that isn't of a held session is a birth
pub birth_heard : (l : Ledger) (keying : Keying) (near : ℕ) (nr : List ℕ) → again_of (held_with l keying.peer) keying ≡ None
    → heard l keying near nr ≡ Birth (way_made keying.peer (held_with l keying.peer)) (born_fact l keying near nr)
birth_heard l keying near nr none =
    ap (λ o. again_or o (Birth (way_made keying.peer (held_with l keying.peer)) (born_fact l keying near nr))) none

-- no session is held again where none is born again
none_again : (b : Bool) (near : ℕ) (j : Joined) → where_true b j ≡ None → where_true b near ≡ None
none_again true near j e = absurd (cc)
none_again false near j e = refl

pub not_repeated : (thing : Option Held) (keying : Keying) → repeated_session thing keying ≡ None → again_of thing keying ≡ None
not_repeated None keying e = refl
not_repeated (Some (Opening n near ni)) keying e = refl
not_repeated (Some (HalfOpen j)) keying e = none_again (is_born_of j keying) j.near j e
not_repeated (Some (KeptAsResponder j)) keying e = none_again (is_born_of j keying) j.near j e
not_repeated (Some (KeptAsInitiator j)) keying e = refl

-- ---- what an initiator's keying leaves

keyed_by_is_sound : (s : StartupState) (keying : Keying) (near : ℕ) (nr : List ℕ) (g : GroupSecret) (again : Option Joined) → repeated_session (held_with s.ledger keying.peer) keying ≡ again
    → IsSound s → IsSound (after_again_or_birth s keying near nr g again)
keyed_by_is_sound s keying near nr g (Some j) is sound = sound
keyed_by_is_sound s keying near nr g None is sound =
    let k : KeptKeying = kept_keying s (born_session s.ledger keying near nr) g in
    subst (λ (h : Heard). IsSound (record s { ledger = heard_noted s.ledger h; attempts = without s.attempts (opening_id (held_with s.ledger keying.peer)); kept = insert s.kept keying.peer k }))
    (sym (birth_heard s.ledger keying near nr (not_repeated (held_with s.ledger keying.peer) keying is))) (birth_is_sound s keying near nr k sound)

-- ---- what a responder's keying leaves

-- They do after the opening of an attempt.
pub after_opening_is_sound : (s : StartupState) (near : ℕ) (peer : List ℕ) (n : ℕ) (ni : List ℕ) (keying : ResponderKeying) → IsSound s → held_with s.ledger peer ≡ Some (Opening n near ni)
    → IsSound (after_opening s near (opened_with near keying peer n ni))
after_opening_is_sound s near peer n ni keying sound held_is =
    let fact : Fact = opened_with near keying peer n ni in
    let none : opening_id (held_with (noted s.ledger fact) peer) ≡ None = ap opening_id (held_after_own s.ledger fact ∙ ap (after fact) held_is) in
    let same : is_born_here (held_with (noted s.ledger fact) peer) ≡ is_born_here (held_with s.ledger peer) =
    ap is_born_here (held_after_own s.ledger fact ∙ ap (after fact) held_is) ∙ sym (ap is_born_here held_is) in
    subst (λ (t : Option ℕ). IsSound (record s { ledger = noted s.ledger fact; attempts = without s.attempts t })) (ap opening_id held_is)
    (sound_after s fact s.kept sound none (kept_stays s.ledger s.kept fact sound.kept same))

-- ---- a birth in the code

-- the ledger heard a keying of which no session is held, and the attempt left
pub born_is_kept_sound : (s : StartupState) (keying : Keying) (near : ℕ) (nr : List ℕ) (g : GroupSecret) (answer : Heard) (ledger : Ledger) (attempts : Attempts) (kept : KeptKeyings) → IsSound s
    → repeated_session (held_with s.ledger keying.peer) keying ≡ None → answer ≡ heard s.ledger keying near nr → ledger ≡ heard_noted s.ledger answer
    → attempts ≡ without s.attempts (opening_id (held_with s.ledger keying.peer))
    → kept ≡ insert s.kept keying.peer (kept_keying s (born_session s.ledger keying near nr) g)
    → IsSound (record s { ledger = ledger; attempts = attempts; kept = kept })
born_is_kept_sound s keying near nr g answer ledger attempts kept sound fresh is noted_is left_is kept_is =
    let ledgers : ledger ≡ heard_noted s.ledger (heard s.ledger keying near nr) = noted_is ∙ ap (heard_noted s.ledger) is in
    let states : record s { ledger = ledger; attempts = attempts; kept = kept } ≡ after_again_or_birth s keying near nr g None = λ i. record s { ledger = ledgers i; attempts = left_is i; kept = kept_is i } in
    subst IsSound (sym states) (keyed_by_is_sound s keying near nr g None fresh sound)

-- and what it gave is the birth
pub born_is_birth : (s : StartupState) (keying : Keying) (from : AddressParts) (near : ℕ) (nr : List ℕ) (g : GroupSecret) (ended : Option Fact) (born : Fact) (answer : Answer)
    → repeated_session (held_with s.ledger keying.peer) keying ≡ None → Birth ended born ≡ heard s.ledger keying near nr
    → answer ≡ session_answer s (born_session s.ledger keying near nr) from g
    → Some (BirthKeyed ended born answer) ≡ again_or_birth s keying from near nr g None
born_is_birth s keying from near nr g ended born answer fresh is told =
    let same : Birth ended born ≡ Birth (way_made keying.peer (held_with s.ledger keying.peer)) (born_fact s.ledger keying near nr) =
    is ∙ birth_heard s.ledger keying near nr (not_repeated (held_with s.ledger keying.peer) keying fresh) in
    let ends : ended ≡ way_made keying.peer (held_with s.ledger keying.peer) = cc in
    let borns : born ≡ born_fact s.ledger keying near nr = cc in
    λ i. Some (BirthKeyed (ends i) (borns i) (told i))

-- ---- an opening in the code

-- the attempt under a near id is one towards a peer, with which it is held
pub record IsTowards (s : StartupState) (near : ℕ) (peer : List ℕ) : Type 0 where
  pub attempt : AttemptState
  pub n : ℕ
  pub there : get s.attempts near ≡ Some attempt
  pub aims : attempt.aim ≡ AtPeer peer n
  pub is_held : held_with s.ledger peer ≡ Some (Opening n near attempt.ni)

pub attempt_there : (s : StartupState) (near : ℕ) (peer : List ℕ) → IsSound s → peer_of_attempt (get s.attempts near) ≡ Some peer → IsTowards s near peer
attempt_there s near peer sound there = go (get s.attempts near) refl there
  where
    by_aim : (a : AttemptState) → get s.attempts near ≡ Some a → (aim : Aim) → a.aim ≡ aim → peer_of_aim aim ≡ Some peer → IsTowards s near peer
    by_aim a at (AtPeer p n) aims e =
        let same : p ≡ peer = cc in
        let held_is : held_with s.ledger p ≡ Some (Opening n near a.ni) = subst (λ (aim : Aim). IsHeldAs s.ledger near a.ni aim) aims (sound.held near a at) in
        record {
          attempt = a;
          n = n;
          there = at;
          aims = aims ∙ ap (λ (q : List ℕ). AtPeer q n) same;
          is_held = ap (held_with s.ledger) (sym same) ∙ held_is;
        }
    by_aim a at (ByName name) aims e = absurd (cc)

    go : (o : Option AttemptState) → get s.attempts near ≡ o → peer_of_attempt o ≡ Some peer → IsTowards s near peer
    go None at e = absurd (cc)
    go (Some a) at e = by_aim a at a.aim refl e

-- its session is opened
pub answered_is_opened : (s : StartupState) (near : ℕ) (peer : List ℕ) (keying : ResponderKeying) (to : IsTowards s near peer)
    → opened_fact (held_with s.ledger peer) peer keying.part.nr keying.near keying.part.k ≡ Some (opened_with near keying peer to.n to.attempt.ni)
answered_is_opened s near peer keying to =
    ap (λ thing. opened_fact thing peer keying.part.nr keying.near keying.part.k) to.is_held

-- the attempt's opening was noted, and the attempt left
pub opened_is_kept_sound : (s : StartupState) (near : ℕ) (peer : List ℕ) (keying : ResponderKeying) (fact : Fact) (ledger : Ledger) (attempts : Attempts) → IsSound s
    → peer_of_attempt (get s.attempts near) ≡ Some peer → Some fact ≡ opened_fact (held_with s.ledger peer) peer keying.part.nr keying.near keying.part.k
    → ledger ≡ noted s.ledger fact → attempts ≡ remove s.attempts near → IsSound (record s { ledger = ledger; attempts = attempts })
opened_is_kept_sound s near peer keying fact ledger attempts sound there told noted_is left_is =
    let at : IsTowards s near peer = attempt_there s near peer sound there in
    let opens : Fact = opened_with near keying peer at.n at.attempt.ni in
    let both : Some fact ≡ Some opens = told ∙ answered_is_opened s near peer keying at in
    let fact_is : fact ≡ opens = cc in
    let ledgers : ledger ≡ noted s.ledger opens = noted_is ∙ ap (noted s.ledger) fact_is in
    let states : record s { ledger = ledger; attempts = attempts } ≡ after_opening s near opens = λ i. record s { ledger = ledgers i; attempts = left_is i } in
    subst IsSound (sym states) (after_opening_is_sound s near peer at.n at.attempt.ni keying sound at.is_held)

-- where there are no attempts none is found
pub none_without_attempts : (s : StartupState) (near : ℕ) → s.attempts ≡ empty → get s.attempts near ≡ None
none_without_attempts s near none = ap (λ (attempts : Attempts). get attempts near) none ∙ get-empty nat_cmp near

-- the attempt that makes way is the one that was held
way_of : (peer : List ℕ) (thing : Option Held) → attempt_gone (way_made peer thing) ≡ opening_id thing
way_of peer None = refl
way_of peer (Some (Opening n near ni)) = refl
way_of peer (Some (HalfOpen j)) = refl
way_of peer (Some (KeptAsResponder j)) = refl
way_of peer (Some (KeptAsInitiator j)) = refl

pub gone_is_opening : (s : StartupState) (keying : Keying) (near : ℕ) (nr : List ℕ) (ended : Option Fact) (born : Fact)
    → repeated_session (held_with s.ledger keying.peer) keying ≡ None → Birth ended born ≡ heard s.ledger keying near nr
    → attempt_gone ended ≡ opening_id (held_with s.ledger keying.peer)
gone_is_opening s keying near nr ended born fresh is =
    let same : Birth ended born ≡ Birth (way_made keying.peer (held_with s.ledger keying.peer)) (born_fact s.ledger keying near nr) =
    is ∙ birth_heard s.ledger keying near nr (not_repeated (held_with s.ledger keying.peer) keying fresh) in
    let ends : ended ≡ way_made keying.peer (held_with s.ledger keying.peer) = cc in
    ap attempt_gone ends ∙ way_of keying.peer (held_with s.ledger keying.peer)

-- a repeated session was born here
pub repeated_is_born : (thing : Option Held) (keying : Keying) (j : Joined) → repeated_session thing keying ≡ Some j → is_born_here thing ≡ true
repeated_is_born None keying j e = absurd (cc)
repeated_is_born (Some (Opening n near ni)) keying j e = absurd (cc)
repeated_is_born (Some (HalfOpen i)) keying j e = refl
repeated_is_born (Some (KeptAsResponder i)) keying j e = refl
repeated_is_born (Some (KeptAsInitiator i)) keying j e = absurd (cc)
