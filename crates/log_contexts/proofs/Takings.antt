-- In which contexts an end takes datagrams, by what is kept.
use Rattle.std.proofs.Common.{ℕ, List, [], ◌∷◌, ◌≡◌, ◌≢◌, ◌⊎◌, inl, inr, refl, sym, ap, subst, Bool, true, false, if◌then◌else◌, Option, Some, None, is_some, ◌∙◌}
use Rattle.std.specs.FinMap.{get}
use Rattle.crypto_profile.specs.declared.keys.Context.{Context}
use Rattle.crypto_profile.specs.declared.keys.Context.TheVariants.{Startup as InStartup}
use Rattle.packet_scramble.specs.Datagram.{sid_of}
use Rattle.glare_core.specs.declared.facts.Held.{Held}
use Rattle.glare_core.specs.declared.facts.Held.TheVariants.{Opening, HalfOpen, KeptAsResponder, KeptAsInitiator}
use Rattle.glare_core.specs.Standing.{held}
use Rattle.glare_core.specs.Things.{IsSession, near_of}
use Rattle.endpoint_model.specs.Event.{Setup}
use Rattle.endpoint_model.proofs.Members.{tested}
use Rattle.endpoint_laws.specs.Past.{Past, facts_of, is_in_use}
use Rattle.endpoint_laws.specs.Contexts.{Secrets, AttemptUnder, BegunUnder, HeldUnder, IsAttemptIn, OpensFirst, OpensUnder, SearchUnder, StandsUnder, inward, next_contexts, startup_contexts}
use Rattle.endpoint_laws.proofs.Unique.{attempt_one}
use Rattle.log_digest.specs.declared.spot.Spot.{Spot}
use Rattle.log_digest.specs.declared.spot.Spot.TheVariants.{Searching, Holding, Closing}
use Rattle.log_digest.specs.Generations.{Known, AreGenerationsOf}
use Rattle.log_digest.specs.Kept.{Digested}
use Rattle.log_digest.specs.Digest.{IsDigestOf}
use Rattle.log_contexts.specs.declared.taking.Taking.{Taking}
use Rattle.log_contexts.specs.declared.taking.Taking.TheVariants.{Nothing, Startup, Attempt, Session}
use Rattle.log_contexts.specs.Kept.{KeptContexts, generation_in, keying_at}
use Rattle.log_contexts.specs.Contexts.{AreContextsOf, OpensInNone}
use Rattle.log_contexts.specs.Taking.{IsTakingOf, attempt_in, closing_in, contexts_in, held_in, session_in, spot_in, taking_at}
use Rattle.log_contexts.specs.Laws.{TakingTells}
use Rattle.log_contexts.proofs.Standing.{one_stands, stands_in_use, held_spot, closing_spot, begun_one}

never_used : true ≡ false → ⊥
never_used e = absurd cc

none_some : (g : ℕ) → None ≡ Some g → ⊥
none_some g e = absurd cc

session_thing : (a b : Held) (g h : ℕ) → Session a g ≡ Session b h → a ≡ b
session_thing a b g h e = cc

session_generation : (a b : Held) (g h : ℕ) → Session a g ≡ Session b h → g ≡ h
session_generation a b g h e = cc

attempt_no_session : (g h : ℕ) (thing : Held) → Attempt g ≡ Session thing h → ⊥
attempt_no_session g h thing e = absurd cc

module _ (secrets : Secrets) (setup : Setup) (last : ℕ) (past : Past) (k : Known) (d : Digested) (c : KeptContexts) (is : IsDigestOf last past d) (knows : AreGenerationsOf setup past k) (are : AreContextsOf secrets setup past c) (sid : ℕ) where
  -- an attempt or a search stands there
  abbrev Begins : Type 0
  Begins = SearchUnder past sid ⊎ AttemptUnder past sid

  -- nothing stands there
  nothing_taken : sid ≢ 0 → (Begins → ⊥) → ((thing : Held) → StandsUnder past sid thing → IsSession thing → ⊥) → IsTakingOf secrets setup past sid Nothing
  nothing_taken some no_begin no_session = record {
    startup = λ contexts s. elim s [ inl zero ↦ absurd (some zero.0) | inr under ↦ absurd (no_begin under.1) ];
    outside = λ never. absurd never;
    session = λ thing generation stands is_session begun. absurd (no_session thing stands is_session);
    inside = λ thing generation e. absurd cc;
  }

  -- an attempt or a search stands there, which takes datagrams in this generation
  attempt_taken : (generation : ℕ) → IsAttemptIn secrets setup sid generation past → sid ≢ 0 → Begins → ((thing : Held) → StandsUnder past sid thing → IsSession thing → ⊥) → IsTakingOf secrets setup past sid (Attempt generation)
  attempt_taken generation within some begins no_session = record {
    startup = λ contexts s. elim s [
      | inl zero ↦ absurd (some zero.0)
      | inr under ↦ (tt, under.2.2 ∙ ap (λ (g : ℕ). InStartup g ∷ []) (attempt_one secrets setup sid under.2.0 generation past under.2.1 within))
    ];
    outside = λ outside. inr (some, begins, (generation, within, refl));
    session = λ thing g stands is_session begun. absurd (no_session thing stands is_session);
    inside = λ thing g e. absurd (attempt_no_session generation g thing e);
  }

  by_keying : (o : Option ℕ) → keying_at sid c.threads ≡ o → sid ≢ 0 → Begins → ((thing : Held) → StandsUnder past sid thing → IsSession thing → ⊥) → IsTakingOf secrets setup past sid (attempt_in k o)
  by_keying None e some begins no_session = attempt_taken k.current (inr ((λ g went. none_some g (sym e ∙ are.went sid g went)), knows.current_is)) some begins no_session
  by_keying (Some generation) e some begins no_session = attempt_taken generation (inl (are.keying sid generation e)) some begins no_session

  -- a session stands there
  session_taken : (thing : Held) → StandsUnder past sid thing → IsSession thing → sid ≢ 0 → (Begins → ⊥) → IsTakingOf secrets setup past sid (session_in thing (generation_in (get c.sessions sid)))
  session_taken thing stands is_session some no_begin =
      let kept = are.session sid thing stands is_session in
      let began : generation_in (get c.sessions sid) ≡ Some kept.generation = ap generation_in kept.kept_is in
      subst (λ (o : Option ℕ). IsTakingOf secrets setup past sid (session_in thing o)) (sym began) (record {
        startup = λ contexts s. elim s [ inl zero ↦ absurd (some zero.0) | inr under ↦ absurd (no_begin under.1) ];
        outside = λ never. absurd never;
        session = λ other generation there other_is begun.
            let it : thing ≡ other = one_stands last past d is sid thing other stands there in
            let same : kept.generation ≡ generation = begun_one secrets setup other kept.generation generation past (subst (λ (t : Held). BegunUnder secrets setup t kept.generation past) it kept.begun) begun in
            (λ i. Session (it i) (same i));
        inside = λ other generation e.
            let it : thing ≡ other = session_thing thing other kept.generation generation e in
            let same : kept.generation ≡ generation = session_generation thing other kept.generation generation e in
            (subst (λ (t : Held). StandsUnder past sid t) it stands, subst IsSession it is_session, subst (λ (g : ℕ). BegunUnder secrets setup other g past) same (subst (λ (t : Held). BegunUnder secrets setup t kept.generation past) it kept.begun));
      })

  -- ---- what the spot says

  attempt_held : (a : AttemptUnder past sid) → (n : ℕ) × (ni : List ℕ) × HeldUnder (facts_of past) sid (Opening n sid ni)
  attempt_held a = (a.n, a.ni, record { peer = a.peer; is_held = a.is_held; id = refl })

  begins_spot : Begins → (get d.spots sid ≡ None → ⊥)
  begins_spot (inl s) none = absurd (let clash = sym none ∙ (is.spots_are.spot sid).search_there s.which s.at s.stands in cc)
  begins_spot (inr a) none = let h = attempt_held a in let s = held_spot last past d is sid (Opening h.0 sid h.1) h.2 in absurd (let clash = sym none ∙ s.1 in cc)

  -- no session beside what stands there
  no_session_beside : (thing : Held) → StandsUnder past sid thing → (IsSession thing → ⊥) → (other : Held) → StandsUnder past sid other → IsSession other → ⊥
  no_session_beside thing stands no_session other there is_session = no_session (subst IsSession (sym (one_stands last past d is sid thing other stands there)) is_session)

  -- neither an attempt nor a search beside a session
  no_begin_beside : (thing : Held) → StandsUnder past sid thing → IsSession thing → Begins → ⊥
  no_begin_beside thing (inl h) is_session (inl s) =
      let at = held_spot last past d is sid thing h in absurd (let clash = sym at.1 ∙ (is.spots_are.spot sid).search_there s.which s.at s.stands in cc)
  no_begin_beside thing (inr e) is_session (inl s) = absurd (let clash = sym (closing_spot last past d is sid thing e) ∙ (is.spots_are.spot sid).search_there s.which s.at s.stands in cc)
  no_begin_beside thing stands is_session (inr a) =
      let h = attempt_held a in
      subst IsSession (one_stands last past d is sid thing (Opening h.0 sid h.1) stands (inl h.2)) is_session

  -- no attempt nor search where something is closing
  no_begin_closing : (thing : Held) (at : ℕ) → get d.spots sid ≡ Some (Closing thing at) → Begins → ⊥
  no_begin_closing thing at e (inl s) = absurd (let clash = sym e ∙ (is.spots_are.spot sid).search_there s.which s.at s.stands in cc)
  no_begin_closing thing at e (inr a) = let h = attempt_held a in let s = held_spot last past d is sid (Opening h.0 sid h.1) h.2 in absurd (let clash = sym e ∙ s.1 in cc)

  -- what is held
  by_held : (peer : List ℕ) (h : Held) → held peer (facts_of past) ≡ Some h → near_of h ≡ sid → sid ≢ 0 → IsTakingOf secrets setup past sid (held_in k (keying_at sid c.threads) (generation_in (get c.sessions sid)) (Some h))
  by_held peer (Opening n near ni) there id some =
      let under : AttemptUnder past sid = record { peer = peer; n = n; ni = ni; is_held = there ∙ ap (λ (q : ℕ). Some (Opening n q ni)) id } in
      let stands : StandsUnder past sid (Opening n near ni) = inl (record { peer = peer; is_held = there; id = id }) in
      by_keying (keying_at sid c.threads) refl some (inr under) (no_session_beside (Opening n near ni) stands (λ never. never))
  by_held peer (HalfOpen j) there id some = let stands : StandsUnder past sid (HalfOpen j) = inl (record { peer = peer; is_held = there; id = id }) in session_taken (HalfOpen j) stands tt some (no_begin_beside (HalfOpen j) stands tt)
  by_held peer (KeptAsResponder j) there id some =
      let stands : StandsUnder past sid (KeptAsResponder j) = inl (record { peer = peer; is_held = there; id = id }) in session_taken (KeptAsResponder j) stands tt some (no_begin_beside (KeptAsResponder j) stands tt)
  by_held peer (KeptAsInitiator j) there id some =
      let stands : StandsUnder past sid (KeptAsInitiator j) = inl (record { peer = peer; is_held = there; id = id }) in session_taken (KeptAsInitiator j) stands tt some (no_begin_beside (KeptAsInitiator j) stands tt)

  -- what is closing
  by_closing : (thing : Held) (at : ℕ) → get d.spots sid ≡ Some (Closing thing at) → StandsUnder past sid thing → sid ≢ 0 → IsTakingOf secrets setup past sid (closing_in thing (generation_in (get c.sessions sid)))
  by_closing (Opening n near ni) at e stands some = nothing_taken some (no_begin_closing (Opening n near ni) at e) (no_session_beside (Opening n near ni) stands (λ never. never))
  by_closing (HalfOpen j) at e stands some = session_taken (HalfOpen j) stands tt some (no_begin_beside (HalfOpen j) stands tt)
  by_closing (KeptAsResponder j) at e stands some = session_taken (KeptAsResponder j) stands tt some (no_begin_beside (KeptAsResponder j) stands tt)
  by_closing (KeptAsInitiator j) at e stands some = session_taken (KeptAsInitiator j) stands tt some (no_begin_beside (KeptAsInitiator j) stands tt)

  by_spot : (spot : Option Spot) → get d.spots sid ≡ spot → sid ≢ 0 → IsTakingOf secrets setup past sid (spot_in k (keying_at sid c.threads) (generation_in (get c.sessions sid)) d.roll spot)
  by_spot None e some =
      nothing_taken some (λ begins. begins_spot begins e)
      (λ thing stands is_session. never_used (sym (stands_in_use last past d is sid thing stands) ∙ (is.spots_are.spot sid).used ∙ ap is_some e))
  by_spot (Some (Searching name tag ni at)) e some =
      let stands = (is.spots_are.spot sid).search_is (record { name = name; tag = tag; ni = ni }) at e in
      let under : SearchUnder past sid = record { which = record { name = name; tag = tag; ni = ni }; at = at; stands = stands } in
      by_keying (keying_at sid c.threads) refl some (inl under) (λ thing there is_session. no_begin_beside thing there is_session (inl under))
  by_spot (Some (Holding peer at)) e some =
      let h = (is.spots_are.spot sid).held_is peer at e in
      subst (λ (o : Option Held). IsTakingOf secrets setup past sid (held_in k (keying_at sid c.threads) (generation_in (get c.sessions sid)) o)) (sym (is.roll_is.held_is peer ∙ h.is_held)) (by_held peer h.thing h.is_held h.id some)
  by_spot (Some (Closing thing at)) e some = by_closing thing at e (inr (at, (is.spots_are.spot sid).closing_is thing at e)) some

  pub taking_is : is_in_use 0 past ≡ false → IsTakingOf secrets setup past sid (taking_at sid k d c)
  taking_is free = elim (tested sid 0) [
    | inl zero ↦ subst (λ (b : Bool). IsTakingOf secrets setup past sid (if b then Startup k.current k.next else spot_in k (keying_at sid c.threads) (generation_in (get c.sessions sid)) d.roll (get d.spots sid))) (sym zero.1) (record {
      startup = λ contexts s. elim s [ inl here ↦ (tt, here.1 ∙ sym contexts_are) | inr under ↦ absurd (under.0 zero.0) ];
      outside = λ outside. inl (zero.0, contexts_are);
      session = λ thing generation stands is_session begun. absurd (never_used (sym (stands_in_use last past d is sid thing stands) ∙ ap (λ (n : ℕ). is_in_use n past) zero.0 ∙ free));
      inside = λ thing generation e. absurd cc;
    })
    | inr some ↦ subst (λ (b : Bool). IsTakingOf secrets setup past sid (if b then Startup k.current k.next else spot_in k (keying_at sid c.threads) (generation_in (get c.sessions sid)) d.roll (get d.spots sid))) (sym some.1) (by_spot (get d.spots sid) refl some.0)
  ]
    where
      contexts_are : InStartup k.current ∷ next_contexts k.next ≡ startup_contexts setup past
      contexts_are = (λ i. InStartup (knows.current_is i) ∷ next_contexts (knows.next_is i))

-- ---- what it tells of a datagram

tells_none : (secrets : Secrets) (setup : Setup) (past : Past) (taking : Taking) (datagram : List ℕ) → IsTakingOf secrets setup past (sid_of datagram) taking →
    ((thing : Held) (generation : ℕ) (plain : List ℕ) → taking ≡ Session thing generation → OpensUnder secrets (inward setup generation thing) (sid_of datagram) datagram plain → ⊥) → OpensInNone secrets setup past (Some datagram)
tells_none secrets setup past taking datagram is never near thing opens =
    let at : near ≡ sid_of datagram = sym opens.opens.id in
    let it : taking ≡ Session thing opens.generation = is.session thing opens.generation (subst (λ (n : ℕ). StandsUnder past n thing) at opens.stands) opens.is_session opens.begun in
    never thing opens.generation opens.plain it (subst (λ (n : ℕ). OpensUnder secrets (inward setup opens.generation thing) n datagram opens.plain) at opens.opens)

pub it_tells : TakingTells
it_tells = record {
  none = tells_none;
  startup = λ secrets setup past taking datagram generation plain is outside opens. record { contexts = contexts_in setup taking; named = is.outside outside; plain = plain; opens = opens };
  outside = λ secrets setup past taking datagram generation is opens.
      let s = is.startup opens.contexts opens.named in
      (s.0, (opens.plain, subst (λ (contexts : List Context). OpensFirst secrets contexts (sid_of datagram) datagram (InStartup generation) opens.plain) s.1 opens.opens));
}
