-- The context in which a datagram opens: by what is kept it is the same as by what the end has stated.
use Rattle.std.proofs.Common.{◌≡◌, ◌≢◌, ℕ, ◌≤◌, List, [], ◌∷◌, map, length, drop, length-drop, nat_lt, Bool, true, false, ◌||◌, if◌then◌else◌, Option, Some, None, is_some, inl, inr, ◌⊎◌, refl, sym, ap, subst, ◌∙◌, arith}
use Rattle.std.proofs.lemmas.Bool.Decides.{nat_tests}
use Rattle.std.specs.FinMap.{get}
use Rattle.rtmfp_base.proofs.Maps.{none_is_some}
use Rattle.crypto_profile.specs.declared.group.GroupSecret.{GroupSecret}
use Rattle.crypto_profile.specs.declared.keys.Context.{Context}
use Rattle.crypto_profile.specs.declared.keys.Context.TheVariants.{Startup as StartupContext}
use Rattle.crypto_profile.specs.declared.sealing.SealFault.{SealFault}
use Rattle.crypto_profile.specs.Keys.{Keys, startup_keys_of}
use Rattle.crypto_profile.specs.Sealing.{Opens}
use Rattle.crypto_profile.specs.Opening.{open_refusal, plain_of}
use Rattle.packet_scramble.specs.Datagram.{sid_of}
use Rattle.glare_core.specs.declared.facts.Fact.{Fact}
use Rattle.glare_core.specs.declared.facts.Held.{Held}
use Rattle.glare_core.specs.declared.facts.Held.TheVariants.{Opening as OpeningHeld}
use Rattle.glare_core.specs.declared.facts.Joined.{Joined}
use Rattle.glare_core.specs.Things.{IsSession}
use Rattle.glare_core.proofs.Accounts.{reads_held}
use Rattle.rtmfp_base.specs.Reasons.{first_that_stands}
use Rattle.startup.specs.declared.aim.Aim.{Aim}
use Rattle.startup.specs.declared.aim.Aim.TheVariants.{AtPeer, ByName}
use Rattle.startup.specs.declared.attempt.Stage.{Stage}
use Rattle.startup.specs.declared.attempt.Stage.TheVariants.{Hello, Keying}
use Rattle.startup.specs.State.{AttemptState}
use Rattle.session_core.specs.declared.stage.Role.{Role}
use Rattle.session_core.specs.declared.stage.Role.TheVariants.{Initiator, Responder}
use Rattle.session_core.specs.Session.{SessionState, context_between, context_of}
use Rattle.session_core.specs.Hearing.{opens_in as opens_in_session}
use Rattle.session_core.specs.Closing.{is_held as is_held_stage}
use Rattle.session_core.proofs.Keyed.{opens_in_context}
use Rattle.endpoint_model.specs.declared.row.Row.{Row}
use Rattle.endpoint_model.specs.declared.place.Place.{Place}
use Rattle.endpoint_model.specs.declared.place.Place.TheVariants.{Startup, Attempt, Session}
use Rattle.endpoint_model.specs.Event.{Setup, own_of, Event}
use Rattle.endpoint_model.specs.State.{State, is_used}
use Rattle.endpoint_model.specs.Admission.{attempt_group, next_places, places_of, sid_at, group_at, stage_group}
use Rattle.endpoint_model.specs.Log.{StandsFor}
use Rattle.endpoint_model.proofs.Members.{tested}
use Rattle.endpoint_model.proofs.Naming.{places_by}
use Rattle.endpoint_laws.specs.Past.{Past, facts_of, IsClosing, past_of, past_of_log, next_of}
use Rattle.endpoint_laws.specs.Contexts.{Secrets, Knows, generation_of, inward, HeldUnder, StandsUnder, SearchUnder, AttemptUnder, OpensUnder, OpensFirst, IsAttemptIn, startup_contexts, next_contexts, StartupContextsOf, ContextsOf, BegunUnder}
use Rattle.endpoint_laws.specs.Groups.{number_in, IsStageOf}
use Rattle.endpoint_laws.specs.OfTheLog.{WasThing}
use Rattle.endpoint_laws.specs.OpensIn.{startup_unless, context_in_startup, context_in_session, context_at, context_first, opens_in, OpensAt, IsContextAt, OpensByTheLog}
use Rattle.endpoint_laws.specs.Laws.{IsSetup, AreCalls}
use Rattle.endpoint_laws.proofs.Agrees.{agrees_of, combined, thing_at, in_row, found_as, found_of_peer, found_of_session}
use Rattle.endpoint_laws.proofs.Begun.{begun_as}
use Rattle.endpoint_laws.proofs.Chunked.{either_way}
use Rattle.endpoint_laws.proofs.InSessions.{was_itself}
use Rattle.endpoint_laws.proofs.Kin.{group_known}
use Rattle.endpoint_laws.proofs.Knowing.{opens_known, known_opens, context_generation}
use Rattle.endpoint_laws.proofs.Logged.{log_is}
use Rattle.endpoint_laws.proofs.OpensHere.{opens_plain, unrefused, current_number, next_is}
use Rattle.endpoint_laws.proofs.Searching.{kept_as}
use Rattle.endpoint_laws.proofs.Tied.{Tied, IsClosedThing, IsKeptIn, search_of, thing_of}
use Rattle.endpoint_laws.proofs.Unique.{contexts_one, event_one}

-- ---- the generation in which a session began is one number

begun_one : (secrets : Secrets) (setup : Setup) (thing : Held) (g h : ℕ) (past : Past) → BegunUnder secrets setup thing g past → BegunUnder secrets setup thing h past → g ≡ h
begun_one secrets setup thing g h [] a b = absurd a
begun_one secrets setup thing g h (s ∷ earlier) (inl a) (inl b) = event_one secrets setup earlier g h a.1 b.1
begun_one secrets setup thing g h (s ∷ earlier) (inl a) (inr b) = absurd (b.0 a.0)
begun_one secrets setup thing g h (s ∷ earlier) (inr a) (inl b) = absurd (a.0 b.0)
begun_one secrets setup thing g h (s ∷ earlier) (inr a) (inr b) = begun_one secrets setup thing g h earlier a.1 b.1

-- ---- the contexts of places

abbrev row_context : Option Row → Context
row_context None = StartupContext 0
row_context (Some row) = context_of row.session false

abbrev place_context : State → Place → Context
place_context s (Startup generation) = StartupContext generation
place_context s (Attempt near generation) = StartupContext generation
place_context s (Session near) = row_context (get s.sessions near)

abbrev contexts_here : State → List Place → List Context
contexts_here s places = map (place_context s) places

next_here : (s : State) (next : Option GroupSecret) → contexts_here s (next_places next) ≡ next_contexts (number_in next)
next_here s None = refl
next_here s (Some next) = refl

-- the inward context of a session, by the thing that it is or was
inward_is : (setup : Setup) (generation : ℕ) (role : Role) (j : Joined) (thing : Held) → WasThing role j thing → context_between generation j (own_of setup) role false ≡ inward setup generation thing
inward_is setup generation Initiator j thing was = ap (inward setup generation) (sym was)
inward_is setup generation Responder j thing (inl was) = ap (inward setup generation) (sym was)
inward_is setup generation Responder j thing (inr was) = ap (inward setup generation) (sym was)

is_session : (role : Role) (j : Joined) (thing : Held) → WasThing role j thing → IsSession thing
is_session Initiator j thing was = subst IsSession (sym was) tt
is_session Responder j thing (inl was) = subst IsSession (sym was) tt
is_session Responder j thing (inr was) = subst IsSession (sym was) tt

-- an attempt is none
no_session : (near : ℕ) (ni : List ℕ) (aim : Aim) (peer : List ℕ) (thing : Held) → found_as near ni aim ≡ Some (peer, thing) → IsSession thing → ⊥
no_session near ni (AtPeer q n) peer thing is session =
    let same : (q, OpeningHeld n near ni) ≡ (peer, thing) = cc in
    subst (λ (x : List ℕ × Held). IsSession x.1) (sym same) session
no_session near ni (ByName name) peer thing is session = cc

no_opening : (n near : ℕ) (ni : List ℕ) (thing : Held) → OpeningHeld n near ni ≡ thing → IsSession thing → ⊥
no_opening n near ni thing is session = subst IsSession (sym is) session

-- ---- whether it opens at a place, and so in its context

module _ (secrets : Secrets) (s : State) (datagram : List ℕ) where
  abbrev part : List ℕ
  part = drop 4 datagram

  -- It opens there and that is told, or it opens nowhere there and nothing is told.
  abbrev JudgedAs : Context → Option Context → Type 0
  JudgedAs context answer =
      ((plain : List ℕ) × OpensUnder secrets context (sid_of datagram) datagram plain × (answer ≡ Some context)) ⊎ (((plain : List ℕ) → OpensUnder secrets context (sid_of datagram) datagram plain → ⊥) × (answer ≡ None))

  abbrev Judged : Place → Type 0
  Judged place = JudgedAs (place_context s place) (context_at s place part)

  abbrev AllJudged : List Place → Type 0
  AllJudged [] = Unit {0}
  AllJudged (place ∷ rest) = Judged place × AllJudged rest

  abbrev Told : List Place → List (Option Context)
  Told places = map (λ p. context_at s p part) places

  -- the first context in which it opens is told
  first_found : (places : List Place) → AllJudged places → (c : Context) (plain : List ℕ) → OpensFirst secrets (contexts_here s places) (sid_of datagram) datagram c plain → context_first s places part ≡ Some c
  first_found [] all c plain none = absurd none
  first_found (place ∷ rest) all c plain opens = by (λ beside. first_found rest all.1 c plain beside) all.0 opens
    where
      by : (OpensFirst secrets (contexts_here s rest) (sid_of datagram) datagram c plain → context_first s rest part ≡ Some c) → Judged place → OpensFirst secrets (contexts_here s (place ∷ rest)) (sid_of datagram) datagram c plain →
          context_first s (place ∷ rest) part ≡ Some c
      by later (inl here) (inl first) = ap (λ (o : Option Context). first_that_stands (o ∷ Told rest)) here.2 ∙ ap (λ (k : Context). Some k) first.0
      by later (inl here) (inr beside) = absurd (beside.0 here.0 here.1)
      by later (inr shut) (inl first) = absurd (shut.0 plain (subst (λ (k : Context). OpensUnder secrets k (sid_of datagram) datagram plain) (sym first.0) first.1))
      by later (inr shut) (inr beside) = ap (λ (o : Option Context). first_that_stands (o ∷ Told rest)) shut.1 ∙ later beside.1

  -- and what is told is that
  first_told : (places : List Place) → AllJudged places → (c : Context) → context_first s places part ≡ Some c → (plain : List ℕ) × OpensFirst secrets (contexts_here s places) (sid_of datagram) datagram c plain
  first_told [] all c e = absurd (cc)
  first_told (place ∷ rest) all c e = by (λ told. first_told rest all.1 c told) all.0
    where
      by : (context_first s rest part ≡ Some c → (plain : List ℕ) × OpensFirst secrets (contexts_here s rest) (sid_of datagram) datagram c plain) → Judged place → (plain : List ℕ) × OpensFirst secrets (contexts_here s (place ∷ rest)) (sid_of datagram) datagram c plain
      by later (inl here) =
          let told : Some (place_context s place) ≡ Some c = sym (ap (λ (o : Option Context). first_that_stands (o ∷ Told rest)) here.2) ∙ e in
          let same : place_context s place ≡ c = cc in
          (here.0, inl (same, subst (λ (k : Context). OpensUnder secrets k (sid_of datagram) datagram here.0) same here.1))
      by later (inr shut) =
          let beside = later (sym (ap (λ (o : Option Context). first_that_stands (o ∷ Told rest)) shut.1) ∙ e) in
          (beside.0, inr (shut.0, beside.1))

-- ---- what a session ID names

used_if_found : (near : ℕ) (oa : Option AttemptState) (os : Option Row) (peer : List ℕ) (thing : Held) → combined near oa os ≡ Some (peer, thing) → (is_some oa || is_some os) ≡ true
used_if_found near (Some a) os peer thing e = refl
used_if_found near None (Some row) peer thing e = refl
used_if_found near None None peer thing e = absurd (cc)

or_true : (a : Bool) → (a || true) ≡ true
or_true true = refl
or_true false = refl

module _ (secrets : Secrets) (setup : Setup) (past : Past) (s : State) (tied : Tied secrets setup past s) (stages : (near : ℕ) (a : AttemptState) → get s.startup.attempts near ≡ Some a → IsStageOf secrets past near a.stage) where
  abbrev facts : List Fact
  facts = facts_of past

  -- what is held is what stands under its session ID
  stands_there : (sid : ℕ) (thing : Held) (under : HeldUnder facts sid thing) → thing_at s sid ≡ Some (under.peer, thing)
  stands_there sid thing under =
      ap (thing_at s) (sym under.id)
      ∙ (agrees_of secrets setup past s tied).matches.there under.peer thing (reads_held 0 s.startup.ledger facts tied.account under.peer ∙ under.is_held)

  attempt_there : (sid : ℕ) (under : AttemptUnder past sid) → thing_at s sid ≡ Some (under.peer, OpeningHeld under.n sid under.ni)
  attempt_there sid under = stands_there sid (OpeningHeld under.n sid under.ni) (record { peer = under.peer; is_held = under.is_held; id = refl })

  is_held : (sid : ℕ) (peer : List ℕ) (thing : Held) → thing_at s sid ≡ Some (peer, thing) → HeldUnder facts sid thing
  is_held sid peer thing at =
      let found = (agrees_of secrets setup past s tied).matches.found sid peer thing at in
      record { peer = peer; is_held = sym (reads_held 0 s.startup.ledger facts tied.account peer) ∙ found.0; id = found.1 }

  -- one that closes is there
  closing_row : (sid : ℕ) (thing : Held) (at : ℕ) → IsClosing sid thing at past → (row : Row) × (get s.sessions sid ≡ Some row) × WasThing row.session.role row.session.joined thing
  closing_row sid thing at c = go (get s.sessions sid) refl (tied.closing sid thing at c)
    where
      go : (o : Option Row) → get s.sessions sid ≡ o → IsClosedThing o thing → (row : Row) × (get s.sessions sid ≡ Some row) × WasThing row.session.role row.session.joined thing
      go None e closed = absurd closed
      go (Some row) e closed = (row, e, closed.1)

  -- ---- nothing stands under session ID 0

  unused : (sid : ℕ) → sid ≡ 0 → is_used s sid ≡ true → ⊥
  unused sid zero used = let clash : true ≡ false = sym used ∙ ap (is_used s) zero ∙ tied.used 0 ∙ tied.not_zero in cc

  none_at_zero : (sid : ℕ) (thing : Held) → sid ≡ 0 → StandsUnder past sid thing → ⊥
  none_at_zero sid thing zero (inl under) = unused sid zero (used_if_found sid (get s.startup.attempts sid) (get s.sessions sid) under.peer thing (stands_there sid thing under))
  none_at_zero sid thing zero (inr closing) =
      let found = closing_row sid thing closing.0 closing.1 in
      unused sid zero (ap (λ (b : Bool). is_some (get s.startup.attempts sid) || b) (ap is_some found.1) ∙ or_true (is_some (get s.startup.attempts sid)))

  module _ (datagram : List ℕ) where
    abbrev sid : ℕ
    sid = sid_of datagram

    -- ---- places outside of sessions

    abbrev keys_at : Place → Keys
    keys_at place = startup_keys_of (group_at s place)

    abbrev Under : ℕ → ℕ → List ℕ → Type 0
    Under n at plain = OpensUnder secrets (StartupContext n) at datagram plain

    judged_startup : (place : Place) (generation : ℕ) → (group_at s place).generation ≡ generation → sid ≡ sid_at place → JudgedAs secrets s datagram (StartupContext generation) (context_in_startup s place generation (drop 4 datagram))
    judged_startup place generation number id = by (open_refusal (keys_at place) (sid_at place) (drop 4 datagram)) refl
      where
        by : (o : Option SealFault) → open_refusal (keys_at place) (sid_at place) (drop 4 datagram) ≡ o → JudgedAs secrets s datagram (StartupContext generation) (startup_unless generation o)
        by None is =
            let plain : List ℕ = plain_of (keys_at place) (drop 4 datagram) in
            let under : Under (group_at s place).generation (sid_at place) plain = opens_plain secrets s place (group_known secrets s tied.holds place) datagram id is in
            inl (plain, subst (λ (at : ℕ). Under generation at plain) (sym id) (subst (λ (n : ℕ). Under n (sid_at place) plain) number under), refl)
        by (Some fault) is = inr (
          (λ plain under.
              let there : Under (group_at s place).generation (sid_at place) plain = subst (λ (n : ℕ). Under n (sid_at place) plain) (sym number) (subst (λ (at : ℕ). Under generation at plain) id under) in
              let clash : Some fault ≡ None = sym is ∙ (unrefused secrets s place (group_known secrets s tied.holds place) datagram plain there).0 in
              cc),
          refl,
        )

    -- ---- places of sessions

    module _ (row : Row) (there : get s.sessions sid ≡ Some row) where
      abbrev session : SessionState
      session = row.session

      abbrev secret : List ℕ
      secret = (tied.sessions sid row there).known.secret

      abbrev At : ℕ → List ℕ → Type 0
      At near plain = Opens secret (context_of session false) near (drop 4 datagram) plain

      known : get secrets (generation_of (context_of session false)) ≡ Some secret
      known = ap (get secrets) (context_generation session.generation session.joined session.own session.role false) ∙ (tied.sessions sid row there).known.known

      judged_row : JudgedAs secrets s datagram (context_of session false) (context_in_session (Some row) (drop 4 datagram))
      judged_row = by (opens_in_session session (drop 4 datagram)) refl
        where
          by : (b : Bool) → opens_in_session session (drop 4 datagram) ≡ b → JudgedAs secrets s datagram (context_of session false) (if b then Some (context_of session false) else None)
          by true is =
              let ours = tied.sessions sid row there in
              let found = (opens_in_context secret session ours.known.keyed.towards (drop 4 datagram)).0 is in
              inl (found.0, opens_known secrets (context_of session false) secret known sid datagram found.0 refl (subst (λ (near : ℕ). At near found.0) ours.id found.1), refl)
          by false is = inr (
            (λ plain under.
                let ours = tied.sessions sid row there in
                let opens : At session.joined.near plain = subst (λ (near : ℕ). At near plain) (sym ours.id) (known_opens secrets (context_of session false) secret known sid datagram plain under) in
                let clash : true ≡ false = sym ((opens_in_context secret session ours.known.keyed.towards (drop 4 datagram)).1 (plain, opens)) ∙ is in
                cc),
            refl,
          )

      judged_session : Judged secrets s datagram (Session sid)
      judged_session = subst (λ (o : Option Row). JudgedAs secrets s datagram (row_context o) (context_in_session o (drop 4 datagram))) (sym there) judged_row

      -- what it is or was
      abbrev IsOrWas : Held → Type 0
      IsOrWas thing = WasThing session.role session.joined thing

      context_is : (thing : Held) → IsOrWas thing → place_context s (Session sid) ≡ inward setup session.generation thing
      context_is thing was =
          ap row_context there ∙ ap (λ (own : List ℕ). context_between session.generation session.joined own session.role false) (tied.sessions sid row there).own
          ∙ inward_is setup session.generation session.role session.joined thing was

      begun_in : (thing : Held) → IsOrWas thing → BegunUnder secrets setup thing session.generation past
      begun_in thing was = begun_as secrets setup session.role session.joined thing session.generation past was (tied.sessions sid row there).begun

      contexts_are : (thing : Held) → IsOrWas thing → StandsUnder past sid thing → ContextsOf secrets setup past sid (place_context s (Session sid) ∷ [])
      contexts_are thing was stands = inr (thing, session.generation, stands, is_session session.role session.joined thing was, begun_in thing was, ap (λ (c : Context). c ∷ []) (context_is thing was))

      named_session : get s.startup.attempts sid ≡ None → ContextsOf secrets setup past sid (place_context s (Session sid) ∷ [])
      named_session none = elim (either_way (is_held_stage session.stage)) [
        | inl held ↦
            (let thing : Held = thing_of session.role session.stage session.joined in
            contexts_are thing (was_itself session.role session.stage session.joined) (inl (is_held sid session.joined.peer thing (found_of_session s sid row none there held))))
        | inr closes ↦
            (let closed = (tied.sessions sid row there).closed closes in
            contexts_are closed.thing closed.was (inr (closed.at, closed.closing)))
      ]

      -- and it is nothing else
      stands_as : get s.startup.attempts sid ≡ None → (thing : Held) → StandsUnder past sid thing → IsOrWas thing
      stands_as none thing (inl under) =
          let found = in_row row under.peer thing (sym (ap (λ (o : Option AttemptState). combined sid o (get s.sessions sid)) none ∙ ap (combined sid None) there) ∙ stands_there sid thing under) in
          subst IsOrWas found.thing (was_itself session.role session.stage session.joined)
      stands_as none thing (inr closing) =
          let found = closing_row sid thing closing.0 closing.1 in
          let same : found.0 ≡ row = (let both : Some found.0 ≡ Some row = sym found.1 ∙ there in cc) in
          subst (λ (r : Row). WasThing r.session.role r.session.joined thing) same found.2

      only_session : sid ≢ 0 → get s.startup.attempts sid ≡ None → (contexts : List Context) → ContextsOf secrets setup past sid contexts → contexts ≡ place_context s (Session sid) ∷ []
      only_session other none contexts (inl (inl zero)) = absurd (other zero.0)
      only_session other none contexts (inl (inr outside)) = absurd (outsides outside.1)
        where
          outsides : SearchUnder past sid ⊎ AttemptUnder past sid → ⊥
          outsides (inl under) = subst (λ (o : Option AttemptState). IsKeptIn o under.which under.at) none (tied.searching sid under.which under.at under.stands)
          outsides (inr under) =
              let thing : Held = OpeningHeld under.n sid under.ni in
              is_session session.role session.joined thing (stands_as none thing (inl (record { peer = under.peer; is_held = under.is_held; id = refl })))
      only_session other none contexts (inr named) =
          let thing : Held = named.0 in
          let was : IsOrWas thing = stands_as none thing named.2 in
          let same : named.1 ≡ session.generation = begun_one secrets setup thing named.1 session.generation past named.4 (begun_in thing was) in
          named.5 ∙ ap (λ (g : ℕ). inward setup g thing ∷ []) same ∙ ap (λ (c : Context). c ∷ []) (sym (context_is thing was))

    -- ---- attempts and searches

    module _ (a : AttemptState) (there : get s.startup.attempts sid ≡ Some a) where
      abbrev number : ℕ
      number = (attempt_group s.group (get s.startup.attempts sid)).generation

      staged : (stage : Stage) → IsStageOf secrets past sid stage → IsAttemptIn secrets setup sid (stage_group s.group stage).generation past
      staged Hello hello = inr (hello, tied.current)
      staged (Keying at cookie under) went = inl went.0

      is_in : IsAttemptIn secrets setup sid number past
      is_in = subst (λ (o : Option AttemptState). IsAttemptIn secrets setup sid (attempt_group s.group o).generation past) (sym there) (staged a.stage (stages sid a there))

      which_it_is : (aim : Aim) → a.aim ≡ aim → SearchUnder past sid ⊎ AttemptUnder past sid
      which_it_is (AtPeer peer n) aims = let under = is_held sid peer (OpeningHeld n sid a.ni) (found_of_peer s sid a peer n there aims) in inr (record { peer = under.peer; n = n; ni = a.ni; is_held = under.is_held })
      which_it_is (ByName name) aims = inl (record { which = search_of name a; at = a.start; stands = (kept_as secrets setup past s tied sid a name aims there).0 })

      attempt_contexts : sid ≢ 0 → StartupContextsOf secrets setup past sid (StartupContext number ∷ [])
      attempt_contexts other = inr (other, which_it_is a.aim refl, (number, is_in, refl))

      only_attempt : sid ≢ 0 → (contexts : List Context) → ContextsOf secrets setup past sid contexts → contexts ≡ StartupContext number ∷ []
      only_attempt other contexts (inl named) = contexts_one secrets setup past sid contexts (StartupContext number ∷ []) named (attempt_contexts other)
      only_attempt other contexts (inr named) = absurd (stands named.2)
        where
          stands : StandsUnder past sid named.0 → ⊥
          stands (inl under) = no_session sid a.ni a.aim under.peer named.0 (sym (ap (λ (o : Option AttemptState). combined sid o (get s.sessions sid)) there) ∙ stands_there sid named.0 under) named.3
          stands (inr closing) = let found = closing_row sid named.0 closing.0 closing.1 in none_is_some found.0 (get s.sessions sid) (tied.apart sid a there) found.1

    -- ---- session ID 0

    zero_contexts : contexts_here s (Startup s.group.generation ∷ next_places s.next) ≡ startup_contexts setup past
    zero_contexts =
        ap (λ (cs : List Context). StartupContext s.group.generation ∷ cs) (next_here s s.next ∙ ap next_contexts tied.next)
        ∙ ap (λ (g : ℕ). StartupContext g ∷ next_contexts (next_of past)) tied.current

    judged_next : sid ≡ 0 → (next : Option GroupSecret) → s.next ≡ next → AllJudged secrets s datagram (next_places next)
    judged_next zero None is = tt
    judged_next zero (Some next) is = (judged_startup (Startup next.generation) next.generation (ap (λ (g : GroupSecret). g.generation) (next_is s next is)) zero, tt)

    -- ---- all of them

    -- The places name the contexts of the session ID, and they alone do; or it names none.
    record Names (places : List Place) : Type 0 where
      judged : AllJudged secrets s datagram places
      named : ContextsOf secrets setup past sid (contexts_here s places)
      only : (contexts : List Context) → ContextsOf secrets setup past sid contexts → contexts ≡ contexts_here s places

    abbrev NamesSo : List Place → Type 0
    NamesSo places = Names places ⊎ ((places ≡ []) × ((contexts : List Context) → ContextsOf secrets setup past sid contexts → ⊥))

    names_zero : sid ≡ 0 → Names (places_of s sid)
    names_zero zero = subst Names (sym (ap (places_of s) zero)) (record {
      judged = (judged_startup (Startup s.group.generation) s.group.generation (current_number s) zero, judged_next zero s.next refl);
      named = inl (inl (zero, zero_contexts));
      only = by;
    })
      where
        by : (contexts : List Context) → ContextsOf secrets setup past sid contexts → contexts ≡ contexts_here s (Startup s.group.generation ∷ next_places s.next)
        by contexts (inl named) = contexts_one secrets setup past sid contexts (contexts_here s (Startup s.group.generation ∷ next_places s.next)) named (inl (zero, zero_contexts))
        by contexts (inr named) = absurd (none_at_zero sid named.0 zero named.2)

    names_nothing : sid ≢ 0 → get s.startup.attempts sid ≡ None → get s.sessions sid ≡ None → (contexts : List Context) → ContextsOf secrets setup past sid contexts → ⊥
    names_nothing other none nowhere contexts (inl (inl zero)) = other zero.0
    names_nothing other none nowhere contexts (inl (inr outside)) = by outside.1
      where
        by : SearchUnder past sid ⊎ AttemptUnder past sid → ⊥
        by (inl under) = subst (λ (o : Option AttemptState). IsKeptIn o under.which under.at) none (tied.searching sid under.which under.at under.stands)
        by (inr under) = none_is_some (under.peer, OpeningHeld under.n sid under.ni) (thing_at s sid) (ap (λ (o : Option AttemptState). combined sid o (get s.sessions sid)) none ∙ ap (combined sid None) nowhere) (attempt_there sid under)
    names_nothing other none nowhere contexts (inr named) = by named.2
      where
        by : StandsUnder past sid named.0 → ⊥
        by (inl under) = none_is_some (under.peer, named.0) (thing_at s sid) (ap (λ (o : Option AttemptState). combined sid o (get s.sessions sid)) none ∙ ap (combined sid None) nowhere) (stands_there sid named.0 under)
        by (inr closing) = let found = closing_row sid named.0 closing.0 closing.1 in none_is_some found.0 (get s.sessions sid) nowhere found.1

    names_by : sid ≢ 0 → (oa : Option AttemptState) (os : Option Row) → get s.startup.attempts sid ≡ oa → get s.sessions sid ≡ os → NamesSo (places_of s sid)
    names_by other (Some a) os ea es =
        let number : ℕ = (attempt_group s.group (get s.startup.attempts sid)).generation in
        inl (subst Names (sym (places_by s sid true (is_some (get s.sessions sid)) other (ap is_some ea) refl)) (record {
          judged = (judged_startup (Attempt sid number) number refl refl, tt);
          named = inl (attempt_contexts a ea other);
          only = only_attempt a ea other;
        }))
    names_by other None (Some row) ea es = inl (subst Names (sym (places_by s sid false true other (ap is_some ea) (ap is_some es))) (record {
      judged = (judged_session row es, tt);
      named = named_session row es ea;
      only = only_session row es other ea;
    }))
    names_by other None None ea es = inr (places_by s sid false false other (ap is_some ea) (ap is_some es), names_nothing other ea es)

    names_so : NamesSo (places_of s sid)
    names_so = elim (tested sid 0) [
      | inl is ↦ inl (names_zero is.0)
      | inr is ↦ names_by is.0 (get s.startup.attempts sid) (get s.sessions sid) refl refl
    ]

    context_is_found : (contexts : List Context) (c : Context) (plain : List ℕ) → ContextsOf secrets setup past sid contexts → OpensFirst secrets contexts sid datagram c plain → context_first s (places_of s sid) (drop 4 datagram) ≡ Some c
    context_is_found contexts c plain named opens = elim names_so [
      | inl names ↦ first_found secrets s datagram (places_of s sid) names.judged c plain (subst (λ (cs : List Context). OpensFirst secrets cs sid datagram c plain) (names.only contexts named) opens)
      | inr none ↦ absurd (none.1 contexts named)
    ]

    context_is_told : (c : Context) → context_first s (places_of s sid) (drop 4 datagram) ≡ Some c → OpensAt secrets setup past datagram c
    context_is_told c e = elim names_so [
      | inl names ↦
          (let told = first_told secrets s datagram (places_of s sid) names.judged c e in
          record { contexts = contexts_here s (places_of s sid); named = names.named; plain = told.0; opens = told.1 })
      | inr none ↦ (let clash : None ≡ Some c = sym (ap (λ (ps : List Place). context_first s ps (drop 4 datagram)) none.0) ∙ e in absurd (cc))
    ]

-- ---- whole datagrams

long_if : (b : Bool) (o : Option Context) (c : Context) → (if b then None else o) ≡ Some c → o ≡ Some c
long_if true o c e = absurd (cc)
long_if false o c e = e

-- what opens in some context is long enough
whole : (secrets : Secrets) (contexts : List Context) (sid : ℕ) (datagram : List ℕ) (c : Context) (plain : List ℕ) → OpensFirst secrets contexts sid datagram c plain → nat_lt (length datagram) 36 ≡ false
whole secrets [] sid datagram c plain none = absurd none
whole secrets (first ∷ later) sid datagram c plain (inl here) =
    let long : 36 ≤ length datagram = omega (arith, here.1.opens.0, length-drop 4 datagram) in
    grind (arith, nat_tests, long)
whole secrets (first ∷ later) sid datagram c plain (inr beside) = whole secrets later sid datagram c plain beside.1

module _ (secrets : Secrets) (setup : Setup) (log : List Event) (s : State) (datagram : List ℕ) (knows : Knows secrets setup (past_of_log log)) (is : IsSetup setup) (calls : AreCalls log) (stands : StandsFor setup log s) where
  -- The first of the contexts of the datagram's session ID in which it opens is what the end finds.
  pub opens_in_found : (contexts : List Context) (c : Context) (plain : List ℕ) → ContextsOf secrets setup (past_of 0 [] log) (sid_of datagram) contexts →
      OpensFirst secrets contexts (sid_of datagram) datagram c plain → opens_in s datagram ≡ Some c
  opens_in_found contexts c plain named first =
      let holds = (log_is secrets setup log s knows is calls stands).holds in
      ap (λ (b : Bool). if b then None else context_first s (places_of s (sid_of datagram)) (drop 4 datagram)) (whole secrets contexts (sid_of datagram) datagram c plain first)
      ∙ context_is_found secrets setup (past_of 0 [] log) s holds.tied holds.sent.staged.attempts datagram contexts c plain named first

  -- And what it finds is such a context.
  pub opens_in_told : (c : Context) → opens_in s datagram ≡ Some c → OpensAt secrets setup (past_of 0 [] log) datagram c
  opens_in_told c e =
      let holds = (log_is secrets setup log s knows is calls stands).holds in
      context_is_told secrets setup (past_of 0 [] log) s holds.tied holds.sent.staged.attempts datagram c (long_if (nat_lt (length datagram) 36) (context_first s (places_of s (sid_of datagram)) (drop 4 datagram)) c e)

  pub is_context_at : IsContextAt secrets setup log datagram (opens_in s datagram)
  is_context_at = record { opens = opens_in_told; all = λ c at. opens_in_found at.contexts c at.plain at.named at.opens }

-- whatever log the end stands for
pub opens_by_the_log : (s : State) (datagram : List ℕ) (answer : Option Context) → answer ≡ opens_in s datagram → OpensByTheLog s datagram answer
opens_by_the_log s datagram answer e = λ secrets setup log knows is calls stands.
    let P : Option Context → Type 0 = λ a. IsContextAt secrets setup log datagram a in
    subst P (sym e) (is_context_at secrets setup log s datagram knows is calls stands)
