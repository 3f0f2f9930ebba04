-- What goes out where a session is born or opened.
use Rattle.std.proofs.Common.{◌≡◌, ℕ, zero, suc, ◌^◌, ◌<◌, ◌≤◌, List, [], ◌∷◌, ◌++◌, length, take, drop, Option, Some, None, Ok, Err, Result, inl, inr, ◌⊎◌, refl, sym, ap, subst, ◌∙◌, Bool, true, false, if◌then◌else◌, nat_lt, arith}
use Rattle.std.specs.Prelude.{◌==◌, is_some, not}
use Rattle.std.specs.Int.{w64, from_be_bytes}
use Rattle.std.specs.FinMap.{get, insert, remove}
use Rattle.std.proofs.lemmas.Bool.{ltb-false}
use Rattle.std.proofs.lemmas.List.{length-take}
use Rattle.rtmfp_base.proofs.Maps.{get_inserted}
use Rattle.sha2.specs.Sha256.{sha256}
use Rattle.rtmfp_forms.specs.Address.{AddressParts}
use Rattle.rtmfp_chunks.specs.declared.reading.ChunkFault.{ChunkFault}
use Rattle.rtmfp_chunks.specs.FieldReading.{chunk_reading}
use Rattle.rtmfp_chunks.specs.Chunk.{Chunk, IHello, FIHello, RHello, Redirect, CookieChange, IIKeying, RIKeying, Ping, PingReply, Close, CloseAck, Fragment}
use Rattle.cookies.specs.declared.CookieTest.{CookieTest}
use Rattle.cookies.specs.declared.CookieTest.TheVariants.{Bad, Moved, Expired, Current}
use Rattle.cookies.specs.Cookie.{cookie_of, cookie_test}
use Rattle.identity.specs.Certificates.{certificate_fault}
use Rattle.glare_core.specs.declared.facts.Fact.{Fact}
use Rattle.glare_core.specs.declared.facts.Fact.TheVariants.{Started, Born, Opened, Confirmed, Ended}
use Rattle.glare_core.specs.declared.facts.Held.{Held}
use Rattle.glare_core.specs.declared.facts.Held.TheVariants.{Opening as OpeningHeld, HalfOpen, KeptAsResponder, KeptAsInitiator}
use Rattle.glare_core.specs.declared.facts.Joined.{Joined}
use Rattle.glare_core.specs.declared.answers.Keying.{Keying}
use Rattle.glare_core.specs.declared.answers.Heard.{Heard}
use Rattle.glare_core.specs.declared.answers.Heard.TheVariants.{Again as AgainHeard, Birth as BirthHeard}
use Rattle.glare_core.specs.Standing.{held, opened as opened_thing}
use Rattle.glare_core.specs.Account.{AreLawful}
use Rattle.glare_core.specs.Ledger.{Ledger, held_with}
use Rattle.rtmfp_base.specs.Reasons.{where_true, first_that_stands}
use Rattle.glare_core.specs.Calls.{is_born_of, heard, heard_noted, way_made}
use Rattle.glare_core.proofs.Accounts.{reads_held}
use Rattle.glare_core.proofs.Tails.{same_end}
use Rattle.startup.specs.declared.answer.Answer.{Answer}
use Rattle.startup.specs.declared.answer.Keyed.TheVariants.{Change, Birth}
use Rattle.rtmfp_base.specs.declared.cause.Cause.{Cause}
use Rattle.rtmfp_base.specs.declared.cause.Cause.TheVariants.{SecondKeying, BadSignature, Wide}
use Rattle.startup_packets.specs.Packets.{initiator_part_in, is_signed}
use Rattle.startup.specs.declared.aim.Aim.{Aim}
use Rattle.startup.specs.declared.aim.Aim.TheVariants.{AtPeer, ByName}
use Rattle.startup.specs.State.{AttemptState, Attempts, KeptKeyings, StartupState}
use Rattle.startup.specs.Attempts.{wide}
use Rattle.startup_packets.specs.Readings.{InitiatorKeying, ResponderKeying, initiator_keying_in, initiator_fields, with_initiator_part, responder_keying_in}
use Rattle.startup.specs.Keyings.{cause_by, cookie_cause, named_cause, initiator_cause, keying_of, session_answer, change_answer, repeated_session, born_session, again_or_birth, keyed_with, keyed_reading, opening_id, without, after_again_or_birth, after_keyed_with, after_keyed_reading, opened_as, opened_reading, after_opening, again_by, kept_answer, kept_keying}
use Rattle.session_core.specs.declared.stage.Role.TheVariants.{Initiator, Responder}
use Rattle.session_core.specs.Session.{new_session}
use Rattle.session_core.proofs.Keyed.{keyed_begun}
use Rattle.rtmfp_chunks.specs.Writing.{chunk_bytes}
use Rattle.endpoint_model.specs.declared.row.Row.{Row}
use Rattle.endpoint_model.specs.declared.walk.Walk.{Walk}
use Rattle.endpoint_model.specs.declared.config.Draws.{Draws}
use Rattle.endpoint_model.specs.declared.entry.Entry.TheVariants.{Fact as FactEntry}
use Rattle.endpoint_model.specs.Event.{Setup, own_of, Call}
use Rattle.endpoint_laws.specs.Contexts.{Secrets, BegunUnder, EventOpenedIn}
use Rattle.endpoint_laws.specs.Groups.{HasSecret}
use Rattle.endpoint_laws.specs.Past.{Past, Stamped, stamped, onto, facts_of}
use Rattle.endpoint_model.specs.State.{State, new_row, with_row, Sessions, fact_entries, with_startup, free_among, free_from, next_id, is_free, full}
use Rattle.endpoint_model.specs.Sending.{sent_answer, sent_by, sent_in_session}
use Rattle.endpoint_model.specs.Effects.{without_ended, with_born, keying_done, initiator_keyed, opening_done, responder_keyed}
use Rattle.endpoint_model.specs.Causes.{initiator_keying_cause}
use Rattle.endpoint_laws.specs.Lawful.{IsBornHere}
use Rattle.endpoint_laws.proofs.Lines.{EntriesMeet, OutPart}
use Rattle.endpoint_laws.proofs.Tied.{Tied}
use Rattle.endpoint_laws.proofs.Facts.{test_fails}
use Rattle.endpoint_laws.proofs.OutNumbers.{Numbered, numbered_removed, numbered_born, numbered_opened}
use Rattle.endpoint_laws.proofs.OutHeld.{AreSized, held_sized, may_send_held}
use Rattle.endpoint_laws.proofs.OutPackets.{one_is_modest}
use Rattle.endpoint_laws.proofs.OutSends.{AreShort, Measured, measured, Sent, Meets, meets_nothing, meets_after, meets_session, under_has}
use Rattle.endpoint_laws.proofs.Staged.{Staged, StagesAre, KeptAre, KeptBut, TagsAre, tags_quiet, tags_left, beside_quiet, stages_beside, stages_left, kept_attempt, kept_but, kept_but_ended, kept_born}
use Rattle.endpoint_laws.proofs.OutKeyings.{cookiechange_may, rikeying_may, length-cookie_of, kept_may}
use Rattle.endpoint_laws.proofs.OutItems.{IsLight, measured_facts, sent_same, short_left, LightAnswer, meets_light, attempt_held}
use Rattle.crypto_profile.specs.declared.group.GroupSecret.{GroupSecret}
use Rattle.endpoint_model.specs.declared.place.Place.{Place}
use Rattle.endpoint_model.specs.declared.place.Place.TheVariants.{Attempt}
use Rattle.startup.specs.declared.kept.KeptKeying.{KeptKeying}
use Rattle.endpoint_model.specs.Admission.{group_at, attempt_group}
use Rattle.endpoint_laws.proofs.Kin.{group_known}

-- ---- the session ID that is chosen

small_either : (b : Bool) (x y : ℕ) → x < 2 ^ 32 → y < 2 ^ 32 → (if b then x else y) < 2 ^ 32
small_either true x y p q = p
small_either false x y p q = q

small_next : (id : ℕ) → next_id id < 2 ^ 32
small_next id = omega arith

small_among : (tries : ℕ) (s : State) (id : ℕ) → id < 2 ^ 32 → free_among tries s id < 2 ^ 32
small_among zero s id small = small
small_among (suc tries) s id small = small_either (is_free s id) id (free_among tries s (next_id id)) small (small_among tries s (next_id id) (small_next id))

pub small_free : (s : State) (word : ℕ) → word < 2 ^ 32 → free_from s word < 2 ^ 32
unfolding free_from
small_free s word small = small_among _ s word small

-- ---- the nonce that is read

abbrev IsFine : Result InitiatorKeying Cause → Type 0
IsFine (Ok keying) = length keying.part.ni ≤ 16
IsFine (Err cause) = Unit {0}

fine_either : (b : Bool) (x y : Result InitiatorKeying Cause) → IsFine x → IsFine y → IsFine (if b then x else y)
fine_either true x y p q = p
fine_either false x y p q = q

fine_part : (at near : ℕ) (cookie cert sign bytes : List ℕ) → IsFine (with_initiator_part at near cookie cert sign (initiator_part_in bytes))
unfolding initiator_part_in
fine_part at near cookie cert sign bytes = by_length (length bytes == 56)
  where
    by_length : (b : Bool) → IsFine (with_initiator_part at near cookie cert sign (if b then Some (record { ni = take 16 bytes; n = from_be_bytes w64 (take 8 (drop 16 bytes)); responder = drop 24 bytes }) else None))
    by_length true = omega (arith, length-take 16 bytes)
    by_length false = tt

fine_fields : (payload : List ℕ) (read : Result Chunk ChunkFault) → IsFine (initiator_fields payload read)
fine_fields payload (Ok (IIKeying near cookie cert part sign)) =
    fine_either (near == 0) _ _ tt (fine_either (is_some (certificate_fault cert)) _ _ tt (fine_part _ near cookie cert sign part))
fine_fields payload (Ok (IHello epd tag)) = tt
fine_fields payload (Ok (FIHello epd reply tag)) = tt
fine_fields payload (Ok (RHello tag cookie cert)) = tt
fine_fields payload (Ok (Redirect tag list)) = tt
fine_fields payload (Ok (CookieChange old new)) = tt
fine_fields payload (Ok (RIKeying near part sign)) = tt
fine_fields payload (Ok (Ping bytes)) = tt
fine_fields payload (Ok (PingReply bytes)) = tt
fine_fields payload (Ok Close) = tt
fine_fields payload (Ok CloseAck) = tt
fine_fields payload (Ok (Fragment more id number bytes)) = tt
fine_fields payload (Err fault) = tt

fine_keying : (payload : List ℕ) → IsFine (initiator_keying_in payload)
unfolding initiator_keying_in
fine_keying payload = fine_fields payload (chunk_reading 0x38 payload)

-- ---- the session is held again

such : {A : Type 0} (b : Bool) (x y : A) → where_true b x ≡ Some y → x ≡ y
such true x y e = cc
such false x y e = absurd (cc)

held_again : (h : Option Held) (keying : Keying) (j : Joined) → repeated_session h keying ≡ Some j → (h ≡ Some (HalfOpen j)) ⊎ (h ≡ Some (KeptAsResponder j))
held_again None keying j e = absurd (cc)
held_again (Some (OpeningHeld n near ni)) keying j e = absurd (cc)
held_again (Some (HalfOpen k)) keying j e = inl (ap (λ (x : Joined). Some (HalfOpen x)) (such (is_born_of k keying) k j e))
held_again (Some (KeptAsResponder k)) keying j e = inr (ap (λ (x : Joined). Some (KeptAsResponder x)) (such (is_born_of k keying) k j e))
held_again (Some (KeptAsInitiator k)) keying j e = absurd (cc)

-- a session that was born here, with its peer and its sizes
record BornHere (facts : List Fact) (p : List ℕ) (j : Joined) : Type 0 where
  at : IsBornHere (held p facts) j
  is_held : IsBornHere (held j.peer facts) j
  near : j.near < 2 ^ 32
  ni : length j.ni ≤ 16
  nr : length j.nr ≤ 16

born_here : (secrets : Secrets) (setup : Setup) (past : Past) (s : State) → Sent secrets setup past s → Tied secrets setup past s → (p : List ℕ) (keying : Keying) (j : Joined) →
    repeated_session (held_with s.startup.ledger p) keying ≡ Some j → BornHere (facts_of past) p j
born_here secrets setup past s sent tied p keying j e =
    let is : held_with s.startup.ledger p ≡ held p (facts_of past) = reads_held 0 s.startup.ledger (facts_of past) tied.account p in
    elim (held_again (held_with s.startup.ledger p) keying j e) [
      | inl half ↦
          (let at : held p (facts_of past) ≡ Some (HalfOpen j) = sym is ∙ half in
          let sizes = held_sized p (facts_of past) (HalfOpen j) sent.sized at in
          record { at = inl at; is_held = inl (ap (λ (q : List ℕ). held q (facts_of past)) sizes.3 ∙ at); near = sizes.0; ni = sizes.1; nr = sizes.2 })
      | inr kept ↦
          (let at : held p (facts_of past) ≡ Some (KeptAsResponder j) = sym is ∙ kept in
          let sizes = held_sized p (facts_of past) (KeptAsResponder j) sent.sized at in
          record { at = inr at; is_held = inr (ap (λ (q : List ℕ). held q (facts_of past)) sizes.3 ∙ at); near = sizes.0; ni = sizes.1; nr = sizes.2 })
    ]

-- it is one session
one_born : (o : Option Held) (j k : Joined) → IsBornHere o j → IsBornHere o k → j ≡ k
one_born o j k (inl p) (inl q) = let same : Some (HalfOpen j) ≡ Some (HalfOpen k) = sym p ∙ q in cc
one_born o j k (inl p) (inr q) = let clash : Some (HalfOpen j) ≡ Some (KeptAsResponder k) = sym p ∙ q in absurd (cc)
one_born o j k (inr p) (inl q) = let clash : Some (KeptAsResponder j) ≡ Some (HalfOpen k) = sym p ∙ q in absurd (cc)
one_born o j k (inr p) (inr q) = let same : Some (KeptAsResponder j) ≡ Some (KeptAsResponder k) = sym p ∙ q in cc

-- ---- a session is born

second_none : (a b c : Option Cause) → first_that_stands (a ∷ b ∷ c ∷ []) ≡ None → b ≡ None
second_none None None c e = refl
second_none None (Some x) c e = absurd (cc)
second_none (Some x) b c e = absurd (cc)

heard_own : (l : Ledger) (h : Heard) → (heard_noted l h).own ≡ l.own
heard_own l (AgainHeard near) = refl
heard_own l (BirthHeard None born) = refl
heard_own l (BirthHeard (Some ended) born) = refl

short_without : (attempts : Attempts) (o : Option ℕ) → AreShort attempts → AreShort (without attempts o)
short_without attempts None all = all
short_without attempts (Some near) all = short_left attempts near all

way_light : (peer : List ℕ) (o : Option Held) → IsLight (way_made peer o)
way_light peer None = tt
way_light peer (Some (OpeningHeld n near ni)) = tt
way_light peer (Some (HalfOpen j)) = tt
way_light peer (Some (KeptAsResponder j)) = tt
way_light peer (Some (KeptAsInitiator j)) = tt

numbered_without : (own : List ℕ) (past : Past) (sealed : ℕ) (sessions : Sessions) (o : Option Fact) → Numbered own past sealed sessions → Numbered own past sealed (without_ended sessions o)
numbered_without own past sealed sessions None n = n
numbered_without own past sealed sessions (Some (Started peer k near ni)) n = n
numbered_without own past sealed sessions (Some (Born j)) n = n
numbered_without own past sealed sessions (Some (Opened j)) n = n
numbered_without own past sealed sessions (Some (Confirmed peer near)) n = n
numbered_without own past sealed sessions (Some (Ended peer near why)) n = numbered_removed own past sealed sessions n near

held_born : (j : Joined) (earlier : List Fact) → held j.peer (Born j ∷ earlier) ≡ Some (HalfOpen j)
held_born j earlier = elim (same_end j.peer j.peer) [ inl d ↦ rw d.1 refl | inr d ↦ absurd (d.0 refl) ]

entries_either : (now : ℕ) (ended : Option Fact) (fact : Fact) (past : Past) → onto now (fact_entries ended ++ FactEntry fact ∷ []) past ≡ stamped now (FactEntry fact) ∷ onto now (fact_entries ended) past
entries_either now None fact past = refl
entries_either now (Some f) fact past = refl

lines_either : (secrets : Secrets) (setup : Setup) (now : ℕ) (call : Call) (past : Past) (ended : Option Fact) (fact : Fact) → EntriesMeet OutPart secrets setup now call past (fact_entries ended ++ FactEntry fact ∷ [])
lines_either secrets setup now call past None fact = (tt, tt)
lines_either secrets setup now call past (Some f) fact = (tt, (tt, tt))

tags_without : (past : Past) (attempts : Attempts) (o : Option ℕ) → TagsAre past attempts → TagsAre past (without attempts o)
tags_without past attempts None all = all
tags_without past attempts (Some near) all = tags_left past attempts all near

stages_without : (secrets : Secrets) (past : Past) (attempts : Attempts) (o : Option ℕ) → StagesAre secrets past attempts → StagesAre secrets past (without attempts o)
stages_without secrets past attempts None all = all
stages_without secrets past attempts (Some near) all = stages_left secrets past attempts all near

-- what makes way for a session with a peer is the end of what was held with it
abbrev EndsWith : List ℕ → Option Fact → Type 0
EndsWith peer None = Unit {0}
EndsWith peer (Some (Started p n near ni)) = ⊥
EndsWith peer (Some (Born j)) = ⊥
EndsWith peer (Some (Opened j)) = ⊥
EndsWith peer (Some (Confirmed p near)) = ⊥
EndsWith peer (Some (Ended p near why)) = p ≡ peer

way_ends : (peer : List ℕ) (o : Option Held) → EndsWith peer (way_made peer o)
way_ends peer None = tt
way_ends peer (Some (OpeningHeld n near ni)) = refl
way_ends peer (Some (HalfOpen j)) = refl
way_ends peer (Some (KeptAsResponder j)) = refl
way_ends peer (Some (KeptAsInitiator j)) = refl

tags_over : (now : ℕ) (past : Past) (j : Joined) (attempts : Attempts) (ended : Option Fact) → EndsWith j.peer ended → TagsAre past attempts → TagsAre (onto now (fact_entries ended) past) attempts
tags_over now past j attempts None ends all = all
tags_over now past j attempts (Some (Started p n near ni)) ends all = absurd ends
tags_over now past j attempts (Some (Born k)) ends all = absurd ends
tags_over now past j attempts (Some (Opened k)) ends all = absurd ends
tags_over now past j attempts (Some (Confirmed p near)) ends all = absurd ends
tags_over now past j attempts (Some (Ended p near why)) ends all = tags_quiet past attempts all (stamped now (FactEntry (Ended p near why))) refl refl

module _ (secrets : Secrets) (setup : Setup) (now : ℕ) (past : Past) (j : Joined) where
  stages_over : (attempts : Attempts) (ended : Option Fact) → EndsWith j.peer ended → StagesAre secrets past attempts → StagesAre secrets (onto now (fact_entries ended) past) attempts
  stages_over attempts None ends all = all
  stages_over attempts (Some (Started p n near ni)) ends all = absurd ends
  stages_over attempts (Some (Born k)) ends all = absurd ends
  stages_over attempts (Some (Opened k)) ends all = absurd ends
  stages_over attempts (Some (Confirmed p near)) ends all = absurd ends
  stages_over attempts (Some (Ended p near why)) ends all =
      stages_beside secrets past attempts all (stamped now (FactEntry (Ended p near why))) (λ q. beside_quiet secrets q (stamped now (FactEntry (Ended p near why))) refl refl refl)

  kept_over : (kept : KeptKeyings) (ended : Option Fact) → EndsWith j.peer ended → AreSized (facts_of past) → KeptBut secrets setup past kept now j past → KeptBut secrets setup past kept now j (onto now (fact_entries ended) past)
  kept_over kept None ends sized all = all
  kept_over kept (Some (Started p n near ni)) ends sized all = absurd ends
  kept_over kept (Some (Born k)) ends sized all = absurd ends
  kept_over kept (Some (Opened k)) ends sized all = absurd ends
  kept_over kept (Some (Confirmed p near)) ends sized all = absurd ends
  kept_over kept (Some (Ended p near why)) ends sized all = kept_but_ended secrets setup past kept now j sized (Ended p near why) ends all

  opened_over : (generation : ℕ) (ended : Option Fact) → EventOpenedIn secrets setup past generation → EventOpenedIn secrets setup (onto now (fact_entries ended) past) generation
  opened_over generation None opened = opened
  opened_over generation (Some fact) opened = opened

module _ (secrets : Secrets) (setup : Setup) (now : ℕ) (call : Call) (past : Past) (s : State) (sent : Sent secrets setup past s) (tied : Tied secrets setup past s) (from : AddressParts) (g : GroupSecret) (has : HasSecret secrets g) where
  -- the state t keeps what is kept of s but for the attempts, the ledger, and what is kept of the session that is born
  meets_birth : (t : StartupState) (ended : Option Fact) (j : Joined) (new_kept : KeptKeying) → AreShort t.attempts → t.ledger.own ≡ own_of setup → IsLight ended → EndsWith j.peer ended → TagsAre past t.attempts → StagesAre secrets past t.attempts →
      t.kept ≡ insert s.startup.kept j.peer new_kept → new_kept.generation ≡ g.generation → EventOpenedIn secrets setup past g.generation →
      j.near < 2 ^ 32 → length j.ni ≤ 16 → length j.nr ≤ 16 → (old : StartupState) → old.cert ≡ setup.cert →
      Meets secrets setup now call past (keying_done (with_startup s t) from g (Some (Birth ended (Born j) (session_answer old j from g))))
  meets_birth t ended j new_kept short own light ends tags stages kept_is kept_in opened near ni nr old old_cert =
      let before : Past = onto now (fact_entries ended) past in
      let x : Stamped = stamped now (FactEntry (Born j)) in
      let after : Past = x ∷ before in
      let told : Measured setup before s = measured_facts setup past s now ended (measured secrets setup past s sent) light in
      let new : Row = new_row (new_session j t.ledger.own Responder from g.generation g.secret s.moment) in
      let state : State = with_born (with_startup s t) ended (Born j) from g in
      let opened_before : EventOpenedIn secrets setup before g.generation = opened_over secrets setup now past j g.generation ended opened in
      let staged : Staged secrets setup after state = record {
        tags = tags_quiet before t.attempts (tags_over now past j t.attempts ended ends tags) x refl refl;
        attempts = stages_beside secrets before t.attempts (stages_over secrets setup now past j t.attempts ended ends stages) x (λ q. beside_quiet secrets q x refl refl refl);
        kept = subst (KeptAre secrets setup after) (sym kept_is)
            (kept_born secrets setup before s.startup.kept now j told.sized new_kept (subst (EventOpenedIn secrets setup before) (sym kept_in) opened_before)
            (kept_over secrets setup now past j s.startup.kept ended ends sent.sized (kept_but secrets setup past s.startup.kept now j sent.staged.kept)));
      } in
      let kept : Sent secrets setup after state = record {
        numbered = numbered_born (own_of setup) before s.sealed (without_ended s.sessions ended) (numbered_without (own_of setup) before s.sealed s.sessions ended told.numbered) now j new refl refl refl;
        sized = ((near, ni, nr), told.sized);
        short = short;
        rows = sent.rows;
        staged = staged;
      } in
      let answer : Answer = session_answer old j from g in
      let may : LightAnswer secrets setup after answer = record {
        under = under_has secrets g has;
        may = rikeying_may secrets setup after g.generation j.far g.secret j (sha256 old.cert) (ap sha256 old_cert) refl (inl (held_born j (facts_of before))) (inl (refl, opened_before)) near ni nr;
      } in
      let last : Meets secrets setup now call after (sent_answer state answer) = meets_light secrets setup now call after state own answer kept may in
      meets_after secrets setup now call past (fact_entries ended ++ FactEntry (Born j) ∷ []) (sent_answer state answer) (lines_either secrets setup now call past ended (Born j))
      (subst (λ (p : Past). Meets secrets setup now call p (sent_answer state answer)) (sym (entries_either now ended (Born j) past)) last)

  module _ (near : ℕ) (nr : List ℕ) (near_small : near < 2 ^ 32) (nr_small : length nr ≤ 16) (opened : EventOpenedIn secrets setup past g.generation) where
    -- what is kept of its birth answers a repeat
    by_kept : (p : List ℕ) (j : Joined) → BornHere (facts_of past) p j → (o : Option KeptKeying) → get s.startup.kept p ≡ o → Meets secrets setup now call past (keying_done (with_startup s s.startup) from g (again_by s.startup j from o))
    by_kept p j here None is = meets_nothing secrets setup now call past (with_startup s s.startup) (sent_same secrets setup past s sent)
    by_kept p j here (Some kept) is =
        let under = tied.holds.kept p kept is in
        let kept_from = sent.staged.kept p kept is in
        let same : kept_from.j ≡ j = one_born (held p (facts_of past)) kept_from.j j kept_from.is_held here.at in
        let born : BegunUnder secrets setup (HalfOpen j) kept.generation past = subst (λ (k : Joined). BegunUnder secrets setup (HalfOpen k) kept.generation past) same kept_from.born in
        meets_light secrets setup now call past (with_startup s s.startup) tied.own (kept_answer s.startup j from kept) (sent_same secrets setup past s sent) (record {
          under = record { secret = under.secret; known = under.known; keys_are = under.keys };
          may = kept_may secrets setup past kept.generation j.far kept.sign j (sha256 s.startup.cert) (omega (arith, under.sign)) (ap sha256 tied.cert) refl here.is_held born here.near here.ni here.nr;
        })

    by_repeat : (keying : Keying) (o : Option Joined) → length keying.ni ≤ 16 → repeated_session (held_with s.startup.ledger keying.peer) keying ≡ o →
        Meets secrets setup now call past (keying_done (with_startup s (after_again_or_birth s.startup keying near nr g o)) from g (again_or_birth s.startup keying from near nr g o))
    by_repeat keying (Some j) fine is = by_kept keying.peer j (born_here secrets setup past s sent tied keying.peer keying j is) (get s.startup.kept keying.peer) refl
    by_repeat keying None fine is =
        meets_birth (after_again_or_birth s.startup keying near nr g None) (way_made keying.peer (held_with s.startup.ledger keying.peer)) (born_session s.startup.ledger keying near nr)
        (kept_keying s.startup (born_session s.startup.ledger keying near nr) g)
        (short_without s.startup.attempts (opening_id (held_with s.startup.ledger keying.peer)) sent.short)
        (heard_own s.startup.ledger (heard s.startup.ledger keying near nr) ∙ tied.own) (way_light keying.peer (held_with s.startup.ledger keying.peer))
        (way_ends keying.peer (held_with s.startup.ledger keying.peer)) (tags_without past s.startup.attempts (opening_id (held_with s.startup.ledger keying.peer)) sent.staged.tags) (stages_without secrets past s.startup.attempts (opening_id (held_with s.startup.ledger keying.peer)) sent.staged.attempts) refl refl opened
        near_small fine nr_small s.startup tied.cert

    meets_change : (keying : InitiatorKeying) → length keying.cookie ≤ 128 → Meets secrets setup now call past (keying_done (with_startup s s.startup) from g (Some (Change (change_answer s.startup keying from s.moment g))))
    meets_change keying narrow =
        meets_light secrets setup now call past (with_startup s s.startup) tied.own (change_answer s.startup keying from s.moment g) (sent_same secrets setup past s sent) (record {
          under = under_has secrets g has;
          may = cookiechange_may secrets setup past g.generation keying.near keying.cookie (cookie_of s.startup.cookie_secret from s.moment) narrow (length-cookie_of s.startup.cookie_secret from s.moment);
        })

    by_test : (keying : InitiatorKeying) (test : CookieTest) → length keying.part.ni ≤ 16 → length keying.cookie ≤ 128 →
        Meets secrets setup now call past (keying_done (with_startup s (after_keyed_with s.startup near nr g keying test)) from g (keyed_with s.startup from s.moment near nr g keying test))
    by_test keying Current fine narrow = by_repeat (keying_of keying) (repeated_session (held_with s.startup.ledger (sha256 keying.cert)) (keying_of keying)) fine refl
    by_test keying Bad fine narrow = meets_change keying narrow
    by_test keying Moved fine narrow = meets_change keying narrow
    by_test keying Expired fine narrow = meets_change keying narrow

    by_reading : (payload : List ℕ) (read : Result InitiatorKeying Cause) → IsFine read → cause_by (initiator_cause s.startup payload from s.moment (full s) g) read ≡ None →
        Meets secrets setup now call past (keying_done (with_startup s (after_keyed_reading s.startup from s.moment near nr g read)) from g (keyed_reading s.startup from s.moment near nr g read))
    by_reading payload (Ok keying) fine none =
        let small : wide keying.cookie ≡ None =
        second_none (where_true (not (is_signed g.secret payload keying.sign)) BadSignature) (wide keying.cookie)
        (cookie_cause (cookie_test s.startup.cookie_secret keying.cookie from s.moment) (named_cause s.startup keying (full s))) none in
        let narrow : length keying.cookie ≤ 128 = ltb-false 128 (length keying.cookie) (test_fails (nat_lt 128 (length keying.cookie)) (Wide (length keying.cookie)) small) in
        by_test keying (cookie_test s.startup.cookie_secret keying.cookie from s.moment) fine narrow
    by_reading payload (Err cause) fine none = absurd (cc)

module _ (secrets : Secrets) (setup : Setup) (now : ℕ) (call : Call) (past : Past) (s : State) (sent : Sent secrets setup past s) (tied : Tied secrets setup past s) (from : AddressParts) where
  not_second : (b : Bool) (o : Option Cause) → (if b then Some SecondKeying else o) ≡ None → o ≡ None
  not_second true o e = absurd (cc)
  not_second false o e = e

  -- a keying of an initiator, in a datagram that opened in the generation of its place
  pub meets_initiator : (place : Place) (draws : Draws) (walk : Walk) (payload : List ℕ) → draws.word < 2 ^ 32 → length draws.nonce ≡ 16 → EventOpenedIn secrets setup past (group_at s place).generation → initiator_keying_cause s place walk from payload ≡ None →
      Meets secrets setup now call past (initiator_keyed s place from draws payload)
  meets_initiator place draws walk payload small nonce opened none =
      by_reading secrets setup now call past s sent tied from (group_at s place) (group_known secrets s tied.holds place) (free_from s draws.word) draws.nonce (small_free s draws.word small) (omega (arith, nonce)) opened payload (initiator_keying_in payload) (fine_keying payload) (not_second walk.keyed _ none)

-- ---- a session is opened

held_opened : (j : Joined) (earlier : List Fact) → held j.peer earlier ≡ Some (OpeningHeld j.n j.near j.ni) → held j.peer (Opened j ∷ earlier) ≡ Some (KeptAsInitiator j)
held_opened j earlier was = elim (same_end j.peer j.peer) [ inl d ↦ rw d.1 (ap (opened_thing j) was) | inr d ↦ absurd (d.0 refl) ]

module _ (secrets : Secrets) (setup : Setup) (now : ℕ) (call : Call) (past : Past) (s : State) (sent : Sent secrets setup past s) (tied : Tied secrets setup past s) (from : AddressParts) (near : ℕ) where
  abbrev g : GroupSecret
  g = attempt_group s.group (get s.startup.attempts near)

  has : HasSecret secrets g
  has = group_known secrets s tied.holds (Attempt near 0)

  meets_opened : (j : Joined) → held j.peer (facts_of past) ≡ Some (OpeningHeld j.n j.near j.ni) → EventOpenedIn secrets setup past g.generation → Meets secrets setup now call past (opening_done s j.near from g (Some (Opened j)))
  meets_opened j was opened =
      let x : Stamped = stamped now (FactEntry (Opened j)) in
      let after : Past = x ∷ past in
      let new : Row = new_row (new_session j s.startup.ledger.own Initiator from g.generation g.secret s.moment) in
      let state : State = with_row (with_startup s (after_opening s.startup j.near (Opened j))) j.near new in
      let lawful : AreLawful (own_of setup) 0 (facts_of past) = subst (λ (o : List ℕ). AreLawful o 0 (facts_of past)) tied.own tied.account.lawful in
      let kept : Sent secrets setup after state = record {
        numbered = numbered_opened (own_of setup) past s.sealed s.sessions sent.numbered now j new refl refl refl lawful was;
        sized = (tt, sent.sized);
        short = short_left s.startup.attempts j.near sent.short;
        rows = sent.rows;
        staged = record {
          tags = tags_quiet past (remove s.startup.attempts j.near) (tags_left past s.startup.attempts sent.staged.tags j.near) x refl refl;
          attempts = stages_beside secrets past (remove s.startup.attempts j.near) (stages_left secrets past s.startup.attempts sent.staged.attempts j.near) x (λ q. beside_quiet secrets q x refl refl refl);
          kept = kept_attempt secrets setup past s.startup.kept sent.staged.kept sent.sized now (Opened j) j.n j.near j.ni was;
        };
      } in
      let there : get state.sessions j.near ≡ Some new = get_inserted s.sessions j.near new in
      let ping : Meets secrets setup now call after (sent_by state j.near from (chunk_bytes (Ping [])) (Some new)) =
      meets_session secrets setup now call after state kept j.near new there (may_send_held secrets setup after new.session tied.own
      (record { secret = g.secret; known = has; keyed = keyed_begun refl g.generation j s.startup.ledger.own Initiator from s.moment }) (inl (refl, opened)) (held_opened j (facts_of past) was)) from (chunk_bytes (Ping [])) (one_is_modest (Ping []) (omega arith) (omega arith) (omega arith)) in
      meets_after secrets setup now call past (FactEntry (Opened j) ∷ []) (sent_in_session state j.near from (chunk_bytes (Ping []))) (tt, tt)
      (subst (λ (o : Option Row). Meets secrets setup now call after (sent_by state j.near from (chunk_bytes (Ping [])) o)) (sym there) ping)

  by_aim : (a : AttemptState) (keying : ResponderKeying) (aim : Aim) → a.aim ≡ aim → get s.startup.attempts near ≡ Some a → EventOpenedIn secrets setup past g.generation → Meets secrets setup now call past (opening_done s near from g (opened_as near keying a.ni aim))
  by_aim a keying (AtPeer peer n) aims is opened = meets_opened _ (attempt_held secrets setup past s tied near a peer n aims is) opened
  by_aim a keying (ByName _) aims is opened = meets_nothing secrets setup now call past s sent

  -- a keying of a responder, in a datagram that opened in the generation of the attempt as long as it is there
  module _ (opened : (a : AttemptState) → get s.startup.attempts near ≡ Some a → EventOpenedIn secrets setup past (attempt_group s.group (Some a)).generation) where
    by_attempt : (o : Option AttemptState) → get s.startup.attempts near ≡ o → (read : Result ResponderKeying Cause) → Meets secrets setup now call past (opening_done s near from g (opened_reading near o read))
    by_attempt None is read = meets_nothing secrets setup now call past s sent
    by_attempt (Some a) is (Ok keying) = by_aim a keying a.aim refl is (subst (λ (o : Option AttemptState). EventOpenedIn secrets setup past (attempt_group s.group o).generation) (sym is) (opened a is))
    by_attempt (Some a) is (Err cause) = meets_nothing secrets setup now call past s sent

    pub meets_responder : (payload : List ℕ) → Meets secrets setup now call past (responder_keyed s near from payload)
    meets_responder payload = by_attempt (get s.startup.attempts near) refl (responder_keying_in payload)
