-- An initiator's keying that isn't discarded: what is stated is lawful, and the state agrees with it.
use Rattle.std.proofs.Common.{◌≡◌, ◌≢◌, ℕ, ◌+◌, ◌<◌, ◌≤◌, ◌^◌, List, [], ◌∷◌, Bool, true, false, cond, Option, Some, None, inl, inr, refl, sym, ap, subst, ◌∙◌, arith}
use Rattle.std.specs.Prelude.{is_none}
use Rattle.std.specs.FinMap.{get, insert, remove}
use Rattle.sha2.specs.Sha256.{sha256}
use Rattle.rtmfp_base.proofs.Maps.{get_inserted, get_beside, len_new, found_left}
use Rattle.rtmfp_forms.specs.Address.{AddressParts}
use Rattle.rtmfp_packet.specs.declared.head.Mode.TheVariants.{Startup as StartupMode}
use Rattle.rtmfp_packet.specs.Walk.{Placed}
use Rattle.rtmfp_packet.specs.Whole.{Whole}
use Rattle.cookies.specs.declared.CookieTest.{CookieTest}
use Rattle.cookies.specs.declared.CookieTest.TheVariants.{Bad, Moved, Expired, Current}
use Rattle.cookies.specs.Cookie.{cookie_test}
use Rattle.glare_core.specs.declared.facts.Why.{Why}
use Rattle.glare_core.specs.declared.facts.Why.TheVariants.{Glare as ForGlare, Override as ForOverride}
use Rattle.glare_core.specs.declared.facts.Fact.{Fact}
use Rattle.glare_core.specs.declared.facts.Fact.TheVariants.{Born, Ended}
use Rattle.glare_core.specs.declared.facts.Joined.{Joined}
use Rattle.glare_core.specs.declared.facts.Held.{Held}
use Rattle.glare_core.specs.declared.facts.Held.TheVariants.{Opening, HalfOpen, KeptAsResponder, KeptAsInitiator}
use Rattle.glare_core.specs.declared.answers.Keying.{Keying}
use Rattle.glare_core.specs.declared.answers.Heard.{Heard}
use Rattle.glare_core.specs.declared.answers.Heard.TheVariants.{Birth}
use Rattle.glare_core.specs.Standing.{count}
use Rattle.glare_core.specs.Stands.{Stands, IsForBorn}
use Rattle.glare_core.specs.Things.{near_of}
use Rattle.glare_core.specs.Ledger.{Ledger, row_in, row_after, held_with, knows, noted}
use Rattle.glare_core.specs.Calls.{again_of, again_or, way_made, heard, heard_facts, heard_noted}
use Rattle.glare_core.specs.Account.{StandsFor, Gave}
use Rattle.glare_core.proofs.Maps.{known_inserted}
use Rattle.glare_core.proofs.Giving.{gave_heard}
use Rattle.std.specs.Str.{bytes_eq}
use Rattle.startup.specs.declared.answer.Answer.{Answer}
use Rattle.startup.specs.declared.answer.Keyed.TheVariants.{Birth as BirthKeyed}
use Rattle.startup_packets.specs.Readings.{InitiatorKeying}
use Rattle.startup.specs.Keyings.{keying_of, change_answer, session_answer, born_session, repeated_session, again_or_birth, keyed_with, keyed_reading, opening_id, without, after_again_or_birth, after_keyed_with, after_keyed_reading, kept_keying, again_by, kept_answer}
use Rattle.session_core.specs.declared.stage.Role.TheVariants.{Responder}
use Rattle.session_core.specs.Session.{new_session}
use Rattle.session_core.proofs.Keyed.{keyed_begun}
use Rattle.endpoint_model.specs.declared.row.Row.{Row}
use Rattle.endpoint_model.specs.declared.config.Draws.{Draws}
use Rattle.endpoint_model.specs.declared.entry.Entry.TheVariants.{Fact as FactEntry}
use Rattle.crypto_profile.specs.declared.keys.Context.TheVariants.{Startup as StartupContext}
use Rattle.endpoint_model.specs.Event.{Setup, Call, Receive, own_of}
use Rattle.endpoint_laws.specs.Contexts.{Secrets, OpensFirst, EventOpenedIn, startup_contexts}
use Rattle.endpoint_laws.specs.Past.{Past, stamped, onto, is_close, facts_of}
use Rattle.endpoint_model.specs.Keying.{IsAmong, IsFirst, chunks_of}
use Rattle.endpoint_laws.specs.Admissible.{Admissible}
use Rattle.endpoint_laws.specs.Lawful.{EndedLine}
use Rattle.endpoint_model.specs.declared.place.Place.TheVariants.{Startup as StartupPlace}
use Rattle.endpoint_model.specs.State.{State, new_row, Did, is_used, then_do, with_startup, free_from, full}
use Rattle.endpoint_model.specs.Sending.{sent_answer}
use Rattle.endpoint_model.specs.Effects.{keying_done, initiator_keyed}
use Rattle.endpoint_laws.proofs.Tied.{Tied}
use Rattle.endpoint_laws.proofs.Agrees.{Agrees, IsGiven, agrees_of, tied_of, used_elsewhere}
use Rattle.startup.proofs.Stepping.{held_after_own}
use Rattle.endpoint_laws.proofs.Moving.{rows_after_known, knows_held}
use Rattle.endpoint_laws.proofs.Facts.{stands_of}
use Rattle.endpoint_laws.proofs.Starting.{IsNew, new_id, is_free_of, room_left, row_left, rows_after_either}
use Rattle.endpoint_laws.proofs.Made.{answer_made}
use Rattle.endpoint_laws.proofs.Going.{Goes, goes_then, goes_sends, goes_nothing}
use Rattle.endpoint_laws.proofs.Admitting.{IsRead}
use Rattle.endpoint_laws.proofs.Bearing.{IsHeard, IsNamed, named_of, not_again, MayBear, may_bear, offer_of, admissible}
use Rattle.endpoint_laws.proofs.Birth.{held_used, agrees_end, agrees_born, attempt_id, without_id, without_thing, without_thing_is}
use Rattle.crypto_profile.specs.declared.group.GroupSecret.{GroupSecret}
use Rattle.startup.specs.State.{KeptKeyings, Attempts, AttemptState}
use Rattle.startup.specs.declared.kept.KeptKeying.{KeptKeying}
use Rattle.endpoint_laws.proofs.Kin.{IsKeptUnder, holds_left, group_known, born_kept}
use Rattle.endpoint_model.specs.Admission.{group_at}
use Rattle.endpoint_laws.specs.Groups.{HasSecret}

-- the cause for which a thing makes way
abbrev why_of : Held → Why
why_of (Opening n near ni) = ForGlare
why_of (HalfOpen j) = ForOverride
why_of (KeptAsResponder j) = ForOverride
why_of (KeptAsInitiator j) = ForOverride

way_opens : (thing : Held) → is_close (why_of thing) ≡ false
way_opens (Opening n near ni) = refl
way_opens (HalfOpen j) = refl
way_opens (KeptAsResponder j) = refl
way_opens (KeptAsInitiator j) = refl

for_born : (thing : Held) → IsForBorn (why_of thing)
for_born (Opening n near ni) = inl refl
for_born (HalfOpen j) = inr refl
for_born (KeptAsResponder j) = inr refl
for_born (KeptAsInitiator j) = inr refl

end_line : (secrets : Secrets) (setup : Setup) (now : ℕ) (call : Call) (past : Past) (peer : List ℕ) (thing : Held) (j : Joined) → j.peer ≡ peer → EndedLine secrets setup now call past (FactEntry (Born j) ∷ []) peer (near_of thing) (why_of thing)
end_line secrets setup now call past peer (Opening n near ni) j is = is
end_line secrets setup now call past peer (HalfOpen h) j is = is
end_line secrets setup now call past peer (KeptAsResponder h) j is = is
end_line secrets setup now call past peer (KeptAsInitiator h) j is = is

stands_before : (own : List ℕ) (l : Ledger) (last fact : Fact) (facts : List Fact) → l.own ≡ own → StandsFor 0 l (last ∷ fact ∷ facts) → Stands own (count facts) facts fact
stands_before own l last fact facts is s =
    let zero : 0 + count facts ≡ count facts = omega arith in
    subst (λ n. Stands own n facts fact) zero (subst (λ o. Stands o (0 + count facts) facts fact) is s.lawful.2.0)

either_true : (a b : Bool) → b ≡ true → cond a true b ≡ true
either_true true b e = refl
either_true false b e = e

module _ (secrets : Secrets) (setup : Setup) (from : AddressParts) (datagram : List ℕ) (draws : Draws) (most : setup.config.max_sessions ≤ 65536) (small : draws.word < 2 ^ 32) (past : Past) (s : State) (tied : Tied secrets setup past s) (keying : InitiatorKeying) (generation : ℕ)
    (group_is : (group_at s (StartupPlace generation)).generation ≡ generation) (event : EventOpenedIn secrets setup past generation) where
  abbrev call : Call
  call = Receive from datagram draws

  abbrev l : Ledger
  l = s.startup.ledger

  abbrev k : Keying
  k = keying_of keying

  abbrev j : Joined
  j = born_session l k (free_from s draws.word) draws.nonce

  -- the secret under which it came
  abbrev group : GroupSecret
  group = group_at s (StartupPlace generation)

  secret_known : HasSecret secrets group
  secret_known = group_known secrets s tied.holds (StartupPlace generation)

  opened_here : EventOpenedIn secrets setup past group.generation
  opened_here = subst (EventOpenedIn secrets setup past) (sym group_is) event

  abbrev answer : Answer
  answer = session_answer s.startup j from group

  -- what is kept of it for repeats
  abbrev kept_then : KeptKeyings
  kept_then = insert s.startup.kept k.peer (kept_keying s.startup j group)

  kept_known : (peer : List ℕ) (kept : KeptKeying) → get kept_then peer ≡ Some kept → IsKeptUnder secrets kept
  kept_known = born_kept secrets s tied.holds k.peer j group secret_known

  abbrev new : Row
  new = new_row (new_session j l.own Responder from group.generation group.secret s.moment)

  fresh_id : IsNew s j.near
  fresh_id = new_id secrets setup past s draws.word tied most small

  -- ---- where nothing is held

  abbrev alone : Did
  alone = record {
    state = record {
      config = s.config;
      moment = s.moment;
      sealed = s.sealed;
      limit = s.limit;
      group = s.group;
      next = s.next;
      startup = record { cert = s.startup.cert; cookie_secret = s.startup.cookie_secret; ledger = noted l (Born j); attempts = s.startup.attempts; kept = kept_then };
      sessions = insert s.sessions j.near new;
      introduces = s.introduces;
      redirects = s.redirects;
    };
    entries = FactEntry (Born j) ∷ [];
  }

  alone_goes : Admissible secrets setup past s.moment from datagram (offer_of keying) → MayBear s k → held_with l k.peer ≡ None → Gave l (Born j ∷ []) (noted l (Born j)) → Goes secrets setup call past s alone
  alone_goes admitted may unheld gave =
      let t : State = alone.state in
      let g = agrees_of secrets setup past s tied in
      let after = agrees_born secrets setup past s t s.moment j new g unheld fresh_id
      (record { config = g.given.config; cert = g.given.cert; holds = holds_left secrets s t g.given.holds refl refl (λ near a e. e) kept_known; current = g.given.current; next = g.given.next; cookie_secret = g.given.cookie_secret; own = g.given.own; max_peers = g.given.max_peers })
      (record {
        attempt = fresh_id.attempt;
        session = get_inserted s.sessions j.near new;
        attempts = λ q other. refl;
        sessions = λ q other. get_beside s.sessions j.near new q other;
      }) refl (omega (arith, len_new s.sessions j.near new fresh_id.session)) (omega arith, omega arith) (room_left secrets setup past s tied (may.place unheld))
      (rows_after_either l (Born j) setup.config.max_peers k.peer refl tied.rows (row_left secrets setup past s k.peer tied may.row)) refl
      (record { id = refl; own = tied.own; known = record { secret = group.secret; known = secret_known; keyed = keyed_begun refl group.generation j l.own Responder from s.moment }; begun = inl (refl, opened_here); stage = tt; closed = λ e. absurd (cc) }) in
      let account = gave 0 (facts_of past) tied.account in
      record {
        meets = (
          (
            (
              stands_of (own_of setup) (noted l (Born j)) (Born j) (facts_of past) tied.own account,
              record { before = past; way = inl refl; by = (admitted, refl); id = is_free_of secrets setup past s j.near tied fresh_id },
            ),
            tt,
          ),
          tt,
        );
        tied = tied_of secrets setup (stamped s.moment (FactEntry (Born j)) ∷ past) t after account (omega (arith, tied.few));
        moment = refl;
      }

  -- ---- where a thing makes way

  module _ (thing : Held) where
    abbrev ended : Fact
    ended = Ended k.peer (near_of thing) (why_of thing)

    abbrev after_way : Did
    after_way = record {
      state = record {
        config = s.config;
        moment = s.moment;
        sealed = s.sealed;
        limit = s.limit;
        group = s.group;
        next = s.next;
        startup = record { cert = s.startup.cert; cookie_secret = s.startup.cookie_secret; ledger = noted (noted l ended) (Born j); attempts = without_id s.startup.attempts (attempt_id thing); kept = kept_then };
        sessions = insert (remove s.sessions (near_of thing)) j.near new;
        introduces = s.introduces;
        redirects = s.redirects;
      };
      entries = FactEntry ended ∷ FactEntry (Born j) ∷ [];
    }

    way_goes : Admissible secrets setup past s.moment from datagram (offer_of keying) → held_with l k.peer ≡ Some thing → Gave l (Born j ∷ ended ∷ []) (noted (noted l ended) (Born j)) → Goes secrets setup call past s after_way
    way_goes admitted is gave =
        let t : State = after_way.state in
        let m : State = without_thing s ended thing in
        let middle : Past = stamped s.moment (FactEntry ended) ∷ past in
        let g = agrees_of secrets setup past s tied in
        let way = without_thing_is secrets setup past s ended k.peer thing g is in
        let given : IsGiven secrets setup middle m = record { config = g.given.config; cert = g.given.cert; holds = holds_left secrets s m g.given.holds refl refl (left_there s.startup.attempts (attempt_id thing)) g.given.holds.kept; current = g.given.current; next = g.given.next; cookie_secret = g.given.cookie_secret; own = g.given.own; max_peers = g.given.max_peers } in
        let first : Agrees secrets setup middle m = agrees_end secrets setup past s m s.moment k.peer thing (why_of thing) g is given (way_opens thing) way.at refl way.count (omega arith, omega arith) in
        let apart : j.near ≡ near_of thing → ⊥ = λ e. let clash : true ≡ false = sym (held_used secrets setup past s k.peer thing g is) ∙ ap (is_used s) (sym e) ∙ fresh_id.unused in cc in
        let free : IsNew m j.near = record {
          some = fresh_id.some;
          unused = used_elsewhere (near_of thing) None None s m way.at j.near apart ∙ fresh_id.unused;
          attempt = way.at.attempts j.near apart ∙ fresh_id.attempt;
          session = way.at.sessions j.near apart ∙ fresh_id.session;
        } in
        let unheld : held_with m.startup.ledger k.peer ≡ None = held_after_own l ended in
        let known = rows_after_known m.startup.ledger (Born j) setup.config.max_peers (still_known k.peer (knows_held l k.peer thing is)) first.rows in
        let after = agrees_born secrets setup middle m t s.moment j new first unheld free
        (record { config = g.given.config; cert = g.given.cert; holds = holds_left secrets s t g.given.holds refl refl (left_there s.startup.attempts (attempt_id thing)) kept_known; current = g.given.current; next = g.given.next; cookie_secret = g.given.cookie_secret; own = g.given.own; max_peers = g.given.max_peers })
        (record {
          attempt = free.attempt;
          session = get_inserted (remove s.sessions (near_of thing)) j.near new;
          attempts = λ q other. refl;
          sessions = λ q other. get_beside (remove s.sessions (near_of thing)) j.near new q other;
        }) refl (omega (arith, len_new (remove s.sessions (near_of thing)) j.near new free.session)) (omega arith, omega arith) (omega (arith, way.count, tied.within)) known refl
        (record { id = refl; own = tied.own; known = record { secret = group.secret; known = secret_known; keyed = keyed_begun refl group.generation j l.own Responder from s.moment }; begun = inl (refl, opened_here); stage = tt; closed = λ e. absurd (cc) }) in
        let account = gave 0 (facts_of past) tied.account in
        record {
          meets = (
            ((stands_before (own_of setup) (noted (noted l ended) (Born j)) (Born j) ended (facts_of past) tied.own account, end_line secrets setup s.moment call past k.peer thing j refl), tt),
            (
              (
                (
                  stands_of (own_of setup) (noted (noted l ended) (Born j)) (Born j) (ended ∷ facts_of past) tied.own account,
                  record {
                    before = past;
                    way = inr (near_of thing, why_of thing, for_born thing, refl);
                    by = (admitted, refl);
                    id = record { some = fresh_id.some; unused = sym (first.ids.used j.near) ∙ free.unused };
                  },
                ),
                tt,
              ),
              tt,
            ),
          );
          tied = tied_of secrets setup (stamped s.moment (FactEntry (Born j)) ∷ middle) t after account (omega (arith, tied.few));
          moment = refl;
        }
      where
        left_there : (attempts : Attempts) (gone : Option ℕ) (near : ℕ) (a : AttemptState) → get (without_id attempts gone) near ≡ Some a → get attempts near ≡ Some a
        left_there attempts None near a e = e
        left_there attempts (Some k) near a e = (found_left attempts k near a e).1

        still_known : (peer : List ℕ) → knows l peer ≡ true → knows (noted l ended) peer ≡ true
        still_known peer e = known_inserted l.rows k.peer (row_after ended (row_in l.rows k.peer)) peer ∙ either_true (bytes_eq k.peer peer) (knows l peer) e

  -- ---- by what is held

  -- what a birth does, by what was held
  abbrev born_by : Option Held → Did
  born_by o = keying_done
      (with_startup s (record { cert = s.startup.cert; cookie_secret = s.startup.cookie_secret; ledger = heard_noted l (Birth (way_made k.peer o) (Born j)); attempts = without s.startup.attempts (opening_id o); kept = kept_then }))
      from group (Some (BirthKeyed (way_made k.peer o) (Born j) answer))

  abbrev gave_by : Option Held → Type 0
  gave_by o = Gave l (heard_facts (Birth (way_made k.peer o) (Born j))) (heard_noted l (Birth (way_made k.peer o) (Born j)))

  then_answer : (d : Did) → Goes secrets setup call past s d → Goes secrets setup call past s (then_do d (λ t. sent_answer t answer))
  then_answer d goes = goes_then secrets setup call past s d (λ t. sent_answer t answer) goes (answer_made (goes_sends secrets setup call) d.state answer (onto s.moment d.entries past) goes.tied)

  born_goes : Admissible secrets setup past s.moment from datagram (offer_of keying) → MayBear s k → (o : Option Held) → held_with l k.peer ≡ o → gave_by o → Goes secrets setup call past s (born_by o)
  born_goes admitted may None is gave = then_answer alone (alone_goes admitted may is gave)
  born_goes admitted may (Some (Opening n near ni)) is gave = then_answer (after_way (Opening n near ni)) (way_goes (Opening n near ni) admitted is gave)
  born_goes admitted may (Some (HalfOpen h)) is gave = then_answer (after_way (HalfOpen h)) (way_goes (HalfOpen h) admitted is gave)
  born_goes admitted may (Some (KeptAsResponder h)) is gave = then_answer (after_way (KeptAsResponder h)) (way_goes (KeptAsResponder h) admitted is gave)
  born_goes admitted may (Some (KeptAsInitiator h)) is gave = then_answer (after_way (KeptAsInitiator h)) (way_goes (KeptAsInitiator h) admitted is gave)

  -- ---- by the cookie, and by the session that is held

  abbrev repeated_by : Option Joined → Did
  repeated_by o = keying_done (with_startup s (after_again_or_birth s.startup k j.near draws.nonce group o)) from group (again_or_birth s.startup k from j.near draws.nonce group o)

  abbrev tested_by : CookieTest → Did
  tested_by test = keying_done (with_startup s (after_keyed_with s.startup j.near draws.nonce group keying test)) from group (keyed_with s.startup from s.moment j.near draws.nonce group keying test)

  module _ (packet : Whole) (c : Placed) (read : IsRead secrets generation 0 datagram packet)
      (opens : OpensFirst secrets (startup_contexts setup past) 0 datagram (StartupContext generation) read.reads.plain) (mode : packet.head.mode ≡ StartupMode) (among : IsAmong c (chunks_of packet)) (first : IsFirst c (chunks_of packet)) (kind : c.kind ≡ 0x38) (is_heard : IsHeard s group from c.payload keying) where
    again_goes : (h : Joined) (kept : Option KeptKeying) → Goes secrets setup call past s (keying_done s from group (again_by s.startup h from kept))
    again_goes h None = goes_nothing secrets setup call s past tied
    again_goes h (Some kept) = answer_made (goes_sends secrets setup call) s (kept_answer s.startup h from kept) past tied

    repeated_goes : cookie_test s.startup.cookie_secret keying.cookie from s.moment ≡ Current → IsNamed s keying → (o : Option Joined) → repeated_session (held_with l k.peer) k ≡ o → Goes secrets setup call past s (repeated_by o)
    repeated_goes current named (Some h) is = again_goes h (get s.startup.kept k.peer)
    repeated_goes current named None is =
        let again : again_of (held_with l k.peer) k ≡ None = not_again (held_with l k.peer) k is in
        let may = may_bear s k again named.refusal in
        let birth : Heard = Birth (way_made k.peer (held_with l k.peer)) (Born j) in
        let same : heard l k j.near draws.nonce ≡ birth = ap (λ a. again_or a birth) again in
        let other : l.own ≢ k.peer = λ e. named.other_print (sym e ∙ tied.own ∙ sym (ap sha256 tied.cert)) in
        let gave = gave_heard l k j.near draws.nonce (is_none (full s)) other named.refusal in
        subst (λ h. Goes secrets setup call past s (keying_done
        (with_startup s (record { cert = s.startup.cert; cookie_secret = s.startup.cookie_secret; ledger = heard_noted l h; attempts = without s.startup.attempts (opening_id (held_with l k.peer)); kept = kept_then }))
        from group (Some (BirthKeyed (way_made k.peer (held_with l k.peer)) (Born j) answer)))) (sym same)
        (born_goes (admissible secrets setup past s from datagram packet c keying group generation (ap (get secrets) (sym group_is) ∙ secret_known) tied read opens mode among first kind is_heard current named may) may (held_with l k.peer) refl
        (subst (λ h. Gave l (heard_facts h) (heard_noted l h)) same gave))

    tested_goes : (test : CookieTest) → cookie_test s.startup.cookie_secret keying.cookie from s.moment ≡ test → Goes secrets setup call past s (tested_by test)
    tested_goes Bad is = answer_made (goes_sends secrets setup call) s (change_answer s.startup keying from s.moment group) past tied
    tested_goes Moved is = answer_made (goes_sends secrets setup call) s (change_answer s.startup keying from s.moment group) past tied
    tested_goes Expired is = answer_made (goes_sends secrets setup call) s (change_answer s.startup keying from s.moment group) past tied
    tested_goes Current is =
        repeated_goes is (named_of s keying (cookie_test s.startup.cookie_secret keying.cookie from s.moment) is is_heard.cause) (repeated_session (held_with l k.peer) k) refl

    pub goes_initiator : Goes secrets setup call past s (initiator_keyed s (StartupPlace generation) from draws c.payload)
    goes_initiator =
        subst (λ r. Goes secrets setup call past s (keying_done (with_startup s (after_keyed_reading s.startup from s.moment j.near draws.nonce group r)) from group (keyed_reading s.startup from s.moment j.near draws.nonce group r))) (sym is_heard.reads)
        (tested_goes (cookie_test s.startup.cookie_secret keying.cookie from s.moment) refl)
