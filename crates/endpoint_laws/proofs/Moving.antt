-- What the state agrees with after a change that states no fact, and after one fact.
use Rattle.std.proofs.Common.{◌≡◌, ℕ, ◌+◌, ◌<◌, ◌≤◌, ◌^◌, List, ◌∷◌, Bool, true, false, cond, Option, Some, None, is_some, ◌||◌, inl, inr, ◌⊎◌, refl, sym, ap, subst, ◌∙◌, arith}
use Rattle.std.specs.FinMap.{get}
use Rattle.glare_core.specs.declared.facts.Fact.{Fact}
use Rattle.glare_core.specs.declared.facts.Fact.TheVariants.{Started, Born, Opened, Confirmed, Ended}
use Rattle.glare_core.specs.declared.facts.Held.{Held}
use Rattle.glare_core.specs.declared.facts.Joined.{Joined}
use Rattle.glare_core.specs.Standing.{peer_of, after}
use Rattle.glare_core.specs.Things.{near_of}
use Rattle.glare_core.specs.Ledger.{Ledger, PeerRow, row_in, row_or_blank, row_after, held_with, knows, row_count, noted}
use Rattle.glare_core.proofs.Maps.{len_inserted}
use Rattle.rtmfp_base.proofs.Maps.{get_inserted, get_beside, len_known}
use Rattle.introducer.specs.Directory.{AddressRows}
use Rattle.glare_core.specs.declared.facts.Held.TheVariants.{Opening}
use Rattle.startup.specs.declared.aim.Aim.{Aim}
use Rattle.startup.specs.declared.aim.Aim.TheVariants.{AtPeer, ByName}
use Rattle.startup.specs.State.{AttemptState, FitsStage}
use Rattle.startup.specs.Attempts.{with_attempt}
use Rattle.session_core.specs.Session.{SessionState}
use Rattle.session_core.proofs.Keyed.{keyed_same}
use Rattle.session_core.specs.Closing.{is_held}
use Rattle.session_core.specs.declared.stage.Role.{Role}
use Rattle.session_core.specs.declared.stage.Role.TheVariants.{Initiator, Responder}
use Rattle.startup.proofs.Stepping.{held_after_own, held_after_other}
use Rattle.endpoint_model.specs.declared.row.Row.{Row}
use Rattle.endpoint_model.specs.declared.entry.Entry.TheVariants.{Fact as FactEntry, Closed}
use Rattle.endpoint_model.specs.Event.{Setup}
use Rattle.endpoint_laws.specs.Contexts.{Secrets}
use Rattle.endpoint_laws.specs.Past.{Stamped, Search, stamped, is_close, Closes, GoesOn, IsClosing, IsSearch, WasSought, started_id, unsought_id, fact_done, fact_and, closed_done, sought_done, unsought_done, learnt_done, advanced_done, current_after, current_of, next_left, next_after, next_of, last_call, facts_of, ids_in_use, ids_after, ids_left, ids_sought, Past}
use Rattle.glare_core.specs.Standing.{count}
use Rattle.endpoint_model.specs.Views.{NamedSearch, EndedSearch}
use Rattle.endpoint_laws.specs.OfTheLog.{WasThing}
use Rattle.endpoint_model.specs.State.{State, uses, is_used, with_row, with_startup}
use Rattle.endpoint_laws.proofs.Matching.{Found, of_peer, Matches, changed_matches, Ids, ids_same}
use Rattle.glare_core.specs.Account.{StandsFor}
use Rattle.endpoint_model.proofs.Members.{tested}
use Rattle.endpoint_laws.proofs.Tied.{Tied, IsKept, IsKeptIn, AreBy, by_later, closing_by, StageFits, IsClosed, IsClosedThing, HasKeys, thing_of, found_in}
use Rattle.endpoint_laws.proofs.Begun.{born_thing, born_fact, begun_after, begun_on, begun_like}
use Rattle.endpoint_laws.proofs.Agrees.{Agrees, IsOurs, IsGiven, IsAt, Fits, GoesOnBeside, ClosesAt, SearchesAt, WasStarted, started_still, combined, thing_at, thing_here, thing_elsewhere, used_here, used_elsewhere, found_of_attempt, found_of_peer, found_at, held_row_is, closing_row_is, none_closes, no_attempt, agrees_changed, agrees_of, tied_of}
use Rattle.crypto_profile.specs.declared.group.GroupSecret.{GroupSecret}
use Rattle.endpoint_laws.specs.Groups.{number_in}
use Rattle.endpoint_laws.proofs.Kin.{HoldsSecrets, holds_still, IsKin}

-- ---- the ledger after a fact

held_known : (o : Option PeerRow) (h : Held) → (row_or_blank o).held ≡ Some h → is_some o ≡ true
held_known None h e = absurd (cc)
held_known (Some row) h e = refl

pub knows_held : (l : Ledger) (peer : List ℕ) (h : Held) → held_with l peer ≡ Some h → knows l peer ≡ true
knows_held l peer h e = held_known (get l.rows peer) h e

rows_known : (known : Bool) (n most : ℕ) → known ≡ true → n ≤ most → cond known n (n + 1) ≤ most
rows_known true n most e few = few
rows_known false n most e few = absurd (cc)

rows_new : (known : Bool) (n most : ℕ) → n < most → cond known n (n + 1) ≤ most
rows_new true n most few = omega arith
rows_new false n most few = omega arith

pub rows_after_known : (l : Ledger) (fact : Fact) (most : ℕ) → knows l (peer_of fact) ≡ true → row_count l ≤ most → row_count (noted l fact) ≤ most
rows_after_known l fact most known few =
    subst (λ n. n ≤ most) (sym (len_inserted l.rows (peer_of fact) (row_after fact (row_in l.rows (peer_of fact))))) (rows_known (knows l (peer_of fact)) (row_count l) most known few)

pub rows_after_new : (l : Ledger) (fact : Fact) (most : ℕ) → row_count l < most → row_count (noted l fact) ≤ most
rows_after_new l fact most few =
    subst (λ n. n ≤ most) (sym (len_inserted l.rows (peer_of fact) (row_after fact (row_in l.rows (peer_of fact))))) (rows_new (knows l (peer_of fact)) (row_count l) most few)

-- ---- what stands under the session IDs, after a fact

pub noted_matches : (s t : State) (fact : Fact) (near : ℕ) (oa : Option AttemptState) (os : Option Row) → Matches (thing_at s) (held_with s.startup.ledger) → IsAt near oa os s t →
    t.startup.ledger ≡ noted s.startup.ledger fact → thing_at s near ≡ of_peer (peer_of fact) (held_with s.startup.ledger (peer_of fact)) →
    combined near oa os ≡ of_peer (peer_of fact) (after fact (held_with s.startup.ledger (peer_of fact))) →
    ((h : Held) → after fact (held_with s.startup.ledger (peer_of fact)) ≡ Some h → near_of h ≡ near) → Matches (thing_at t) (held_with t.startup.ledger)
noted_matches s t fact near oa os m at ledger was here id =
    let own : held_with t.startup.ledger (peer_of fact) ≡ after fact (held_with s.startup.ledger (peer_of fact)) = ap (λ (l : Ledger). held_with l (peer_of fact)) ledger ∙ held_after_own s.startup.ledger fact in
    changed_matches near (peer_of fact) (thing_at s) (thing_at t) (held_with s.startup.ledger) (held_with t.startup.ledger) m (record {
      here = thing_here near oa os s t at ∙ here ∙ sym (ap (of_peer (peer_of fact)) own);
      id = λ h e. id h (sym own ∙ e);
      elsewhere = thing_elsewhere near oa os s t at;
      others = λ p other. ap (λ (l : Ledger). held_with l p) ledger ∙ held_after_other s.startup.ledger fact p other;
      was = was;
    })

-- ---- closings, after one entry

-- A fact ends nothing, takes no search and begins no session but under this session ID.
abbrev pub EndsAt : ℕ → Fact → Type 0
EndsAt near (Started peer n id ni) = id ≡ near
EndsAt near (Born j) = j.near ≡ near
EndsAt near (Opened j) = j.near ≡ near
EndsAt near (Confirmed peer id) = Unit {0}
EndsAt near (Ended peer id why) = id ≡ near

-- It closes nothing.
abbrev pub IsNoClose : Fact → Type 0
IsNoClose (Started peer n id ni) = Unit {0}
IsNoClose (Born j) = Unit {0}
IsNoClose (Opened j) = Unit {0}
IsNoClose (Confirmed peer id) = Unit {0}
IsNoClose (Ended peer id why) = is_close why ≡ false

closes_elsewhere : (near q : ℕ) (thing : Held) (facts : List Fact) (fact : Fact) → EndsAt near fact → (q ≡ near → ⊥) → Closes q thing facts (Some fact) → ⊥
closes_elsewhere near q thing facts (Started peer n id ni) ends other c = c
closes_elsewhere near q thing facts (Born j) ends other c = c
closes_elsewhere near q thing facts (Opened j) ends other c = c
closes_elsewhere near q thing facts (Confirmed peer id) ends other c = c
closes_elsewhere near q thing facts (Ended peer id why) ends other c = other (sym c.0 ∙ ends)

not_both : (b : Bool) → b ≡ true → b ≡ false → ⊥
not_both b p q = let e : true ≡ false = sym p ∙ q in cc

closes_none : (near : ℕ) (thing : Held) (facts : List Fact) (fact : Fact) → IsNoClose fact → Closes near thing facts (Some fact) → ⊥
closes_none near thing facts (Started peer n id ni) none c = c
closes_none near thing facts (Born j) none c = c
closes_none near thing facts (Opened j) none c = c
closes_none near thing facts (Confirmed peer id) none c = c
closes_none near thing facts (Ended peer id why) none c = not_both (is_close why) c.1 none

goes_elsewhere : (near q : ℕ) (fact : Fact) → EndsAt near fact → (q ≡ near → ⊥) → GoesOn q (started_id (Some fact))
goes_elsewhere near q (Started peer n id ni) ends other = λ e. other (sym e ∙ ends)
goes_elsewhere near q (Born j) ends other = tt
goes_elsewhere near q (Opened j) ends other = tt
goes_elsewhere near q (Confirmed peer id) ends other = tt
goes_elsewhere near q (Ended peer id why) ends other = tt

begins_at : (near : ℕ) (role : Role) (j : Joined) → EndsAt near (born_fact role j) → j.near ≡ near
begins_at near Initiator j e = e
begins_at near Responder j e = e

pub beside_fact : (near moment : ℕ) (past : Past) (fact : Fact) → EndsAt near fact → GoesOnBeside near past (stamped moment (FactEntry fact) ∷ past)
beside_fact near moment past fact ends = record {
  done = λ x w. inr w;
  closing = λ q other thing at c. inr (tt, c);
  back = λ q other thing at c. elim c [
    | inl b ↦ absurd (closes_elsewhere near q thing (facts_of past) fact ends other b.0)
    | inr p ↦ p.1
  ];
  sought = λ q other which at there. inr (tt, goes_elsewhere near q fact ends other, there);
  before = λ q other which at there. elim there [ inl b ↦ absurd b.0 | inr p ↦ p.2 ];
  begun = λ q other secrets setup role j id generation begun.
      begun_after secrets setup role j generation past moment fact (λ e. other (sym id ∙ begins_at near role j (subst (EndsAt near) e ends))) begun;
}

pub beside_closed : (near moment : ℕ) (past : Past) → GoesOnBeside near past (stamped moment (Closed near) ∷ past)
beside_closed near moment past = record {
  done = λ x w. inr w;
  closing = λ q other thing at c. inr ((λ e. other (sym e)), c);
  back = λ q other thing at c. elim c [ inl b ↦ absurd b.0 | inr p ↦ p.1 ];
  sought = λ q other which at there. inr (tt, tt, there);
  before = λ q other which at there. elim there [ inl b ↦ absurd b.0 | inr p ↦ p.2 ];
  begun = λ q other secrets setup role j id generation begun. begun_on secrets setup (born_thing role j) generation past (stamped moment (Closed near)) refl begun;
}

pub beside_same : (near : ℕ) (past : Past) → GoesOnBeside near past past
beside_same near past = record { done = λ x w. w; closing = λ q other thing at c. c; back = λ q other thing at c. c; sought = λ q other which at there. there; before = λ q other which at there. there; begun = λ q other secrets setup role j id generation begun. begun }

-- where no search was, none is after a fact
pub still_unsought : (past : Past) (near moment : ℕ) (fact : Fact) → ((which : Search) (at : ℕ) → IsSearch near which at past → ⊥) → (o : Option AttemptState) → SearchesAt (stamped moment (FactEntry fact) ∷ past) near o
still_unsought past near moment fact none o which at there = elim there [ inl b ↦ absurd b.0 | inr p ↦ absurd (none which at p.2) ]

pub none_sought : (past : Past) (near : ℕ) (o : Option AttemptState) → SearchesAt past near o → o ≡ None → (which : Search) (at : ℕ) → IsSearch near which at past → ⊥
none_sought past near o searching none which at there = subst (λ (x : Option AttemptState). IsKeptIn x which at) none (searching which at there)

-- where something was held, nothing closes after a fact that closes nothing
pub still_none : (secrets : Secrets) (setup : Setup) (past : Past) (s : State) → Agrees secrets setup past s → (near : ℕ) (p : List ℕ) (h : Held) → thing_at s near ≡ Some (p, h) → (moment : ℕ) (fact : Fact) → IsNoClose fact →
    (o : Option Row) → ClosesAt (stamped moment (FactEntry fact) ∷ past) near o
still_none secrets setup past s a near p h is moment fact still o thing at c = elim c [
  | inl b ↦ absurd (closes_none near thing (facts_of past) fact still b.0)
  | inr q ↦ absurd (none_closes secrets setup past s a near p h is thing at q.1)
]

-- nor where nothing stood
pub none_there_still : (past : Past) (near : ℕ) (before : Option Row) → ClosesAt past near before → before ≡ None → (moment : ℕ) (fact : Fact) → IsNoClose fact →
    (o : Option Row) → ClosesAt (stamped moment (FactEntry fact) ∷ past) near o
none_there_still past near before closes none moment fact still o thing at c = elim c [
  | inl b ↦ absurd (closes_none near thing (facts_of past) fact still b.0)
  | inr q ↦ absurd (subst (λ (x : Option Row). IsClosedThing x thing) none (closes thing at q.1))
]

-- ---- changes without a fact

pub same_matches : (at at' : ℕ → Found) (held : List ℕ → Option Held) → ((q : ℕ) → at' q ≡ at q) → Matches at held → Matches at' held
same_matches at at' held same m = record {
  found = λ near p h e. m.found near p h (sym (same near) ∙ e);
  there = λ p h e. same (near_of h) ∙ m.there p h e;
}

some_or : (a b : Bool) → (a ≡ true) ⊎ (b ≡ true) → (a || b) ≡ true
some_or true b e = refl
some_or false b (inl e) = absurd (cc)
some_or false b (inr e) = e

-- what stands under one session ID is replaced by the same thing
pub agrees_same : (secrets : Secrets) (setup : Setup) (past : Past) (s t : State) (near : ℕ) (oa : Option AttemptState) (os : Option Row) → Agrees secrets setup past s → IsGiven secrets setup past t → IsAt near oa os s t →
    t.startup.ledger ≡ s.startup.ledger → combined near oa os ≡ thing_at s near → (is_some oa || is_some os) ≡ is_used s near → uses t ≡ uses s → t.moment ≡ s.moment → Fits secrets setup past near oa os → ClosesAt past near os → SearchesAt past near oa →
    Agrees secrets setup past t
agrees_same secrets setup past s t near oa os a given at ledger same used count moment fits closes searches =
    let all : (q : ℕ) → thing_at t q ≡ thing_at s q = λ q. elim (same_number q near) [
      | inl is ↦ ap (thing_at t) is ∙ thing_here near oa os s t at ∙ same ∙ ap (thing_at s) (sym is)
      | inr is ↦ thing_elsewhere near oa os s t at q is
    ] in
    let all_used : (q : ℕ) → is_used t q ≡ is_used s q = λ q. elim (same_number q near) [
      | inl is ↦ ap (is_used t) is ∙ used_here near oa os s t at ∙ used ∙ ap (is_used s) (sym is)
      | inr is ↦ used_elsewhere near oa os s t at q is
    ] in
    agrees_changed secrets setup past past s t near oa os a given at
    (subst (λ (l : Ledger). Matches (thing_at t) (held_with l)) (sym ledger) (same_matches (thing_at s) (thing_at t) (held_with s.startup.ledger) all a.matches))
    fits (beside_same near past) closes searches (ids_same setup.config.max_sessions (ids_in_use past) s t a.ids all_used count)
    (subst (λ (m : ℕ). AreBy m past) (sym moment) a.by_now)
    (subst (λ (l : Ledger). row_count l ≤ setup.config.max_peers) (sym ledger) a.rows)
  where
    same_number : (q k : ℕ) → (q ≡ k) ⊎ (q ≡ k → ⊥)
    same_number q k = elim (tested q k) [ inl is ↦ inl is.0 | inr is ↦ inr is.0 ]

-- a session that is the same one, held or closing as before; its stage may have begun at this moment
pub record IsAlike (moment : ℕ) (old new : SessionState) : Type 0 where
  pub joined : new.joined ≡ old.joined
  pub own : new.own ≡ old.own
  pub generation : new.generation ≡ old.generation
  pub inward : new.inward ≡ old.inward
  pub outward : new.outward ≡ old.outward
  pub role : new.role ≡ old.role
  pub held : is_held new.stage ≡ is_held old.stage
  pub thing : is_held old.stage ≡ true → thing_of new.role new.stage new.joined ≡ thing_of old.role old.stage old.joined
  pub stage : StageFits old.role old.stage → StageFits new.role new.stage
  pub since : is_held old.stage ≡ false → (new.since ≡ old.since) ⊎ (new.since ≡ moment)

pub alike_itself : (moment : ℕ) (session : SessionState) → IsAlike moment session session
alike_itself moment session = record { joined = refl; own = refl; generation = refl; inward = refl; outward = refl; role = refl; held = refl; thing = λ e. refl; stage = λ f. f; since = λ e. inl refl }

either_way : (b : Bool) → (b ≡ true) ⊎ (b ≡ false)
either_way true = inl refl
either_way false = inr refl

alike_found : (moment : ℕ) (old new : Row) → IsAlike moment old.session new.session → found_in (Some new) ≡ found_in (Some old)
alike_found moment old new a = elim (either_way (is_held old.session.stage)) [
  | inl e ↦
      held_row_is new (a.held ∙ e) ∙ ap (λ (q : List ℕ). Some (q, thing_of new.session.role new.session.stage new.session.joined)) (ap (λ j. j.peer) a.joined)
      ∙ ap (λ (h : Held). Some (old.session.joined.peer, h)) (a.thing e) ∙ sym (held_row_is old e)
  | inr e ↦ closing_row_is new (a.held ∙ e) ∙ sym (closing_row_is old e)
]

was_alike : (moment : ℕ) (old new : SessionState) (thing : Held) → IsAlike moment old new → WasThing old.role old.joined thing → WasThing new.role new.joined thing
was_alike moment old new thing a w = subst (λ r. WasThing r new.joined thing) (sym a.role) (subst (λ j. WasThing old.role j thing) (sym a.joined) w)

closed_alike : (moment : ℕ) (past : Past) (near : ℕ) (old new : SessionState) → IsAlike moment old new → AreBy moment past → is_held old.stage ≡ false → IsClosed past near old → IsClosed past near new
closed_alike moment past near old new a are e c = record {
  thing = c.thing;
  at = c.at;
  was = was_alike moment old new c.thing a c.was;
  closing = c.closing;
  since = elim (a.since e) [
    | inl same ↦ omega (arith, c.since, same)
    | inr now ↦ omega (arith, closing_by moment near c.thing c.at past are c.closing, now)
  ];
}

pub known_alike : (secrets : Secrets) (moment : ℕ) (old new : SessionState) → IsAlike moment old new → HasKeys secrets old → HasKeys secrets new
known_alike secrets moment old new a is =
    record { secret = is.secret; known = ap (get secrets) a.generation ∙ is.known; keyed = keyed_same is.secret old new a.joined a.own a.role a.generation a.inward a.outward is.keyed }

pub ours_alike : (secrets : Secrets) (setup : Setup) (moment : ℕ) (past : Past) (near : ℕ) (old new : SessionState) → IsAlike moment old new → AreBy moment past → IsOurs secrets setup past near old → IsOurs secrets setup past near new
ours_alike secrets setup moment past near old new a are ours = record {
  id = ap (λ j. j.near) a.joined ∙ ours.id;
  own = a.own ∙ ours.own;
  known = known_alike secrets moment old new a ours.known;
  begun = begun_like secrets setup past old new a.role a.joined a.generation ours.begun;
  stage = a.stage ours.stage;
  closed = λ e. let before = sym a.held ∙ e in closed_alike moment past near old new a are before (ours.closed before);
}

closes_alike : (moment : ℕ) (past : Past) (near : ℕ) (o : Option Row) (old new : Row) → ClosesAt past near o → o ≡ Some old → IsAlike moment old.session new.session → ClosesAt past near (Some new)
closes_alike moment past near o old new closes is a thing at c =
    let before : IsClosedThing (Some old) thing = subst (λ (x : Option Row). IsClosedThing x thing) is (closes thing at c) in
    (a.held ∙ before.0, was_alike moment old.session new.session thing a before.1)

-- a session is replaced by one like it
pub tied_session : (secrets : Secrets) (setup : Setup) (past : Past) (s : State) (near : ℕ) (old new : Row) → Tied secrets setup past s → get s.sessions near ≡ Some old →
    IsAlike s.moment old.session new.session → Tied secrets setup past (with_row s near new)
tied_session secrets setup past s near old new tied is alike =
    let t : State = with_row s near new in
    let a = agrees_of secrets setup past s tied in
    let none = no_attempt s near old (a.apart near) is in
    tied_of secrets setup past t (agrees_same secrets setup past s t near None (Some new) a (record { config = a.given.config; cert = a.given.cert; holds = holds_still secrets s t a.given.holds refl refl refl; current = a.given.current; next = a.given.next; cookie_secret = a.given.cookie_secret; own = a.given.own; max_peers = a.given.max_peers }) (record {
      attempt = none;
      session = get_inserted s.sessions near new;
      attempts = λ q other. refl;
      sessions = λ q other. get_beside s.sessions near new q other;
    }) refl (alike_found s.moment old new alike ∙ sym (found_at s near old none is))
    (sym (some_or (is_some (get s.startup.attempts near)) (is_some (get s.sessions near)) (inr (ap (λ (o : Option Row). is_some o) is))))
    (omega (arith, len_known s.sessions near new old is)) refl (ours_alike secrets setup s.moment past near old.session new.session alike a.by_now (a.ours near old is))
    (closes_alike s.moment past near (get s.sessions near) old new (a.closing near) is alike) (subst (λ (o : Option AttemptState). SearchesAt past near o) none (a.searching near))) tied.account tied.few

-- what stands where an attempt is isn't closing
attempt_is_open : (secrets : Secrets) (setup : Setup) (past : Past) (s : State) → Agrees secrets setup past s → (near : ℕ) (old : AttemptState) (aim : Aim) → old.aim ≡ aim → get s.startup.attempts near ≡ Some old →
    (thing : Held) (at : ℕ) → IsClosing near thing at past → ⊥
attempt_is_open secrets setup past s a near old (AtPeer peer n) aims is thing at c = none_closes secrets setup past s a near peer (Opening n near old.ni) (found_of_peer s near old peer n is aims) thing at c
attempt_is_open secrets setup past s a near old (ByName name) aims is thing at c = subst (λ (o : Option Row). IsClosedThing o thing) (a.apart near old is) (a.closing near thing at c)

-- an attempt is replaced by one with the same values
pub tied_attempt : (secrets : Secrets) (setup : Setup) (past : Past) (s : State) (near : ℕ) (old new : AttemptState) → Tied secrets setup past s → get s.startup.attempts near ≡ Some old →
    combined near (Some new) None ≡ combined near (Some old) None → (WasStarted past near old → WasStarted past near new) → FitsStage new.aim new.stage → ((which : Search) (at : ℕ) → IsKept old which at → IsKept new which at) →
    IsKin s (with_attempt s.startup near new) → Tied secrets setup past (with_startup s (with_attempt s.startup near new))
tied_attempt secrets setup past s near old new tied is same was stage kept kin =
    let t : State = with_startup s (with_attempt s.startup near new) in
    let a = agrees_of secrets setup past s tied in
    let there = found_of_attempt s near old is in
    tied_of secrets setup past t (agrees_same secrets setup past s t near (Some new) None a (record { config = a.given.config; cert = a.given.cert; holds = kin.holds secrets a.given.holds; current = a.given.current; next = a.given.next; cookie_secret = a.given.cookie_secret; own = a.given.own; max_peers = a.given.max_peers }) (record {
      attempt = get_inserted s.startup.attempts near new;
      session = a.apart near old is;
      attempts = λ q other. get_beside s.startup.attempts near new q other;
      sessions = λ q other. refl;
    }) refl (same ∙ sym there)
    (sym (some_or (is_some (get s.startup.attempts near)) (is_some (get s.sessions near)) (inl (ap (λ (o : Option AttemptState). is_some o) is))))
    (omega (arith, len_known s.startup.attempts near new old is)) refl (was (a.started near old is), stage) (λ thing at c. attempt_is_open secrets setup past s a near old old.aim refl is thing at c)
    (λ which at there. kept which at (subst (λ (o : Option AttemptState). IsKeptIn o which at) is (a.searching near which at there)))) tied.account tied.few

-- More was done that states no fact, ends no closing, and says nothing of searches, whatever it says of generations.
pub tied_generations : (secrets : Secrets) (setup : Setup) (past : Past) (s : State) (x : Stamped) → x.moment ≤ s.moment → fact_done x.what ≡ None → closed_done x.what ≡ None → sought_done x.what ≡ None → unsought_done x.what ≡ None →
    (group : GroupSecret) (next : Option GroupSecret) → HoldsSecrets secrets (record s { group = group; next = next }) → group.generation ≡ current_of setup (x ∷ past) → number_in next ≡ next_of (x ∷ past) → Tied secrets setup past s →
    Tied secrets setup (x ∷ past) (record s { group = group; next = next })
tied_generations secrets setup past s x in_time no_fact no_closed no_sought no_unsought group next holds current number t =
    let facts : facts_of (x ∷ past) ≡ facts_of past = ap (λ (o : Option Fact). fact_and o (facts_of past)) no_fact in
    let ids : ids_in_use (x ∷ past) ≡ ids_in_use past =
    ap (λ (o : Option NamedSearch). ids_sought o (ids_left (unsought_id (unsought_done x.what)) (ids_left (closed_done x.what) (ids_after (fact_done x.what) (ids_in_use past))))) no_sought
    ∙ ap (λ (o : Option EndedSearch). ids_left (unsought_id o) (ids_left (closed_done x.what) (ids_after (fact_done x.what) (ids_in_use past)))) no_unsought
    ∙ ap (λ (o : Option ℕ). ids_left o (ids_after (fact_done x.what) (ids_in_use past))) no_closed ∙ ap (λ (o : Option Fact). ids_after o (ids_in_use past)) no_fact in
    let still : (q : ℕ) (which : Search) (at : ℕ) → IsSearch q which at past → IsSearch q which at (x ∷ past) =
    λ q which at there. inr (subst (λ (o : Option EndedSearch). GoesOn q (unsought_id o)) (sym no_unsought) tt, subst (λ (o : Option Fact). GoesOn q (started_id o)) (sym no_fact) tt, there) in
    let before : (q : ℕ) (which : Search) (at : ℕ) → IsSearch q which at (x ∷ past) → IsSearch q which at past = λ q which at there. elim there [
      | inl b ↦ absurd (subst (λ (o : Option NamedSearch). WasSought q which o (last_call past)) no_sought b.0)
      | inr p ↦ p.2
    ] in
    let on : (q : ℕ) (thing : Held) (at : ℕ) → IsClosing q thing at past → IsClosing q thing at (x ∷ past) = λ q thing at c. inr (subst (GoesOn q) (sym no_closed) tt, c) in
    let back : (q : ℕ) (thing : Held) (at : ℕ) → IsClosing q thing at (x ∷ past) → IsClosing q thing at past = λ q thing at c. elim c [
      | inl b ↦ absurd (subst (Closes q thing (facts_of past)) no_fact b.0)
      | inr p ↦ p.1
    ] in
    let new : State = record s { group = group; next = next } in
    let P : List ℕ → Type 0 = λ f. Ids setup.config.max_sessions f new in
    let a = agrees_of secrets setup past s t in
    tied_of secrets setup (x ∷ past) new (record {
      given = record {
        config = a.given.config;
        cert = a.given.cert;
        holds = holds;
        current = current;
        next = number;
        cookie_secret = a.given.cookie_secret;
        own = a.given.own;
        max_peers = a.given.max_peers;
      };
      matches = record { found = a.matches.found; there = a.matches.there };
      ours = λ near row e.
          let o = a.ours near row e in
          record {
            id = o.id;
            own = o.own;
            known = o.known;
            begun = begun_on secrets setup (born_thing row.session.role row.session.joined) row.session.generation past x no_fact o.begun;
            stage = o.stage;
            closed = λ c. let d = o.closed c in record { thing = d.thing; at = d.at; was = d.was; closing = on near d.thing d.at d.closing; since = d.since };
          };
      closing = λ near thing at c. a.closing near thing at (back near thing at c);
      apart = a.apart;
      started = λ near b e. started_still past (x ∷ past) near b b.aim (λ y was. inr was) (λ which at there. still near which at there) (a.started near b e);
      searching = λ near which at there. a.searching near which at (before near which at there);
      stages = a.stages;
      ids = subst P (sym ids) (record { used = a.ids.used; count = a.ids.count; once = a.ids.once; not_zero = a.ids.not_zero; within = a.ids.within });
      by_now = (in_time, a.by_now);
      rows = a.rows;
    }) (subst (StandsFor 0 s.startup.ledger) (sym facts) t.account) (subst (λ (f : List Fact). count f < 2 ^ 64) (sym facts) t.few)

-- and nothing of generations
pub tied_more : (secrets : Secrets) (setup : Setup) (past : Past) (s : State) (x : Stamped) → x.moment ≤ s.moment → fact_done x.what ≡ None → closed_done x.what ≡ None → sought_done x.what ≡ None → unsought_done x.what ≡ None →
    learnt_done x.what ≡ None → advanced_done x.what ≡ None → Tied secrets setup past s → Tied secrets setup (x ∷ past) s
tied_more secrets setup past s x in_time no_fact no_closed no_sought no_unsought no_learnt no_advanced t =
    tied_generations secrets setup past s x in_time no_fact no_closed no_sought no_unsought s.group s.next t.holds (t.current ∙ sym (ap (λ (o : Option ℕ). current_after o (current_of setup past)) no_advanced))
    (t.next ∙ sym (ap (λ (o : Option ℕ). next_after o (next_left (advanced_done x.what) (next_of past))) no_learnt ∙ ap (λ (o : Option ℕ). next_left o (next_of past)) no_advanced)) t

-- what doesn't touch what is held
pub tied_alike : (secrets : Secrets) (setup : Setup) (past : Past) (s : State) (moment sealed : ℕ) → s.moment ≤ moment → Tied secrets setup past s →
    Tied secrets setup past (record s { moment = moment; sealed = sealed })
tied_alike secrets setup past s moment sealed up t = record {
  config = t.config;
  cert = t.cert;
  holds = holds_still secrets s (record s { moment = moment; sealed = sealed }) t.holds refl refl refl;
  current = t.current;
  next = t.next;
  cookie_secret = t.cookie_secret;
  own = t.own;
  max_peers = t.max_peers;
  account = t.account;
  sound = t.sound;
  sessions = t.sessions;
  there = t.there;
  closing = t.closing;
  apart = t.apart;
  started = t.started;
  searching = t.searching;
  used = t.used;
  count = t.count;
  once = t.once;
  not_zero = t.not_zero;
  by_now = by_later s.moment moment past up t.by_now;
  within = t.within;
  rows = t.rows;
  few = t.few;
}

-- whom an end introduces, and which packets go out whole, touches nothing of it
pub tied_unseen : (secrets : Secrets) (setup : Setup) (past : Past) (s : State) (limit : ℕ) (introduces : Bool) (redirects : AddressRows) → Tied secrets setup past s → Tied secrets setup past (record s { limit = limit; introduces = introduces; redirects = redirects })
tied_unseen secrets setup past s limit introduces redirects t = record {
  config = t.config;
  cert = t.cert;
  holds = holds_still secrets s (record s { limit = limit; introduces = introduces; redirects = redirects }) t.holds refl refl refl;
  current = t.current;
  next = t.next;
  cookie_secret = t.cookie_secret;
  own = t.own;
  max_peers = t.max_peers;
  account = t.account;
  sound = t.sound;
  sessions = t.sessions;
  there = t.there;
  closing = t.closing;
  apart = t.apart;
  started = t.started;
  searching = t.searching;
  used = t.used;
  count = t.count;
  once = t.once;
  not_zero = t.not_zero;
  by_now = t.by_now;
  within = t.within;
  rows = t.rows;
  few = t.few;
}
