-- Searches begin, are over, and are answered: what is stated is lawful, and the state agrees with it.
use Rattle.std.proofs.Common.{◌≡◌, ℕ, ◌+◌, ◌-◌, ◌<◌, ◌≤◌, ◌^◌, List, [], ◌∷◌, length, drop, Bool, true, false, not, if◌then◌else◌, ◌||◌, Option, Some, None, is_some, Ok, inl, inr, refl, sym, ap, subst, ◌∙◌, arith}
use Rattle.std.specs.Prelude.{◌==◌}
use Rattle.std.specs.Str.{bytes_eq}
use Rattle.std.specs.FinMap.{get, len, remove}
use Rattle.std.proofs.lemmas.Slice.Eq.{bytes_eq-Decides}
use Rattle.sha2.specs.Sha256.{sha256}
use Rattle.rtmfp_forms.specs.Address.{AddressParts}
use Rattle.rtmfp_base.proofs.Lowest.{first_is_there}
use Rattle.rtmfp_base.proofs.Maps.{get_inserted, get_beside, get_removed, get_left, len_new, len_known, len_less}
use Rattle.rtmfp_base.specs.Reasons.{where_true, first_that_stands}
use Rattle.rtmfp_base.specs.declared.cause.Cause.TheVariants.{WrongPeer, OwnCertificate, AttemptsSpent as NoNumber, PeersFull as NoRow}
use Rattle.rtmfp_chunks.specs.Chunk.{RHello, Spells}
use Rattle.rtmfp_chunks.specs.FieldReading.{chunk_reading}
use Rattle.rtmfp_packet.specs.Walk.{Placed}
use Rattle.rtmfp_packet.specs.Whole.{Whole}
use Rattle.identity.specs.Certificates.{certificate_fault}
use Rattle.glare_core.specs.declared.facts.Why.{Why}
use Rattle.glare_core.specs.declared.facts.Why.TheVariants.{Cancelled, Expired}
use Rattle.glare_core.specs.declared.facts.Fact.{Fact}
use Rattle.glare_core.specs.declared.facts.Held.{Held}
use Rattle.glare_core.specs.declared.facts.Held.TheVariants.{Opening}
use Rattle.glare_core.specs.declared.answers.StartRefusal.TheVariants.{OwnPrint, AttemptsSpent, PeersFull}
use Rattle.glare_core.specs.Things.{near_of}
use Rattle.glare_core.specs.Ledger.{Ledger, held_with, row_count, noted}
use Rattle.glare_core.specs.Calls.{start_held, start_refusal, started_fact, peers_full}
use Rattle.glare_core.proofs.Accounts.{reads_started}
use Rattle.glare_core.proofs.Giving.{gave_started}
use Rattle.startup.specs.declared.aim.Aim.{Aim}
use Rattle.startup.specs.declared.aim.Aim.TheVariants.{AtPeer, ByName}
use Rattle.startup.specs.declared.attempt.Stage.{Stage}
use Rattle.startup.specs.declared.attempt.Stage.TheVariants.{Hello, Keying}
use Rattle.startup.specs.State.{AttemptState, FitsStage}
use Rattle.startup.specs.Due.{is_over}
use Rattle.startup.specs.Aims.{is_search}
use Rattle.startup.specs.Attempts.{lowest, has_tag, with_ledger, with_attempt, begun_search, after_seek, seek_spread, is_search_in, has_search, is_own, held_cause, spent_cause, search_cause, hello_cause, hello_cause_at, answered, met, answer_fact_as, answer_fact, after_answer_as, after_answer}
use Rattle.endpoint_model.specs.declared.row.Row.{Row}
use Rattle.endpoint_model.specs.declared.config.Draws.{Draws}
use Rattle.endpoint_model.specs.declared.entry.Entry.TheVariants.{Fact as FactEntry, Sought, Unsought}
use Rattle.session_flows.specs.declared.refusal.CallRefusal.TheVariants.{NoAttempt}
use Rattle.endpoint_model.specs.Event.{Setup, own_of, Call, Seek, Unseek, Receive}
use Rattle.endpoint_model.specs.State.{State, Did, is_used, full, free_from, fact_entries, with_startup}
use Rattle.endpoint_model.specs.Keying.{IsAmong, chunks_of}
use Rattle.endpoint_model.specs.Sending.{sent_spread}
use Rattle.endpoint_model.specs.Effects.{places_refusal, no_place, seek_refusal, seeking, unseek_refusal, unseeking}
use Rattle.endpoint_model.proofs.Members.{tested}
use Rattle.endpoint_laws.specs.Contexts.{Secrets}
use Rattle.endpoint_laws.specs.Past.{Past, DrawsFor, IsSearch, seek_of, last_call, stamped, onto, facts_of, ids_in_use}
use Rattle.endpoint_laws.specs.Lawful.{AnswersSearch, IsTick}
use Rattle.endpoint_laws.proofs.Matching.{of_peer, ids_more, ids_less, ids_renewed}
use Rattle.endpoint_laws.proofs.Tied.{Tied, WasStartedAs, IsClosedThing, search_of}
use Rattle.endpoint_laws.proofs.Agrees.{IsAt, GoesOnBeside, combined, found_as, found_of_attempt, thing_at, thing_here, thing_elsewhere, used_here, used_elsewhere, agrees_changed, agrees_of, tied_of}
use Rattle.endpoint_laws.proofs.Moving.{beside_fact, none_sought, none_there_still, noted_matches, same_matches, tied_attempt}
use Rattle.endpoint_laws.proofs.Facts.{all_none, test_fails, stands_of}
use Rattle.endpoint_laws.proofs.Starting.{IsNew, new_id, is_free_of, room_left, row_left, rows_after_either, few_more}
use Rattle.endpoint_laws.proofs.Ending.{some_entry, used_before, less_one, over_is}
use Rattle.endpoint_laws.proofs.ByKind.{not_false}
use Rattle.endpoint_laws.proofs.Made.{spread_made}
use Rattle.endpoint_laws.proofs.Going.{Goes, goes_then, goes_sends}
use Rattle.endpoint_laws.proofs.Spelled.{hello_kind, hello_spelled}
use Rattle.endpoint_laws.proofs.Bearing.{good_certificate}
use Rattle.endpoint_laws.proofs.Admitting.{CameIn}
use Rattle.endpoint_laws.proofs.Kin.{kin_begin, kin_without, kin_answered}
use Rattle.endpoint_laws.proofs.Begun.{born_thing, begun_on}
use Rattle.endpoint_model.specs.declared.place.Place.{Place}
use Rattle.endpoint_model.specs.Admission.{group_at}

-- ---- what goes on beside a search that begins, or is over

beside_sought : (near moment : ℕ) (name : List ℕ) (past : Past) → GoesOnBeside near past (stamped moment (Sought near name) ∷ past)
beside_sought near moment name past = record {
  done = λ x w. inr w;
  closing = λ q other thing at c. inr (tt, c);
  back = λ q other thing at c. elim c [ inl b ↦ absurd b.0 | inr p ↦ p.1 ];
  sought = λ q other which at there. inr (tt, tt, there);
  before = λ q other which at there. elim there [ inl b ↦ absurd (other (sym b.0.0)) | inr p ↦ p.2 ];
  begun = λ q other secrets setup role j id generation begun. begun_on secrets setup (born_thing role j) generation past (stamped moment (Sought near name)) refl begun;
}

beside_unsought : (near moment : ℕ) (why : Why) (past : Past) → GoesOnBeside near past (stamped moment (Unsought near why) ∷ past)
beside_unsought near moment why past = record {
  done = λ x w. inr w;
  closing = λ q other thing at c. inr (tt, c);
  back = λ q other thing at c. elim c [ inl b ↦ absurd b.0 | inr p ↦ p.1 ];
  sought = λ q other which at there. inr ((λ e. other (sym e)), tt, there);
  before = λ q other which at there. elim there [ inl b ↦ absurd b.0 | inr p ↦ p.2 ];
  begun = λ q other secrets setup role j id generation begun. begun_on secrets setup (born_thing role j) generation past (stamped moment (Unsought near why)) refl begun;
}

-- ---- one begins

module _ (secrets : Secrets) (setup : Setup) (past : Past) (s : State) (tied : Tied secrets setup past s) (name : List ℕ) (candidates : List AddressParts) (draws : Draws) (near : ℕ) (new : IsNew s near) where
  abbrev begun_as : AttemptState
  begun_as = begun_search name candidates draws.nonce draws.tag s.moment

  abbrev sought_state : State
  sought_state = with_startup s (after_seek s.startup name candidates near draws.nonce draws.tag s.moment)

  abbrev sought_past : Past
  sought_past = stamped s.moment (Sought near name) ∷ past

  sought_tied : last_call past ≡ Some (Seek name candidates draws) → full s ≡ None → length draws.nonce ≡ 16 → near < 2 ^ 32 → Tied secrets setup sought_past sought_state
  sought_tied last room size small =
      let a = agrees_of secrets setup past s tied in
      let at : IsAt near (Some begun_as) None s sought_state = record {
        attempt = get_inserted s.startup.attempts near begun_as;
        session = new.session;
        attempts = λ q other. get_beside s.startup.attempts near begun_as q other;
        sessions = λ q other. refl;
      } in
      let was : thing_at s near ≡ None = ap (λ (o : Option AttemptState). combined near o (get s.sessions near)) new.attempt ∙ ap (combined near None) new.session in
      let all : (q : ℕ) → thing_at sought_state q ≡ thing_at s q = λ q. elim (tested q near) [
        | inl e ↦ ap (thing_at sought_state) e.0 ∙ thing_here near (Some begun_as) None s sought_state at ∙ sym was ∙ ap (thing_at s) (sym e.0)
        | inr e ↦ thing_elsewhere near (Some begun_as) None s sought_state at q e.0
      ] in
      let draw : DrawsFor (search_of name begun_as) (seek_of (last_call past)) = subst (λ (c : Option Call). DrawsFor (search_of name begun_as) (seek_of c)) (sym last) (refl, refl) in
      tied_of secrets setup sought_past sought_state
      (agrees_changed secrets setup past sought_past s sought_state near (Some begun_as) None a
      (record { config = a.given.config; cert = a.given.cert; holds = (kin_begin s s.startup.ledger near begun_as refl refl).holds secrets a.given.holds; current = a.given.current; next = a.given.next; cookie_secret = a.given.cookie_secret; own = a.given.own; max_peers = a.given.max_peers }) at
      (same_matches (thing_at s) (thing_at sought_state) (held_with s.startup.ledger) all a.matches)
      ((inl ((refl, refl, draw), refl), size, small), tt) (beside_sought near s.moment name past)
      (λ thing m c. elim c [ inl b ↦ absurd b.0 | inr p ↦ subst (λ (o : Option Row). IsClosedThing o thing) new.session (a.closing near thing m p.1) ])
      (λ which m c. elim c [
        | inl b ↦ (let d = subst (λ (call : Option Call). DrawsFor which (seek_of call)) last b.0.2 in (ap ByName b.0.1, sym d.0, sym d.1, b.1))
        | inr p ↦ absurd (none_sought past near (get s.startup.attempts near) (a.searching near) new.attempt which m p.2)
      ])
      (ids_more setup.config.max_sessions (ids_in_use past) s sought_state near a.ids (used_elsewhere near (Some begun_as) None s sought_state at) (used_here near (Some begun_as) None s sought_state at)
      (omega (arith, len_new s.startup.attempts near begun_as new.attempt)) new.unused new.some (room_left secrets setup past s tied room))
      (omega arith, a.by_now) tied.rows)
      tied.account tied.few

place_none : (o : Option ℕ) → no_place o ≡ None → o ≡ None
place_none None e = refl
place_none (Some limit) e = absurd (cc)

pub goes_seeking : (secrets : Secrets) (setup : Setup) (past : Past) (s : State) (name : List ℕ) (candidates : List AddressParts) (draws : Draws) → setup.config.max_sessions ≤ 65536 → draws.word < 2 ^ 32 → length draws.nonce ≡ 16 →
    free_from s draws.word < 2 ^ 32 → last_call past ≡ Some (Seek name candidates draws) → seek_refusal s candidates ≡ None → Tied secrets setup past s → Goes secrets setup (Seek name candidates draws) past s (seeking s name candidates draws)
goes_seeking secrets setup past s name candidates draws most small size fits last none tied =
    let call : Call = Seek name candidates draws in
    let near : ℕ = free_from s draws.word in
    let new = new_id secrets setup past s draws.word tied most small in
    let all = all_none (places_refusal (length candidates) ∷ no_place (full s) ∷ []) none in
    let t : State = sought_state secrets setup past s tied name candidates draws near new in
    let after = sought_tied secrets setup past s tied name candidates draws near new last (place_none (full s) all.1.0) size fits in
    let first : Did = record { state = t; entries = Sought near name ∷ [] } in
    let spread = seek_spread name candidates draws.nonce draws.tag s.moment in
    goes_then secrets setup call past s first (λ u. sent_spread u spread)
    (record { meets = ((tt, record { by = refl; id = is_free_of secrets setup past s near tied new }), tt); tied = after; moment = refl })
    (spread_made (goes_sends secrets setup call) t spread (stamped s.moment (Sought near name) ∷ past) after)

-- ---- one is over

module _ (secrets : Secrets) (setup : Setup) (past : Past) (s : State) (tied : Tied secrets setup past s) (near : ℕ) (a : AttemptState) (name : List ℕ) (aims : a.aim ≡ ByName name) (there : get s.startup.attempts near ≡ Some a) where
  -- what a search is by the log
  pub kept_as : WasStartedAs past near a (ByName name)
  kept_as = subst (λ (aim : Aim). WasStartedAs past near a aim) aims (tied.started near a there)

  pub nothing_there : thing_at s near ≡ None
  nothing_there = found_of_attempt s near a there ∙ ap (found_as near a.ni) aims

  abbrev unsought_state : State
  unsought_state = with_startup s (record s.startup { attempts = remove s.startup.attempts near })

  unsought_tied : (why : Why) → Tied secrets setup (stamped s.moment (Unsought near why) ∷ past) unsought_state
  unsought_tied why =
      let now : Past = stamped s.moment (Unsought near why) ∷ past in
      let g = agrees_of secrets setup past s tied in
      let at : IsAt near None None s unsought_state = record {
        attempt = get_removed s.startup.attempts near;
        session = tied.apart near a there;
        attempts = λ q other. get_left s.startup.attempts near q other;
        sessions = λ q other. refl;
      } in
      let all : (q : ℕ) → thing_at unsought_state q ≡ thing_at s q = λ q. elim (tested q near) [
        | inl e ↦ ap (thing_at unsought_state) e.0 ∙ thing_here near None None s unsought_state at ∙ sym nothing_there ∙ ap (thing_at s) (sym e.0)
        | inr e ↦ thing_elsewhere near None None s unsought_state at q e.0
      ] in
      tied_of secrets setup now unsought_state
      (agrees_changed secrets setup past now s unsought_state near None None g
      (record { config = g.given.config; cert = g.given.cert; holds = (kin_without s near None).holds secrets g.given.holds; current = g.given.current; next = g.given.next; cookie_secret = g.given.cookie_secret; own = g.given.own; max_peers = g.given.max_peers }) at
      (same_matches (thing_at s) (thing_at unsought_state) (held_with s.startup.ledger) all g.matches)
      tt (beside_unsought near s.moment why past)
      (λ thing m c. elim c [ inl b ↦ absurd b.0 | inr p ↦ subst (λ (o : Option Row). IsClosedThing o thing) (tied.apart near a there) (g.closing near thing m p.1) ])
      (λ which m c. elim c [ inl b ↦ absurd b.0 | inr p ↦ absurd (p.0 refl) ])
      (ids_less setup.config.max_sessions (ids_in_use past) s unsought_state near g.ids (used_elsewhere near None None s unsought_state at) (used_here near None None s unsought_state at)
      (used_before (get s.startup.attempts near) (get s.sessions near) there)
      (less_one (len s.startup.attempts) (len (remove s.startup.attempts near)) (len s.sessions) (len_less s.startup.attempts near a there) (some_entry s.startup.attempts near a there)))
      (omega arith, g.by_now) tied.rows)
      tied.account tied.few

  pub goes_expired : (call : Call) → IsTick call → is_over s.moment a ≡ true → Goes secrets setup call past s (record { state = unsought_state; entries = Unsought near Expired ∷ [] })
  goes_expired call is_tick over = record {
    meets = ((tt, record { which = search_of name a; at = a.start; stands = kept_as.0; by = (is_tick, over_is a.start s.moment over) }), tt);
    tied = unsought_tied Expired;
    moment = refl;
  }

  pub goes_given_up : Goes secrets setup (Unseek near) past s (record { state = unsought_state; entries = Unsought near Cancelled ∷ [] })
  goes_given_up = record {
    meets = ((tt, record { which = search_of name a; at = a.start; stands = kept_as.0; by = refl }), tt);
    tied = unsought_tied Cancelled;
    moment = refl;
  }

-- a search that is found
pub record IsFound (o : Option AttemptState) : Type 0 where
  pub a : AttemptState
  pub name : List ℕ
  pub is : o ≡ Some a
  pub aims : a.aim ≡ ByName name

pub found_search : (o : Option AttemptState) → is_search_in o ≡ true → IsFound o
found_search None e = absurd (cc)
found_search (Some a) e = by a.aim refl e
  where
    by : (aim : Aim) → a.aim ≡ aim → is_search aim ≡ true → IsFound (Some a)
    by (AtPeer peer n) aims e = absurd (cc)
    by (ByName name) aims e = record { a = a; name = name; is = refl; aims = aims }

pub goes_unseeking : (secrets : Secrets) (setup : Setup) (past : Past) (s : State) (near : ℕ) → unseek_refusal s near ≡ None → Tied secrets setup past s → Goes secrets setup (Unseek near) past s (unseeking s near)
goes_unseeking secrets setup past s near none tied =
    let there : has_search s.startup near ≡ true = not_false (has_search s.startup near) (test_fails (not (has_search s.startup near)) NoAttempt none) in
    let found = found_search (get s.startup.attempts near) there in
    subst (λ (b : Bool). Goes secrets setup (Unseek near) past s (record { state = with_startup s (if b then record s.startup { attempts = remove s.startup.attempts near } else s.startup); entries = Unsought near Cancelled ∷ [] }))
    (sym there) (goes_given_up secrets setup past s tied near found.a found.name found.aims found.is)

-- ---- one is answered

-- what lets an attempt towards this peer start
pub record MayMeet (s : State) (peer : List ℕ) : Type 0 where
  pub start : start_refusal s.startup.ledger peer ≡ None
  pub unheld : held_with s.startup.ledger peer ≡ None
  pub row : peers_full s.startup.ledger peer ≡ false
  pub unspent : (s.startup.ledger.started == 2 ^ 64 - 1) ≡ false

held_none : (o : Option Held) → held_cause o ≡ None → o ≡ None
held_none None e = refl
held_none (Some thing) e = absurd (cc)

or_is : (a b : Bool) → (a || b) ≡ false → (a ≡ false) × (b ≡ false)
or_is true b e = absurd (cc)
or_is false b e = (refl, e)

none_first : {A : Type 0} (x : Option A) (rest : List (Option A)) → x ≡ None → first_that_stands rest ≡ None → first_that_stands (x ∷ rest) ≡ None
none_first {A = A} x rest none later = subst (λ (o : Option A). first_that_stands (o ∷ rest) ≡ None) (sym none) later

starts_if : (l : Ledger) (peer : List ℕ) → bytes_eq peer l.own ≡ false → held_with l peer ≡ None → (l.started == 2 ^ 64 - 1) ≡ false → peers_full l peer ≡ false → start_refusal l peer ≡ None
starts_if l peer own unheld unspent row =
    none_first (where_true (bytes_eq peer l.own) OwnPrint) _ (ap (λ (b : Bool). where_true b OwnPrint) own)
    (none_first (start_held (held_with l peer)) _ (ap start_held unheld)
    (none_first (where_true (l.started == 2 ^ 64 - 1) AttemptsSpent) _ (ap (λ (b : Bool). where_true b AttemptsSpent) unspent)
    (none_first (where_true (peers_full l peer) (PeersFull (row_count l))) [] (ap (λ (b : Bool). where_true b (PeersFull (row_count l))) row) refl)))

pub record IsMet (s : State) (name cert : List ℕ) : Type 0 where
  pub name_is : name ≡ drop 16 cert
  pub may : MayMeet s (sha256 cert)

pub met_if : (secrets : Secrets) (setup : Setup) (past : Past) (s : State) → Tied secrets setup past s → (name cert : List ℕ) → search_cause s.startup name cert ≡ None → IsMet s name cert
met_if secrets setup past s tied name cert none =
    let l : Ledger = s.startup.ledger in
    let peer : List ℕ = sha256 cert in
    let all = all_none (where_true (not (bytes_eq name (drop 16 cert))) WrongPeer ∷ where_true (is_own s.startup cert) OwnCertificate ∷ held_cause (held_with l peer) ∷ spent_cause l peer ∷ []) none in
    let own = or_is (bytes_eq cert s.startup.cert) (bytes_eq (sha256 cert) (sha256 s.startup.cert)) (test_fails (is_own s.startup cert) OwnCertificate all.1.0) in
    let last = all_none (where_true (l.started == 2 ^ 64 - 1) NoNumber ∷ where_true (peers_full l peer) (NoRow (row_count l)) ∷ []) all.1.1.1.0 in
    let unheld : held_with l peer ≡ None = held_none (held_with l peer) all.1.1.0 in
    let unspent : (l.started == 2 ^ 64 - 1) ≡ false = test_fails (l.started == 2 ^ 64 - 1) NoNumber last.0 in
    let row : peers_full l peer ≡ false = test_fails (peers_full l peer) (NoRow (row_count l)) last.1.0 in
    record {
      name_is = (bytes_eq-Decides name (drop 16 cert)).0 (not_false (bytes_eq name (drop 16 cert)) (test_fails (not (bytes_eq name (drop 16 cert))) WrongPeer all.0));
      may = record { start = starts_if l peer (ap (bytes_eq peer) tied.sound.own ∙ own.1) unheld unspent row; unheld = unheld; row = row; unspent = unspent };
    }

module _ (secrets : Secrets) (setup : Setup) (past : Past) (s : State) (tied : Tied secrets setup past s) (near : ℕ) (a : AttemptState) (name : List ℕ) (aims : a.aim ≡ ByName name) (there : get s.startup.attempts near ≡ Some a) (peer : List ℕ) (place : Place) (from : AddressParts) (cookie : List ℕ) where
  abbrev met_fact : Fact
  met_fact = started_fact s.startup.ledger peer near a.ni

  abbrev met_as : AttemptState
  met_as = met a peer (s.startup.ledger.started + 1) from cookie s.moment (group_at s place)

  abbrev met_state : State
  met_state = with_startup s (with_attempt (with_ledger s.startup (noted s.startup.ledger met_fact)) near met_as)

  abbrev met_past : Past
  met_past = stamped s.moment (FactEntry met_fact) ∷ past

  pub met_tied : MayMeet s peer → Tied secrets setup met_past met_state
  met_tied may =
      let g = agrees_of secrets setup past s tied in
      let at : IsAt near (Some met_as) None s met_state = record {
        attempt = get_inserted s.startup.attempts near met_as;
        session = tied.apart near a there;
        attempts = λ q other. get_beside s.startup.attempts near met_as q other;
        sessions = λ q other. refl;
      } in
      let used : is_used s near ≡ true = used_before (get s.startup.attempts near) (get s.sessions near) there in
      let all_used : (q : ℕ) → is_used met_state q ≡ is_used s q = λ q. elim (tested q near) [
        | inl e ↦ ap (is_used met_state) e.0 ∙ used_here near (Some met_as) None s met_state at ∙ sym used ∙ ap (is_used s) (sym e.0)
        | inr e ↦ used_elsewhere near (Some met_as) None s met_state at q e.0
      ] in
      tied_of secrets setup met_past met_state
      (agrees_changed secrets setup past met_past s met_state near (Some met_as) None g
      (record { config = g.given.config; cert = g.given.cert; holds = (kin_answered s place (noted s.startup.ledger met_fact) near met_as from cookie refl refl).holds secrets g.given.holds; current = g.given.current; next = g.given.next; cookie_secret = g.given.cookie_secret; own = g.given.own; max_peers = g.given.max_peers }) at
      (noted_matches s met_state met_fact near (Some met_as) None g.matches at refl (nothing_there secrets setup past s tied near a name aims there ∙ sym (ap (of_peer peer) may.unheld)) refl
      (λ h e. let same : Opening (s.startup.ledger.started + 1) near a.ni ≡ h = cc in sym (ap near_of same)))
      (inl refl, tt) (beside_fact near s.moment past met_fact refl) (none_there_still past near (get s.sessions near) (g.closing near) (tied.apart near a there) s.moment met_fact tt None)
      (λ which m c. elim c [ inl b ↦ absurd b.0 | inr p ↦ absurd (p.1 refl) ])
      (ids_renewed setup.config.max_sessions (ids_in_use past) s met_state near g.ids all_used (omega (arith, len_known s.startup.attempts near met_as a there)) used)
      (omega arith, g.by_now)
      (rows_after_either s.startup.ledger met_fact setup.config.max_peers peer refl tied.rows (row_left secrets setup past s peer tied may.row)))
      (gave_started s.startup.ledger peer near a.ni may.start 0 (facts_of past) tied.account) (few_more secrets setup past s tied may.unspent)

-- ---- a responder's hello, whether it answers an attempt or a search

-- what it states and leaves
abbrev pub hello_first : State → Place → List ℕ → Option (ℕ × AttemptState) → AddressParts → List ℕ → Did
hello_first s place print o from cookie = record { state = with_startup s (after_answer s.startup print o from cookie s.moment (group_at s place)); entries = fact_entries (answer_fact s.startup print o) }

module _ (secrets : Secrets) (setup : Setup) (past : Past) (s : State) (tied : Tied secrets setup past s) (place : Place) (from : AddressParts) (cookie cert : List ℕ) where
  abbrev TiedAfter : Did → Type 0
  TiedAfter d = Tied secrets setup (onto s.moment d.entries past) d.state

  answered_tied : (e : ℕ × AttemptState) → get s.startup.attempts e.0 ≡ Some e.1 → (stage : Stage) (aim : Aim) → e.1.aim ≡ aim → hello_cause s.startup stage aim cert ≡ None →
      TiedAfter (record { state = with_startup s (after_answer_as s.startup (sha256 cert) e from cookie s.moment (group_at s place) aim); entries = fact_entries (answer_fact_as s.startup (sha256 cert) e.0 e.1.ni aim) })
  answered_tied e there stage (AtPeer peer n) aims none =
      tied_attempt secrets setup past s e.0 e.1 (answered e.1 from cookie s.moment (group_at s place)) tied there refl (λ w. w) (subst (λ (aim : Aim). FitsStage aim (Keying from cookie (group_at s place))) (sym aims) tt) (λ which at kept. kept)
      (kin_answered s place s.startup.ledger e.0 (answered e.1 from cookie s.moment (group_at s place)) from cookie refl refl)
  answered_tied e there Hello (ByName name) aims none = met_tied secrets setup past s tied e.0 e.1 name aims there (sha256 cert) place from cookie (met_if secrets setup past s tied name cert none).may
  answered_tied e there (Keying at old under) (ByName name) aims none = absurd (cc)

-- of a datagram that came under session ID 0
module _ (secrets : Secrets) (setup : Setup) (from : AddressParts) (datagram : List ℕ) (draws : Draws) (packet : Whole) (c : Placed) (generation : ℕ) (among : IsAmong c (chunks_of packet)) (past : Past) (came : CameIn secrets setup past datagram generation 0 packet) (s : State) (tied : Tied secrets setup past s) (place : Place)
    (tag cookie cert : List ℕ) (is : chunk_reading c.kind c.payload ≡ Ok (RHello tag cookie cert)) (good : is_some (certificate_fault cert) ≡ false) where
  abbrev call : Call
  call = Receive from datagram draws

  spells : Spells (RHello tag cookie cert) c.kind c.payload
  spells =
      let kind : c.kind ≡ 0x70 = hello_kind c.kind c.payload tag cookie cert is in
      subst (λ (k : ℕ). Spells (RHello tag cookie cert) k c.payload) (sym kind) (hello_spelled c.payload (RHello tag cookie cert) (came.read.bytes c among) (sym (ap (λ (k : ℕ). chunk_reading k c.payload) kind) ∙ is))

  answers : (near : ℕ) (a : AttemptState) (name : List ℕ) → a.aim ≡ ByName name → get s.startup.attempts near ≡ Some a → bytes_eq a.tag tag ≡ true → IsMet s name cert →
      AnswersSearch secrets generation past datagram (sha256 cert) (s.startup.ledger.started + 1) near a.ni
  answers near a name aims there tagged m =
      let kept = kept_as secrets setup past s tied near a name aims there in
      let same : a.tag ≡ tag = (bytes_eq-Decides a.tag tag).0 tagged in
      record {
        packet = packet;
        reads = came.read.reads;
        chunk = c;
        among = among;
        tag = tag;
        cookie = cookie;
        cert = cert;
        spells = spells;
        is_cert = good_certificate cert good;
        peer_is = refl;
        at = a.start;
        stands =
            subst (λ (t : List ℕ). IsSearch near (record { name = drop 16 cert; tag = t; ni = a.ni }) a.start past) same
            (subst (λ (n : List ℕ). IsSearch near (record { name = n; tag = a.tag; ni = a.ni }) a.start past) m.name_is kept.0);
        nonce_size = kept.1;
        number = (let few = few_more secrets setup past s tied m.may.unspent in let started = reads_started 0 s.startup.ledger (facts_of past) tied.account in omega (arith, few, started));
      }

  met_goes : (e : ℕ × AttemptState) → get s.startup.attempts e.0 ≡ Some e.1 → bytes_eq e.1.tag tag ≡ true → (stage : Stage) (aim : Aim) → e.1.aim ≡ aim → hello_cause s.startup stage aim cert ≡ None →
      Goes secrets setup call past s (record { state = with_startup s (after_answer_as s.startup (sha256 cert) e from cookie s.moment (group_at s place) aim); entries = fact_entries (answer_fact_as s.startup (sha256 cert) e.0 e.1.ni aim) })
  met_goes e there tagged stage (AtPeer peer n) aims none = record { meets = tt; tied = answered_tied secrets setup past s tied place from cookie cert e there stage (AtPeer peer n) aims none; moment = refl }
  met_goes e there tagged Hello (ByName name) aims none =
      let m = met_if secrets setup past s tied name cert none in
      let after = met_tied secrets setup past s tied e.0 e.1 name aims there (sha256 cert) place from cookie m.may in
      record {
        meets = (
          (
            (
              stands_of (own_of setup) (noted s.startup.ledger (started_fact s.startup.ledger (sha256 cert) e.0 e.1.ni)) (started_fact s.startup.ledger (sha256 cert) e.0 e.1.ni) (facts_of past) after.own after.account,
              inr (generation, came.before, answers e.0 e.1 name aims there tagged m),
            ),
            tt,
          ),
          tt,
        );
        tied = after;
        moment = refl;
      }
  met_goes e there tagged (Keying at old under) (ByName name) aims none = absurd (cc)

  pub hello_goes : (o : Option (ℕ × AttemptState)) → lowest (has_tag tag) s.startup.attempts ≡ o → hello_cause_at s.startup o cert ≡ None → Goes secrets setup call past s (hello_first s place (sha256 cert) o from cookie)
  hello_goes None at none = record { meets = tt; tied = tied; moment = refl }
  hello_goes (Some e) at none =
      let found = first_is_there (has_tag tag) s.startup.attempts e at in
      met_goes e found.0 found.1 e.1.stage e.1.aim refl none
