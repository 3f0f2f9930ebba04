-- An attempt begins: what it states is lawful, and the state agrees with it.
use Rattle.std.proofs.Common.{◌≡◌, ℕ, ◌+◌, ◌<◌, ◌≤◌, ◌^◌, ◌-◌, List, [], ◌∷◌, length, Bool, nat_le, true, false, not, ◌&&◌, ◌||◌, Option, Some, None, is_some, inl, inr, ◌⊎◌, refl, sym, ap, ◌∙◌, arith}
use Rattle.std.specs.Prelude.{◌==◌}
use Rattle.std.proofs.lemmas.Bool.Decides.{nat_tests}
use Rattle.std.specs.Str.{bytes_eq}
use Rattle.std.specs.FinMap.{get}
use Rattle.rtmfp_forms.specs.Address.{AddressParts}
use Rattle.rtmfp_base.proofs.Maps.{get_inserted, get_beside, len_new}
use Rattle.glare_core.proofs.Giving.{none_held}
use Rattle.glare_core.specs.declared.facts.Fact.{Fact}
use Rattle.glare_core.specs.declared.facts.Held.TheVariants.{Opening}
use Rattle.glare_core.specs.declared.answers.StartRefusal.{StartRefusal}
use Rattle.glare_core.specs.declared.answers.StartRefusal.TheVariants.{OwnPrint, AttemptsSpent, PeersFull}
use Rattle.glare_core.specs.Standing.{peer_of, count}
use Rattle.glare_core.specs.Things.{near_of}
use Rattle.glare_core.specs.Ledger.{Ledger, held_with, knows, row_count, noted}
use Rattle.rtmfp_base.specs.Reasons.{where_true}
use Rattle.glare_core.specs.Calls.{start_held, start_refusal, started_fact, peers_full}
use Rattle.glare_core.proofs.Accounts.{reads_started}
use Rattle.glare_core.proofs.Giving.{gave_started}
use Rattle.startup.specs.State.{AttemptState}
use Rattle.startup.specs.Attempts.{begin_spread, begun_attempt, after_begin}
use Rattle.endpoint_model.specs.declared.config.Draws.{Draws}
use Rattle.endpoint_model.specs.declared.entry.Entry.TheVariants.{Fact as FactEntry}
use Rattle.endpoint_model.specs.Event.{Setup, Open, own_of}
use Rattle.endpoint_laws.specs.Contexts.{Secrets}
use Rattle.endpoint_laws.specs.Past.{Past, stamped, facts_of, ids_in_use}
use Rattle.endpoint_laws.specs.Lawful.{IsFree}
use Rattle.endpoint_model.specs.State.{State, Did, uses, is_used, is_free, free_from, full, with_startup}
use Rattle.endpoint_model.specs.Sending.{sent_spread}
use Rattle.endpoint_model.specs.Effects.{candidates_refusal, start_refused, full_refused, open_refusal, opening}
use Rattle.endpoint_model.proofs.Ids.{free_from_is_free}
use Rattle.endpoint_laws.proofs.Matching.{of_peer, ids_more, ids_started}
use Rattle.endpoint_laws.proofs.Tied.{Tied}
use Rattle.endpoint_laws.proofs.Agrees.{IsAt, combined, thing_at, used_here, used_elsewhere, agrees_changed, agrees_of, tied_of}
use Rattle.endpoint_laws.proofs.Moving.{beside_fact, none_there_still, noted_matches, rows_after_known, rows_after_new, still_unsought, none_sought}
use Rattle.endpoint_laws.proofs.ByKind.{and_is}
use Rattle.endpoint_laws.proofs.Facts.{all_none, test_fails, stands_of}
use Rattle.endpoint_laws.proofs.Made.{spread_made}
use Rattle.endpoint_laws.proofs.Going.{Goes, goes_then, goes_sends}
use Rattle.endpoint_laws.proofs.Kin.{kin_begin}

-- ---- a free session ID

not_is : (b : Bool) → not b ≡ true → b ≡ false
not_is true e = absurd (cc)
not_is false e = refl

or_is : (a b : Bool) → (a || b) ≡ false → (a ≡ false) × (b ≡ false)
or_is true b e = absurd (cc)
or_is false b e = (refl, e)

none_there : {A : Type 0} (o : Option A) → is_some o ≡ false → o ≡ None
none_there None e = refl
none_there (Some x) e = absurd (cc)

not_zero : (n : ℕ) → (n == 0) ≡ false → n ≡ 0 → ⊥
not_zero n e is = grind (arith, nat_tests)

-- the session ID that is chosen
pub record IsNew (s : State) (near : ℕ) : Type 0 where
  pub some : near ≡ 0 → ⊥
  pub unused : is_used s near ≡ false
  pub attempt : get s.startup.attempts near ≡ None
  pub session : get s.sessions near ≡ None

pub new_id : (secrets : Secrets) (setup : Setup) (past : Past) (s : State) (word : ℕ) → Tied secrets setup past s → setup.config.max_sessions ≤ 65536 → word < 2 ^ 32 → IsNew s (free_from s word)
new_id secrets setup past s word t most small =
    let near : ℕ = free_from s word in
    let free : is_free s near ≡ true = free_from_is_free s word (omega (arith, most, t.within)) small in
    let parts = and_is (not (near == 0)) (not (is_used s near)) free in
    let unused : is_used s near ≡ false = not_is (is_used s near) parts.1 in
    let both = or_is (is_some (get s.startup.attempts near)) (is_some (get s.sessions near)) unused in
    record {
      some = not_zero near (not_is (near == 0) parts.0);
      unused = unused;
      attempt = none_there (get s.startup.attempts near) both.0;
      session = none_there (get s.sessions near) both.1;
    }

pub is_free_of : (secrets : Secrets) (setup : Setup) (past : Past) (s : State) (near : ℕ) → Tied secrets setup past s → IsNew s near → IsFree near past
is_free_of secrets setup past s near t new = record { some = new.some; unused = sym (t.used near) ∙ new.unused }

-- ---- room

pub full_none : (s : State) → full s ≡ None → nat_le s.config.max_sessions (uses s) ≡ false
full_none s e = test_fails (nat_le s.config.max_sessions (uses s)) s.config.max_sessions e

pub room_left : (secrets : Secrets) (setup : Setup) (past : Past) (s : State) → Tied secrets setup past s → full s ≡ None → uses s < setup.config.max_sessions
room_left secrets setup past s t none =
    let other : nat_le setup.config.max_sessions (uses s) ≡ false = ap (λ (m : ℕ). nat_le m (uses s)) (sym (ap (λ c. c.max_sessions) t.config)) ∙ full_none s none in
    below (uses s) setup.config.max_sessions other
  where
    below : (n m : ℕ) → nat_le m n ≡ false → n < m
    below n m e = grind (arith, nat_tests)

-- a peer has a row, or there is room for one
pub row_left : (secrets : Secrets) (setup : Setup) (past : Past) (s : State) (peer : List ℕ) → Tied secrets setup past s → peers_full s.startup.ledger peer ≡ false →
    (knows s.startup.ledger peer ≡ true) ⊎ (row_count s.startup.ledger < setup.config.max_peers)
row_left secrets setup past s peer t e =
    room (knows s.startup.ledger peer) (row_count s.startup.ledger) setup.config.max_peers t.rows (ap (λ (m : ℕ). not (knows s.startup.ledger peer) && (row_count s.startup.ledger == m)) (sym t.max_peers) ∙ e)
  where
    room : (known : Bool) (n m : ℕ) → n ≤ m → (not known && (n == m)) ≡ false → (known ≡ true) ⊎ (n < m)
    room true n m le e = inl refl
    room false n m le e = inr (grind (arith, nat_tests))

pub rows_after_either : (l : Ledger) (fact : Fact) (most : ℕ) (peer : List ℕ) → peer ≡ peer_of fact → row_count l ≤ most → (knows l peer ≡ true) ⊎ (row_count l < most) → row_count (noted l fact) ≤ most
rows_after_either l fact most peer is few (inl known) = rows_after_known l fact most (ap (knows l) (sym is) ∙ known) few
rows_after_either l fact most peer is few (inr less) = rows_after_new l fact most less

-- ---- an attempt starts

pub record MayStart (s : State) (peer : List ℕ) : Type 0 where
  pub start : start_refusal s.startup.ledger peer ≡ None
  pub unheld : held_with s.startup.ledger peer ≡ None
  pub row : peers_full s.startup.ledger peer ≡ false
  pub place : full s ≡ None
  pub unspent : (s.startup.ledger.started == 2 ^ 64 - 1) ≡ false

start_none : (o : Option StartRefusal) → start_refused o ≡ None → o ≡ None
start_none None e = refl
start_none (Some refusal) e = absurd (cc)

index_none : (o : Option ℕ) → full_refused o ≡ None → o ≡ None
index_none None e = refl
index_none (Some limit) e = absurd (cc)

pub may_start : (s : State) (peer : List ℕ) (candidates : List AddressParts) → open_refusal s peer candidates ≡ None → MayStart s peer
may_start s peer candidates none =
    let l : Ledger = s.startup.ledger in
    let all = all_none (candidates_refusal (length candidates) ∷ start_refused (start_refusal l peer) ∷ full_refused (full s) ∷ []) none in
    let start : start_refusal l peer ≡ None = start_none (start_refusal l peer) all.1.0 in
    let each = all_none (where_true (bytes_eq peer l.own) OwnPrint ∷ start_held (held_with l peer) ∷ where_true (l.started == 2 ^ 64 - 1) AttemptsSpent ∷ where_true (peers_full l peer) (PeersFull (row_count l)) ∷ []) start in
    record {
      start = start;
      unheld = none_held (held_with s.startup.ledger peer) each.1.0;
      row = test_fails (peers_full s.startup.ledger peer) (PeersFull (row_count s.startup.ledger)) each.1.1.1.0;
      place = index_none (full s) all.1.1.0;
      unspent = test_fails (l.started == 2 ^ 64 - 1) AttemptsSpent each.1.1.0;
    }

-- a number that is given is one of 64 bits
pub few_more : (secrets : Secrets) (setup : Setup) (past : Past) (s : State) → Tied secrets setup past s → (s.startup.ledger.started == 2 ^ 64 - 1) ≡ false → 1 + count (facts_of past) < 2 ^ 64
few_more secrets setup past s tied other =
    let started : s.startup.ledger.started ≡ 0 + count (facts_of past) = reads_started 0 s.startup.ledger (facts_of past) tied.account in
    next_fits s.startup.ledger.started (count (facts_of past)) (omega (arith, started)) tied.few other
  where
    next_fits : (n m : ℕ) → n ≡ m → m < 2 ^ 64 → (n == 2 ^ 64 - 1) ≡ false → 1 + m < 2 ^ 64
    next_fits n m same few other = grind (arith, nat_tests)

started_tied : (secrets : Secrets) (setup : Setup) (past : Past) (s : State) (peer : List ℕ) (candidates : List AddressParts) (near : ℕ) (ni tag : List ℕ) → Tied secrets setup past s → MayStart s peer → IsNew s near →
    Tied secrets setup (stamped s.moment (FactEntry (started_fact s.startup.ledger peer near ni)) ∷ past) (with_startup s (after_begin s.startup peer candidates near ni tag s.moment))
started_tied secrets setup past s peer candidates near ni tag tied may new =
    let fact : Fact = started_fact s.startup.ledger peer near ni in
    let begun : AttemptState = begun_attempt s.startup peer candidates ni tag s.moment in
    let t : State = with_startup s (after_begin s.startup peer candidates near ni tag s.moment) in
    let now : Past = stamped s.moment (FactEntry fact) ∷ past in
    let a = agrees_of secrets setup past s tied in
    let at : IsAt near (Some begun) None s t = record {
      attempt = get_inserted s.startup.attempts near begun;
      session = new.session;
      attempts = λ q other. get_beside s.startup.attempts near begun q other;
      sessions = λ q other. refl;
    } in
    let was : thing_at s near ≡ of_peer peer (held_with s.startup.ledger peer) =
    ap (λ (o : Option AttemptState). combined near o (get s.sessions near)) new.attempt ∙ ap (combined near None) new.session ∙ sym (ap (of_peer peer) may.unheld) in
    tied_of secrets setup now t
    (agrees_changed secrets setup past now s t near (Some begun) None a
    (record { config = a.given.config; cert = a.given.cert; holds = (kin_begin s (noted s.startup.ledger fact) near begun refl refl).holds secrets a.given.holds; current = a.given.current; next = a.given.next; cookie_secret = a.given.cookie_secret; own = a.given.own; max_peers = a.given.max_peers }) at
    (noted_matches s t fact near (Some begun) None a.matches at refl was refl (λ h e. let same : Opening (s.startup.ledger.started + 1) near ni ≡ h = cc in sym (ap near_of same)))
    (inl refl, tt) (beside_fact near s.moment past fact refl) (none_there_still past near (get s.sessions near) (a.closing near) new.session s.moment fact tt None)
    (still_unsought past near s.moment fact (none_sought past near (get s.startup.attempts near) (a.searching near) new.attempt) (Some begun))
    (ids_started setup.config.max_sessions (ids_in_use past) s t near (sym (a.ids.used near) ∙ new.unused)
    (ids_more setup.config.max_sessions (ids_in_use past) s t near a.ids (used_elsewhere near (Some begun) None s t at) (used_here near (Some begun) None s t at)
    (omega (arith, len_new s.startup.attempts near begun new.attempt)) new.unused new.some (room_left secrets setup past s tied may.place)))
    (omega arith, a.by_now)
    (rows_after_either s.startup.ledger fact setup.config.max_peers peer refl tied.rows (row_left secrets setup past s peer tied may.row)))
    (gave_started s.startup.ledger peer near ni may.start 0 (facts_of past) tied.account) (few_more secrets setup past s tied may.unspent)

pub goes_opening : (secrets : Secrets) (setup : Setup) (past : Past) (s : State) (peer : List ℕ) (candidates : List AddressParts) (draws : Draws) → setup.config.max_sessions ≤ 65536 → draws.word < 2 ^ 32 →
    open_refusal s peer candidates ≡ None → Tied secrets setup past s → Goes secrets setup (Open peer candidates draws) past s (opening s peer candidates draws)
goes_opening secrets setup past s peer candidates draws most small none tied =
    let near : ℕ = free_from s draws.word in
    let fact : Fact = started_fact s.startup.ledger peer near draws.nonce in
    let may = may_start s peer candidates none in
    let new = new_id secrets setup past s draws.word tied most small in
    let t : State = with_startup s (after_begin s.startup peer candidates near draws.nonce draws.tag s.moment) in
    let after = started_tied secrets setup past s peer candidates near draws.nonce draws.tag tied may new in
    let first : Did = record { state = t; entries = FactEntry fact ∷ [] } in
    let spread = begin_spread s.startup peer candidates draws.nonce draws.tag s.moment in
    goes_then secrets setup (Open peer candidates draws) past s first (λ u. sent_spread u spread)
    (record {
      meets = (((stands_of (own_of setup) t.startup.ledger fact (facts_of past) after.own after.account, inl ((refl, refl), is_free_of secrets setup past s near tied new)), tt), tt);
      tied = after;
      moment = refl;
    })
    (spread_made (goes_sends secrets setup (Open peer candidates draws)) t spread (stamped s.moment (FactEntry fact) ∷ past) after)
