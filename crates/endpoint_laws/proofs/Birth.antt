-- A session is born: what the state agrees with, after the end of what makes way and after the birth.
use Rattle.std.proofs.Common.{◌≡◌, ℕ, ◌+◌, ◌-◌, ◌<◌, ◌≤◌, List, ◌∷◌, cond, true, false, Option, Some, None, is_some, ◌||◌, refl, sym, ap, subst, ◌∙◌, arith}
use Rattle.std.specs.Ordering.{nat_cmp}
use Rattle.std.specs.Cmp.{nat_cmp_total}
use Rattle.std.specs.FinMap.{FinMap, get, remove, len, len-remove}
use Rattle.rtmfp_base.proofs.Maps.{get_removed, get_left, len_less}
use Rattle.glare_core.specs.declared.facts.Why.{Why}
use Rattle.glare_core.specs.declared.facts.Fact.{Fact}
use Rattle.glare_core.specs.declared.facts.Fact.TheVariants.{Born, Ended}
use Rattle.glare_core.specs.declared.facts.Joined.{Joined}
use Rattle.glare_core.specs.declared.facts.Held.{Held}
use Rattle.glare_core.specs.declared.facts.Held.TheVariants.{Opening, HalfOpen, KeptAsResponder, KeptAsInitiator}
use Rattle.glare_core.specs.Things.{IsSession, near_of}
use Rattle.glare_core.specs.Ledger.{held_with, row_count, noted}
use Rattle.startup.specs.declared.aim.Aim.{Aim}
use Rattle.startup.specs.declared.aim.Aim.TheVariants.{AtPeer, ByName}
use Rattle.startup.specs.State.{AttemptState, Attempts}
use Rattle.endpoint_model.specs.declared.row.Row.{Row}
use Rattle.endpoint_model.specs.declared.entry.Entry.TheVariants.{Fact as FactEntry}
use Rattle.endpoint_model.specs.Event.{Setup}
use Rattle.endpoint_laws.specs.Contexts.{Secrets}
use Rattle.endpoint_laws.specs.Past.{Past, stamped, is_close, ids_in_use}
use Rattle.endpoint_model.specs.State.{State, uses, is_used}
use Rattle.endpoint_laws.proofs.Matching.{of_peer, ids_more, ids_less}
use Rattle.endpoint_laws.proofs.Tied.{by_later, found_in}
use Rattle.endpoint_laws.proofs.Agrees.{found_as, Agrees, IsGiven, IsOurs, IsAt, combined, thing_at, is_session, found_row, no_attempt, used_here, used_elsewhere, agrees_changed, none_searches}
use Rattle.endpoint_laws.proofs.Moving.{beside_fact, still_none, none_there_still, noted_matches, rows_after_known, knows_held, still_unsought, none_sought}
use Rattle.endpoint_laws.proofs.Ending.{some_entry, ids_gone}
use Rattle.endpoint_laws.proofs.Starting.{IsNew}

some_used : (near : ℕ) (oa : Option AttemptState) (os : Option Row) (x : List ℕ × Held) → combined near oa os ≡ Some x → (is_some oa || is_some os) ≡ true
some_used near (Some a) os x e = refl
some_used near None (Some row) x e = refl
some_used near None None x e = absurd (cc)

-- what is held is used
pub held_used : (secrets : Secrets) (setup : Setup) (past : Past) (s : State) (peer : List ℕ) (thing : Held) → Agrees secrets setup past s → held_with s.startup.ledger peer ≡ Some thing → is_used s (near_of thing) ≡ true
held_used secrets setup past s peer thing a is = some_used (near_of thing) (get s.startup.attempts (near_of thing)) (get s.sessions (near_of thing)) (peer, thing) (a.matches.there peer thing is)

-- a thing has ended
pub agrees_end : (secrets : Secrets) (setup : Setup) (past : Past) (s t : State) (moment : ℕ) (peer : List ℕ) (thing : Held) (why : Why) → Agrees secrets setup past s → held_with s.startup.ledger peer ≡ Some thing → IsGiven secrets setup (stamped moment (FactEntry (Ended peer (near_of thing) why)) ∷ past) t → is_close why ≡ false →
    IsAt (near_of thing) None None s t → t.startup.ledger ≡ noted s.startup.ledger (Ended peer (near_of thing) why) → uses t + 1 ≡ uses s → (s.moment ≤ t.moment) × (moment ≤ t.moment) →
    Agrees secrets setup (stamped moment (FactEntry (Ended peer (near_of thing) why)) ∷ past) t
agrees_end secrets setup past s t moment peer thing why a is given opens at ledger count in_time =
    let near : ℕ = near_of thing in
    let fact : Fact = Ended peer near why in
    let now : Past = stamped moment (FactEntry fact) ∷ past in
    let was = a.matches.there peer thing is in
    agrees_changed secrets setup past now s t near None None a given at
    (noted_matches s t fact near None None a.matches at ledger (was ∙ sym (ap (of_peer peer) is)) refl (λ h e. absurd (cc)))
    tt (beside_fact near moment past fact refl) (still_none secrets setup past s a near peer thing was moment fact opens None)
    (still_unsought past near moment fact (none_searches secrets setup past s a near peer thing was) None)
    (ids_gone why (ids_in_use past) near t opens
    (ids_less setup.config.max_sessions (ids_in_use past) s t near a.ids (used_elsewhere near None None s t at) (used_here near None None s t at) (held_used secrets setup past s peer thing a is) count))
    (in_time.1, by_later s.moment t.moment past in_time.0 a.by_now)
    (subst (λ l. row_count l ≤ setup.config.max_peers) (sym ledger) (rows_after_known s.startup.ledger fact setup.config.max_peers (knows_held s.startup.ledger peer thing is) a.rows))

-- a session is born
pub agrees_born : (secrets : Secrets) (setup : Setup) (past : Past) (s t : State) (moment : ℕ) (j : Joined) (new : Row) → Agrees secrets setup past s → held_with s.startup.ledger j.peer ≡ None → IsNew s j.near → IsGiven secrets setup (stamped moment (FactEntry (Born j)) ∷ past) t →
    IsAt j.near None (Some new) s t → t.startup.ledger ≡ noted s.startup.ledger (Born j) → uses t ≡ uses s + 1 → (s.moment ≤ t.moment) × (moment ≤ t.moment) → uses s < setup.config.max_sessions →
    row_count (noted s.startup.ledger (Born j)) ≤ setup.config.max_peers → found_in (Some new) ≡ Some (j.peer, HalfOpen j) → IsOurs secrets setup (stamped moment (FactEntry (Born j)) ∷ past) j.near new.session →
    Agrees secrets setup (stamped moment (FactEntry (Born j)) ∷ past) t
agrees_born secrets setup past s t moment j new a unheld free given at ledger count in_time room rows is ours =
    let now : Past = stamped moment (FactEntry (Born j)) ∷ past in
    let was : thing_at s j.near ≡ of_peer j.peer (held_with s.startup.ledger j.peer) =
    ap (λ (o : Option AttemptState). combined j.near o (get s.sessions j.near)) free.attempt ∙ ap (combined j.near None) free.session ∙ sym (ap (of_peer j.peer) unheld) in
    agrees_changed secrets setup past now s t j.near None (Some new) a given at
    (noted_matches s t (Born j) j.near None (Some new) a.matches at ledger was is (λ h e. let same : HalfOpen j ≡ h = cc in ap near_of (sym same)))
    ours (beside_fact j.near moment past (Born j) refl) (none_there_still past j.near (get s.sessions j.near) (a.closing j.near) free.session moment (Born j) tt (Some new))
    (still_unsought past j.near moment (Born j) (none_sought past j.near (get s.startup.attempts j.near) (a.searching j.near) free.attempt) None)
    (ids_more setup.config.max_sessions (ids_in_use past) s t j.near a.ids (used_elsewhere j.near None (Some new) s t at) (used_here j.near None (Some new) s t at) count free.unused free.some room)
    (in_time.1, by_later s.moment t.moment past in_time.0 a.by_now)
    (subst (λ l. row_count l ≤ setup.config.max_peers) (sym ledger) rows)

-- ---- the tables without a thing

len_absent : {A : Type 0} (m : FinMap nat_cmp A) (k : ℕ) → get m k ≡ None → len (remove m k) ≡ len m
len_absent m k none = len-remove nat_cmp_total m k ∙ ap (λ o. cond (is_some o) (len m - 1) (len m)) none

-- the near id of an attempt
abbrev pub attempt_id : Held → Option ℕ
attempt_id (Opening n near ni) = Some near
attempt_id (HalfOpen j) = None
attempt_id (KeptAsResponder j) = None
attempt_id (KeptAsInitiator j) = None

abbrev pub without_id : Attempts → Option ℕ → Attempts
without_id attempts None = attempts
without_id attempts (Some near) = remove attempts near

-- the state without a thing, after a fact
abbrev pub without_thing : State → Fact → Held → State
without_thing s fact thing = record {
  config = s.config;
  moment = s.moment;
  sealed = s.sealed;
  limit = s.limit;
  group = s.group;
  next = s.next;
  startup = record { cert = s.startup.cert; cookie_secret = s.startup.cookie_secret; ledger = noted s.startup.ledger fact; attempts = without_id s.startup.attempts (attempt_id thing); kept = s.startup.kept };
  sessions = remove s.sessions (near_of thing);
  introduces = s.introduces;
  redirects = s.redirects;
}

pub record IsWithout (s : State) (fact : Fact) (thing : Held) : Type 0 where
  pub at : IsAt (near_of thing) None None s (without_thing s fact thing)
  pub count : uses (without_thing s fact thing) + 1 ≡ uses s

less_left : (a b c d : ℕ) → a ≡ b - 1 → 0 < b → c ≡ d → a + c + 1 ≡ b + d
less_left a b c d p some q = omega arith

less_right : (a b c d : ℕ) → a ≡ b → c ≡ d - 1 → 0 < d → a + c + 1 ≡ b + d
less_right a b c d p q some = omega arith

attempt_found : (secrets : Secrets) (setup : Setup) (past : Past) (s : State) (peer : List ℕ) (n near : ℕ) (ni : List ℕ) → Agrees secrets setup past s → held_with s.startup.ledger peer ≡ Some (Opening n near ni) →
    (a : AttemptState) × (get s.startup.attempts near ≡ Some a)
attempt_found secrets setup past s peer n near ni g is = go (get s.startup.attempts near) (get s.sessions near) (g.matches.there peer (Opening n near ni) is)
  where
    go : (oa : Option AttemptState) (os : Option Row) → combined near oa os ≡ Some (peer, Opening n near ni) → (a : AttemptState) × (oa ≡ Some a)
    go (Some a) os e = (a, refl)
    go None os e =
        let found = found_row os peer (Opening n near ni) e in
        let row : Row = found.0 in
        absurd (subst IsSession found.2.thing (is_session row.session.role row.session.stage row.session.joined))

session_found : (secrets : Secrets) (setup : Setup) (past : Past) (s : State) (peer : List ℕ) (thing : Held) → Agrees secrets setup past s → held_with s.startup.ledger peer ≡ Some thing → IsSession thing →
    (row : Row) × (get s.sessions (near_of thing) ≡ Some row)
session_found secrets setup past s peer thing g is sess = go (get s.startup.attempts (near_of thing)) (get s.sessions (near_of thing)) (g.matches.there peer thing is)
  where
    by_aim : (ni : List ℕ) (aim : Aim) → found_as (near_of thing) ni aim ≡ Some (peer, thing) → ⊥
    by_aim ni (AtPeer q n) e =
        let same : (q, Opening n (near_of thing) ni) ≡ (peer, thing) = cc in
        let is : Opening n (near_of thing) ni ≡ thing = ap (λ (x : List ℕ × Held). x.1) same in
        subst IsSession (sym is) sess
    by_aim ni (ByName _) e = absurd (cc)

    go : (oa : Option AttemptState) (os : Option Row) → combined (near_of thing) oa os ≡ Some (peer, thing) → (row : Row) × (os ≡ Some row)
    go (Some a) os e = absurd (by_aim a.ni a.aim e)
    go None os e = let found = found_row os peer thing e in (found.0, found.1)

without_attempt_is : (secrets : Secrets) (setup : Setup) (past : Past) (s : State) (fact : Fact) (peer : List ℕ) (n near : ℕ) (ni : List ℕ) → Agrees secrets setup past s → held_with s.startup.ledger peer ≡ Some (Opening n near ni) → IsWithout s fact (Opening n near ni)
without_attempt_is secrets setup past s fact peer n near ni g is =
    let found = attempt_found secrets setup past s peer n near ni g is in
    record {
      at = record {
        attempt = get_removed s.startup.attempts near;
        session = get_removed s.sessions near;
        attempts = λ q other. get_left s.startup.attempts near q other;
        sessions = λ q other. get_left s.sessions near q other;
      };
      count = less_left (len (remove s.startup.attempts near)) (len s.startup.attempts) (len (remove s.sessions near)) (len s.sessions)
          (len_less s.startup.attempts near found.0 found.1) (some_entry s.startup.attempts near found.0 found.1) (len_absent s.sessions near (g.apart near found.0 found.1));
    }

without_session_is : (secrets : Secrets) (setup : Setup) (past : Past) (s : State) (fact : Fact) (peer : List ℕ) (thing : Held) → Agrees secrets setup past s → held_with s.startup.ledger peer ≡ Some thing → IsSession thing → attempt_id thing ≡ None → IsWithout s fact thing
without_session_is secrets setup past s fact peer thing g is sess none =
    let near : ℕ = near_of thing in
    let found = session_found secrets setup past s peer thing g is sess in
    let same : without_id s.startup.attempts (attempt_id thing) ≡ s.startup.attempts = ap (without_id s.startup.attempts) none in
    record {
      at = record {
        attempt = ap (λ m. get m near) same ∙ no_attempt s near found.0 (g.apart near) found.1;
        session = get_removed s.sessions near;
        attempts = λ q other. ap (λ m. get m q) same;
        sessions = λ q other. get_left s.sessions near q other;
      };
      count = less_right (len (without_id s.startup.attempts (attempt_id thing))) (len s.startup.attempts) (len (remove s.sessions near)) (len s.sessions)
          (ap len same) (len_less s.sessions near found.0 found.1) (some_entry s.sessions near found.0 found.1);
    }

pub without_thing_is : (secrets : Secrets) (setup : Setup) (past : Past) (s : State) (fact : Fact) (peer : List ℕ) (thing : Held) → Agrees secrets setup past s → held_with s.startup.ledger peer ≡ Some thing → IsWithout s fact thing
without_thing_is secrets setup past s fact peer (Opening n near ni) g is = without_attempt_is secrets setup past s fact peer n near ni g is
without_thing_is secrets setup past s fact peer (HalfOpen j) g is = without_session_is secrets setup past s fact peer (HalfOpen j) g is tt refl
without_thing_is secrets setup past s fact peer (KeptAsResponder j) g is = without_session_is secrets setup past s fact peer (KeptAsResponder j) g is tt refl
without_thing_is secrets setup past s fact peer (KeptAsInitiator j) g is = without_session_is secrets setup past s fact peer (KeptAsInitiator j) g is tt refl
