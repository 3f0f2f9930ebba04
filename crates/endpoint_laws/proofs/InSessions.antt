-- What an end does of its sessions: what is stated is lawful, and the state agrees with it.
use Rattle.std.proofs.Common.{◌≡◌, ℕ, List, [], ◌∷◌, Bool, true, false, if◌then◌else◌, Option, Some, None, is_some, ◌||◌, inl, inr, refl, sym, ap, subst, ◌∙◌, arith}
use Rattle.std.specs.FinMap.{get}
use Rattle.rtmfp_base.proofs.Maps.{get_inserted, get_beside, get_removed, get_left, len_known, len_less}
use Rattle.rtmfp_forms.specs.Address.{AddressParts}
use Rattle.glare_core.specs.declared.facts.Why.{Why}
use Rattle.glare_core.specs.declared.facts.Fact.{Fact}
use Rattle.glare_core.specs.declared.facts.Fact.TheVariants.{Ended}
use Rattle.glare_core.specs.declared.facts.Joined.{Joined}
use Rattle.glare_core.specs.declared.facts.Held.{Held}
use Rattle.glare_core.specs.declared.facts.Held.TheVariants.{Opening as OpeningHeld, HalfOpen, KeptAsResponder, KeptAsInitiator}
use Rattle.glare_core.specs.Standing.{held}
use Rattle.glare_core.specs.Things.{IsSession, near_of}
use Rattle.glare_core.specs.Ledger.{held_with, noted}
use Rattle.glare_core.specs.Calls.{ended_fact, MayEnd}
use Rattle.glare_core.proofs.Accounts.{reads_held}
use Rattle.startup.specs.Attempts.{session_in, after_end_by}
use Rattle.session_core.specs.declared.stage.Role.{Role}
use Rattle.session_core.specs.declared.stage.Role.TheVariants.{Initiator, Responder}
use Rattle.session_core.specs.declared.stage.Stage.{Stage}
use Rattle.session_core.specs.declared.stage.Stage.TheVariants.{Opening, Open, NearClose, FarLinger, Closed}
use Rattle.session_core.specs.Session.{SessionState}
use Rattle.session_core.proofs.Keyed.{keyed_same}
use Rattle.session_core.specs.Closing.{is_held}
use Rattle.endpoint_model.specs.declared.row.Row.{Row}
use Rattle.endpoint_model.specs.declared.entry.Entry.TheVariants.{Fact as FactEntry, Closed as ClosedEntry, Moved}
use Rattle.endpoint_model.specs.Event.{Setup, own_of, Call}
use Rattle.endpoint_model.specs.State.{State, Did, nothing, then_do, fact_entries, is_used, with_startup, with_row, with_session, without_row}
use Rattle.endpoint_model.specs.InSessions.{sent_home, ended_as, dropped, closed}
use Rattle.endpoint_model.proofs.Members.{tested, without}
use Rattle.endpoint_laws.specs.Contexts.{Secrets}
use Rattle.endpoint_laws.specs.Past.{Past, stamped, onto, facts_of, is_close, ids_in_use, current_of, next_of}
use Rattle.endpoint_laws.specs.OfTheLog.{WasThing}
use Rattle.endpoint_laws.specs.Lawful.{EndedLine, ClosedLine}
use Rattle.endpoint_laws.proofs.Matching.{of_peer, Ids, ids_same, ids_less}
use Rattle.endpoint_laws.proofs.Tied.{Tied, StageFits, thing_of}
use Rattle.endpoint_laws.proofs.Agrees.{IsAt, IsGiven, thing_at, near_of_session, is_session, found_at, found_of_session, closing_row_is, no_attempt, none_closes, thing_here, thing_elsewhere, used_here, used_elsewhere, agrees_changed, agrees_of, tied_of, none_searches}
use Rattle.endpoint_laws.proofs.Moving.{IsAlike, beside_fact, beside_closed, same_matches, noted_matches, rows_after_known, knows_held, tied_session, tied_more, still_unsought, none_sought}
use Rattle.endpoint_laws.proofs.Facts.{stands_of}
use Rattle.endpoint_laws.proofs.Ending.{gave_end, some_entry}
use Rattle.endpoint_laws.proofs.Birth.{agrees_end}
use Rattle.endpoint_laws.proofs.Made.{home_made}
use Rattle.endpoint_laws.proofs.Going.{Goes, Keeps, goes_then, goes_sends}
use Rattle.endpoint_laws.specs.Groups.{number_in}
use Rattle.endpoint_laws.proofs.Begun.{begun_beside, begun_like}
use Rattle.endpoint_laws.proofs.Kin.{HoldsSecrets, holds_still, ended_kin}

-- ---- what a session is and was

pub was_itself : (role : Role) (stage : Stage) (j : Joined) → WasThing role j (thing_of role stage j)
was_itself Initiator stage j = refl
was_itself Responder Opening j = inl refl
was_itself Responder Open j = inr refl
was_itself Responder NearClose j = inr refl
was_itself Responder FarLinger j = inr refl
was_itself Responder Closed j = inr refl

session_itself : (h : Held) → IsSession h → session_in (Some h) ≡ Some h
session_itself (OpeningHeld n near ni) is = absurd is
session_itself (HalfOpen j) is = refl
session_itself (KeptAsResponder j) is = refl
session_itself (KeptAsInitiator j) is = refl

some_is : (x y : Held) → Some x ≡ Some y → x ≡ y
some_is x y e = cc

used_or : (a b : Bool) → b ≡ true → (a || b) ≡ true
used_or true b e = refl
used_or false b e = e

same_given : (secrets : Secrets) (setup : Setup) (past now : Past) (s t : State) → IsGiven secrets setup past s → t.config ≡ s.config → t.startup.cert ≡ s.startup.cert → HoldsSecrets secrets t →
    t.group.generation ≡ current_of setup now → number_in t.next ≡ next_of now → t.startup.cookie_secret ≡ s.startup.cookie_secret → t.startup.ledger.own ≡ s.startup.ledger.own →
    t.startup.ledger.max_peers ≡ s.startup.ledger.max_peers → IsGiven secrets setup now t
same_given secrets setup past now s t g config cert holds current next cookie own most = record {
  config = config ∙ g.config;
  cert = cert ∙ g.cert;
  holds = holds;
  current = current;
  next = next;
  cookie_secret = cookie ∙ g.cookie_secret;
  own = own ∙ g.own;
  max_peers = most ∙ g.max_peers;
}

-- what is left of a session that closes at a moment
pub record IsLeft (moment : ℕ) (old left : SessionState) : Type 0 where
  pub joined : left.joined ≡ old.joined
  pub own : left.own ≡ old.own
  pub generation : left.generation ≡ old.generation
  pub inward : left.inward ≡ old.inward
  pub outward : left.outward ≡ old.outward
  pub role : left.role ≡ old.role
  pub closing : is_held left.stage ≡ false
  pub stage : StageFits left.role left.stage
  pub since : left.since ≡ moment

-- ---- the end of a session that is held

module _ (secrets : Secrets) (setup : Setup) (call : Call) (past : Past) (s : State) (tied : Tied secrets setup past s) (near : ℕ) (row : Row) (there : get s.sessions near ≡ Some row) (held_now : is_held row.session.stage ≡ true) (why : Why) where
  abbrev j : Joined
  j = row.session.joined

  abbrev thing : Held
  thing = thing_of row.session.role row.session.stage j

  pub held_is : held_with s.startup.ledger j.peer ≡ Some thing
  held_is = (tied.sessions near row there).thing held_now

  pub held_facts : held j.peer (facts_of past) ≡ Some thing
  held_facts = sym (reads_held 0 s.startup.ledger (facts_of past) tied.account j.peer) ∙ held_is

  pub id : near_of thing ≡ near
  id = near_of_session row.session.role row.session.stage j ∙ (tied.sessions near row there).id

  abbrev fact : Fact
  fact = Ended j.peer (near_of thing) why

  abbrev now : Past
  now = stamped s.moment (FactEntry fact) ∷ past

  -- by what is held
  abbrev ended_by : SessionState → Option Held → Did
  ended_by left o = record {
    state = with_session (with_startup s (after_end_by s.startup j.peer (ended_fact o j.peer why))) near row left;
    entries = fact_entries (ended_fact o j.peer why);
  }

  abbrev dropped_by : Option Held → Did
  dropped_by o = record {
    state = without_row (with_startup s (after_end_by s.startup j.peer (ended_fact o j.peer why))) near;
    entries = fact_entries (ended_fact o j.peer why);
  }

  -- the secrets that it keeps are known still
  still_known : HoldsSecrets secrets (with_startup s (after_end_by s.startup j.peer (Some fact)))
  still_known = (ended_kin s j.peer (Some fact)).holds secrets tied.holds

  in_ledger : session_in (held_with s.startup.ledger j.peer) ≡ Some thing
  in_ledger = ap session_in held_is ∙ session_itself thing (is_session row.session.role row.session.stage j)

  -- it closes
  ended_tied : (left : SessionState) → is_close why ≡ true → MayEnd why thing → IsLeft s.moment row.session left → Tied secrets setup now (ended_by left (Some thing)).state
  ended_tied left closes may l =
      let t : State = (ended_by left (Some thing)).state in
      let new : Row = record row { session = left } in
      let a = agrees_of secrets setup past s tied in
      let none = no_attempt s near row (a.apart near) there in
      let at : IsAt near None (Some new) s t = record {
        attempt = none;
        session = get_inserted s.sessions near new;
        attempts = λ q other. refl;
        sessions = λ q other. get_beside s.sessions near new q other;
      } in
      let was = found_of_session s near row none there held_now in
      let ours = a.ours near row there in
      let was_it : WasThing left.role left.joined thing = subst (λ r. WasThing r left.joined thing) (sym l.role) (subst (λ k. WasThing row.session.role k thing) (sym l.joined) (was_itself row.session.role row.session.stage j)) in
      let all_used : (q : ℕ) → is_used t q ≡ is_used s q = λ q. elim (tested q near) [
        | inl e ↦
            ap (is_used t) e.0 ∙ used_here near None (Some new) s t at
            ∙ sym (used_or (is_some (get s.startup.attempts near)) (is_some (get s.sessions near)) (ap (λ (o : Option Row). is_some o) there)) ∙ ap (is_used s) (sym e.0)
        | inr e ↦ used_elsewhere near None (Some new) s t at q e.0
      ] in
      tied_of secrets setup now t
      (agrees_changed secrets setup past now s t near None (Some new) a (same_given secrets setup past now s t a.given refl refl (holds_still secrets (with_startup s (after_end_by s.startup j.peer (Some fact))) t still_known refl refl refl) a.given.current a.given.next refl refl refl) at
      (noted_matches s t fact near None (Some new) a.matches at refl (was ∙ sym (ap (of_peer j.peer) held_is)) (closing_row_is new l.closing) (λ h e. absurd (cc)))
      (record {
        id = ap (λ k. k.near) l.joined ∙ ours.id;
        own = l.own ∙ ours.own;
        known = record { secret = ours.known.secret; known = ap (get secrets) l.generation ∙ ours.known.known; keyed = keyed_same ours.known.secret row.session left l.joined l.own l.role l.generation l.inward l.outward ours.known.keyed };
        begun = begun_like secrets setup now row.session left l.role l.joined l.generation (begun_beside secrets setup row.session.role j row.session.generation past s.moment fact tt ours.begun);
        stage = l.stage;
        closed = λ e. record { thing = thing; at = s.moment; was = was_it; closing = inl ((id, closes, held_facts), refl); since = omega (arith, l.since) };
      })
      (beside_fact near s.moment past fact id)
      (λ other m c. elim c [
        | inl b ↦ (l.closing, subst (λ h. WasThing left.role left.joined h) (some_is thing other (sym held_facts ∙ b.0.2)) was_it)
        | inr q ↦ absurd (none_closes secrets setup past s a near j.peer thing was other m q.1)
      ])
      (still_unsought past near s.moment fact (none_searches secrets setup past s a near j.peer thing was) None)
      (subst (λ (b : Bool). Ids setup.config.max_sessions (if b then ids_in_use past else without (near_of thing) (ids_in_use past)) t) (sym closes)
      (ids_same setup.config.max_sessions (ids_in_use past) s t a.ids all_used (omega (arith, len_known s.sessions near new row there))))
      (omega arith, a.by_now)
      (rows_after_known s.startup.ledger fact setup.config.max_peers (knows_held s.startup.ledger j.peer thing held_is) tied.rows))
      (gave_end s.startup.ledger j.peer thing why held_is may 0 (facts_of past) tied.account) (omega (arith, tied.few))

  pub goes_ended : (left : SessionState) → is_close why ≡ true → MayEnd why thing → IsLeft s.moment row.session left → EndedLine secrets setup s.moment call past [] j.peer (near_of thing) why →
      Goes secrets setup call past s (ended_as s near row why left)
  goes_ended left closes may l line =
      let after = ended_tied left closes may l in
      subst (λ (o : Option Held). Goes secrets setup call past s (ended_by left o)) (sym in_ledger) (record {
        meets = (((stands_of (own_of setup) (noted s.startup.ledger fact) fact (facts_of past) after.own after.account, line), tt), tt);
        tied = after;
        moment = refl;
      })

  -- or it is forgotten
  dropped_tied : is_close why ≡ false → MayEnd why thing → Tied secrets setup now (dropped_by (Some thing)).state
  dropped_tied opens may =
      let t : State = (dropped_by (Some thing)).state in
      let a = agrees_of secrets setup past s tied in
      let at : IsAt near None None s t = record {
        attempt = no_attempt s near row (a.apart near) there;
        session = get_removed s.sessions near;
        attempts = λ q other. refl;
        sessions = λ q other. get_left s.sessions near q other;
      } in
      tied_of secrets setup now t
      (agrees_end secrets setup past s t s.moment j.peer thing why a held_is (same_given secrets setup past now s t a.given refl refl (holds_still secrets (with_startup s (after_end_by s.startup j.peer (Some fact))) t still_known refl refl refl) a.given.current a.given.next refl refl refl) opens (subst (λ k. IsAt k None None s t) (sym id) at) refl
      (omega (arith, len_less s.sessions near row there, some_entry s.sessions near row there)) (omega arith, omega arith))
      (gave_end s.startup.ledger j.peer thing why held_is may 0 (facts_of past) tied.account) (omega (arith, tied.few))

  pub goes_dropped : is_close why ≡ false → MayEnd why thing → EndedLine secrets setup s.moment call past [] j.peer (near_of thing) why → Goes secrets setup call past s (dropped s near row why)
  goes_dropped opens may line =
      let after = dropped_tied opens may in
      subst (λ (o : Option Held). Goes secrets setup call past s (dropped_by o)) (sym in_ledger) (record {
        meets = (((stands_of (own_of setup) (noted s.startup.ledger fact) fact (facts_of past) after.own after.account, line), tt), tt);
        tied = after;
        moment = refl;
      })

-- ---- the end of a closing

module _ (secrets : Secrets) (setup : Setup) (call : Call) (past : Past) (s : State) (tied : Tied secrets setup past s) (near : ℕ) (row : Row) (there : get s.sessions near ≡ Some row) (closing : is_held row.session.stage ≡ false) where
  abbrev later : Past
  later = stamped s.moment (ClosedEntry near) ∷ past

  closed_tied : Tied secrets setup later (without_row s near)
  closed_tied =
      let t : State = without_row s near in
      let a = agrees_of secrets setup past s tied in
      let none = no_attempt s near row (a.apart near) there in
      let at : IsAt near None None s t = record {
        attempt = none;
        session = get_removed s.sessions near;
        attempts = λ q other. refl;
        sessions = λ q other. get_left s.sessions near q other;
      } in
      let all : (q : ℕ) → thing_at t q ≡ thing_at s q = λ q. elim (tested q near) [
        | inl e ↦ ap (λ (k : ℕ). thing_at t k) e.0 ∙ thing_here near None None s t at ∙ sym (found_at s near row none there ∙ closing_row_is row closing) ∙ ap (λ (k : ℕ). thing_at s k) (sym e.0)
        | inr e ↦ thing_elsewhere near None None s t at q e.0
      ] in
      tied_of secrets setup later t
      (agrees_changed secrets setup past later s t near None None a (same_given secrets setup past later s t a.given refl refl (holds_still secrets s t a.given.holds refl refl refl) a.given.current a.given.next refl refl refl) at
      (same_matches (thing_at s) (thing_at t) (held_with s.startup.ledger) all a.matches)
      tt (beside_closed near s.moment past) (λ thing m c. elim c [ inl b ↦ absurd b.0 | inr q ↦ absurd (q.0 refl) ])
      (λ which m c. elim c [ inl b ↦ absurd b.0 | inr q ↦ absurd (none_sought past near (get s.startup.attempts near) (a.searching near) none which m q.2) ])
      (ids_less setup.config.max_sessions (ids_in_use past) s t near a.ids (used_elsewhere near None None s t at) (used_here near None None s t at)
      (used_or (is_some (get s.startup.attempts near)) (is_some (get s.sessions near)) (ap (λ (o : Option Row). is_some o) there))
      (omega (arith, len_less s.sessions near row there, some_entry s.sessions near row there)))
      (omega arith, a.by_now)
      tied.rows)
      tied.account tied.few

  pub goes_closed : ClosedLine secrets setup s.moment call past near → Goes secrets setup call past s (closed s near)
  goes_closed line = record { meets = ((tt, line), tt); tied = closed_tied; moment = refl }

-- ---- what states nothing

module _ (secrets : Secrets) (setup : Setup) (call : Call) where
  -- a session is replaced by one like it
  pub goes_changed : (s : State) (near : ℕ) (old new : Row) → get s.sessions near ≡ Some old → IsAlike s.moment old.session new.session → Keeps secrets setup call s (nothing (with_row s near new))
  goes_changed s near old new is alike past tied = record { meets = tt; tied = tied_session secrets setup past s near old new tied is alike; moment = refl }

  -- it moves
  pub goes_moved : (s : State) (near : ℕ) (old new : Row) (to : AddressParts) → get s.sessions near ≡ Some old → IsAlike s.moment old.session new.session →
      Keeps secrets setup call s (record { state = with_row s near new; entries = Moved near to ∷ [] })
  goes_moved s near old new to is alike past tied = record {
    meets = ((tt, tt), tt);
    tied = tied_session secrets setup _ s near old new (tied_more secrets setup past s (stamped s.moment (Moved near to)) (omega arith) refl refl refl refl refl refl tied) is alike;
    moment = refl;
  }

  pub goes_and_home : (s : State) (near : ℕ) (body : List ℕ) (past : Past) (d : Did) → Goes secrets setup call past s d → Goes secrets setup call past s (then_do d (λ t. sent_home t near body))
  goes_and_home s near body past d goes = goes_then secrets setup call past s d (λ t. sent_home t near body) goes (home_made (goes_sends secrets setup call) d.state near body tt (onto s.moment d.entries past) goes.tied)
