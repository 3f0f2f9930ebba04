-- A half-open session is confirmed: what is stated is lawful, and the state agrees with it.
use Rattle.std.proofs.Common.{◌≡◌, ℕ, List, ◌∷◌, drop, Bool, true, false, if◌then◌else◌, option_to_list, Option, Some, None, is_some, ◌||◌, inl, inr, refl, sym, ap, subst, ◌∙◌, arith}
use Rattle.std.specs.FinMap.{get}
use Rattle.rtmfp_base.proofs.Maps.{get_inserted, get_beside, len_known}
use Rattle.rtmfp_forms.specs.Address.{AddressParts}
use Rattle.packet_scramble.specs.Datagram.{sid_of}
use Rattle.glare_core.specs.declared.facts.Fact.{Fact}
use Rattle.glare_core.specs.declared.facts.Fact.TheVariants.{Confirmed}
use Rattle.glare_core.specs.declared.facts.Joined.{Joined}
use Rattle.glare_core.specs.declared.facts.Held.{Held}
use Rattle.glare_core.specs.declared.facts.Held.TheVariants.{HalfOpen, KeptAsResponder}
use Rattle.glare_core.specs.Standing.{held, confirmed as confirmed_held}
use Rattle.glare_core.specs.Things.{near_of}
use Rattle.glare_core.specs.Ledger.{held_with, noted, noted_if}
use Rattle.glare_core.specs.Calls.{confirmed_fact}
use Rattle.glare_core.specs.Account.{Gave}
use Rattle.glare_core.proofs.Accounts.{reads_held}
use Rattle.glare_core.proofs.Giving.{gave_confirmed}
use Rattle.startup.specs.Attempts.{with_ledger, confirm_fact, after_confirm}
use Rattle.session_core.specs.declared.stage.Role.{Role}
use Rattle.session_core.specs.declared.stage.Role.TheVariants.{Initiator, Responder}
use Rattle.session_core.specs.declared.stage.Stage.{Stage}
use Rattle.session_core.specs.declared.stage.Stage.TheVariants.{Opening, Open, NearClose, FarLinger, Closed}
use Rattle.session_core.specs.Closing.{is_held}
use Rattle.session_core.specs.Hearing.{opens_in}
use Rattle.session_core.specs.Session.{context_of, context_between, is_opening, confirmed_stage, confirmed}
use Rattle.session_core.proofs.Keyed.{opens_in_context}
use Rattle.endpoint_model.specs.declared.row.Row.{Row}
use Rattle.endpoint_model.specs.declared.config.Draws.{Draws}
use Rattle.endpoint_model.specs.declared.place.Place.{Place}
use Rattle.endpoint_model.specs.declared.place.Place.TheVariants.{Startup, Attempt, Session}
use Rattle.endpoint_model.specs.declared.entry.Entry.TheVariants.{Fact as FactEntry}
use Rattle.endpoint_model.specs.Event.{Setup, Receive, own_of}
use Rattle.endpoint_laws.specs.Past.{Past, stamped, facts_of, ids_in_use}
use Rattle.endpoint_laws.specs.Contexts.{inward, generation_of, OpensUnder, BegunUnder, Secrets}
use Rattle.endpoint_model.specs.State.{State, Did, is_used, nothing, fact_entries, with_startup, with_session}
use Rattle.endpoint_model.specs.Admission.{confirming_by, confirming}
use Rattle.endpoint_laws.proofs.Matching.{of_peer, ids_same}
use Rattle.endpoint_model.proofs.Members.{tested}
use Rattle.endpoint_laws.proofs.Tied.{Tied, StageFits, HasKeys, thing_of}
use Rattle.endpoint_laws.proofs.Agrees.{IsAt, held_row_is, found_of_session, no_attempt, used_here, used_elsewhere, agrees_changed, agrees_of, tied_of, none_searches}
use Rattle.endpoint_laws.proofs.Moving.{beside_fact, still_none, noted_matches, rows_after_known, knows_held, still_unsought}
use Rattle.endpoint_laws.proofs.Facts.{stands_of}
use Rattle.endpoint_laws.proofs.Going.{Goes, goes_nothing}
use Rattle.endpoint_laws.proofs.Kin.{holds_still, kin_noted}
use Rattle.endpoint_laws.proofs.Begun.{born_thing, begun_beside}
use Rattle.endpoint_laws.proofs.Outset.{IsOutset, facts_before, begun_before}
use Rattle.endpoint_laws.proofs.Knowing.{opens_known, context_generation}

-- The datagram opens in the session that stands under this session ID, if there is one.
abbrev pub HeardIn : List ℕ → ℕ → Option Row → Type 0
HeardIn datagram near None = Unit {0}
HeardIn datagram near (Some row) = (sid_of datagram ≡ near) × (opens_in row.session (drop 4 datagram) ≡ true)

half_open : (role : Role) (stage : Stage) → StageFits role stage → is_opening stage ≡ true → (role ≡ Responder) × (stage ≡ Opening)
half_open Initiator Opening fits e = absurd fits
half_open Initiator Open fits e = absurd (cc)
half_open Initiator NearClose fits e = absurd (cc)
half_open Initiator FarLinger fits e = absurd (cc)
half_open Initiator Closed fits e = absurd fits
half_open Responder Opening fits e = (refl, refl)
half_open Responder Open fits e = absurd (cc)
half_open Responder NearClose fits e = absurd (cc)
half_open Responder FarLinger fits e = absurd (cc)
half_open Responder Closed fits e = absurd fits

open_or : (a b : Bool) → b ≡ true → (a || b) ≡ true
open_or true b e = refl
open_or false b e = e

module _ (secrets : Secrets) (setup : Setup) (from : AddressParts) (datagram : List ℕ) (draws : Draws) (s : State) (near : ℕ) (row : Row) (there : get s.sessions near ≡ Some row) where
  abbrev j : Joined
  j = row.session.joined

  -- what is done, by what is held
  abbrev did : Option Held → Did
  did o = record {
    state = with_session (with_startup s (with_ledger s.startup (noted_if s.startup.ledger (confirmed_fact o j.peer)))) near row (confirmed row.session);
    entries = fact_entries (confirmed_fact o j.peer);
  }

  abbrev fact : Fact
  fact = Confirmed j.peer j.near

  abbrev now : Past → Past
  now past = stamped s.moment (FactEntry fact) ∷ past

  confirmed_tied : (past : Past) → Tied secrets setup past s → row.session.role ≡ Responder → row.session.stage ≡ Opening → held_with s.startup.ledger j.peer ≡ Some (HalfOpen j) → Tied secrets setup (now past) (did (Some (HalfOpen j))).state
  confirmed_tied past tied role stage is =
      let t : State = (did (Some (HalfOpen j))).state in
      let a = agrees_of secrets setup past s tied in
      let new : Row = record row { session = confirmed row.session } in
      let none = no_attempt s near row (a.apart near) there in
      let at : IsAt near None (Some new) s t = record {
        attempt = none;
        session = get_inserted s.sessions near new;
        attempts = λ q other. refl;
        sessions = λ q other. get_beside s.sessions near new q other;
      } in
      let was_thing : thing_of row.session.role row.session.stage j ≡ HalfOpen j = ap (λ r. thing_of r row.session.stage j) role ∙ ap (λ g. thing_of Responder g j) stage in
      let new_thing : thing_of row.session.role (confirmed_stage row.session.stage) j ≡ KeptAsResponder j = ap (λ r. thing_of r (confirmed_stage row.session.stage) j) role ∙ ap (λ g. thing_of Responder (confirmed_stage g) j) stage in
      let now_held : is_held (confirmed_stage row.session.stage) ≡ true = ap (λ g. is_held (confirmed_stage g)) stage in
      let ours = a.ours near row there in
      let id : j.near ≡ near = (tied.sessions near row there).id in
      let P : Option Held → Type 0 = λ o. Gave s.startup.ledger (option_to_list (confirmed_fact o j.peer)) (noted_if s.startup.ledger (confirmed_fact o j.peer)) in
      let all_used : (q : ℕ) → is_used t q ≡ is_used s q = λ q. elim (tested q near) [
        | inl e ↦
            ap (is_used t) e.0 ∙ used_here near None (Some new) s t at
            ∙ sym (open_or (is_some (get s.startup.attempts near)) (is_some (get s.sessions near)) (ap (λ (o : Option Row). is_some o) there)) ∙ ap (is_used s) (sym e.0)
        | inr e ↦ used_elsewhere near None (Some new) s t at q e.0
      ] in
      let was = found_of_session s near row none there (ap is_held stage) ∙ ap (λ h. Some (j.peer, h)) was_thing in
      tied_of secrets setup (now past) t
      (agrees_changed secrets setup past (now past) s t near None (Some new) a
      (record { config = a.given.config; cert = a.given.cert; holds = holds_still secrets (with_startup s (with_ledger s.startup (noted s.startup.ledger fact))) t ((kin_noted s (noted s.startup.ledger fact) refl).holds secrets a.given.holds) refl refl refl; current = a.given.current; next = a.given.next; cookie_secret = a.given.cookie_secret; own = a.given.own; max_peers = a.given.max_peers }) at
      (noted_matches s t fact near None (Some new) a.matches at refl
      (was ∙ sym (ap (of_peer j.peer) is))
      (held_row_is new now_held ∙ ap (λ h. Some (j.peer, h)) new_thing ∙ sym (ap (λ o. of_peer j.peer (confirmed_held o)) is))
      (λ h e. let same : Some (KeptAsResponder j) ≡ Some h = sym (ap confirmed_held is) ∙ e in let thing : KeptAsResponder j ≡ h = cc in ap near_of (sym thing) ∙ id))
      (record {
        id = ours.id;
        own = ours.own;
        known = record { secret = ours.known.secret; known = ours.known.known; keyed = record { towards = ours.known.keyed.towards; away = ours.known.keyed.away } };
        begun = begun_beside secrets setup row.session.role j row.session.generation past s.moment fact tt ours.begun;
        stage = subst (λ r. StageFits r (confirmed_stage row.session.stage)) (sym role) (subst (λ g. StageFits Responder (confirmed_stage g)) (sym stage) tt);
        closed = λ e. let both : true ≡ false = sym now_held ∙ e in absurd (cc);
      })
      (beside_fact near s.moment past fact tt) (still_none secrets setup past s a near j.peer (HalfOpen j) was s.moment fact tt (Some new))
      (still_unsought past near s.moment fact (none_searches secrets setup past s a near j.peer (HalfOpen j) was) None)
      (ids_same setup.config.max_sessions (ids_in_use past) s t a.ids all_used (omega (arith, len_known s.sessions near new row there)))
      (omega arith, a.by_now)
      (rows_after_known s.startup.ledger fact setup.config.max_peers (knows_held s.startup.ledger j.peer (HalfOpen j) is) tied.rows))
      ((subst P is (gave_confirmed s.startup.ledger j.peer)) 0 (facts_of past) tied.account) (omega (arith, tied.few))

  -- it is in the session's context
  abbrev Under : ℕ → Type 0
  Under generation = (plain : List ℕ) × OpensUnder secrets (inward setup generation (HalfOpen j)) j.near datagram plain

  opened_under : row.session.role ≡ Responder → row.session.own ≡ own_of setup → j.near ≡ near → HasKeys secrets row.session → HeardIn datagram near (Some row) → Under row.session.generation
  opened_under role own id keys heard =
      let generation : ℕ = row.session.generation in
      let context : context_of row.session false ≡ inward setup generation (HalfOpen j) =
      ap (λ r. context_between generation j row.session.own r false) role ∙ ap (λ own. context_between generation j own Responder false) own in
      let known : get secrets (generation_of (context_of row.session false)) ≡ Some keys.secret = ap (get secrets) (context_generation generation j row.session.own row.session.role false) ∙ keys.known in
      let found = (opens_in_context keys.secret row.session keys.keyed.towards (drop 4 datagram)).0 heard.1 in
      (found.0, subst (λ c. OpensUnder secrets c j.near datagram found.0) context (opens_known secrets (context_of row.session false) keys.secret known j.near datagram found.0 (heard.0 ∙ sym id) found.1))

  confirmed_goes : (past : Past) → IsOutset past → Tied secrets setup past s → HeardIn datagram near (Some row) → is_opening row.session.stage ≡ true →
      Goes secrets setup (Receive from datagram draws) past s (did (held_with s.startup.ledger j.peer))
  confirmed_goes past outset tied heard opening =
      let is = tied.sessions near row there in
      let half = half_open row.session.role row.session.stage is.stage opening in
      let held_is : held_with s.startup.ledger j.peer ≡ Some (HalfOpen j) =
      is.thing (ap is_held half.1) ∙ ap (λ h. Some h) (ap (λ r. thing_of r row.session.stage j) half.0 ∙ ap (λ g. thing_of Responder g j) half.1) in
      let after = confirmed_tied past tied half.0 half.1 held_is in
      let held_now : held j.peer (facts_of past) ≡ Some (HalfOpen j) = sym (reads_held 0 s.startup.ledger (facts_of past) tied.account j.peer) ∙ held_is in
      let begun : BegunUnder secrets setup (HalfOpen j) row.session.generation past = subst (λ r. BegunUnder secrets setup (born_thing r j) row.session.generation past) half.0 is.begun in
      let under = opened_under half.0 is.own is.id is.known heard in
      subst (λ o. Goes secrets setup (Receive from datagram draws) past s (did o)) (sym held_is) (record {
        meets = (
          (
            (
              stands_of (own_of setup) (noted s.startup.ledger fact) fact (facts_of past) after.own after.account,
              record {
                j = j;
                session = held_now;
                by = record {
                  stands = inl (record { peer = j.peer; is_held = ap (held j.peer) (sym (facts_before past outset)) ∙ held_now; id = refl });
                  is_session = tt;
                  generation = row.session.generation;
                  begun = begun_before secrets setup (HalfOpen j) row.session.generation past outset begun;
                  plain = under.0;
                  opens = under.1;
                };
              },
            ),
            tt,
          ),
          tt,
        );
        tied = after;
        moment = refl;
      })

pub goes_confirming_by : (secrets : Secrets) (setup : Setup) (from : AddressParts) (datagram : List ℕ) (draws : Draws) (s : State) (near : ℕ) (o : Option Row) → get s.sessions near ≡ o → HeardIn datagram near o → (past : Past) → IsOutset past →
    Tied secrets setup past s → Goes secrets setup (Receive from datagram draws) past s (confirming_by s near o)
goes_confirming_by secrets setup from datagram draws s near None is heard past outset tied = goes_nothing secrets setup (Receive from datagram draws) s past tied
goes_confirming_by secrets setup from datagram draws s near (Some row) is heard past outset tied = either (is_opening row.session.stage) refl
  where
    either : (b : Bool) → is_opening row.session.stage ≡ b → Goes secrets setup (Receive from datagram draws) past s (if b then (record {
      state = with_session (with_startup s (after_confirm s.startup row.session.joined.peer)) near row (confirmed row.session);
      entries = fact_entries (confirm_fact s.startup row.session.joined.peer);
    }) else nothing s)
    either true e = confirmed_goes secrets setup from datagram draws s near row is past outset tied heard e
    either false e = goes_nothing secrets setup (Receive from datagram draws) s past tied

-- The datagram opens in the session of its place.
abbrev pub HeardAt : State → Place → List ℕ → Type 0
HeardAt s (Startup generation) datagram = Unit {0}
HeardAt s (Attempt near generation) datagram = Unit {0}
HeardAt s (Session near) datagram = HeardIn datagram near (get s.sessions near)

pub goes_confirming : (secrets : Secrets) (setup : Setup) (from : AddressParts) (datagram : List ℕ) (draws : Draws) (s : State) (place : Place) → HeardAt s place datagram → (past : Past) → IsOutset past → Tied secrets setup past s →
    Goes secrets setup (Receive from datagram draws) past s (confirming s place)
goes_confirming secrets setup from datagram draws s (Startup generation) heard past outset = goes_nothing secrets setup (Receive from datagram draws) s past
goes_confirming secrets setup from datagram draws s (Attempt near generation) heard past outset = goes_nothing secrets setup (Receive from datagram draws) s past
goes_confirming secrets setup from datagram draws s (Session near) heard past outset = goes_confirming_by secrets setup from datagram draws s near (get s.sessions near) refl heard past outset
