-- An attempt is opened: what is stated is lawful, and the state agrees with it.
use Rattle.std.proofs.Common.{◌≡◌, ℕ, ◌+◌, ◌-◌, ◌<◌, List, [], ◌∷◌, option_to_list, Option, Some, None, Ok, is_some, ◌||◌, Bool, true, false, inl, inr, refl, sym, ap, subst, ◌∙◌, arith}
use Rattle.std.specs.FinMap.{get, insert, remove, len}
use Rattle.rtmfp_base.proofs.Maps.{get_inserted, get_beside, get_removed, get_left, len_new, len_less}
use Rattle.rtmfp_forms.specs.Address.{AddressParts}
use Rattle.rtmfp_chunks.specs.Chunk.{RIKeying, Ping, Spells}
use Rattle.rtmfp_packet.specs.Walk.{Placed}
use Rattle.rtmfp_packet.specs.Whole.{Whole}
use Rattle.glare_core.specs.declared.facts.Fact.TheVariants.{Opened}
use Rattle.glare_core.specs.declared.facts.Joined.{Joined}
use Rattle.glare_core.specs.declared.facts.Held.{Held}
use Rattle.glare_core.specs.declared.facts.Held.TheVariants.{Opening, KeptAsInitiator}
use Rattle.glare_core.specs.Standing.{opened as opened_held}
use Rattle.glare_core.specs.Things.{near_of}
use Rattle.glare_core.specs.Ledger.{held_with, noted_if}
use Rattle.glare_core.specs.Calls.{opened_fact}
use Rattle.glare_core.specs.Account.{Gave}
use Rattle.glare_core.proofs.Giving.{gave_opened}
use Rattle.startup_packets.specs.Packets.{is_signed}
use Rattle.startup.specs.declared.aim.Aim.{Aim}
use Rattle.startup.specs.declared.aim.Aim.TheVariants.{AtPeer}
use Rattle.startup.specs.Aims.{IsHeldAs}
use Rattle.startup.specs.State.{AttemptState}
use Rattle.startup_packets.specs.Readings.{ResponderKeying, responder_keying_in}
use Rattle.startup.specs.Keyings.{opened_as, opened_reading, opened, after_opening}
use Rattle.session_core.specs.declared.stage.Role.TheVariants.{Initiator}
use Rattle.session_core.specs.Session.{new_session}
use Rattle.session_core.proofs.Keyed.{keyed_begun}
use Rattle.rtmfp_chunks.specs.Writing.{chunk_bytes}
use Rattle.endpoint_model.specs.declared.row.Row.{Row}
use Rattle.endpoint_model.specs.declared.config.Draws.{Draws}
use Rattle.endpoint_model.specs.declared.entry.Entry.TheVariants.{Fact as FactEntry}
use Rattle.endpoint_model.specs.declared.place.Place.TheVariants.{Attempt as AttemptPlace}
use Rattle.endpoint_model.specs.Event.{Setup, Receive, own_of}
use Rattle.endpoint_laws.specs.Contexts.{Secrets, EventOpenedIn}
use Rattle.endpoint_laws.specs.Groups.{HasSecret}
use Rattle.endpoint_laws.specs.Past.{Past, stamped, facts_of, ids_in_use}
use Rattle.endpoint_model.specs.Keying.{IsAmong, chunks_of, responder_part}
use Rattle.endpoint_laws.specs.Lawful.{AnswersAttempt}
use Rattle.endpoint_model.specs.State.{State, new_row, Did, is_used, with_startup, with_row}
use Rattle.endpoint_model.specs.Sending.{sent_in_session}
use Rattle.endpoint_model.specs.Effects.{opening_done, responder_keyed}
use Rattle.endpoint_laws.proofs.Matching.{of_peer, ids_same}
use Rattle.endpoint_model.proofs.Members.{tested}
use Rattle.endpoint_laws.proofs.Tied.{Tied}
use Rattle.endpoint_laws.proofs.Agrees.{IsAt, found_of_peer, used_here, used_elsewhere, agrees_changed, agrees_of, tied_of, none_searches}
use Rattle.endpoint_laws.proofs.Moving.{beside_fact, still_none, noted_matches, rows_after_known, knows_held, still_unsought}
use Rattle.endpoint_laws.proofs.Facts.{stands_of}
use Rattle.endpoint_laws.proofs.Made.{in_session_made}
use Rattle.endpoint_laws.proofs.Going.{Goes, goes_then, goes_sends}
use Rattle.endpoint_laws.proofs.Ending.{some_entry}
use Rattle.endpoint_laws.proofs.Spelled.{responder_signed}
use Rattle.endpoint_laws.proofs.Says.{responder_says}
use Rattle.endpoint_laws.proofs.Admitting.{CameAtAttempt}
use Rattle.endpoint_model.specs.Admission.{attempt_group}
use Rattle.crypto_profile.specs.declared.keys.Context.TheVariants.{Startup as StartupContext}
use Rattle.crypto_profile.specs.declared.group.GroupSecret.{GroupSecret}
use Rattle.endpoint_laws.proofs.Kin.{holds_still, group_known, kin_without}
use Rattle.endpoint_laws.proofs.Knowing.{signed_known}

-- What a responder's keying is that isn't discarded: it reads, is signed, and is of the attempt under this session ID.
pub record OpensAttempt (s : State) (near : ℕ) (payload : List ℕ) : Type 0 where
  pub a : AttemptState
  pub there : get s.startup.attempts near ≡ Some a
  pub peer : List ℕ
  pub n : ℕ
  pub aims : a.aim ≡ AtPeer peer n
  pub keying : ResponderKeying
  pub reads : responder_keying_in payload ≡ Ok keying
  pub signed : is_signed (attempt_group s.group (get s.startup.attempts near)).secret payload keying.sign ≡ true
  pub responder : keying.part.responder ≡ peer
  pub ni : keying.part.ni ≡ a.ni

first_or : (a b : Bool) → a ≡ true → (a || b) ≡ true
first_or true b e = refl
first_or false b e = absurd (cc)

moved_one : (a b c d : ℕ) → a ≡ c - 1 → 0 < c → b ≡ d + 1 → a + b ≡ c + d
moved_one a b c d p some q = omega arith

module _ (secrets : Secrets) (setup : Setup) (from : AddressParts) (datagram : List ℕ) (draws : Draws) (packet : Whole) (past : Past) (s : State) (tied : Tied secrets setup past s) (near generation : ℕ)
    (came : CameAtAttempt secrets setup past s datagram near generation packet) (c : Placed) (opens : OpensAttempt s near c.payload) where
  abbrev a : AttemptState
  a = opens.a

  abbrev j : Joined
  j = record { peer = opens.peer; n = opens.n; near = near; far = opens.keying.near; ni = a.ni; nr = opens.keying.part.nr; k = opens.keying.part.k }

  abbrev group : GroupSecret
  group = attempt_group s.group (get s.startup.attempts near)

  abbrev new : Row
  new = new_row (new_session j s.startup.ledger.own Initiator from group.generation group.secret s.moment)

  abbrev t : State
  t = with_row (with_startup s (after_opening s.startup near (Opened j))) near new

  known : HasSecret secrets group
  known = group_known secrets s tied.holds (AttemptPlace near generation)

  -- which is that of the generation in which the datagram opened
  same_number : group.generation ≡ generation
  same_number = ap (λ (o : Option AttemptState). (attempt_group s.group o).generation) opens.there ∙ came.group opens.a opens.there

  abbrev now : Past
  now = stamped s.moment (FactEntry (Opened j)) ∷ past

  held_is : held_with s.startup.ledger opens.peer ≡ Some (Opening opens.n near a.ni)
  held_is = subst (λ (aim : Aim). IsHeldAs s.startup.ledger near opens.a.ni aim) opens.aims (tied.sound.held near a opens.there)

  abbrev gave : Option Held → Type 0
  gave o = Gave s.startup.ledger (option_to_list (opened_fact o opens.peer j.nr j.far j.k)) (noted_if s.startup.ledger (opened_fact o opens.peer j.nr j.far j.k))

  opened_tied : Tied secrets setup now t
  opened_tied =
      let g = agrees_of secrets setup past s tied in
      let no_session : get s.sessions near ≡ None = tied.apart near a opens.there in
      let was = found_of_peer s near a opens.peer opens.n opens.there opens.aims in
      let at : IsAt near None (Some new) s t = record {
        attempt = get_removed s.startup.attempts near;
        session = get_inserted s.sessions near new;
        attempts = λ q other. get_left s.startup.attempts near q other;
        sessions = λ q other. get_beside s.sessions near new q other;
      } in
      let all_used : (q : ℕ) → is_used t q ≡ is_used s q = λ q. elim (tested q near) [
        | inl e ↦
            ap (is_used t) e.0 ∙ used_here near None (Some new) s t at
            ∙ sym (first_or (is_some (get s.startup.attempts near)) (is_some (get s.sessions near)) (ap (λ (o : Option AttemptState). is_some o) opens.there)) ∙ ap (is_used s) (sym e.0)
        | inr e ↦ used_elsewhere near None (Some new) s t at q e.0
      ] in
      tied_of secrets setup now t
      (agrees_changed secrets setup past now s t near None (Some new) g
      (record { config = g.given.config; cert = g.given.cert; holds = holds_still secrets (with_startup s (after_opening s.startup near (Opened j))) t ((kin_without s near (Some (Opened j))).holds secrets g.given.holds) refl refl refl; current = g.given.current; next = g.given.next; cookie_secret = g.given.cookie_secret; own = g.given.own; max_peers = g.given.max_peers }) at
      (noted_matches s t (Opened j) near None (Some new) g.matches at refl (was ∙ sym (ap (of_peer opens.peer) held_is))
      (sym (ap (λ o. of_peer opens.peer (opened_held j o)) held_is))
      (λ h e. let same : Some (KeptAsInitiator j) ≡ Some h = sym (ap (opened_held j) held_is) ∙ e in let thing : KeptAsInitiator j ≡ h = cc in ap near_of (sym thing)))
      (record { id = refl; own = tied.own; known = record { secret = group.secret; known = known; keyed = keyed_begun refl group.generation j s.startup.ledger.own Initiator from s.moment }; begun = inl (refl, subst (EventOpenedIn secrets setup past) (sym same_number) came.came.event); stage = tt; closed = λ e. absurd (cc) })
      (beside_fact near s.moment past (Opened j) refl) (still_none secrets setup past s g near opens.peer (Opening opens.n near a.ni) was s.moment (Opened j) tt (Some new))
      (still_unsought past near s.moment (Opened j) (none_searches secrets setup past s g near opens.peer (Opening opens.n near a.ni) was) None)
      (ids_same setup.config.max_sessions (ids_in_use past) s t g.ids all_used
      (moved_one (len (remove s.startup.attempts near)) (len (insert s.sessions near new)) (len s.startup.attempts) (len s.sessions)
      (len_less s.startup.attempts near a opens.there) (some_entry s.startup.attempts near a opens.there) (len_new s.sessions near new no_session)))
      (omega arith, g.by_now)
      (rows_after_known s.startup.ledger (Opened j) setup.config.max_peers (knows_held s.startup.ledger opens.peer (Opening opens.n near a.ni) held_is) tied.rows))
      ((subst gave held_is (gave_opened s.startup.ledger opens.peer j.nr j.far j.k)) 0 (facts_of past) tied.account) (omega (arith, tied.few))

  answers : IsAmong c (chunks_of packet) → c.kind ≡ 0x78 → AnswersAttempt secrets generation j datagram
  answers among kind =
      let keying : ResponderKeying = opens.keying in
      let says = responder_says c.payload keying (came.came.read.bytes c among) opens.reads in
      let signed = responder_signed group.secret c.payload keying.near (responder_part keying.part.nr keying.part.k keying.part.responder keying.part.ni) keying.sign says.spells opens.signed in
      record {
        packet = packet;
        reads = came.came.read.reads;
        chunk = c;
        among = among;
        sign = keying.sign;
        spells =
            subst (λ k. Spells (RIKeying j.far (responder_part j.nr j.k j.peer j.ni) keying.sign) k c.payload) (sym kind)
            (subst (λ n. Spells (RIKeying j.far (responder_part j.nr j.k j.peer n) keying.sign) 0x78 c.payload) opens.ni
            (subst (λ r. Spells (RIKeying j.far (responder_part j.nr j.k r keying.part.ni) keying.sign) 0x78 c.payload) opens.responder says.spells));
        number = says.number;
        signed = signed_known secrets (StartupContext generation) group.secret (ap (get secrets) (sym same_number) ∙ known) near datagram came.came.read.reads.plain came.came.read.reads.opens c.payload keying.sign signed;
      }

  told : opened s.startup near c.payload ≡ Some (Opened j)
  told = ap (λ (o : Option AttemptState). opened_reading near o (responder_keying_in c.payload)) opens.there ∙ ap (opened_reading near (Some a)) opens.reads ∙ ap (opened_as near opens.keying opens.a.ni) opens.aims

  pub goes_responder : IsAmong c (chunks_of packet) → c.kind ≡ 0x78 → Goes secrets setup (Receive from datagram draws) past s (responder_keyed s near from c.payload)
  goes_responder among kind =
      let first : Did = record { state = t; entries = FactEntry (Opened j) ∷ [] } in
      let goes : Goes secrets setup (Receive from datagram draws) past s first = record {
        meets = (((stands_of (own_of setup) t.startup.ledger (Opened j) (facts_of past) opened_tied.own opened_tied.account, (generation, came.came.before, answers among kind)), tt), tt);
        tied = opened_tied;
        moment = refl;
      } in
      subst (λ o. Goes secrets setup (Receive from datagram draws) past s (opening_done s near from group o)) (sym told)
      (goes_then secrets setup (Receive from datagram draws) past s first (λ u. sent_in_session u near from (chunk_bytes (Ping []))) goes (in_session_made (goes_sends secrets setup (Receive from datagram draws)) t near from (chunk_bytes (Ping [])) tt now opened_tied))
