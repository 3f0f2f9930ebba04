-- What an end does of a datagram.
use Rattle.std.proofs.Common.{◌≡◌, ◌==◌, ℕ, ◌^◌, ◌<◌, List, [], ◌∷◌, length, drop, take}
use Rattle.std.proofs.Common.{Bool, true, false}
use Rattle.std.proofs.Common.{not, nat_lt, if◌then◌else◌, Option, Some, None, Result, Ok, Err, inl}
use Rattle.std.proofs.Common.{refl, sym, ap, subst, ◌∙◌, arith}
use Rattle.std.proofs.Math.Seq.{take-length}
use Rattle.std.specs.FinMap.{get, contains_key}
use Rattle.rtmfp_forms.specs.Address.{AddressParts}
use Rattle.crypto_profile.specs.declared.group.GroupSecret.{GroupSecret}
use Rattle.crypto_profile.specs.Keys.{Keys, keys_of}
use Rattle.crypto_profile.specs.Opening.{plain_of}
use Rattle.packet_scramble.specs.Datagram.{sid_of}
use Rattle.rtmfp_packet.specs.declared.head.PacketHead.{PacketHead}
use Rattle.rtmfp_packet.specs.declared.head.PacketFault.{PacketFault}
use Rattle.rtmfp_packet.specs.Whole.{Whole}
use Rattle.rtmfp_data_chunks.specs.HandsOver.{IsIn}
use Rattle.glare_core.specs.declared.facts.Fact.{Fact}
use Rattle.session_core.specs.declared.stage.Role.{Role}
use Rattle.session_core.specs.declared.stage.Role.TheVariants.{Initiator, Responder}
use Rattle.session_core.specs.declared.hearing.Unheard.{Unheard}
use Rattle.session_core.specs.declared.hearing.Unheard.TheVariants.{Short as ShortPart}
use Rattle.session_core.specs.declared.hearing.Unheard.TheVariants.{BadTag as WrongTag}
use Rattle.session_core.specs.declared.hearing.Unheard.TheVariants.{Repeated as OldNumber}
use Rattle.session_core.specs.Session.{SessionState, IsKeyed, context_of, with_stamps}
use Rattle.session_core.specs.Hearing.{opens_in as opens_in_session, is_new, count_of, unheard}
use Rattle.session_core.specs.Hearing.{counted}
use Rattle.crypto_profile.specs.Window.{window_answer}
use Rattle.rtmfp_base.specs.declared.cause.Cause.{Cause}
use Rattle.rtmfp_base.specs.declared.cause.Cause.TheVariants.{WrongPlace, UnknownSession, Short as ShortDatagram}
use Rattle.rtmfp_base.specs.Reasons.{first_that_stands}
use Rattle.endpoint_model.specs.declared.config.Draws.{Draws}
use Rattle.endpoint_model.specs.declared.answers.Stopped.{Stopped as Stop}
use Rattle.endpoint_model.specs.declared.place.Place.{Place}
use Rattle.endpoint_model.specs.declared.place.Place.TheVariants.{Startup, Attempt, Session}
use Rattle.endpoint_model.specs.declared.row.Row.{Row}
use Rattle.endpoint_model.specs.declared.entry.Entry.{Entry}
use Rattle.endpoint_model.specs.Views.{fact_in}
use Rattle.endpoint_model.specs.Keying.{chunks_of}
use Rattle.endpoint_model.specs.State.{State, Did, nothing, then_do, after_entries}
use Rattle.endpoint_model.specs.Admission.{packet_in, attempt_group, next_places, places_of, opened_at, heard_by}
use Rattle.endpoint_model.specs.Admission.{heard_in, placed_or, opened_first}
use Rattle.endpoint_model.specs.Admission.{counted_by, counted_at, timed_by, timed_at, confirming}
use Rattle.endpoint_model.specs.Admission.{mode_at, has_mode, Admission, Rejected, Admitted}
use Rattle.endpoint_model.specs.Admission.{admitted_packet, admitted, admission}
use Rattle.endpoint_model.specs.InSessions.{tested}
use Rattle.endpoint_model.specs.FlowChunks.{acked}
use Rattle.endpoint_model.specs.FlowChunks.{unowed}
use Rattle.endpoint_model.specs.Effects.{outset, most_acks, walked_and_acked, received, part_received}
use Rattle.endpoint_model.specs.Effects.{WalkStep, steps_did, walk_of}
use Rattle.endpoint_model.specs.Effects.{walked_and_tested}
use Rattle.endpoint_model.specs.Log.{stopped}
use Rattle.endpoint_laws.specs.Past.{fact_and}
use Rattle.endpoint_laws.specs.OpensIn.{context_in_session, context_first, opens_in}
use Rattle.flow_history.specs.Deeds.{Context, back, Piece, History}
use Rattle.flow_history.specs.Lawful.{WasSent}
use Rattle.endpoint_handing.specs.Told.{sends_in, facts_onto}
use Rattle.session_deeds.specs.Pieces.{pieces_of}
use Rattle.endpoint_handing.proofs.Pieces.{pieces_whole, keys_in, pieces_in}
use Rattle.endpoint_laws.proofs.Kin.{holds_still}
use Rattle.endpoint_handing.proofs.Kept.{End, away, session_of, Stands, IsNew, AreNew, new_split}
use Rattle.endpoint_handing.proofs.Kept.{Hands, Does, hands_after}
use Rattle.endpoint_handing.proofs.Kept.{does_nothing}
use Rattle.endpoint_handing.proofs.Silent.{stands_silent, same_then, had_it, had_row, IsAlike}
use Rattle.endpoint_laws.proofs.Made.{tested_made, confirming_made, acked_made, unowed_made}
use Rattle.endpoint_handing.proofs.Plain.{ping_none}
use Rattle.endpoint_handing.proofs.Items.{quiet_does}
use Rattle.endpoint_handing.proofs.Ticks.{timed_does}
use Rattle.endpoint_handing.proofs.Owed.{FlowsHand}
use Rattle.endpoint_handing.proofs.Gathered.{came_now, stands_in, hands_in}
use Rattle.endpoint_handing.proofs.Chunks.{BeginsAt, AllCame, AllCameAt, came_after, hands_steps}

-- ---- before the chunks

alike_itself : (s : State) → IsAlike s s
alike_itself s = record { own = refl; holds = λ secrets holds. holds; rows = had_it s.sessions }

alike_then : (a b c : State) → IsAlike a b → IsAlike b c → IsAlike a c
alike_then a b c p q = record {
  own = q.own ∙ p.own;
  holds = λ secrets holds. q.holds secrets (p.holds secrets holds);
  rows = λ near row there.
      (let two = q.rows near row there in
      let one = p.rows near two.old two.there in
      record { old = one.old; there = one.there; same = same_then one.old two.old row one.same two.same });
}

counted_alike : (s : State) (near : ℕ) (part : List ℕ) (o : Option Row) → get s.sessions near ≡ o → IsAlike s (counted_by s near part o)
counted_alike s near part None is = alike_itself s
counted_alike s near part (Some row) is = record { own = refl; holds = λ secrets holds. holds_still secrets s _ holds refl refl refl; rows = had_row s.sessions near row (record row { session = counted row.session part }) is (record { joined = refl; own = refl; role = refl; generation = refl; inward = refl; outward = refl; flows = refl; gathering = refl; packets = omega arith }) }

alike_counted : (s : State) (place : Place) (part : List ℕ) → IsAlike s (counted_at s place part)
alike_counted s (Startup generation) part = alike_itself s
alike_counted s (Attempt near generation) part = alike_itself s
alike_counted s (Session near) part = counted_alike s near part (get s.sessions near) refl

timed_alike : (s : State) (near : ℕ) (head : PacketHead) (o : Option Row) → get s.sessions near ≡ o → IsAlike s (timed_by s near head o)
timed_alike s near head None is = alike_itself s
timed_alike s near head (Some row) is = record { own = refl; holds = λ secrets holds. holds_still secrets s _ holds refl refl refl; rows = had_row s.sessions near row (record row { session = with_stamps head s.moment row.session }) is (record { joined = refl; own = refl; role = refl; generation = refl; inward = refl; outward = refl; flows = refl; gathering = refl; packets = omega arith }) }

alike_timed : (s : State) (place : Place) (head : PacketHead) → IsAlike s (timed_at s place head)
alike_timed s (Startup generation) head = alike_itself s
alike_timed s (Attempt near generation) head = alike_itself s
alike_timed s (Session near) head = timed_alike s near head (get s.sessions near) refl

-- The datagram opens in the context of this session towards this end, and its packet is this one.
pub record OpensHere (s : State) (datagram : List ℕ) (near : ℕ) (packet : Whole) : Type 0 where
  pub row : Row
  pub there : get s.sessions near ≡ Some row
  pub reads : packet_in (plain_of row.session.inward (drop 4 datagram)) ≡ Ok packet
  pub opens : opens_in s datagram ≡ Some (context_of row.session false)

abbrev pub OpensAt : State → List ℕ → Place → Whole → Type 0
OpensAt s datagram (Startup generation) packet = Unit {0}
OpensAt s datagram (Attempt near generation) packet = Unit {0}
OpensAt s datagram (Session near) packet = OpensHere s datagram near packet

abbrev pub AdmissionIs : State → List ℕ → Admission → Type 0
AdmissionIs s datagram (Rejected t cause) = IsAlike s t
AdmissionIs s datagram (Admitted t place packet) = IsAlike s t × OpensAt s datagram place packet

abbrev IsOutside : Place → Type 0
IsOutside (Startup generation) = Unit {0}
IsOutside (Attempt near generation) = Unit {0}
IsOutside (Session near) = ⊥

abbrev AreOutside : List Place → Type 0
AreOutside [] = Unit {0}
AreOutside (place ∷ rest) = IsOutside place × AreOutside rest

any_opens : (s : State) (datagram : List ℕ) (place : Place) (packet : Whole) → IsOutside place → OpensAt s datagram place packet
any_opens s datagram (Startup generation) packet out = tt
any_opens s datagram (Attempt near generation) packet out = tt
any_opens s datagram (Session near) packet out = absurd out

next_outside : (next : Option GroupSecret) → AreOutside (next_places next)
next_outside None = tt
next_outside (Some g) = (tt, tt)

module _ (s : State) (datagram : List ℕ) where
  abbrev part : List ℕ
  part = drop 4 datagram

  -- a packet that is read at a place
  packet_is : (place : Place) (read : Result Whole PacketFault) → ((packet : Whole) → read ≡ Ok packet → OpensAt s datagram place packet) → AdmissionIs s datagram (admitted_packet (counted_at s place part) place read)
  packet_is place (Err fault) opens = alike_counted s place part
  packet_is place (Ok packet) opens = by (has_mode packet.head (mode_at (counted_at s place part) place))
    where
      counted_state : State
      counted_state = counted_at s place part

      by : (b : Bool) → AdmissionIs s datagram (if b then Admitted (timed_at counted_state place packet.head) place packet else Rejected counted_state WrongPlace)
      by true = (alike_then s counted_state (timed_at counted_state place packet.head) (alike_counted s place part) (alike_timed counted_state place packet.head), opens packet refl)
      by false = alike_counted s place part

  -- outside of sessions, at the first of these places at which it opens
  outside_is : (cause : Cause) (places : List Place) → AreOutside places → AdmissionIs s datagram (admitted s datagram (opened_first s cause places part))
  outside_is cause [] are = alike_itself s
  outside_is cause (place ∷ rest) are = by (opened_at s place part) (λ last. outside_is last rest are.1)
    where
      by : (r : Result (List ℕ) Cause) → ((last : Cause) → AdmissionIs s datagram (admitted s datagram (opened_first s last rest part))) →
          AdmissionIs s datagram (admitted s datagram (placed_or place r (λ last. opened_first s last rest part)))
      by (Ok plain) further = packet_is place (packet_in plain) (λ packet is. any_opens s datagram place packet are.0)
      by (Err last) further = further last

  heard_opens : (session : SessionState) → unheard session part ≡ None → opens_in_session session part ≡ true
  heard_opens session none = by (nat_lt (length part) 32) (opens_in_session session part) (is_new (window_answer session.window (count_of part))) none
    where
      by : (short opens new : Bool) → ◌≡◌ {A = Option Unheard} (if short then Some ShortPart else if not opens then Some WrongTag else if not new then Some OldNumber else None) None → opens ≡ true
      by true opens new is = absurd cc
      by false true new is = refl
      by false false new is = absurd cc

  module _ (long : nat_lt (length datagram) 36 ≡ false) (near : ℕ) (place : places_of s (sid_of datagram) ≡ Session near ∷ []) (row : Row) (there : get s.sessions near ≡ Some row) where
    context_found_here : opens_in_session row.session part ≡ true → opens_in s datagram ≡ Some (context_of row.session false)
    context_found_here opens =
        ap (λ (b : Bool). if b then None else context_first s (places_of s (sid_of datagram)) part) long
        ∙ ap (λ (ps : List Place). context_first s ps part) place
        ∙ ap (λ (o : Option Row). first_that_stands (context_in_session o part ∷ [])) there
        ∙ ap (λ (b : Bool). first_that_stands ((if b then Some (context_of row.session false) else None) ∷ [])) opens

    heard_is : (u : Option Unheard) → unheard row.session part ≡ u → AdmissionIs s datagram (admitted s datagram (placed_or (Session near) (heard_by row.session part u) (λ last. Err last)))
    heard_is None is = packet_is (Session near) (packet_in (plain_of row.session.inward part)) (λ packet read. record { row = row; there = there; reads = read; opens = context_found_here (heard_opens row.session is) })
    heard_is (Some ShortPart) is = alike_itself s
    heard_is (Some WrongTag) is = alike_itself s
    heard_is (Some OldNumber) is = alike_itself s

  session_is : nat_lt (length datagram) 36 ≡ false → (near : ℕ) → places_of s (sid_of datagram) ≡ Session near ∷ [] → (o : Option Row) → get s.sessions near ≡ o →
      AdmissionIs s datagram (admitted s datagram (placed_or (Session near) (heard_in o part) (λ last. Err last)))
  session_is long near place None is = alike_itself s
  session_is long near place (Some row) is = heard_is long near place row is (unheard row.session part) refl

  abbrev sid : ℕ
  sid = sid_of datagram

  abbrev attempt_place : Place
  attempt_place = Attempt sid (attempt_group s.group (get s.startup.attempts sid)).generation

  -- the places of its session ID, by what has that
  abbrev places_by : Bool → Bool → Bool → List Place
  places_by zero attempt session =
      if zero then Startup s.group.generation ∷ next_places s.next else if attempt then attempt_place ∷ [] else if session then Session sid ∷ [] else []

  places_are : (zero attempt session : Bool) → (sid == 0) ≡ zero → contains_key s.startup.attempts sid ≡ attempt → contains_key s.sessions sid ≡ session → places_of s sid ≡ places_by zero attempt session
  places_are zero attempt session is_zero is_attempt is_session =
      ap (λ (b : Bool). places_by b (contains_key s.startup.attempts sid) (contains_key s.sessions sid)) is_zero
      ∙ ap (λ (b : Bool). places_by zero b (contains_key s.sessions sid)) is_attempt
      ∙ ap (λ (b : Bool). places_by zero attempt b) is_session

  first_is : nat_lt (length datagram) 36 ≡ false → (zero attempt session : Bool) → places_of s sid ≡ places_by zero attempt session →
      AdmissionIs s datagram (admitted s datagram (opened_first s UnknownSession (places_by zero attempt session) part))
  first_is long true attempt session are = outside_is UnknownSession (places_by true attempt session) (tt, next_outside s.next)
  first_is long false true session are = outside_is UnknownSession (places_by false true session) (tt, tt)
  first_is long false false true are = session_is long sid are (get s.sessions sid) refl
  first_is long false false false are = alike_itself s

  pub admission_is : AdmissionIs s datagram (admission s datagram)
  admission_is = by (nat_lt (length datagram) 36) refl
    where
      by : (b : Bool) → nat_lt (length datagram) 36 ≡ b → AdmissionIs s datagram (admitted s datagram (if b then Err ShortDatagram else opened_first s UnknownSession (places_of s (sid_of datagram)) part))
      by true is = alike_itself s
      by false is = first_is is (sid == 0) (contains_key s.startup.attempts sid) (contains_key s.sessions sid) refl

-- ---- whether sessions may begin

abbrev pub with_begins : End → Type 0 → End
with_begins e A = record e { begins = A }

module _ (e : End) (A B : Type 0) where
  stands_as : (facts : List Fact) (s : State) (h : History) → Stands (with_begins e A) facts s h → Stands (with_begins e B) facts s h
  stands_as facts s h k = record {
    lawful = k.lawful;
    honest = k.honest;
    begun = k.begun;
    splits = k.splits;
    state = record {
      own = k.state.own;
      rows = λ near row there. (let r = k.state.rows near row there in record { id = r.id; own = r.own; keyed = r.keyed; named = r.named; flows = r.flows; held = r.held; split = r.split });
    };
    holds = k.holds;
  }

  new_as : (entries : List Entry) (facts : List Fact) → AreNew (with_begins e A) facts entries → AreNew (with_begins e B) facts entries
  new_as [] facts new = tt
  new_as (x ∷ rest) facts new = (one (fact_in x) new.0, new_as rest (fact_and (fact_in x) facts) new.1)
    where
      one : (o : Option Fact) → IsNew (with_begins e A) facts o → IsNew (with_begins e B) facts o
      one None new = tt
      one (Some fact) new = new

-- what held where none may begin
hands_as : (e : End) (A : Type 0) (facts : List Fact) (d : Did) (h : History) → Hands (with_begins e A) facts d h → Hands (with_begins e (Unit {0})) facts d h
hands_as e A facts d h k = record {
  after = k.after;
  grows = k.grows;
  stands = stands_as e A (Unit {0}) (facts_onto d.entries facts) d.state k.after k.stands;
  log = k.log;
  named = k.named;
  outs = k.outs;
  still = λ near. inl tt;
  order = k.order;
}

-- ---- what was admitted

-- One thing, and then another that needs nothing of it.
hands_and : (e : End) (facts : List Fact) (h : History) (d : Did) (next : State → Did) → (AreNew e facts d.entries → Hands e facts d h) → ((more : List Fact) (t : State) → Does e more t (next t)) →
    AreNew e facts (then_do d next).entries → Hands e facts (then_do d next) h
hands_and e facts h d next first does new =
    let parts = new_split e d.entries (next d.state).entries facts new in
    let one : Hands e facts d h = first parts.0 in
    hands_after e facts d.state d.entries (next d.state) h one (does (facts_onto d.entries facts) d.state one.after one.stands parts.1)

module _ (e : End) (owed : FlowsHand e) (place : Place) (from : AddressParts) (draws : Draws) (at : BeginsAt e place) (packet : Whole) (chunks : State → ℕ) (count : ℕ) where
  -- so many of the chunks that are gone through
  abbrev steps : State → List WalkStep
  steps t = take (chunks t) (walk_of place from draws t packet)

  -- the chunks, and the acks after them
  hands_acked : (facts : List Fact) (s : State) (h : History) → Stands e facts s h → AllCameAt e place facts None (chunks_of packet) h → AreNew e facts (walked_and_acked place from draws s (steps s) count).entries →
      Hands e facts (walked_and_acked place from draws s (steps s) count) h
  hands_acked facts s h stands all =
      hands_and e facts h (steps_did place from draws s (steps s)) (λ t. acked count t place) (λ new. hands_steps e owed place from draws at (chunks_of packet) outset s tt (chunks s) facts h stands all new) (λ more t. acked_made (timed_does e owed) count t place more)

  -- once the session is confirmed, and with what comes last
  hands_walked : (next : State → Did) (facts : List Fact) (s : State) (h : History) → Stands e facts s h → AllCameAt e place facts None (chunks_of packet) h → ((more : List Fact) (t : State) → Does e more t (next t)) →
      AreNew e facts (then_do (confirming s place) (λ t. then_do (walked_and_acked place from draws t (steps t) count) next)).entries → Hands e facts (then_do (confirming s place) (λ t. then_do (walked_and_acked place from draws t (steps t) count) next)) h
  hands_walked next facts s h stands all does new =
      let d : Did = confirming s place in
      let went : Did = walked_and_acked place from draws d.state (steps d.state) count in
      let later : Did = then_do went next in
      let parts = new_split e d.entries later.entries facts new in
      let one : Hands e facts d h = confirming_made (quiet_does e) s place facts h stands parts.0 in
      let now : List Fact = facts_onto d.entries facts in
      hands_after e facts d.state d.entries later h one (hands_and e now one.after went next (hands_acked now d.state one.after one.stands (came_after e place facts None (chunks_of packet) h d at one all)) does parts.1)

-- ---- the datagram came

-- the context of a session towards its end is the one back of that in which it sends
pub session_back : (session : SessionState) → session_of (context_of session false) ≡ Some (back (away session))
session_back session = by session.role
  where
    by : (r : Role) → session_of (context_of (record session { role = r }) false) ≡ Some (back (sends_in r session.own session.joined))
    by Initiator = refl
    by Responder = refl

-- no key is made of a generation
keys_back : (secret : List ℕ) (session : SessionState) → keys_in secret (back (away session)) ≡ keys_of secret (context_of session false)
keys_back secret session = by session.role
  where
    by : (r : Role) → keys_in secret (back (sends_in r session.own session.joined)) ≡ keys_of secret (context_of (record session { role = r }) false)
    by Initiator = refl
    by Responder = refl

came_pieces : (secret : List ℕ) (session : SessionState) (datagram : List ℕ) (packet : Whole) → IsKeyed secret session → packet_in (plain_of session.inward (drop 4 datagram)) ≡ Ok packet →
    pieces_in secret (back (away session)) datagram ≡ pieces_of (chunks_of packet)
came_pieces secret session datagram packet keyed reads =
    ap (λ (k : Keys). pieces_whole (packet_in (plain_of k (drop 4 datagram)))) (keys_back secret session ∙ sym keyed.towards)
    ∙ ap pieces_whole reads

-- What opens in a session's context was sent in it.
abbrev pub Arrives : End → State → List ℕ → History → Type 0
Arrives e s datagram h = (near : ℕ) (row : Row) → get s.sessions near ≡ Some row → opens_in s datagram ≡ Some (context_of row.session false) →
    (secret : List ℕ) → get e.secrets row.session.generation ≡ Some secret → WasSent (back (away row.session)) (pieces_in secret (back (away row.session)) datagram) h

-- ---- all of it

module _ (e : End) (owed : (A : Type 0) → FlowsHand (with_begins e A)) (from : AddressParts) (draws : Draws) (facts : List Fact) (s : State) (datagram : List ℕ) (h : History) where
  abbrev open_end : End
  open_end = with_begins e (Unit {0})

  abbrev shut_end : End
  shut_end = with_begins e ⊥

  -- so many of the chunks of a packet that was admitted, so many packets of acks, and what comes then
  module _ (t : State) (packet : Whole) (chunks : Place → State → ℕ) (count : ℕ) (next : State → Did) (does : (A : Type 0) (more : List Fact) (u : State) → Does (with_begins e A) more u (next u)) where
    abbrev did : Place → Did
    did place = then_do (confirming t place) (λ u. then_do (walked_and_acked place from draws u (take (chunks place u) (walk_of place from draws u packet)) count) next)

    -- outside of sessions
    hands_outside : (place : Place) → BeginsAt open_end place → AllCameAt open_end place facts None (chunks_of packet) h → Stands open_end facts t h → AreNew open_end facts (did place).entries → Hands open_end facts (did place) h
    hands_outside place at all stands new = hands_walked open_end (owed (Unit {0})) place from draws at packet (chunks place) count next facts t h stands all (does (Unit {0})) new

    hands_inside : (near : ℕ) → OpensHere s datagram near packet → IsAlike s t → Arrives open_end s datagram h → Stands open_end facts s h → Stands open_end facts t h → AreNew open_end facts (did (Session near)).entries → Hands open_end facts (did (Session near)) h
    hands_inside near opens alike arrives before stands new =
        let row : Row = opens.row in
        let c : Context = back (away row.session) in
        let kept = before.state.rows near row opens.there in
        let pieces : List Piece = pieces_in kept.keyed.secret c datagram in
        let sent : WasSent c pieces h = arrives near row opens.there opens.opens kept.keyed.secret kept.keyed.known in
        let are : pieces ≡ pieces_of (chunks_of packet) = came_pieces kept.keyed.secret row.session datagram packet kept.keyed.keyed opens.reads in
        let now : History = came_now shut_end facts c pieces h in
        let all : AllCame shut_end near facts None (chunks_of packet) now = record {
          context = away row.session;
          named = kept.named;
          came = λ x among. inl (refl, (refl, subst (λ (ps : List Piece). IsIn x ps) (sym are) among));
        } in
        let stands_now : Stands shut_end facts t now = stands_in shut_end facts c pieces h t sent (stands_as e (Unit {0}) ⊥ facts t h stands) in
        hands_as e ⊥ facts (did (Session near)) h
        (hands_in shut_end facts c pieces h (did (Session near))
        (hands_walked shut_end (owed ⊥) (Session near) from draws (λ never. never) packet (chunks (Session near)) count next facts t now stands_now all (does ⊥) (new_as e (Unit {0}) ⊥ (did (Session near)).entries facts new)))

    -- at whatever place
    hands_admitted : (place : Place) → IsAlike s t → OpensAt s datagram place packet → Arrives open_end s datagram h → Stands open_end facts s h → AreNew open_end facts (did place).entries → Hands open_end facts (did place) h
    hands_admitted (Startup generation) alike opens arrives stands new = hands_outside (Startup generation) tt tt (stands_silent open_end facts s t [] tt alike h stands) new
    hands_admitted (Attempt near generation) alike opens arrives stands new = hands_outside (Attempt near generation) tt tt (stands_silent open_end facts s t [] tt alike h stands) new
    hands_admitted (Session near) alike opens arrives stands new = hands_inside near opens alike arrives stands (stands_silent open_end facts s t [] tt alike h stands) new

  module _ (short : length draws.token < 2 ^ 16) (arrives : Arrives open_end s datagram h) (stands : Stands open_end facts s h) where
    received_by : (a : Admission) → AdmissionIs s datagram a → AreNew open_end facts (received from draws a).entries → Hands open_end facts (received from draws a) h
    received_by (Rejected t cause) alike new = (quiet_does open_end).discards t 0 cause facts h (stands_silent open_end facts s t [] tt alike h stands) new
    received_by (Admitted t place packet) so new =
        let d : Did = confirming t place in
        let all : List WalkStep → Did = λ xs. after_entries d.entries (walked_and_tested place from draws d.state xs) in
        let steps : List WalkStep = walk_of place from draws d.state packet in
        subst (λ (x : Did). AreNew open_end facts x.entries → Hands open_end facts x h) (ap all (take-length steps))
        (λ fresh. hands_admitted t packet (λ p u. length (walk_of p from draws u packet)) most_acks (λ u. tested u place from draws) (λ A more u. tested_made (quiet_does (with_begins e A)) u place from draws (ping_none draws.token short) more)
        place so.0 so.1 arrives stands fresh) new

    part_by : (count acks : ℕ) (a : Admission) → AdmissionIs s datagram a → AreNew open_end facts (part_received from draws a count acks).entries → Hands open_end facts (part_received from draws a count acks) h
    part_by count acks (Rejected t cause) alike new = does_nothing open_end facts t h (stands_silent open_end facts s t [] tt alike h stands) tt
    part_by count acks (Admitted t place packet) so new =
        hands_admitted t packet (λ p u. count) acks (λ u. nothing (unowed u place)) (λ A more u. unowed_made (timed_does (with_begins e A) (owed A)) u place more)
        place so.0 so.1 arrives stands new

    pub hands_received : AreNew open_end facts (received from draws (admission s datagram)).entries → Hands open_end facts (received from draws (admission s datagram)) h
    hands_received new = received_by (admission s datagram) (admission_is s datagram) new

    pub hands_stopped : (stop : Stop) (acks : ℕ) → AreNew open_end facts (stopped s from draws (admission s datagram) stop acks).entries → Hands open_end facts (stopped s from draws (admission s datagram) stop acks) h
    hands_stopped stop acks new = by stop.taken new
      where
        by : (b : Bool) → AreNew open_end facts (if b then part_received from draws (admission s datagram) stop.chunks acks else nothing s).entries →
            Hands open_end facts (if b then part_received from draws (admission s datagram) stop.chunks acks else nothing s) h
        by true new = part_by stop.chunks acks (admission s datagram) (admission_is s datagram) new
        by false new = does_nothing open_end facts s h stands tt
