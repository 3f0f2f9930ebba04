-- What an end knows of its sessions once a datagram was admitted or rejected: for each place and each cause.
use Rattle.std.proofs.Common.{◌≡◌, ◌<◌, ◌==◌, ℕ, List, ◌∷◌, length, drop, max, nat_lt, not, Bool, true, false, if◌then◌else◌, is_some, Option, Some, None, Result, Ok, Err, inl, inr, refl, sym, ap, subst, ◌∙◌, arith, length-drop, []}
use Rattle.std.proofs.lemmas.Bool.Decides.{nat_tests}
use Rattle.std.specs.FinMap.{get, insert, contains_key}
use Rattle.rtmfp_base.proofs.Maps.{same_or_not, get_inserted, get_beside, found_inserted}
use Rattle.rtmfp_vlu.proofs.Bytes.{IsBytes, IsBytes-drop}
use Rattle.crypto_profile.specs.declared.window.Seen.{Seen}
use Rattle.crypto_profile.specs.Window.{window_answer}
use Rattle.crypto_profile.specs.Opening.{plain_of}
use Rattle.crypto_profile.specs.Sealing.{Opens}
use Rattle.packet_scramble.specs.Datagram.{sid_of}
use Rattle.rtmfp_packet.specs.declared.head.PacketFault.{PacketFault}
use Rattle.rtmfp_packet.specs.declared.head.PacketHead.{PacketHead}
use Rattle.rtmfp_packet.specs.declared.head.Mode.{Mode}
use Rattle.rtmfp_packet.specs.declared.head.Mode.TheVariants.{Initiator as FromInitiator, Responder as FromResponder, Startup as FromStartup}
use Rattle.rtmfp_packet.specs.Head.{mode_number}
use Rattle.rtmfp_packet.specs.Whole.{Whole}
use Rattle.rtmfp_packet.specs.Reading.{PacketReading}
use Rattle.rtmfp_packet.proofs.Readings.{packet_reading_same}
use Rattle.rtmfp_base.specs.declared.cause.Cause.{Cause}
use Rattle.rtmfp_base.specs.declared.cause.Cause.TheVariants.{Short, WrongPlace, UnknownSession}
use Rattle.session_core.specs.declared.hearing.Unheard.TheVariants.{Short as ShortPart, BadTag as WrongTag, Repeated as OldNumber}
use Rattle.session_core.specs.Session.{SessionState, context_of, with_stamps}
use Rattle.session_core.specs.Hearing.{counted, opens_in, is_new, count_of}
use Rattle.session_core.proofs.Keyed.{opens_in_context, plain_in_context}
use Rattle.endpoint_model.specs.declared.row.Row.{Row}
use Rattle.endpoint_model.specs.declared.place.Place.{Place}
use Rattle.endpoint_model.specs.declared.place.Place.TheVariants.{Startup, Attempt, Session}
use Rattle.endpoint_model.specs.Event.{Event}
use Rattle.endpoint_model.specs.State.{Sessions, State, at_moment, with_session}
use Rattle.endpoint_model.specs.Admission.{packet_in, heard_by, heard_in, opened_at, counted_by, timed_by, mode_by, peers_mode, has_mode, Admission, Rejected, Admitted, admitted_packet, admitted, admission, placed_or, opened_first, next_places, attempt_group, places_of}
use Rattle.endpoint_model.proofs.Reading.{packet_reads}
use Rattle.endpoint_laws.specs.Past.{Past, OfEvent, begun, Taken, datagram_in, taken_and, taken_since}
use Rattle.endpoint_laws.specs.Contexts.{OpensUnder}
use Rattle.endpoint_laws.specs.Taken.{PassesIn}
use Rattle.endpoint_laws.proofs.Bytes.{plain_is}
use Rattle.endpoint_laws.proofs.Hearing.{lasting, TakesUnder, Counts, IsKnown, AreKnown, HeardWell}
use Rattle.endpoint_laws.proofs.Taking.{counts_unopened, counts_refused, counts_counted, counts_taken}
use Rattle.endpoint_laws.proofs.Passing.{PassedAt, Passed, PassedIn}
use Rattle.endpoint_laws.proofs.HeardEvents.{AreNamed, IsWell, AdmissionHeard}
use Rattle.crypto_profile.specs.declared.group.GroupSecret.{GroupSecret}
use Rattle.endpoint_laws.specs.Contexts.{Secrets, generation_of}
use Rattle.endpoint_laws.proofs.Knowing.{only_secret, context_generation}

is_zero : (n : ℕ) → (n == 0) ≡ true → n ≡ 0
is_zero n e = grind (arith, nat_tests)

new_is : (r : Result (Unit {0}) Seen) → is_new r ≡ true → r ≡ Ok tt
new_is (Ok done) e = refl
new_is (Err why) e = absurd (cc)

old_is : (r : Result (Unit {0}) Seen) → is_new r ≡ false → (why : Seen) × (r ≡ Err why)
old_is (Ok done) e = absurd (cc)
old_is (Err why) e = (why, refl)

same_number : (a b : ℕ) → a ≡ b → (a == b) ≡ true
same_number a b e = grind (arith, nat_tests)

mode_is : (a b : Mode) → (mode_number a == mode_number b) ≡ true → a ≡ b
mode_is FromInitiator FromInitiator e = refl
mode_is FromInitiator FromResponder e = absurd (cc)
mode_is FromInitiator FromStartup e = absurd (cc)
mode_is FromResponder FromInitiator e = absurd (cc)
mode_is FromResponder FromResponder e = refl
mode_is FromResponder FromStartup e = absurd (cc)
mode_is FromStartup FromInitiator e = absurd (cc)
mode_is FromStartup FromResponder e = absurd (cc)
mode_is FromStartup FromStartup e = refl

module _ (past : Past) (s : State) (e : Event) (datagram : List ℕ) (are : IsBytes datagram) (is : datagram_in (OfEvent e) ≡ Some datagram) (named : AreNamed s) (well : HeardWell past s) where
  abbrev now : ℕ
  now = max s.moment e.moment

  abbrev t : State
  t = at_moment s e.moment

  abbrev more : Past
  more = begun now e ∷ past

  abbrev this : Taken
  this = record { moment = now; datagram = datagram }

  abbrev sid : ℕ
  sid = sid_of datagram

  abbrev part : List ℕ
  part = drop 4 datagram

  since : (near : ℕ) → taken_since near more ≡ this ∷ taken_since near past
  since near = ap (λ (o : Option (List ℕ)). taken_and now o (taken_since near past)) is

  -- it doesn't open in a session, under whatever secret
  abbrev ShutAt : ℕ → Row → Type 0
  ShutAt near row = (secrets : Secrets) → TakesUnder secrets (lasting row.session) → (plain : List ℕ) → OpensUnder secrets (context_of row.session false) near datagram plain → ⊥

  known_unopened : (near : ℕ) (row : Row) → get s.sessions near ≡ Some row → ShutAt near row → IsKnown more now near row.session
  known_unopened near row there none = let k = well near row there in record {
    counts = subst (λ taken. Counts taken near (lasting row.session)) (sym (since near)) (λ secrets under. counts_unopened secrets near (lasting row.session) this (taken_since near past) (k.counts secrets under) (none secrets under));
    began = record { first = k.began.first; done = inr k.began.done; early = k.began.early };
    half_open = λ o. let b = k.half_open o in (b.0, inr b.1);
    not_later = omega (arith, k.not_later);
  }

  -- one under another session ID
  elsewhere : (near : ℕ) (row : Row) → (near ≡ sid → ⊥) → get s.sessions near ≡ Some row → IsKnown more now near row.session
  elsewhere near row other there = known_unopened near row there (λ secrets under plain opens. other (sym opens.id))

  all_as_before : ((row : Row) → get s.sessions sid ≡ Some row → IsKnown more now sid row.session) → IsWell more now t
  all_as_before here = record {
    well = λ near row there. elim (same_or_not near sid) [
      | inl same ↦ subst (λ (n : ℕ). IsKnown more now n row.session) (sym same.0) (here row (ap (get s.sessions) (sym same.0) ∙ there))
      | inr other ↦ elsewhere near row other.0 there
    ];
    moment = refl;
  }

  unopened : ((row : Row) → get s.sessions sid ≡ Some row → ShutAt sid row) → IsWell more now t
  unopened none = all_as_before (λ row there. known_unopened sid row there (none row there))

  replaced : (m : Sessions) (new : Row) → ((near : ℕ) (row : Row) → (near ≡ sid → ⊥) → get m near ≡ Some row → IsKnown more now near row.session) → IsKnown more now sid new.session → AreKnown more now (insert m sid new)
  replaced m new others k near row there = elim (found_inserted m sid new near row there) [
    | inl here ↦ subst (λ (r : Row). IsKnown more now near r.session) here.1 (subst (λ (n : ℕ). IsKnown more now n new.session) (sym here.0) k)
    | inr beside ↦ others near row beside.0 beside.1
  ]

  -- ---- at other places

  off : (u : State) (place : Place) (packet : Whole) (b : Bool) → IsWell more now u → PassedAt more place datagram packet u → AdmissionHeard more now datagram (if b then Admitted u place packet else Rejected u WrongPlace)
  off u place packet true w p = (w, p)
  off u place packet false w p = w

  at_startup : (generation : ℕ) → IsWell more now t → (further : Cause → Result (Place × List ℕ) Cause) → ((last : Cause) → AdmissionHeard more now datagram (admitted t datagram (further last))) → (r : Result (List ℕ) Cause) →
      AdmissionHeard more now datagram (admitted t datagram (placed_or (Startup generation) r further))
  at_startup generation w further later (Err cause) = later cause
  at_startup generation w further later (Ok plain) = by (packet_in plain)
    where
      by : (r : Result Whole PacketFault) → AdmissionHeard more now datagram (admitted_packet t (Startup generation) r)
      by (Err fault) = w
      by (Ok packet) = off t (Startup generation) packet (has_mode packet.head FromStartup) w tt

  -- in the next generation, where one is known
  at_next : IsWell more now t → (cause : Cause) (next : Option GroupSecret) → AdmissionHeard more now datagram (admitted t datagram (opened_first t cause (next_places next) part))
  at_next w cause None = w
  at_next w cause (Some g) = at_startup g.generation w (λ last. Err last) (λ last. w) (opened_at t (Startup g.generation) part)

  at_attempt : (near generation : ℕ) → IsWell more now t → (r : Result (List ℕ) Cause) → AdmissionHeard more now datagram (admitted t datagram (placed_or (Attempt near generation) r (λ last. Err last)))
  at_attempt near generation w (Err cause) = w
  at_attempt near generation w (Ok plain) = by (packet_in plain)
    where
      by : (r : Result Whole PacketFault) → AdmissionHeard more now datagram (admitted_packet t (Attempt near generation) r)
      by (Err fault) = w
      by (Ok packet) = off t (Attempt near generation) packet (has_mode packet.head FromStartup) w tt

  -- ---- in a session

  -- what was counted goes on where the datagram was heard
  abbrev heard_to : State → Result (List ℕ) Cause → Admission
  heard_to v (Err cause) = Rejected t cause
  heard_to v (Ok bytes) = admitted_packet v (Session sid) (packet_in bytes)

  module _ (row : Row) (there : get s.sessions sid ≡ Some row) where
    abbrev session : SessionState
    session = row.session

    abbrev plain : List ℕ
    plain = plain_of session.inward part

    abbrev known : IsKnown past s.moment sid session
    known = well sid row there

    abbrev one : Row
    one = record row { session = counted session part }

    abbrev u : State
    u = with_session t sid row (counted session part)

    its_id : session.joined.near ≡ sid
    its_id = (named sid row there).named

    module _ (secrets : Secrets) (keyed : TakesUnder secrets (lasting session)) where
      -- the secret of its generation
      its_known : get secrets (generation_of (context_of session false)) ≡ Some keyed.0
      its_known = ap (get secrets) (context_generation session.generation session.joined session.own session.role false) ∙ keyed.1

      opens_it : opens_in session part ≡ true → OpensUnder secrets (context_of session false) sid datagram plain
      opens_it open_here =
          let found = (opens_in_context keyed.0 session keyed.2 part).0 open_here in
          let same : found.0 ≡ plain = plain_in_context keyed.0 session keyed.2 part found.0 found.1 in
          record { secret = keyed.0; known = its_known; id = refl; opens = subst (λ (n : ℕ). Opens keyed.0 (context_of session false) n part plain) its_id (subst (Opens keyed.0 (context_of session false) session.joined.near part) same found.1) }

      only_it : (other : List ℕ) → OpensUnder secrets (context_of session false) sid datagram other → (opens_in session part ≡ true) × (other ≡ plain)
      only_it other under =
          let same : under.secret ≡ keyed.0 = only_secret secrets (context_of session false) keyed.0 its_known under.secret under.known in
          let opens : Opens keyed.0 (context_of session false) session.joined.near part other =
          subst (λ (secret : List ℕ). Opens secret (context_of session false) session.joined.near part other) same (subst (λ (n : ℕ). Opens under.secret (context_of session false) n part other) (sym its_id) under.opens) in
          ((opens_in_context keyed.0 session keyed.2 part).1 (other, opens), plain_in_context keyed.0 session keyed.2 part other opens)

    closed_to : opens_in session part ≡ false → ShutAt sid row
    closed_to shut secrets keyed other under = let clash : true ≡ false = sym (only_it secrets keyed other under).0 ∙ shut in cc

    same_row : (r : Row) → get s.sessions sid ≡ Some r → row ≡ r
    same_row r found = let e : Some row ≡ Some r = sym there ∙ found in cc

    as_before : IsKnown more now sid session → IsWell more now t
    as_before k = all_as_before (λ r found. subst (λ (x : Row). IsKnown more now sid x.session) (same_row r found) k)

    known_refused : (why : Seen) → window_answer session.window (count_of part) ≡ Err why → IsKnown more now sid session
    known_refused why refused = record {
      counts = subst (λ taken. Counts taken sid (lasting session)) (sym (since sid)) (λ secrets under. counts_refused secrets sid (lasting session) this (taken_since sid past) (known.counts secrets under) why refused);
      began = record { first = known.began.first; done = inr known.began.done; early = known.began.early };
      half_open = λ o. let b = known.half_open o in (b.0, inr b.1);
      not_later = omega (arith, known.not_later);
    }

    abbrev PassesIt : Secrets → Type 0
    PassesIt secrets = PassesIn secrets (context_of session false) (peers_mode session.role) sid (taken_since sid past) datagram

    -- it passes under no secret
    abbrev PassesNot : Type 0
    PassesNot = (secrets : Secrets) → TakesUnder secrets (lasting session) → PassesIt secrets → ⊥

    known_counted : opens_in session part ≡ true → PassesNot → IsKnown more now sid one.session
    known_counted open_here none = record {
      counts = subst (λ taken. Counts taken sid (lasting one.session)) (sym (since sid)) (λ secrets under. counts_counted secrets sid (lasting session) this (taken_since sid past) (known.counts secrets under) plain (opens_it secrets under open_here) (none secrets under));
      began = record { first = known.began.first; done = inr known.began.done; early = known.began.early };
      half_open = λ o. let b = known.half_open o in (b.0, inr b.1);
      not_later = omega (arith, known.not_later);
    }

    counted_well : IsKnown more now sid one.session → IsWell more now u
    counted_well k = record { well = replaced s.sessions one elsewhere k; moment = refl }

    -- ---- by its packet

    read_it : PacketReading plain (packet_in plain)
    read_it = packet_reads plain (plain_is session.inward part (IsBytes-drop 4 datagram are))

    reads_only : (secrets : Secrets) → TakesUnder secrets (lasting session) → (p : PassesIt secrets) → packet_in plain ≡ Ok p.packet
    reads_only secrets under p =
        let same : p.reads.plain ≡ plain = (only_it secrets under p.reads.plain p.reads.opens).1 in
        packet_reading_same plain (packet_in plain) (Ok p.packet) read_it (subst (λ b. PacketReading b (Ok p.packet)) same p.reads.reads)

    abbrev timed : PacketHead → SessionState
    timed head = with_stamps head now (counted session part)

    abbrev two : PacketHead → Row
    two head = record one { session = timed head }

    known_timed : opens_in session part ≡ true → (head : PacketHead) → IsKnown more now sid (timed head)
    known_timed open_here head = record {
      counts = subst (λ taken. Counts taken sid (lasting (timed head))) (sym (since sid))
          (λ secrets under. counts_taken secrets sid (lasting session) this (taken_since sid past) (known.counts secrets under) plain (opens_it secrets under open_here) (omega (arith, known.not_later)));
      began = record { first = known.began.first; done = inr known.began.done; early = omega (arith, known.began.early, known.not_later) };
      half_open = λ o. let b = known.half_open o in (b.0, inr b.1);
      not_later = omega arith;
    }

    timed_well : opens_in session part ≡ true → (head : PacketHead) → IsWell more now (with_session u sid one (timed head))
    timed_well open_here head = record {
      well = replaced (insert s.sessions sid one) (two head) (λ near r other found. elsewhere near r other (sym (get_beside s.sessions sid one near other) ∙ found)) (known_timed open_here head);
      moment = refl;
    }

    passed : opens_in session part ≡ true → window_answer session.window (count_of part) ≡ Ok tt → (packet : Whole) → packet_in plain ≡ Ok packet → packet.head.mode ≡ peers_mode session.role →
        PassedIn more sid datagram packet (with_session u sid one (timed packet.head))
    passed open_here fits packet reads mode = λ r found.
        let same : two packet.head ≡ r = (let e : Some (two packet.head) ≡ Some r = sym (get_inserted (insert s.sessions sid one) sid (two packet.head)) ∙ found in cc) in
        subst (λ (x : Row). Passed more sid datagram packet (lasting x.session)) same (λ secrets under. record {
          moment = now;
          before = taken_since sid past;
          last = since sid;
          passes = record {
            packet = packet;
            reads = record { plain = plain; opens = opens_it secrets under open_here; reads = subst (PacketReading plain) reads read_it };
            number = ((known.counts secrets under).numbers (count_of part)).0 fits;
            mode_is = mode;
          };
          is = refl;
        })

    by_packet : opens_in session part ≡ true → window_answer session.window (count_of part) ≡ Ok tt → (r : Result Whole PacketFault) → packet_in plain ≡ r → AdmissionHeard more now datagram (admitted_packet u (Session sid) r)
    by_packet open_here fits (Err fault) reads = counted_well (known_counted open_here (λ secrets under p. let clash : Err fault ≡ Ok p.packet = sym reads ∙ reads_only secrets under p in cc))
    by_packet open_here fits (Ok packet) reads =
        subst (λ (o : Option Row). AdmissionHeard more now datagram (if has_mode packet.head (mode_by o) then Admitted (timed_by u sid packet.head o) (Session sid) packet else Rejected u WrongPlace))
        (sym (get_inserted s.sessions sid one)) (by (has_mode packet.head (peers_mode session.role)) refl)
      where
        same_packet : (secrets : Secrets) → TakesUnder secrets (lasting session) → (p : PassesIt secrets) → p.packet ≡ packet
        same_packet secrets under p = let e : Ok p.packet ≡ Ok packet = sym (reads_only secrets under p) ∙ reads in cc

        by : (b : Bool) → has_mode packet.head (peers_mode session.role) ≡ b →
            AdmissionHeard more now datagram (if b then Admitted (with_session u sid one (timed packet.head)) (Session sid) packet else Rejected u WrongPlace)
        by true e = (timed_well open_here packet.head, passed open_here fits packet reads (mode_is packet.head.mode (peers_mode session.role) e))
        by false e = counted_well (known_counted open_here (λ secrets under p.
            let mode : packet.head.mode ≡ peers_mode session.role = ap (λ (w : Whole). w.head.mode) (sym (same_packet secrets under p)) ∙ p.mode_is in
            let clash : true ≡ false = sym (same_number (mode_number packet.head.mode) (mode_number (peers_mode session.role)) (ap mode_number mode)) ∙ e in cc))

    by_tests : (short opens new : Bool) → nat_lt (length part) 32 ≡ short → opens_in session part ≡ opens → is_new (window_answer session.window (count_of part)) ≡ new →
        AdmissionHeard more now datagram (heard_to u (heard_by session part (if short then Some ShortPart else if not opens then Some WrongTag else if not new then Some OldNumber else None)))
    by_tests true opens new a b c = as_before (known_unopened sid row there (λ secrets keyed other under. let long = under.opens.0 in let short : length part < 32 = grind (arith, nat_tests) in absurd (omega arith)))
    by_tests false false new a b c = as_before (known_unopened sid row there (closed_to b))
    by_tests false true false a b c = let old = old_is (window_answer session.window (count_of part)) c in as_before (known_refused old.0 old.1)
    by_tests false true true a b c = by_packet b (new_is (window_answer session.window (count_of part)) c) (packet_in plain) refl

  at_session : (row : Row) → get s.sessions sid ≡ Some row → AdmissionHeard more now datagram (admitted t datagram (placed_or (Session sid) (heard_in (get s.sessions sid) part) (λ last. Err last)))
  at_session row there = go (heard_in (get s.sessions sid) part)
      (subst (λ (o : Option Row). AdmissionHeard more now datagram (heard_to (counted_by t sid part o) (heard_in o part))) (sym there)
      (by_tests row there (nat_lt (length part) 32) (opens_in row.session part) (is_new (window_answer row.session.window (count_of part))) refl refl refl))
    where
      go : (r : Result (List ℕ) Cause) → AdmissionHeard more now datagram (heard_to (counted_by t sid part (get s.sessions sid)) r) → AdmissionHeard more now datagram (admitted t datagram (placed_or (Session sid) r (λ last. Err last)))
      go (Err cause) h = h
      go (Ok bytes) h = h

  -- ---- wherever it goes

  there_is : (o : Option Row) → is_some o ≡ true → (row : Row) × (o ≡ Some row)
  there_is None e = absurd (cc)
  there_is (Some row) e = (row, refl)

  at_place : (a b c : Bool) → (sid == 0) ≡ a → contains_key s.startup.attempts sid ≡ b → contains_key s.sessions sid ≡ c →
      AdmissionHeard more now datagram (admitted t datagram (opened_first t UnknownSession
      (if a then Startup s.group.generation ∷ next_places s.next else if b then Attempt sid (attempt_group s.group (get s.startup.attempts sid)).generation ∷ [] else if c then Session sid ∷ [] else []) part))
  at_place true b c p q r =
      let w : IsWell more now t = unopened (λ row there secrets keyed plain under. (named sid row there).some (is_zero sid p)) in
      at_startup s.group.generation w (λ last. opened_first t last (next_places s.next) part) (λ last. at_next w last s.next) (opened_at t (Startup s.group.generation) part)
  at_place false true c p q r =
      let generation : ℕ = (attempt_group s.group (get s.startup.attempts sid)).generation in
      at_attempt sid generation (unopened (λ row there secrets keyed plain under. let clash : true ≡ false = sym q ∙ (named sid row there).apart in cc)) (opened_at t (Attempt sid generation) part)
  at_place false false true p q r = let found = there_is (get s.sessions sid) r in at_session found.0 found.1
  at_place false false false p q r = unopened (λ row there secrets keyed plain under. let clash : true ≡ false = sym (ap (λ (o : Option Row). is_some o) there) ∙ r in cc)

  pub heard_admission : AdmissionHeard more now datagram (admission t datagram)
  heard_admission = by (nat_lt (length datagram) 36) refl
    where
      by : (b : Bool) → nat_lt (length datagram) 36 ≡ b → AdmissionHeard more now datagram (admitted t datagram (if b then Err Short else opened_first t UnknownSession (places_of t sid) part))
      by true e = unopened (λ row there secrets keyed plain under. let short : length datagram < 36 = grind (arith, nat_tests) in absurd (omega (arith, under.opens.0, length-drop 4 datagram, short)))
      by false e = at_place (sid == 0) (contains_key s.startup.attempts sid) (contains_key s.sessions sid) refl refl refl
