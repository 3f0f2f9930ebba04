-- Admissible keyings bear, and responders' keyings that nothing discards open.
use Rattle.std.proofs.Common.{◌≡◌, ◌≢◌, ℕ, ◌+◌, ◌^◌, ◌<◌, ◌≤◌, ◌==◌, max, List, [], ◌∷◌, ◌++◌, length, take, drop, length-drop, nat_lt, Bool, true, false, not, ◌||◌, if◌then◌else◌, Option, Some, None, Result, Ok, Err, inl, inr, refl, sym, ap, subst, ◌∙◌, arith, append_assoc, length-append}
use Rattle.std.specs.FinMap.{get}
use Rattle.std.specs.Int.{w64, to_be_bytes}
use Rattle.std.proofs.lemmas.Bool.Decides.{nat_tests}
use Rattle.std.proofs.lemmas.List.{length-take-le, take-append-drop, append-nil}
use Rattle.sha2.specs.Sha256.{sha256}
use Rattle.sha2.proofs.Facts256.{length-sha256}
use Rattle.rtmfp_base.proofs.Maps.{get_inserted}
use Rattle.rtmfp_vlu.proofs.Bytes.{IsBytes, IsBytes-drop}
use Rattle.rtmfp_forms.specs.Address.{AddressParts}
use Rattle.rtmfp_packet.specs.declared.head.Mode.{Mode}
use Rattle.rtmfp_packet.specs.declared.head.Mode.TheVariants.{Startup as FromStartup}
use Rattle.rtmfp_packet.specs.Head.{mode_number, head_bytes}
use Rattle.rtmfp_packet.specs.Whole.{Whole}
use Rattle.rtmfp_packet.specs.Walk.{Placed}
use Rattle.rtmfp_packet.proofs.Readings.{packet_reading_same}
use Rattle.rtmfp_chunks.specs.Chunk.{Ping, parts_of}
use Rattle.rtmfp_chunks.proofs.WritingLaws.{parts_bytes-spell}
use Rattle.crypto_profile.specs.declared.keys.Context.TheVariants.{Startup as StartupContext}
use Rattle.crypto_profile.specs.Keys.{keys_of}
use Rattle.crypto_profile.specs.Opening.{plain_of}
use Rattle.crypto_profile.specs.Sealing.{sealed_in, sealed}
use Rattle.crypto_profile.proofs.Opened.{opens_by_its_tag}
use Rattle.packet_scramble.specs.Datagram.{datagram, sid_of}
use Rattle.cookies.specs.declared.CookieTest.{CookieTest}
use Rattle.glare_core.specs.declared.facts.Fact.{Fact}
use Rattle.glare_core.specs.declared.facts.Fact.TheVariants.{Born, Opened}
use Rattle.glare_core.specs.declared.facts.Joined.{Joined}
use Rattle.glare_core.specs.declared.answers.Keying.{Keying}
use Rattle.glare_core.specs.declared.answers.Heard.{Heard}
use Rattle.glare_core.specs.declared.answers.Heard.TheVariants.{Again, Birth}
use Rattle.glare_core.specs.Standing.{count}
use Rattle.glare_core.specs.Ledger.{Ledger, held_with}
use Rattle.glare_core.specs.Calls.{way_made, heard, heard_noted}
use Rattle.glare_core.proofs.Accounts.{reads_started}
use Rattle.rtmfp_base.specs.declared.cause.Cause.{Cause}
use Rattle.rtmfp_base.specs.Reasons.{where_true}
use Rattle.rtmfp_base.specs.declared.cause.Cause.TheVariants.{Short, WrongPlace, SecondKeying, UnknownSession}
use Rattle.startup.specs.declared.answer.Answer.{Answer}
use Rattle.startup.specs.State.{StartupState}
use Rattle.startup_packets.specs.Packets.{rikeying_packet}
use Rattle.startup_packets.specs.Readings.{InitiatorKeying, responder_keying_in}
use Rattle.startup.specs.Keyings.{keying_of, fault_in, iikeying_cause, session_answer, born_session, again_or_birth, keyed_with, keyed_reading, after_again_or_birth, after_keyed_with, after_keyed_reading, opened, opened_as as opened_by_aim, opened_reading, after_opening}
use Rattle.session_core.specs.Session.{new_session, head_at}
use Rattle.session_core.specs.Sealed.{number_bytes}
use Rattle.glare_core.specs.Tells.{as_initiator}
use Rattle.rtmfp_chunks.specs.Writing.{chunk_bytes}
use Rattle.crypto_profile.specs.declared.keys.Context.{Context}
use Rattle.endpoint_laws.specs.Contexts.{session_context, Secrets, OpensFirst, startup_contexts, next_contexts}
use Rattle.session_core.specs.declared.stage.Role.TheVariants.{Initiator}
use Rattle.endpoint_model.specs.declared.row.Row.{Row}
use Rattle.endpoint_model.specs.declared.walk.Walk.{Walk}
use Rattle.endpoint_model.specs.declared.config.Draws.{Draws}
use Rattle.endpoint_model.specs.declared.place.Place.{Place}
use Rattle.endpoint_model.specs.declared.place.Place.TheVariants.{Startup, Attempt}
use Rattle.endpoint_model.specs.declared.entry.Entry.{Entry}
use Rattle.endpoint_model.specs.declared.entry.Entry.TheVariants.{Fact as FactEntry, Out}
use Rattle.endpoint_model.specs.Event.{Setup, own_of, Receive, Answer as CallAnswer, Began, Searching, Succeeds, Done, NotOpened, NotSought, Refused, NotAdded, Stopped, OutOfMemory, Event}
use Rattle.endpoint_model.specs.Views.{fact_in, closed_in, sought_in, unsought_in}
use Rattle.endpoint_laws.specs.Past.{Past, begun, stamped, onto, fact_and, facts_of, ids_in_use, ids_after, ids_left, ids_sought, unsought_id, next_of, was_gone_through, past_of, last_moment}
use Rattle.std.specs.List.{AllByRecursion}
use Rattle.endpoint_model.specs.Keying.{chunks_of}
use Rattle.endpoint_laws.specs.Admissible.{Admissible, Offer}
use Rattle.endpoint_laws.specs.Lawful.{AnswersAttempt}
use Rattle.endpoint_model.specs.State.{State, full, new_row, Did, nothing, then_do, fact_entries, with_startup, free_from, fresh, at_moment}
use Rattle.endpoint_model.specs.Sending.{last_count, startup_number, startup_datagram, session_packet, session_datagram, sent_whole, sent_by}
use Rattle.endpoint_model.specs.Admission.{Admission, Rejected, Admitted, opened_datagram, admission, admitted, admitted_packet, packet_in, has_mode, confirming, places_of, known_group, group_at, attempt_group, opened_first}
use Rattle.endpoint_model.specs.Causes.{takes_in, form_cause, initiator_keying_cause, last_cause, chunk_cause}
use Rattle.endpoint_model.specs.Gathering.{may_be_gathered}
use Rattle.endpoint_model.specs.InSessions.{tested as tested_at}
use Rattle.endpoint_model.specs.FlowChunks.{acked, unowed, is_session}
use Rattle.endpoint_laws.proofs.Hearing.{HeardWell}
use Rattle.endpoint_laws.proofs.Passing.{PassedAt}
use Rattle.endpoint_laws.proofs.HeardEvents.{IsWell, AdmissionHeard, gone_through_is}
use Rattle.endpoint_laws.proofs.HeardAdmission.{heard_admission}
use Rattle.endpoint_model.specs.Effects.{with_born, keying_done, initiator_keyed, responder_keyed, with_opened, opening_done, discarded_or, chunk_did, walked, WalkStep, in_order, steps_did, chunks_did, walk_of, received, part_received, outset, most_acks, walked_and_acked}
use Rattle.endpoint_model.specs.Log.{Answers}
use Rattle.endpoint_laws.specs.Laws.{IsSetup, IsCall}
use Rattle.endpoint_laws.specs.Complete.{WentThrough, IsBehind, IsPing, outs_in, at_initiator, IsOfOffer, IsBornAndTold, AdmissibleKeyingsBear, OpensItsSession, KeyingsWithoutCauseOpen, done_up_to, taken_event}
use Rattle.endpoint_laws.proofs.Bytes.{of_bytes, plain_is}
use Rattle.endpoint_model.proofs.Reading.{packet_reads}
use Rattle.endpoint_laws.proofs.Facts.{all_none, test_fails}
use Rattle.endpoint_model.proofs.Members.{tested}
use Rattle.endpoint_laws.proofs.Tied.{Tied}
use Rattle.endpoint_laws.proofs.Moving.{tied_alike}
use Rattle.endpoint_laws.proofs.Going.{Goes}
use Rattle.endpoint_model.proofs.Steps.{walk_through, then_nothing}
use Rattle.endpoint_laws.proofs.Admitting.{Came, IsTaken, AdmissionIs, admission_is}
use Rattle.endpoint_laws.proofs.Answering.{OpensAttempt}
use Rattle.endpoint_laws.proofs.ByKind.{causes, not_false, not_gathered}
use Rattle.endpoint_laws.proofs.Chunked.{read_ok, opening_of}
use Rattle.endpoint_laws.proofs.OutSends.{Sent}
use Rattle.endpoint_laws.proofs.PacketPieces.{short_goes_whole}
use Rattle.endpoint_laws.proofs.Orderly.{Orderly, steps_orderly}
use Rattle.endpoint_laws.proofs.Stepping.{packet_in_order, outside_sessions, take_in_order}
use Rattle.endpoint_laws.proofs.Logged.{Begun, LogIs, log_is, holds_begun, named_by}
use Rattle.endpoint_laws.proofs.OutBirths.{small_free}
use Rattle.endpoint_laws.proofs.Few.{outs_append, few_law, few_begins}
use Rattle.endpoint_laws.proofs.Made.{chunks_made}
use Rattle.endpoint_laws.proofs.OutPackets.{one_whole, session_reads}
use Rattle.endpoint_laws.proofs.ReadsBack.{none_all, less_is_other, IsBearing, read_as, is_bearing}
use Rattle.endpoint_laws.proofs.AnswerCarried.{keying_answers}
use Rattle.endpoint_laws.proofs.Kin.{HoldsSecrets, group_known}
use Rattle.endpoint_laws.proofs.OpensHere.{opens_first_there}
use Rattle.endpoint_laws.proofs.Succeeding.{StaysInGroup, stays_law, stays_begins, current_onto, next_onto}
use Rattle.endpoint_laws.specs.Groups.{number_in}
use Rattle.crypto_profile.specs.declared.group.GroupSecret.{GroupSecret}

-- ---- the chunks before a keying

-- none of these is an initiator's keying
abbrev AreOthers : List Placed → Type 0
AreOthers [] = Unit {0}
AreOthers (c ∷ cs) = (c.kind ≢ 0x38) × AreOthers cs

others_of : (c : Placed) (front : List Placed) → c.kind ≡ 0x38 → AllByRecursion (λ (x : Placed). x.kind ≢ c.kind) front → AreOthers front
others_of c [] kind none = tt
others_of c (x ∷ front) kind none = ((λ e. none.0 (e ∙ sym kind)), others_of c front kind none.1)

-- a walk over these meets no keying
keyed_false : (front : List Placed) → AreOthers front → (walk : Walk) → walk.keyed ≡ false → (walk_through walk front).keyed ≡ false
keyed_false [] others walk e = e
keyed_false (c ∷ front) others walk e =
    let other : (c.kind == 0x38) ≡ false = elim (tested c.kind 0x38) [ inl is ↦ absurd (others.0 is.0) | inr is ↦ is.1 ] in
    keyed_false front others.1 (walked walk c) (ap (λ (b : Bool). b || (c.kind == 0x38)) e ∙ other)

-- and is over one packet
gathered_through : (walk : Walk) (front : List Placed) → (walk_through walk front).gathered ≡ walk.gathered
gathered_through walk [] = refl
gathered_through walk (c ∷ front) = gathered_through (walked walk c) front

false_is : {A : Type 0} (b : Bool) (x y : A) → b ≡ false → (if b then x else y) ≡ y
false_is true x y e = absurd (cc)
false_is false x y e = refl

true_is : {A : Type 0} (b : Bool) (x y : A) → b ≡ true → (if b then x else y) ≡ x
true_is true x y e = refl
true_is false x y e = absurd (cc)

-- chunks one after another add what each of them adds
gone_in_two : (place : Place) (from : AddressParts) (draws : Draws) (walk : Walk) (front : List Placed) (c : Placed) (back : List Placed) (s : State) →
    (chunks_did place from draws walk s (front ++ c ∷ back)).entries ≡ (chunks_did place from draws walk s front).entries
    ++ ((chunk_did place from draws (walk_through walk front) (chunks_did place from draws walk s front).state c).entries
    ++ (chunks_did place from draws (walked (walk_through walk front) c) (chunk_did place from draws (walk_through walk front) (chunks_did place from draws walk s front).state c).state back).entries)
gone_in_two place from draws walk [] c back s = refl
gone_in_two place from draws walk (x ∷ front) c back s =
    let one : Did = chunk_did place from draws walk s x in
    ap (λ (es : List Entry). one.entries ++ es) (gone_in_two place from draws (walked walk x) front c back one.state)
    ∙ sym (append_assoc one.entries (chunks_did place from draws (walked walk x) one.state front).entries _)

-- ---- what the keying adds

heard_own : (l : Ledger) (h : Heard) → (heard_noted l h).own ≡ l.own
heard_own l (Again near) = refl
heard_own l (Birth None born) = refl
heard_own l (Birth (Some ended) born) = refl

module _ (secrets : Secrets) (setup : Setup) (past : Past) (u : State) (tied : Tied secrets setup past u) (from : AddressParts) (draws : Draws) (payload : List ℕ) (keying : InitiatorKeying) (generation : ℕ) (its : (group_at u (Startup generation)).generation ≡ generation)
    (b : IsBearing u (group_at u (Startup generation)) from payload keying) (some : (u.sealed == last_count) ≡ false) where
  abbrev k : Keying
  k = keying_of keying

  abbrev l : Ledger
  l = u.startup.ledger

  abbrev near : ℕ
  near = free_from u draws.word

  abbrev j : Joined
  j = born_session l k near draws.nonce

  abbrev way : Option Fact
  way = way_made k.peer (held_with l k.peer)

  -- the secret under which it came
  abbrev group : GroupSecret
  group = group_at u (Startup generation)

  known : get secrets generation ≡ Some group.secret
  known = ap (get secrets) (sym its) ∙ group_known secrets u tied.holds (Startup generation)

  abbrev answer : Answer
  answer = session_answer u.startup j from group

  abbrev left : StartupState
  left = after_again_or_birth u.startup k near draws.nonce group None

  abbrev t : State
  t = with_born (with_startup u left) way (Born j) from group

  abbrev sent : List ℕ
  sent = startup_datagram t answer.keys j.far answer.plain

  abbrev by_reading : Result InitiatorKeying Cause → Did
  by_reading r = keying_done (with_startup u (after_keyed_reading u.startup from u.moment near draws.nonce group r)) from group (keyed_reading u.startup from u.moment near draws.nonce group r)

  abbrev by_test : CookieTest → Did
  by_test test = keying_done (with_startup u (after_keyed_with u.startup near draws.nonce group keying test)) from group (keyed_with u.startup from u.moment near draws.nonce group keying test)

  abbrev by_repeat : Option Joined → Did
  by_repeat o = keying_done (with_startup u (after_again_or_birth u.startup k near draws.nonce group o)) from group (again_or_birth u.startup k from near draws.nonce group o)

  keyed_so : initiator_keyed u (Startup generation) from draws payload ≡ by_repeat None
  keyed_so = ap by_reading b.reads ∙ ap by_test b.current ∙ ap by_repeat b.repeated

  born_entries : (initiator_keyed u (Startup generation) from draws payload).entries ≡ fact_entries way ++ FactEntry (Born j) ∷ Out from sent (StartupContext generation) ∷ []
  born_entries =
      ap (λ (d : Did). d.entries) keyed_so
      ∙ ap (λ (d : Did). (fact_entries way ++ FactEntry (Born j) ∷ []) ++ d.entries)
      (false_is (u.sealed == last_count) (nothing t) (record { state = record t { sealed = t.sealed + 1 }; entries = Out from sent (StartupContext group.generation) ∷ [] }) some)
      ∙ append_assoc (fact_entries way) (FactEntry (Born j) ∷ []) (Out from sent (StartupContext group.generation) ∷ [])
      ∙ ap (λ (n : ℕ). fact_entries way ++ FactEntry (Born j) ∷ Out from sent (StartupContext n) ∷ []) its

  abbrev number : List ℕ
  number = startup_number (own_of setup) (u.sealed + 1)

  own_is : left.ledger.own ≡ own_of setup
  own_is = heard_own l (heard l k near draws.nonce) ∙ tied.own

  print_is : sha256 u.startup.cert ≡ own_of setup
  print_is = ap sha256 tied.cert

  sent_is : sent ≡ datagram j.far (sealed_in group.secret (StartupContext generation) j.far number (rikeying_packet group.secret j.near j.nr j.k (own_of setup) j.ni))
  sent_is =
      ap (λ (o : List ℕ). datagram j.far (sealed answer.keys j.far (startup_number o (u.sealed + 1)) answer.plain)) own_is
      ∙ ap (λ (n : ℕ). datagram j.far (sealed_in group.secret (StartupContext n) j.far number (rikeying_packet group.secret j.near j.nr j.k (sha256 u.startup.cert) j.ni))) its
      ∙ ap (λ (o : List ℕ). datagram j.far (sealed_in group.secret (StartupContext generation) j.far number (rikeying_packet group.secret j.near j.nr j.k o j.ni))) print_is

  number_size : length number ≡ 16
  number_size = omega (arith, length-append (take 8 (own_of setup)) (to_be_bytes w64 (u.sealed + 1)), length-take-le 8 (own_of setup) (omega (arith, length-sha256 setup.cert)))

  born_answers : j.far < 2 ^ 32 → length j.ni ≡ 16 → j.k < 2 ^ 64 → IsCall (Receive from [] draws) → AnswersAttempt secrets generation (at_initiator (own_of setup) j) sent
  born_answers far ni few fits =
      subst (AnswersAttempt secrets generation (at_initiator (own_of setup) j)) (sym sent_is)
      (keying_answers secrets setup generation group.secret known j number far (small_free u draws.word fits.2) (omega (arith, ni)) (omega (arith, fits.1)) number_size few)

-- ---- a datagram with an admissible keying opens so

module _ (secrets : Secrets) (setup : Setup) (s : State) (holds : HoldsSecrets secrets s) (from : AddressParts) (datagram : List ℕ) (offer : Offer) (now : ℕ) (before : Past) (a : Admissible secrets setup before now from datagram offer) (bytes : IsBytes datagram)
    (contexts : startup_contexts setup before ≡ StartupContext s.group.generation ∷ next_contexts (number_in s.next)) where
  abbrev part : List ℕ
  part = drop 4 datagram

  abbrev plain : List ℕ
  plain = a.reads.plain

  opened_so : opened_datagram s datagram ≡ Ok (Startup a.generation, plain)
  opened_so =
      let long : 32 ≤ length part = a.reads.opens.opens.0 in
      let enough : 36 ≤ length datagram = omega (arith, long, length-drop 4 datagram) in
      let short : nat_lt (length datagram) 36 ≡ false = grind (arith, nat_tests, enough) in
      ap (λ (b : Bool). if b then Err Short else opened_first s UnknownSession (places_of s (sid_of datagram)) part) short
      ∙ ap (λ (sid : ℕ). opened_first s UnknownSession (places_of s sid) part) a.reads.opens.id
      ∙ opens_first_there secrets s holds datagram a.reads.opens.id a.generation plain UnknownSession (subst (λ (cs : List Context). OpensFirst secrets cs 0 datagram (StartupContext a.generation) plain) contexts a.opens)

  plain_so : plain ≡ plain_of (keys_of a.reads.opens.secret (StartupContext a.generation)) part
  plain_so = ((opens_by_its_tag a.reads.opens.secret (StartupContext a.generation) 0 part plain).0 a.reads.opens.opens).2

  packet_so : packet_in plain ≡ Ok a.packet
  packet_so =
      packet_reading_same plain (packet_in plain) (Ok a.packet)
      (packet_reads plain (subst IsBytes (sym plain_so) (plain_is (keys_of a.reads.opens.secret (StartupContext a.generation)) part (IsBytes-drop 4 datagram bytes)))) a.reads.reads

  admission_so : (generation : ℕ) → a.generation ≡ generation → admission s datagram ≡ Admitted s (Startup generation) a.packet
  admission_so generation its =
      ap (admitted s datagram) opened_so ∙ ap (admitted_packet s (Startup a.generation)) packet_so
      ∙ true_is (has_mode a.packet.head FromStartup) (Admitted s (Startup a.generation) a.packet) (Rejected s WrongPlace) (ap (λ (m : Mode). mode_number m == mode_number FromStartup) a.mode)
      ∙ ap (λ (g : ℕ). Admitted s (Startup g) a.packet) its

-- ---- what was done is the same but for the event that began

facts_alike : (m : ℕ) (es : List Entry) (early past : Past) → facts_of past ≡ facts_of early → facts_of (onto m es past) ≡ facts_of (onto m es early)
facts_alike m [] early past same = same
facts_alike m (x ∷ xs) early past same = facts_alike m xs (stamped m x ∷ early) (stamped m x ∷ past) (ap (fact_and (fact_in x)) same)

ids_alike : (m : ℕ) (es : List Entry) (early past : Past) → ids_in_use past ≡ ids_in_use early → ids_in_use (onto m es past) ≡ ids_in_use (onto m es early)
ids_alike m [] early past same = same
ids_alike m (x ∷ xs) early past same = ids_alike m xs (stamped m x ∷ early) (stamped m x ∷ past) (ap (λ (ids : List ℕ). ids_sought (sought_in x) (ids_left (unsought_id (unsought_in x)) (ids_left (closed_in x) (ids_after (fact_in x) ids)))) same)

-- ---- and it bears

module _ (secrets : Secrets) (setup : Setup) (early : Past) (e : Event) (s : State) (tied : Tied secrets setup (begun s.moment e ∷ early) s) (sent_so : Sent secrets setup (begun s.moment e ∷ early) s) (well : HeardWell (begun s.moment e ∷ early) s) (from : AddressParts)
    (datagram : List ℕ) (draws : Draws) (offer : Offer) (now : ℕ) (front : List Placed) (generation : ℕ) (a : Admissible secrets setup (onto s.moment (chunks_did (Startup generation) from draws outset s front).entries early) now from datagram offer)
    (its : a.generation ≡ generation) (at : s.moment ≡ now) (is : IsSetup setup) (fits : IsCall (Receive from datagram draws)) (other : offer.peer ≢ own_of setup) (gone rest : List Placed) (goes : chunks_of a.packet ≡ gone ++ rest) (behind : IsBehind front a.chunk gone)
    (came : Came secrets setup (begun s.moment e ∷ early) s datagram (Startup generation) a.packet) where
  abbrev past : Past
  past = begun s.moment e ∷ early

  kind : a.chunk.kind ≡ 0x38
  kind = a.spells.0

  others : AreOthers front
  others = others_of a.chunk front kind behind.others

  in_all : chunks_of a.packet ≡ front ++ (a.chunk ∷ (behind.back ++ rest))
  in_all = goes ∙ ap (λ (cs : List Placed). cs ++ rest) behind.whole ∙ append_assoc front (a.chunk ∷ behind.back) rest

  abbrev first : Did
  first = chunks_did (Startup generation) from draws outset s front

  abbrev u : State
  u = first.state

  front_orderly : Orderly secrets setup (Receive from datagram draws) past s first
  front_orderly = steps_orderly secrets setup is from datagram draws fits a.packet (Startup generation) (in_order outset front) s past
      (packet_in_order a.packet outset [] front (a.chunk ∷ (behind.back ++ rest)) (record { whole = in_all; keyed = λ e c none is. none; small = tt })) came tied sent_so well tt

  abbrev after_front : Goes secrets setup (Receive from datagram draws) past s first
  after_front = front_orderly.goes

  abbrev told : Past
  told = onto s.moment first.entries past

  abbrev before : Past
  before = onto s.moment first.entries early

  facts_same : facts_of told ≡ facts_of before
  facts_same = facts_alike s.moment first.entries early past refl

  abbrev keying : InitiatorKeying
  keying = read_as offer.far a.cookie a.cert offer.ni offer.n (own_of setup) a.sign

  -- the secrets are those before
  stays : StaysInGroup s first
  stays = chunks_made stays_law stays_begins (Startup generation) from draws outset s front tt

  number_there : (group_at u (Startup generation)).generation ≡ generation
  number_there =
      ap (λ (g : GroupSecret). (known_group generation u.next g).generation) stays.group ∙ ap (λ (next : Option GroupSecret). (known_group generation next s.group).generation) stays.next ∙ came.group

  bearing : IsBearing u (group_at u (Startup generation)) from a.chunk.payload keying
  bearing = is_bearing secrets setup told u after_front.tied from datagram offer before now a facts_same (ids_alike s.moment first.entries early past refl) (after_front.moment ∙ at) other (group_at u (Startup generation))
      (ap (get secrets) (its ∙ sym number_there) ∙ group_known secrets u after_front.tied.holds (Startup generation))

  abbrev this : Placed
  this = record { kind = 0x38; at = a.chunk.at; payload = a.chunk.payload }

  this_is : a.chunk ≡ this
  this_is = let as_kind : ℕ → Placed = λ x. record { kind = x; at = a.chunk.at; payload = a.chunk.payload } in ap as_kind kind

  -- the walk before it
  abbrev walk : Walk
  walk = walk_through outset front

  unkeyed_before : initiator_keying_cause u (Startup generation) walk from a.chunk.payload ≡ None
  unkeyed_before = ap (λ (b : Bool). if b then Some SecondKeying else iikeying_cause u.startup a.chunk.payload from u.moment (full u) (group_at u (Startup generation))) (keyed_false front others outset refl) ∙ bearing.cause

  no_cause : chunk_cause u (Startup generation) walk from this ≡ None
  no_cause = none_all (causes u (Startup generation) walk from this) (refl, (ap fault_in bearing.reads, (refl, (ap (λ (b : Bool). where_true (not (not b)) WrongPlace) (gathered_through outset front), (unkeyed_before, tt)))))

  chunk_so : chunk_did (Startup generation) from draws walk u a.chunk ≡ initiator_keyed u (Startup generation) from draws a.chunk.payload
  chunk_so = ap (chunk_did (Startup generation) from draws walk u) this_is ∙ ap (λ (o : Option Cause). discarded_or u a.chunk.at o (initiator_keyed u (Startup generation) from draws a.chunk.payload)) no_cause

  abbrev later : List Entry
  later = (chunks_did (Startup generation) from draws (walked walk a.chunk) (chunk_did (Startup generation) from draws walk u a.chunk).state behind.back).entries

  abbrev all_entries : List Entry
  all_entries = (chunks_did (Startup generation) from draws outset s gone).entries

  in_two : all_entries ≡ first.entries ++ ((chunk_did (Startup generation) from draws walk u a.chunk).entries ++ later)
  in_two = ap (λ (cs : List Placed). (chunks_did (Startup generation) from draws outset s cs).entries) behind.whole ∙ gone_in_two (Startup generation) from draws outset front a.chunk behind.back s

  few_so : u.sealed ≤ s.sealed + outs_in all_entries
  few_so = omega (arith, chunks_made few_law few_begins (Startup generation) from draws outset s front tt, ap outs_in in_two, outs_append first.entries ((chunk_did (Startup generation) from draws walk u a.chunk).entries ++ later))

  bears : (u.sealed == last_count) ≡ false → (x : Joined) × IsOfOffer offer draws.nonce (facts_of before) x × IsBornAndTold secrets setup generation from x all_entries
  bears some =
      let x : Joined = j secrets setup told u after_front.tied from draws a.chunk.payload keying generation number_there bearing some in
      let made : Option Fact = way secrets setup told u after_front.tied from draws a.chunk.payload keying generation number_there bearing some in
      let went : List ℕ = sent secrets setup told u after_front.tied from draws a.chunk.payload keying generation number_there bearing some in
      let facts : List Entry = fact_entries made in
      let both : List Entry = FactEntry (Born x) ∷ Out from went (StartupContext generation) ∷ [] in
      let counted : count (facts_of told) < 2 ^ 64 = after_front.tied.few in
      let started : u.startup.ledger.started ≡ count (facts_of told) = omega (arith, reads_started 0 u.startup.ledger (facts_of told) after_front.tied.account) in (
        x,
        record { peer = sym a.peer; n = refl; ni = refl; far = refl; nr = refl; k = started ∙ ap count facts_same },
        record {
          before = first.entries ++ facts;
          sent = went;
          later = later;
          are =
              in_two
              ∙ ap (λ (es : List Entry). first.entries ++ (es ++ later)) (ap (λ (d : Did). d.entries) chunk_so ∙ born_entries secrets setup told u after_front.tied from draws a.chunk.payload keying generation number_there bearing some)
              ∙ ap (λ (es : List Entry). first.entries ++ es) (append_assoc facts both later)
              ∙ sym (append_assoc first.entries facts (both ++ later));
          answers = born_answers secrets setup told u after_front.tied from draws a.chunk.payload keying generation number_there bearing some a.spells.1.3.0 a.nonce_size (omega (arith, started, counted)) (λ i z lt. absurd (omega (arith, lt)), fits.1, fits.2, fits.3);
        },
      )

-- ---- logs

-- Where no session is, a datagram adds what its chunks add, and nothing before or after them.
record AddsItsChunks (u : State) (place : Place) (from : AddressParts) (draws : Draws) : Type 0 where
  outside : is_session place ≡ false
  quiet : confirming u place ≡ nothing u
  unacked : (d : Did) (count : ℕ) → then_do d (λ v. acked count v place) ≡ d
  untested : (d : Did) → then_do d (λ v. tested_at v place from draws) ≡ d
  nothing_left : (d : Did) → then_do d (λ v. nothing (unowed v place)) ≡ d

gone_entries : (u : State) (place : Place) (from : AddressParts) (draws : Draws) (xs : State → List WalkStep) (cs : List Placed) (count : ℕ) (last : State → Did) → AddsItsChunks u place from draws → ((d : Did) → then_do d last ≡ d) → xs u ≡ in_order outset cs →
    (then_do (confirming u place) (λ v. then_do (walked_and_acked place from draws v (xs v) count) last)).entries ≡ (chunks_did place from draws outset u cs).entries
gone_entries u place from draws xs cs count last alone no_more are =
    ap (λ (d : Did). (then_do d (λ v. then_do (walked_and_acked place from draws v (xs v) count) last)).entries) alone.quiet
    ∙ ap (λ (d : Did). d.entries) (no_more (walked_and_acked place from draws u (xs u) count))
    ∙ ap (λ (d : Did). d.entries) (alone.unacked (steps_did place from draws u (xs u)) count)
    ∙ ap (λ (ys : List WalkStep). (steps_did place from draws u ys).entries) are

went_entries : (noted t u : State) (place : Place) (from : AddressParts) (datagram : List ℕ) (draws : Draws) (answer : CallAnswer) (entries : List Entry) (packet : Whole) (gone : List Placed) →
    Answers noted (Receive from datagram draws) answer entries t → admission noted datagram ≡ Admitted u place packet → AddsItsChunks u place from draws →
    WentThrough answer (chunks_of packet) gone → entries ≡ (chunks_did place from draws outset u gone).entries
went_entries noted t u place from datagram draws (Began n) entries packet gone step at alone went = absurd went
went_entries noted t u place from datagram draws Done entries packet gone step at alone went =
    step.entries ∙ ap (λ (x : Admission). (received from draws x).entries) at
    ∙ gone_entries u place from draws (λ v. walk_of place from draws v packet) (chunks_of packet) most_acks (λ v. tested_at v place from draws) alone alone.untested (outside_sessions place alone.outside from draws outset u (chunks_of packet))
    ∙ ap (λ (cs : List Placed). (chunks_did place from draws outset u cs).entries) (sym went)
went_entries noted t u place from datagram draws (NotOpened refusal) entries packet gone step at alone went = absurd went
went_entries noted t u place from datagram draws (Searching _) entries packet gone step at alone went = absurd went
went_entries noted t u place from datagram draws (Succeeds generation) entries packet gone step at alone went = absurd went
went_entries noted t u place from datagram draws (NotSought refusal) entries packet gone step at alone went = absurd went
went_entries noted t u place from datagram draws (Refused refusal) entries packet gone step at alone went = absurd went
went_entries noted t u place from datagram draws (NotAdded refusal) entries packet gone step at alone went = absurd went
went_entries noted t u place from datagram draws (Stopped stop) entries packet gone step at alone went =
    step.left.entries
    ∙ ap (λ (b : Bool). (if b then part_received from draws (admission noted datagram) stop.chunks step.acks else nothing noted).entries) went.0
    ∙ ap (λ (x : Admission). (part_received from draws x stop.chunks step.acks).entries) at
    ∙ gone_entries u place from draws (λ v. take stop.chunks (walk_of place from draws v packet)) (take stop.chunks (chunks_of packet)) step.acks (λ v. nothing (unowed v place)) alone alone.nothing_left
    (ap (take stop.chunks) (outside_sessions place alone.outside from draws outset u (chunks_of packet)) ∙ take_in_order stop.chunks outset (chunks_of packet))
    ∙ ap (λ (cs : List Placed). (chunks_did place from draws outset u cs).entries) (sym went.1)
went_entries noted t u place from datagram draws OutOfMemory entries packet gone step at alone went = absurd went

-- at the places without a session
its_chunks_at_startup : (u : State) (generation : ℕ) (from : AddressParts) (draws : Draws) → AddsItsChunks u (Startup generation) from draws
its_chunks_at_startup u generation from draws = record { outside = refl; quiet = refl; unacked = λ d count. then_nothing d; untested = then_nothing; nothing_left = then_nothing }

its_chunks_at_attempt : (u : State) (id generation : ℕ) (from : AddressParts) (draws : Draws) → AddsItsChunks u (Attempt id generation) from draws
its_chunks_at_attempt u id generation from draws = record { outside = refl; quiet = refl; unacked = λ d count. then_nothing d; untested = then_nothing; nothing_left = then_nothing }

-- these are the first of the packet's chunks
went_first : (answer : CallAnswer) (chunks gone : List Placed) → WentThrough answer chunks gone → (rest : List Placed) × (chunks ≡ gone ++ rest)
went_first (Began n) chunks gone went = absurd went
went_first Done chunks gone went = ([], sym went ∙ sym (append-nil gone))
went_first (NotOpened refusal) chunks gone went = absurd went
went_first (Searching _) chunks gone went = absurd went
went_first (Succeeds generation) chunks gone went = absurd went
went_first (NotSought refusal) chunks gone went = absurd went
went_first (Refused refusal) chunks gone went = absurd went
went_first (Stopped stop) chunks gone went = (drop stop.chunks chunks, sym (take-append-drop stop.chunks chunks) ∙ ap (λ (cs : List Placed). cs ++ drop stop.chunks chunks) (sym went.1))
went_first (NotAdded refusal) chunks gone went = absurd went
went_first OutOfMemory chunks gone went = absurd went

-- so the datagram was gone through
was_gone : (answer : CallAnswer) (chunks gone : List Placed) → WentThrough answer chunks gone → was_gone_through answer ≡ true
was_gone (Began n) chunks gone went = absurd went
was_gone (Searching _) chunks gone went = absurd went
was_gone (Succeeds generation) chunks gone went = absurd went
was_gone Done chunks gone went = refl
was_gone (NotOpened refusal) chunks gone went = absurd went
was_gone (NotSought refusal) chunks gone went = absurd went
was_gone (Refused refusal) chunks gone went = absurd went
was_gone (NotAdded refusal) chunks gone went = absurd went
was_gone (Stopped stop) chunks gone went = went.0
was_gone OutOfMemory chunks gone went = absurd went

-- what chunks do outside of sessions leaves the startup contexts
contexts_so : (secrets : Secrets) (setup : Setup) (past : Past) (s : State) (tied : Tied secrets setup past s) (d : Did) → StaysInGroup s d →
    startup_contexts setup (onto s.moment d.entries past) ≡ StartupContext s.group.generation ∷ next_contexts (number_in s.next)
contexts_so secrets setup past s tied d stays =
    ap (λ (g : ℕ). StartupContext g ∷ next_contexts (next_of (onto s.moment d.entries past))) (current_onto setup s.moment d.entries past stays.none ∙ sym tied.current)
    ∙ ap (λ (o : Option ℕ). StartupContext s.group.generation ∷ next_contexts o) (next_onto s.moment d.entries past stays.none ∙ sym tied.next)

pub admissible_keyings_bear : AdmissibleKeyingsBear
admissible_keyings_bear secrets setup log s t moment generation from datagram draws answer entries offer front gone knows is calls stands fits step a its went behind other few =
    let past : Past = past_of 0 [] log in
    let e : Event = taken_event moment from datagram draws answer entries in
    let said : LogIs secrets setup [] (fresh setup) log s = log_is secrets setup log s knows is calls stands in
    let noted : State = at_moment s moment in
    let start : Past = begun noted.moment e ∷ past in
    let began : Begun secrets setup start noted (Receive from datagram draws) answer = holds_begun secrets setup past s e said.holds fits in
    let bytes : IsBytes datagram = of_bytes datagram fits.0 in
    let now : ℕ = max (last_moment 0 log) moment in
    let at : noted.moment ≡ now = ap (λ (m : ℕ). max m moment) said.moment in
    let before : Past = done_up_to generation log s moment from draws front in
    let first : Did = chunks_did (Startup generation) from draws outset noted front in
    let tied : Tied secrets setup past noted = tied_alike secrets setup past s (max s.moment moment) s.sealed (omega arith) said.holds.tied in
    let contexts = contexts_so secrets setup past noted tied first (chunks_made stays_law stays_begins (Startup generation) from draws outset noted front tt) in
    let admitted : admission noted datagram ≡ Admitted noted (Startup generation) a.packet = admission_so secrets setup noted tied.holds from datagram offer now before a bytes contexts generation its in
    let taken : IsTaken secrets setup start noted datagram noted (Startup generation) a.packet =
    subst (AdmissionIs secrets setup start noted datagram) admitted (admission_is secrets setup start noted from datagram draws began.outset began.last began.tied began.sent bytes) in
    let heard : IsWell start noted.moment noted × PassedAt start (Startup generation) datagram a.packet noted =
    subst (AdmissionHeard start noted.moment datagram) admitted
    (heard_admission past s e datagram bytes (gone_through_is e (record { from = from; datagram = datagram; draws = draws }) refl (was_gone answer (chunks_of a.packet) gone went)) (named_by secrets setup past s said.holds.tied) said.holds.well) in
    let cut = went_first answer (chunks_of a.packet) gone went in
    let added : List Entry = (chunks_did (Startup generation) from draws outset noted gone).entries in
    let entries_are : entries ≡ added = went_entries noted t noted (Startup generation) from datagram draws answer entries a.packet gone step admitted (its_chunks_at_startup noted generation from draws) went in
    let sealed_few : (u secrets setup past e noted began.tied began.sent heard.0.well from datagram draws offer now front generation a its at is fits other gone cut.0 cut.1 behind taken.came).sealed ≤ noted.sealed + outs_in added =
    few_so secrets setup past e noted began.tied began.sent heard.0.well from datagram draws offer now front generation a its at is fits other gone cut.0 cut.1 behind taken.came in
    let room : first.state.sealed < last_count = omega (arith, sealed_few, said.few, ap outs_in entries_are, few) in
    let born = bears secrets setup past e noted began.tied began.sent heard.0.well from datagram draws offer now front generation a its at is fits other gone cut.0 cut.1 behind taken.came (less_is_other first.state.sealed last_count room) in
    (born.0, born.1, subst (IsBornAndTold secrets setup generation from born.0) (sym entries_are) born.2)

-- ---- responders' keyings

module _ (s : State) (near : ℕ) (from : AddressParts) (draws : Draws) (c : Placed) (opens : OpensAttempt s near c.payload) where
  abbrev session : Joined
  session = record { peer = opens.peer; n = opens.n; near = near; far = opens.keying.near; ni = opens.a.ni; nr = opens.keying.part.nr; k = opens.keying.part.k }

  -- the secret of the attempt
  abbrev keeps : GroupSecret
  keeps = attempt_group s.group (get s.startup.attempts near)

  abbrev kept : Row
  kept = new_row (new_session session s.startup.ledger.own Initiator from keeps.generation keeps.secret s.moment)

  opened_as : opened s.startup near c.payload ≡ Some (Opened session)
  opened_as = ap (λ o. opened_reading near o (responder_keying_in c.payload)) opens.there ∙ ap (opened_reading near (Some opens.a)) opens.reads ∙ ap (opened_by_aim near opens.keying opens.a.ni) opens.aims

  abbrev after_it : State
  after_it = with_opened (with_startup s (after_opening s.startup near (Opened session))) (Opened session) from keeps

  entries_are : (responder_keyed s near from c.payload).entries ≡ FactEntry (Opened session) ∷ (sent_whole after_it near from (chunk_bytes (Ping [])) (Some kept)).entries
  entries_are =
      ap (λ (o : Option Fact). (opening_done s near from keeps o).entries) opened_as
      ∙ ap (λ (o : Option Row). FactEntry (Opened session) ∷ (sent_by after_it near from (chunk_bytes (Ping [])) o).entries) (get_inserted s.sessions near kept)
      ∙ ap (λ (d : Did). FactEntry (Opened session) ∷ d.entries) (short_goes_whole after_it near from (chunk_bytes (Ping [])) kept (omega arith))

  -- what goes out is a ping
  is_ping : IsPing keeps.secret (session_context keeps.generation (as_initiator s.startup.ledger.own session) true) session.far (session_datagram kept.session s.moment (chunk_bytes (Ping [])))
  is_ping = record {
    number = number_bytes (kept.session.sealed + 1);
    plain = session_packet kept.session s.moment (chunk_bytes (Ping []));
    is = refl;
    packet = one_whole (head_at kept.session s.moment) (head_bytes (head_at kept.session s.moment)) 0x01 [];
    reads = session_reads kept.session s.moment (Ping []) (omega arith);
    chunk = record { kind = 0x01; at = length (head_bytes (head_at kept.session s.moment)); payload = [] };
    only = refl;
    spells = (refl, parts_bytes-spell (parts_of (Ping [])) tt);
  }

  pub opens_its_session : (entries before later : List Entry) → entries ≡ before ++ ((responder_keyed s near from c.payload).entries ++ later) → OpensItsSession s near from entries
  opens_its_session entries before later e = record {
    attempt = opens.a;
    there = opens.there;
    group = keeps;
    group_is = ap (attempt_group s.group) opens.there;
    j = session;
    aim = opens.aims;
    ni = refl;
    id = refl;
    before = before;
    sent = session_datagram kept.session s.moment (chunk_bytes (Ping []));
    later = later;
    are = e ∙ ap (λ (es : List Entry). before ++ (es ++ later)) entries_are;
    ping = is_ping;
  }

-- a keying that has no cause opens its session, whatever came before it
one_opens : (s : State) (near generation : ℕ) (walk other : Walk) → other.gathered ≡ false → (from : AddressParts) (draws : Draws) (c : Placed) → c.kind ≡ 0x78 → chunk_cause s (Attempt near generation) walk from c ≡ None →
    OpensAttempt s near c.payload × (chunk_did (Attempt near generation) from draws other s c ≡ responder_keyed s near from c.payload)
one_opens s near generation walk other apart from draws c kind none =
    let all = all_none (causes s (Attempt near generation) walk from c) none in
    let that : Placed = record { kind = 0x78; at = c.at; payload = c.payload } in
    let as_kind : ℕ → Placed = λ x. record { kind = x; at = c.at; payload = c.payload } in
    let is : c ≡ that = ap as_kind kind in
    let formed : fault_in (responder_keying_in c.payload) ≡ None = ap (λ (x : ℕ). form_cause walk.cursor x c.payload) (sym kind) ∙ all.1.0 in
    let read = read_ok (responder_keying_in c.payload) formed in
    let last = ap (last_cause s (Attempt near generation) walk from) (sym is) ∙ all.1.1.1.1.0 in
    let opens : OpensAttempt s near c.payload = opening_of s near generation c.payload read.0 read.1 last in
    let whole : walk.gathered ≡ false = not_gathered (Attempt near generation) walk c.kind (ap may_be_gathered kind) (not_false (takes_in (Attempt near generation) walk c.kind) (test_fails (not (takes_in (Attempt near generation) walk c.kind)) WrongPlace all.1.1.1.0)) in
    let cause_in : Bool → Option Cause = λ gathered. chunk_cause s (Attempt near generation) (record { keyed = false; gathered = gathered; cursor = None }) from that in
    let no_cause : chunk_cause s (Attempt near generation) other from that ≡ None = ap cause_in (apart ∙ sym whole) ∙ ap (chunk_cause s (Attempt near generation) walk from) (sym is) ∙ none in
    let did : chunk_did (Attempt near generation) from draws other s c ≡ responder_keyed s near from c.payload =
    ap (chunk_did (Attempt near generation) from draws other s) is ∙ ap (λ (o : Option Cause). discarded_or s c.at o (responder_keyed s near from c.payload)) no_cause in
    (opens, did)

pub keyings_without_cause_open : KeyingsWithoutCauseOpen
keyings_without_cause_open s t u moment near generation from datagram draws answer entries packet front back c walk step at went kind none =
    let v : State = (chunks_did (Attempt near generation) from draws outset u front).state in
    let one = one_opens v near generation walk (walk_through outset front) (gathered_through outset front) from draws c kind none in
    let later : List Entry = (chunks_did (Attempt near generation) from draws (walked (walk_through outset front) c) (chunk_did (Attempt near generation) from draws (walk_through outset front) v c).state back).entries in
    let are : entries ≡ (chunks_did (Attempt near generation) from draws outset u front).entries ++ ((responder_keyed v near from c.payload).entries ++ later) =
    went_entries (at_moment s moment) t u (Attempt near generation) from datagram draws answer entries packet (front ++ c ∷ back) step at (its_chunks_at_attempt u near generation from draws) went
    ∙ gone_in_two (Attempt near generation) from draws outset front c back u
    ∙ ap (λ (d : Did). (chunks_did (Attempt near generation) from draws outset u front).entries ++ (d.entries ++ later)) one.1 in
    opens_its_session v near from draws c one.0 entries (chunks_did (Attempt near generation) from draws outset u front).entries later are
