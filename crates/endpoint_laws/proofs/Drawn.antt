-- The nonces that a call draws, as its event tells them: none, or that of its draws, once.
use Rattle.std.proofs.Common.{◌≡◌, ℕ, List, [], ◌∷◌, ◌++◌, take, map, Bool, true, false, ◌||◌, if◌then◌else◌, Option, Some, None, Result, Ok, Err, inl, inr, ◌⊎◌, refl, sym, ap, subst, ◌∙◌, append_assoc}
use Rattle.std.specs.Prelude.{◌==◌}
use Rattle.std.specs.FinMap.{get}
use Rattle.rtmfp_forms.specs.Address.{AddressParts}
use Rattle.rtmfp_packet.specs.Walk.{Placed}
use Rattle.rtmfp_packet.specs.Whole.{Whole}
use Rattle.rtmfp_chunks.specs.declared.reading.ChunkFault.{ChunkFault}
use Rattle.rtmfp_chunks.specs.Chunk.{Chunk, Ping, RHello}
use Rattle.cookies.specs.declared.CookieTest.{CookieTest}
use Rattle.cookies.specs.declared.CookieTest.TheVariants.{Bad, Moved, Expired as Late, Current}
use Rattle.cookies.specs.Cookie.{cookie_test}
use Rattle.glare_core.specs.declared.facts.Joined.{Joined}
use Rattle.glare_core.specs.declared.facts.Held.{Held}
use Rattle.glare_core.specs.declared.facts.Held.TheVariants.{Opening as OpeningHeld, HalfOpen, KeptAsResponder, KeptAsInitiator}
use Rattle.glare_core.specs.declared.answers.Keying.{Keying}
use Rattle.glare_core.specs.Ledger.{held_with}
use Rattle.glare_core.specs.Calls.{way_made, born_fact}
use Rattle.rtmfp_base.specs.declared.cause.Cause.{Cause}
use Rattle.rtmfp_base.specs.declared.cause.Cause.TheVariants.{SecondKeying}
use Rattle.startup.specs.declared.answer.Answer.{Answer}
use Rattle.startup.specs.declared.aim.Aim.{Aim}
use Rattle.startup.specs.declared.aim.Aim.TheVariants.{AtPeer, ByName}
use Rattle.startup.specs.State.{AttemptState, StartupState, SpreadParts}
use Rattle.sha2.specs.Sha256.{sha256}
use Rattle.startup.specs.Attempts.{lowest, has_tag, answer_fact_as, answer_fact, rhello_keying, seek_spread, after_seek, begin_spread, after_begin}
use Rattle.startup_packets.specs.Readings.{InitiatorKeying, ResponderKeying, initiator_keying_in, responder_keying_in}
use Rattle.startup.specs.Keyings.{iikeying_cause, keying_of, repeated_session, again_or_birth, keyed_with, keyed_reading, after_keying, change_answer, session_answer, born_session, opened_as, opened_reading, again_by, kept_answer}
use Rattle.endpoint_model.specs.InSessions.{closing, tested as tested_at}
use Rattle.rtmfp_chunks.specs.Writing.{chunk_bytes}
use Rattle.glare_core.specs.declared.facts.Fact.{Fact}
use Rattle.endpoint_model.specs.Views.{NamedSearch, fact_in, sought_in}
use Rattle.endpoint_model.specs.declared.walk.Walk.{Walk}
use Rattle.endpoint_model.specs.declared.config.Draws.{Draws}
use Rattle.endpoint_model.specs.declared.place.Place.{Place}
use Rattle.endpoint_model.specs.declared.place.Place.TheVariants.{Startup, Attempt, Session}
use Rattle.endpoint_model.specs.declared.entry.Entry.{Entry}
use Rattle.endpoint_model.specs.declared.entry.Entry.TheVariants.{Fact as FactEntry}
use Rattle.endpoint_model.specs.declared.answers.Stopped.{Stopped as Stop}
use Rattle.endpoint_model.specs.Event.{Call, OpenCall, SeekCall, open_in, seek_in, Open, Seek, Unseek, Cancel, Close, AddRow, Introduce, Narrow, Learn, Advance, OnFlows, Receive, Tick, Answer as CallAnswer, Began, Searching, Done, Succeeds, NotOpened, NotSought, Refused, NotAdded, Stopped, OutOfMemory, Event, moment_at}
use Rattle.endpoint_model.specs.Introducing.{with_redirect, introducing}
use Rattle.endpoint_model.specs.OnFlows.{flow_entry, flow_called}
use Rattle.endpoint_model.specs.FlowChunks.{acked, unowed}
use Rattle.endpoint_model.specs.FlowTimes.{all_late}
use Rattle.endpoint_laws.specs.Past.{Past, OfEntry, last_call, stamped, begun, onto, past_of_log}
use Rattle.endpoint_model.specs.State.{at_moment, narrowing, State, full, Did, Does, nothing, then_do, fact_entries, with_startup, free_from}
use Rattle.endpoint_model.specs.Sending.{is_spent, sent_answer, sent_if}
use Rattle.endpoint_model.specs.Succession.{learning, advancing, advancing_to}
use Rattle.endpoint_model.specs.Admission.{Admission, Rejected, Admitted, admission, sid_at, confirming, group_at, attempt_group}
use Rattle.endpoint_model.specs.Keying.{chunks_of}
use Rattle.endpoint_model.specs.Effects.{opening, seeking, unseeking, read_fact, read_left, read_done, cancelling, ticks, keying_done, initiator_keyed, opening_done, responder_keyed, with_born, WalkStep, in_order, chunk_did, steps_did, chunks_did, walk_of, walked, received, part_received, outset, most_acks, walked_and_acked}
use Rattle.endpoint_model.specs.Causes.{initiator_keying_cause}
use Rattle.endpoint_laws.specs.Draws.{seek_draws, fact_draws, draws_in, draws_done, draws_of}
use Rattle.endpoint_laws.proofs.Unseen.{AreUnseen, flows_unseen}
use Rattle.endpoint_model.specs.Log.{Answers, Step, stopped}
use Rattle.rtmfp_data_chunks.specs.Fitting.{AreSmall}
use Rattle.rtmfp_data_chunks.proofs.Fitting.{small_next}
use Rattle.endpoint_laws.proofs.PacketPieces.{any_sends}
use Rattle.endpoint_laws.proofs.Small.{Sends, Quiet, stated_of, Any, All}
use Rattle.endpoint_laws.proofs.Stepping.{AreAllSmall, all_taken, small_steps, walk_is, outside_sessions, take_in_order}
use Rattle.endpoint_laws.proofs.Made.{all_law, session_chunk_made, answer_made, answered_made, spread_made, in_session_made, confirming_made, tested_made, acked_made, cancelling_made, closing_made, called_made, tick_all_made, chunk_by}
use Rattle.crypto_profile.specs.declared.group.GroupSecret.{GroupSecret}
use Rattle.startup.specs.declared.kept.KeptKeying.{KeptKeying}

-- ---- the nonces among entries, in their order, by what of the call draws

abbrev pub Nonces : Type 0
Nonces = List (List ℕ)

abbrev pub drawn_by : Option SeekCall → Option OpenCall → List Entry → Nonces
drawn_by seek by_open [] = []
drawn_by seek by_open (entry ∷ rest) = (seek_draws (sought_in entry) seek ++ fact_draws (fact_in entry) by_open) ++ drawn_by seek by_open rest

abbrev pub drawn : Call → List Entry → Nonces
drawn call entries = drawn_by (seek_in call) (open_in call) entries

-- none, or this one once
abbrev pub OneDraw : List ℕ → Nonces → Type 0
OneDraw nonce nonces = (nonces ≡ []) ⊎ (nonces ≡ nonce ∷ [])

module _ (seek : Option SeekCall) (by_open : Option OpenCall) where
  drawn_both : (xs ys : List Entry) → drawn_by seek by_open (xs ++ ys) ≡ drawn_by seek by_open xs ++ drawn_by seek by_open ys
  drawn_both [] ys = refl
  drawn_both (x ∷ xs) ys =
      let own : Nonces = seek_draws (sought_in x) seek ++ fact_draws (fact_in x) by_open in
      ap (λ (l : Nonces). own ++ l) (drawn_both xs ys) ∙ sym (append_assoc own (drawn_by seek by_open xs) (drawn_by seek by_open ys))

  none_after : (xs ys : List Entry) (l : Nonces) → drawn_by seek by_open xs ≡ [] → drawn_by seek by_open ys ≡ l → drawn_by seek by_open (xs ++ ys) ≡ l
  none_after xs ys l p q = drawn_both xs ys ∙ ap (λ (a : Nonces). a ++ drawn_by seek by_open ys) p ∙ q

  once_after : (nonce : List ℕ) (xs ys : List Entry) → drawn_by seek by_open xs ≡ [] → OneDraw nonce (drawn_by seek by_open ys) → OneDraw nonce (drawn_by seek by_open (xs ++ ys))
  once_after nonce xs ys p (inl q) = inl (none_after xs ys [] p q)
  once_after nonce xs ys p (inr q) = inr (none_after xs ys (nonce ∷ []) p q)

  once_before : (nonce : List ℕ) (xs ys : List Entry) → OneDraw nonce (drawn_by seek by_open xs) → drawn_by seek by_open ys ≡ [] → OneDraw nonce (drawn_by seek by_open (xs ++ ys))
  once_before nonce xs ys (inl p) q = inl (none_after xs ys [] p q)
  once_before nonce xs ys (inr p) q = inr (drawn_both xs ys ∙ ap (λ (a : Nonces). a ++ drawn_by seek by_open ys) p ∙ ap (λ (a : Nonces). nonce ∷ a) q)

  -- what is sent draws none
  none_sends : Sends Any (λ s d. drawn_by seek by_open d.entries ≡ [])
  none_sends = any_sends (record {
    steps = record { does_nothing = λ s. refl; and_then = λ s d e first later. none_after d.entries e.entries [] first later };
    out = λ s generation keys to sid plain. refl;
    out_in = λ s near row to body is. refl;
    packets = λ s near row is. refl;
  })

-- of a call that opens nothing and seeks nothing
abbrev plain : List Entry → Nonces
plain entries = drawn_by None None entries

-- ---- what draws none

abbrev DrawsNone : State → Did → Type 0
DrawsNone s d = plain d.entries ≡ []

-- entries that are unseen
none_unseen : (entries : List Entry) → AreUnseen entries → plain entries ≡ []
none_unseen [] are = refl
none_unseen (entry ∷ rest) are =
    ap (λ (o : Option NamedSearch). (seek_draws o None ++ fact_draws (fact_in entry) None) ++ plain rest) are.0.no_sought
    ∙ ap (λ (o : Option Fact). fact_draws o None ++ plain rest) are.0.no_fact ∙ none_unseen rest are.1

-- neither does what begins no session
none_quiet : Quiet Any DrawsNone
none_quiet = record {
  sends = none_sends None None;
  attempts = λ s startup kin. refl;
  close = tt;
  close_ack = tt;
  empty_ping = tt;
  discards = λ s at cause. refl;
  ends = λ s startup peer near why kin. refl;
  unseeks = λ s startup near why kin. refl;
  confirms = λ s startup peer near kin. refl;
  closes = λ s near. refl;
  forgets = λ s near. refl;
  moves = λ s near to. refl;
  goes_on = λ s near old new is goes. refl;
}

none_law : All Any DrawsNone
none_law = all_law none_quiet (λ s near row thing is may. none_unseen (map (flow_entry near) (stated_of row thing)) (flows_unseen near (stated_of row thing))) (λ s near id row x is. refl)

none_answer : (s : State) (answer : Answer) → plain (sent_answer s answer).entries ≡ []
none_answer s answer = answer_made none_quiet.sends s answer

none_way : (peer : List ℕ) (h : Option Held) → plain (fact_entries (way_made peer h)) ≡ []
none_way peer None = refl
none_way peer (Some (OpeningHeld n near ni)) = refl
none_way peer (Some (HalfOpen j)) = refl
none_way peer (Some (KeptAsResponder j)) = refl
none_way peer (Some (KeptAsInitiator j)) = refl

-- ---- a keying of an initiator draws once

none_again : (t : State) (s : StartupState) (from : AddressParts) (g : GroupSecret) (j : Joined) (kept : Option KeptKeying) → plain (keying_done t from g (again_by s j from kept)).entries ≡ []
none_again t s from g j None = refl
none_again t s from g j (Some kept) = none_answer t (kept_answer s j from kept)

once_again : (t : State) (s : StartupState) (from : AddressParts) (keying : Keying) (near : ℕ) (nonce : List ℕ) (g : GroupSecret) (o : Option Joined) →
    OneDraw nonce (plain (keying_done t from g (again_or_birth s keying from near nonce g o)).entries)
once_again t s from keying near nonce g (Some j) = inl (none_again t s from g j (get s.kept keying.peer))
once_again t s from keying near nonce g None =
    let ended : List Entry = fact_entries (way_made keying.peer (held_with s.ledger keying.peer)) in
    let born : List Entry = FactEntry (born_fact s.ledger keying near nonce) ∷ [] in
    let u : State = with_born t (way_made keying.peer (held_with s.ledger keying.peer)) (born_fact s.ledger keying near nonce) from g in
    let answer : Answer = session_answer s (born_session s.ledger keying near nonce) from g in
    once_before None None nonce (ended ++ born) (sent_answer u answer).entries (inr (none_after None None ended born (nonce ∷ []) (none_way keying.peer (held_with s.ledger keying.peer)) refl)) (none_answer u answer)

once_tested : (t : State) (s : StartupState) (from : AddressParts) (now near : ℕ) (nonce : List ℕ) (g : GroupSecret) (keying : InitiatorKeying) (test : CookieTest) →
    OneDraw nonce (plain (keying_done t from g (keyed_with s from now near nonce g keying test)).entries)
once_tested t s from now near nonce g keying Bad = inl (none_answer t (change_answer s keying from now g))
once_tested t s from now near nonce g keying Moved = inl (none_answer t (change_answer s keying from now g))
once_tested t s from now near nonce g keying Late = inl (none_answer t (change_answer s keying from now g))
once_tested t s from now near nonce g keying Current =
    once_again t s from (keying_of keying) near nonce g (repeated_session (held_with s.ledger (keying_of keying).peer) (keying_of keying))

once_read : (t : State) (s : StartupState) (from : AddressParts) (now near : ℕ) (nonce : List ℕ) (g : GroupSecret) (r : Result InitiatorKeying Cause) →
    OneDraw nonce (plain (keying_done t from g (keyed_reading s from now near nonce g r)).entries)
once_read t s from now near nonce g (Ok keying) = once_tested t s from now near nonce g keying (cookie_test s.cookie_secret keying.cookie from now)
once_read t s from now near nonce g (Err cause) = inl refl

once_keyed : (s : State) (place : Place) (from : AddressParts) (draws : Draws) (payload : List ℕ) → OneDraw draws.nonce (plain (initiator_keyed s place from draws payload).entries)
once_keyed s place from draws payload =
    once_read (with_startup s (after_keying s.startup payload from s.moment (free_from s draws.word) draws.nonce (group_at s place))) s.startup from s.moment (free_from s draws.word) draws.nonce (group_at s place) (initiator_keying_in payload)

-- ---- the other chunks draw none

none_opening_as : (s : State) (near : ℕ) (from : AddressParts) (g : GroupSecret) (keying : ResponderKeying) (ni : List ℕ) (aim : Aim) → plain (opening_done s near from g (opened_as near keying ni aim)).entries ≡ []
none_opening_as s near from g keying ni (AtPeer peer n) = in_session_made none_quiet.sends _ near from (chunk_bytes (Ping [])) tt
none_opening_as s near from g keying ni (ByName name) = refl

none_opening : (s : State) (near : ℕ) (from : AddressParts) (g : GroupSecret) (o : Option AttemptState) (r : Result ResponderKeying Cause) → plain (opening_done s near from g (opened_reading near o r)).entries ≡ []
none_opening s near from g None r = refl
none_opening s near from g (Some a) (Err cause) = refl
none_opening s near from g (Some a) (Ok keying) = none_opening_as s near from g keying a.ni a.aim

none_responder : (s : State) (near : ℕ) (from : AddressParts) (payload : List ℕ) → plain (responder_keyed s near from payload).entries ≡ []
none_responder s near from payload = none_opening s near from (attempt_group s.group (get s.startup.attempts near)) (get s.startup.attempts near) (responder_keying_in payload)

-- a search that becomes an attempt was drawn for by its seek
none_answer_as : (s : StartupState) (print : List ℕ) (near : ℕ) (ni : List ℕ) (aim : Aim) → plain (fact_entries (answer_fact_as s print near ni aim)) ≡ []
none_answer_as s print near ni (AtPeer peer n) = refl
none_answer_as s print near ni (ByName name) = refl

none_answer_fact : (s : StartupState) (print : List ℕ) (o : Option (ℕ × AttemptState)) → plain (fact_entries (answer_fact s print o)) ≡ []
none_answer_fact s print None = refl
none_answer_fact s print (Some e) = none_answer_as s print e.0 e.1.ni e.1.aim

-- or is none, where no count of a startup packet is left
none_read_fact : (s : StartupState) (print : List ℕ) (o : Option (ℕ × AttemptState)) (spent : Bool) → plain (fact_entries (if spent then None else answer_fact s print o)) ≡ []
none_read_fact s print o true = refl
none_read_fact s print o false = none_answer_fact s print o

none_hello : (s : State) (place : Place) (from : AddressParts) (tag cookie cert : List ℕ) → plain (read_done s place from (Ok (RHello tag cookie cert))).entries ≡ []
none_hello s place from tag cookie cert =
    let o : Option (ℕ × AttemptState) = lowest (has_tag tag) s.startup.attempts in
    let read : Result Chunk ChunkFault = Ok (RHello tag cookie cert) in
    let t : State = read_left s place from read in
    none_after None None (fact_entries (read_fact s read)) (sent_if t (rhello_keying s.startup tag cookie cert from (group_at s place))).entries [] (none_read_fact s.startup (sha256 cert) o (is_spent s))
    (answered_made none_quiet.sends t (rhello_keying s.startup tag cookie cert from (group_at s place)))

-- a keying after another one isn't without a cause
not_second : (s : State) (place : Place) (walk : Walk) (from : AddressParts) (payload : List ℕ) → walk.keyed ≡ true → initiator_keying_cause s place walk from payload ≡ None → ⊥
not_second s place walk from payload keyed none =
    let clash : Some SecondKeying ≡ None = sym (ap (λ (b : Bool). if b then Some SecondKeying else iikeying_cause s.startup payload from s.moment (full s) (group_at s place)) keyed) ∙ none in cc

or_either : (a b : Bool) → (a ≡ true) ⊎ (b ≡ true) → (a || b) ≡ true
or_either true b e = refl
or_either false b (inl e) = absurd (cc)
or_either false b (inr e) = e

module _ (place : Place) (from : AddressParts) (draws : Draws) where
  -- a chunk that is no keying, or comes after one
  none_chunk : (s : State) (walk : Walk) (c : Placed) → AreSmall walk.cursor → (c.kind ≡ 0x38 → initiator_keying_cause s place walk from c.payload ≡ None → ⊥) → plain (chunk_did place from draws walk s c).entries ≡ []
  none_chunk s walk c small other =
      chunk_by none_law (λ d. plain d.entries ≡ []) place from draws walk s c small (λ d none. none) (λ kind taken none. absurd (other kind none)) (λ taken. none_responder s (sid_at place) from c.payload) (λ tag cookie cert is taken. none_hello s place from tag cookie cert)

  none_later : (s : State) (walk : Walk) (c : Placed) → AreSmall walk.cursor → walk.keyed ≡ true → plain (chunk_did place from draws walk s c).entries ≡ []
  none_later s walk c small keyed = none_chunk s walk c small (λ kind none. not_second s place walk from c.payload keyed none)

  none_other : (s : State) (walk : Walk) (c : Placed) → AreSmall walk.cursor → (c.kind == 0x38) ≡ false → plain (chunk_did place from draws walk s c).entries ≡ []
  none_other s walk c small other = none_chunk s walk c small (λ kind none. let clash : true ≡ false = ap (λ (k : ℕ). k == 0x38) (sym kind) ∙ other in cc)

  once_chunk : (s : State) (walk : Walk) (c : Placed) → AreSmall walk.cursor → OneDraw draws.nonce (plain (chunk_did place from draws walk s c).entries)
  once_chunk s walk c small =
      chunk_by none_law (λ d. OneDraw draws.nonce (plain d.entries)) place from draws walk s c small (λ d none. inl none) (λ kind taken none. once_keyed s place from draws c.payload) (λ taken. inl (none_responder s (sid_at place) from c.payload)) (λ tag cookie cert is taken. inl (none_hello s place from tag cookie cert))

  -- ---- the chunks of a datagram

  none_chunks : (cs : List Placed) (walk : Walk) (s : State) → AreSmall walk.cursor → walk.keyed ≡ true → plain (chunks_did place from draws walk s cs).entries ≡ []
  none_chunks [] walk s small keyed = refl
  none_chunks (c ∷ cs) walk s small keyed =
      let d : Did = chunk_did place from draws walk s c in
      none_after None None d.entries (chunks_did place from draws (walked walk c) d.state cs).entries [] (none_later s walk c small keyed)
      (none_chunks cs (walked walk c) d.state (small_next walk.cursor c.kind c.payload small) (or_either walk.keyed (c.kind == 0x38) (inl keyed)))

  once_chunks : (cs : List Placed) (walk : Walk) (s : State) → AreSmall walk.cursor → OneDraw draws.nonce (plain (chunks_did place from draws walk s cs).entries)
  once_chunks [] walk s small = inl refl
  once_chunks (c ∷ cs) walk s small = by (c.kind == 0x38) refl (once_chunks cs (walked walk c) (chunk_did place from draws walk s c).state (small_next walk.cursor c.kind c.payload small))
    where
      d : Did
      d = chunk_did place from draws walk s c

      next : AreSmall (walked walk c).cursor
      next = small_next walk.cursor c.kind c.payload small

      by : (b : Bool) → (c.kind == 0x38) ≡ b → OneDraw draws.nonce (plain (chunks_did place from draws (walked walk c) d.state cs).entries) → OneDraw draws.nonce (plain (d.entries ++ (chunks_did place from draws (walked walk c) d.state cs).entries))
      by true e rest = once_before None None draws.nonce d.entries _ (once_chunk s walk c small) (none_chunks cs (walked walk c) d.state next (or_either walk.keyed (c.kind == 0x38) (inr e)))
      by false e rest = once_after None None draws.nonce d.entries _ (none_other s walk c small e) rest

-- none in a session
none_in_session : (near : ℕ) (from : AddressParts) (draws : Draws) (s : State) (xs : List WalkStep) → AreAllSmall xs → plain (steps_did (Session near) from draws s xs).entries ≡ []
none_in_session near from draws s [] small = refl
none_in_session near from draws s (x ∷ xs) small =
    let d : Did = chunk_did (Session near) from draws x.walk s x.chunk in
    none_after None None d.entries (steps_did (Session near) from draws d.state xs).entries [] (session_chunk_made none_law near from draws x.walk s x.chunk small.0) (none_in_session near from draws d.state xs small.1)

-- These steps are over chunks of one packet, or all in a session.
abbrev DrawsOnce : Place → List WalkStep → Type 0
DrawsOnce place xs = ((cs : List Placed) × (xs ≡ in_order outset cs)) ⊎ ((near : ℕ) × (place ≡ Session near) × AreAllSmall xs)

once_steps : (from : AddressParts) (draws : Draws) (s : State) (place : Place) (xs : List WalkStep) → DrawsOnce place xs → OneDraw draws.nonce (plain (steps_did place from draws s xs).entries)
once_steps from draws s place xs (inl one) = subst (λ (ys : List WalkStep). OneDraw draws.nonce (plain (steps_did place from draws s ys).entries)) (sym one.1) (once_chunks place from draws one.0 outset s tt)
once_steps from draws s place xs (inr session) =
    inl (ap (λ (p : Place). plain (steps_did p from draws s xs).entries) session.1 ∙ none_in_session session.0 from draws s xs session.2)

walk_once : (place : Place) (from : AddressParts) (draws : Draws) (s : State) (packet : Whole) → DrawsOnce place (walk_of place from draws s packet)
walk_once (Startup generation) from draws s packet = inl (chunks_of packet, outside_sessions (Startup generation) refl from draws outset s (chunks_of packet))
walk_once (Attempt near generation) from draws s packet = inl (chunks_of packet, outside_sessions (Attempt near generation) refl from draws outset s (chunks_of packet))
walk_once (Session near) from draws s packet = inr (near, refl, small_steps packet (walk_of (Session near) from draws s packet) (walk_is packet (Session near) from draws s))

part_once : (place : Place) (xs : List WalkStep) (count : ℕ) → DrawsOnce place xs → DrawsOnce place (take count xs)
part_once place xs count (inl one) = inl (take count one.0, ap (take count) one.1 ∙ take_in_order count outset one.0)
part_once place xs count (inr session) = inr (session.0, session.1, all_taken (λ x. AreSmall x.walk.cursor) count xs session.2)

once_acked : (from : AddressParts) (draws : Draws) (s : State) (place : Place) (xs : List WalkStep) (count : ℕ) → DrawsOnce place xs → OneDraw draws.nonce (plain (walked_and_acked place from draws s xs count).entries)
once_acked from draws s place xs count one =
    let d : Did = steps_did place from draws s xs in
    once_before None None draws.nonce d.entries (acked count d.state place).entries (once_steps from draws s place xs one) (acked_made none_law.timed count d.state place)

-- once the session is confirmed, and with what comes last and draws none
once_walked : (from : AddressParts) (draws : Draws) (s : State) (place : Place) (xs : State → List WalkStep) (count : ℕ) (last : State → Did) → ((t : State) → DrawsOnce place (xs t)) → ((t : State) → plain (last t).entries ≡ []) →
    OneDraw draws.nonce (plain (then_do (confirming s place) (λ t. then_do (walked_and_acked place from draws t (xs t) count) last)).entries)
once_walked from draws s place xs count last one none =
    let first : Did = confirming s place in
    let d : Did = walked_and_acked place from draws first.state (xs first.state) count in
    once_after None None draws.nonce first.entries (d.entries ++ (last d.state).entries) (confirming_made none_quiet s place)
    (once_before None None draws.nonce d.entries (last d.state).entries (once_acked from draws first.state place (xs first.state) count (one first.state)) (none d.state))

once_received : (from : AddressParts) (draws : Draws) (a : Admission) → OneDraw draws.nonce (plain (received from draws a).entries)
once_received from draws (Rejected s cause) = inl refl
once_received from draws (Admitted s place packet) = once_walked from draws s place (λ t. walk_of place from draws t packet) most_acks (λ t. tested_at t place from draws) (λ t. walk_once place from draws t packet) (λ t. tested_made none_quiet t place from draws tt)

once_part : (from : AddressParts) (draws : Draws) (a : Admission) (count acks : ℕ) → OneDraw draws.nonce (plain (part_received from draws a count acks).entries)
once_part from draws (Rejected s cause) count acks = inl refl
once_part from draws (Admitted s place packet) count acks = once_walked from draws s place (λ t. take count (walk_of place from draws t packet)) acks (λ t. nothing (unowed t place)) (λ t. part_once place (walk_of place from draws t packet) count (walk_once place from draws t packet)) (λ t. refl)

once_stopped : (s : State) (from : AddressParts) (draws : Draws) (a : Admission) (stop : Stop) (acks : ℕ) → OneDraw draws.nonce (plain (stopped s from draws a stop acks).entries)
once_stopped s from draws a stop acks = by stop.taken
  where
    by : (b : Bool) → OneDraw draws.nonce (plain (if b then part_received from draws a stop.chunks acks else nothing s).entries)
    by true = once_part from draws a stop.chunks acks
    by false = inl refl

-- ---- a call

-- an open, a seek and a receive draw their nonce once or not at all, other calls draw none
abbrev pub MayDraw : Call → Nonces → Type 0
MayDraw (Open peer candidates draws) nonces = OneDraw draws.nonce nonces
MayDraw (Seek name candidates draws) nonces = OneDraw draws.nonce nonces
MayDraw (Receive from datagram draws) nonces = OneDraw draws.nonce nonces
MayDraw call nonces = nonces ≡ []

one_draw : (xs ys : Nonces) (nonce : List ℕ) → (xs ≡ [] → ys ≡ []) → (xs ≡ nonce ∷ [] → ys ≡ nonce ∷ []) → OneDraw nonce xs → OneDraw nonce ys
one_draw xs ys nonce none one (inl e) = inl (none e)
one_draw xs ys nonce none one (inr e) = inr (one e)

may_draw : (call : Call) (xs ys : Nonces) → (xs ≡ [] → ys ≡ []) → ((nonce : List ℕ) → xs ≡ nonce ∷ [] → ys ≡ nonce ∷ []) → MayDraw call xs → MayDraw call ys
may_draw (Open peer candidates draws) xs ys none one h = one_draw xs ys draws.nonce none (one draws.nonce) h
may_draw (Seek name candidates draws) xs ys none one h = one_draw xs ys draws.nonce none (one draws.nonce) h
may_draw (Receive from datagram draws) xs ys none one h = one_draw xs ys draws.nonce none (one draws.nonce) h
may_draw (Unseek near) xs ys none one h = none h
may_draw (Cancel n) xs ys none one h = none h
may_draw (Close near) xs ys none one h = none h
may_draw (AddRow print addresses) xs ys none one h = none h
may_draw Introduce xs ys none one h = none h
may_draw (Narrow limit) xs ys none one h = none h
may_draw (Learn secret) xs ys none one h = none h
may_draw Advance xs ys none one h = none h
may_draw (OnFlows near call) xs ys none one h = none h
may_draw (Tick draws) xs ys none one h = none h

module _ (seek : Option SeekCall) (by_open : Option OpenCall) where
  none_of : (d : Did) (t : State) (entries : List Entry) → Does d t [] entries → drawn_by seek by_open d.entries ≡ [] → drawn_by seek by_open entries ≡ []
  none_of d t entries does none = ap (drawn_by seek by_open) does.entries ∙ none

  once_of : (nonce : List ℕ) (d : Did) (t : State) (entries : List Entry) → Does d t [] entries → OneDraw nonce (drawn_by seek by_open d.entries) → OneDraw nonce (drawn_by seek by_open entries)
  once_of nonce d t entries does (inl none) = inl (ap (drawn_by seek by_open) does.entries ∙ none)
  once_of nonce d t entries does (inr one) = inr (ap (drawn_by seek by_open) does.entries ∙ one)

-- a generation that becomes the current one
none_advancing : (s : State) (next : Option GroupSecret) → plain (advancing_to s next).entries ≡ []
none_advancing s None = refl
none_advancing s (Some next) = refl

pub answers_draw : (s t : State) (call : Call) (answer : CallAnswer) (entries : List Entry) → Answers s call answer entries t → MayDraw call (drawn call entries)
answers_draw s t (Open peer candidates draws) (Began n) entries h =
    let by_open : Option OpenCall = Some (record { peer = peer; candidates = candidates; draws = draws }) in
    let begun : State = with_startup s (after_begin s.startup peer candidates (free_from s draws.word) draws.nonce draws.tag s.moment) in
    let spread : SpreadParts = begin_spread s.startup peer candidates draws.nonce draws.tag s.moment in
    once_of None by_open draws.nonce (opening s peer candidates draws) t entries h.2 (inr (ap (λ (l : Nonces). draws.nonce ∷ l) (spread_made (none_sends None by_open) begun spread)))
answers_draw s t (Open peer candidates draws) (NotOpened refusal) entries h = inl (none_of None (Some (record { peer = peer; candidates = candidates; draws = draws })) (nothing s) t entries h.1 refl)
answers_draw s t (Seek name candidates draws) (Searching near) entries h =
    let seek : Option SeekCall = Some (record { name = name; candidates = candidates; draws = draws }) in
    let begun : State = with_startup s (after_seek s.startup name candidates (free_from s draws.word) draws.nonce draws.tag s.moment) in
    let spread : SpreadParts = seek_spread name candidates draws.nonce draws.tag s.moment in
    once_of seek None draws.nonce (seeking s name candidates draws) t entries h.2 (inr (ap (λ (l : Nonces). draws.nonce ∷ l) (spread_made (none_sends seek None) begun spread)))
answers_draw s t (Seek name candidates draws) (NotSought refusal) entries h = inl (none_of (Some (record { name = name; candidates = candidates; draws = draws })) None (nothing s) t entries h.1 refl)
answers_draw s t (Unseek near) Done entries h = none_of None None (unseeking s near) t entries h.1 refl
answers_draw s t (Unseek near) (Refused refusal) entries h = none_of None None (nothing s) t entries h.1 refl
answers_draw s t (Cancel n) Done entries h = none_of None None (cancelling s n) t entries h.1 (cancelling_made none_quiet s n)
answers_draw s t (Cancel n) (Refused refusal) entries h = none_of None None (nothing s) t entries h.2 refl
answers_draw s t (Close near) Done entries h = none_of None None (closing s near) t entries h.1 (closing_made none_quiet s near)
answers_draw s t (Close near) (Refused refusal) entries h = none_of None None (nothing s) t entries h.2 refl
answers_draw s t (AddRow print addresses) Done entries h = none_of None None (nothing (with_redirect s print addresses)) t entries h.1 refl
answers_draw s t (AddRow print addresses) (NotAdded refusal) entries h = none_of None None (nothing s) t entries h.1 refl
answers_draw s t Introduce Done entries h = none_of None None (nothing (introducing s)) t entries h refl
answers_draw s t (Narrow limit) Done entries h = none_of None None (nothing (narrowing s limit)) t entries h refl
answers_draw s t (Learn secret) (Succeeds generation) entries h = none_of None None (learning s secret) t entries h.2 refl
answers_draw s t (Learn secret) (Refused refusal) entries h = none_of None None (nothing s) t entries h.1 refl
answers_draw s t Advance (Succeeds generation) entries h = none_of None None (advancing s) t entries h.2 (none_advancing s s.next)
answers_draw s t Advance (Refused refusal) entries h = none_of None None (nothing s) t entries h.1 refl
answers_draw s t (OnFlows near call) Done entries h = none_of None None (flow_called s near call) t entries h.1 (called_made none_law s near call h.0)
answers_draw s t (OnFlows near call) (Refused refusal) entries h = none_of None None (nothing s) t entries h.1 refl
answers_draw s t (Receive from datagram draws) Done entries h = once_of None None draws.nonce (received from draws (admission s datagram)) t entries h (once_received from draws (admission s datagram))
answers_draw s t (Receive from datagram draws) (Stopped stop) entries h =
    once_of None None draws.nonce (stopped s from draws (admission s datagram) stop h.acks) t entries h.left (once_stopped s from draws (admission s datagram) stop h.acks)
answers_draw s t (Tick draws) Done entries h = none_of None None (ticks h.0.0 (all_late s)) t entries h.0.1 (tick_all_made none_law.timed h.0.0 s)
answers_draw s t (Tick draws) OutOfMemory entries h = none_of None None (ticks h.0.0 (all_late s)) t entries h.0.1 (tick_all_made none_law.timed h.0.0 s)
answers_draw s t call answer entries h = absurd h

-- ---- the nonces that an event drew

both_none : (xs ys : Nonces) → xs ++ ys ≡ [] → (xs ≡ []) × (ys ≡ [])
both_none [] ys e = (refl, e)
both_none (x ∷ xs) ys e = absurd (cc)

-- one nonce in two lists is in the first or in the second
one_of : (xs ys : Nonces) (nonce : List ℕ) → xs ++ ys ≡ nonce ∷ [] → ((xs ≡ []) × (ys ≡ nonce ∷ [])) ⊎ ((xs ≡ nonce ∷ []) × (ys ≡ []))
one_of [] ys nonce e = inl (refl, e)
one_of (x ∷ xs) ys nonce e =
    let same : x ≡ nonce = cc in
    let rest : xs ++ ys ≡ [] = cc in
    let none = both_none xs ys rest in
    inr (ap (λ (l : Nonces). x ∷ l) none.0 ∙ ap (λ (y : List ℕ). y ∷ []) same, none.1)

module _ (call : Call) where
  entry_draws : (m : ℕ) (entry : Entry) (past : Past) → last_call past ≡ Some call → draws_of (stamped m entry ∷ past) ≡ draws_in call entry ++ draws_of past
  entry_draws m entry past last = ap (λ (c : Option Call). draws_done (OfEntry entry) c ++ draws_of past) last

  draws_none : (m : ℕ) (entries : List Entry) (past : Past) → last_call past ≡ Some call → drawn call entries ≡ [] → draws_of (onto m entries past) ≡ draws_of past
  draws_none m [] past last e = refl
  draws_none m (entry ∷ rest) past last e =
      let both = both_none (draws_in call entry) (drawn call rest) e in
      draws_none m rest (stamped m entry ∷ past) last both.1 ∙ entry_draws m entry past last ∙ ap (λ (l : Nonces). l ++ draws_of past) both.0

  draws_once : (m : ℕ) (entries : List Entry) (past : Past) (nonce : List ℕ) → last_call past ≡ Some call → draws_of past ≡ [] → drawn call entries ≡ nonce ∷ [] → draws_of (onto m entries past) ≡ nonce ∷ []
  draws_once m [] past nonce last none e = absurd (cc)
  draws_once m (entry ∷ rest) past nonce last none e = elim (one_of (draws_in call entry) (drawn call rest) nonce e) [
    | inl later ↦ draws_once m rest (stamped m entry ∷ past) nonce last (entry_draws m entry past last ∙ ap (λ (l : Nonces). l ++ draws_of past) later.0 ∙ none) later.1
    | inr own ↦ draws_none m rest (stamped m entry ∷ past) last own.1 ∙ entry_draws m entry past last ∙ ap (λ (l : Nonces). l ++ draws_of past) own.0 ∙ ap (λ (l : Nonces). nonce ∷ l) none
  ]

-- what one step draws
pub event_draws : (s t : State) (e : Event) → Step s e t → MayDraw e.call (draws_of (past_of_log (e ∷ [])))
event_draws s t e step =
    may_draw e.call (drawn e.call e.entries) (draws_of (past_of_log (e ∷ [])))
    (λ none. draws_none e.call (moment_at 0 e) e.entries (begun (moment_at 0 e) e ∷ []) refl none)
    (λ nonce one. draws_once e.call (moment_at 0 e) e.entries (begun (moment_at 0 e) e ∷ []) nonce refl refl one)
    (answers_draw (at_moment s e.moment) t e.call e.answer e.entries step)
