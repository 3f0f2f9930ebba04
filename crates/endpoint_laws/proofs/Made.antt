-- All that an end does is made of small things: the structure of what goes out, of chunks, of datagrams, of timers and of calls is gone through here, once, for every law.
use Rattle.endpoint_model.specs.declared.row_due.RowDue.TheVariants.{Abandon, Data, Keepalive, Session as SessionOf}
use Rattle.endpoint_model.specs.Event.{AddRow, Advance, Answer as CallAnswer, Began, Call, Cancel, Close, Done, Introduce, Learn, Narrow, NotAdded, NotOpened, NotSought, OnFlows, Open, OutOfMemory, Receive, Refused, Searching, Seek, Stopped, Succeeds, Tick, Unseek}
use Rattle.rtmfp_forms.specs.Address.{AddressParts}
use Rattle.crypto_profile.specs.declared.group.GroupSecret.{GroupSecret}
use Rattle.crypto_profile.specs.Keys.{Keys, startup_keys_of}
use Rattle.endpoint_model.specs.Admission.{Admission, Admitted, Rejected, attempt_group, group_at, admission, admitted, admitted_packet, confirming, confirming_by, counted_at, counted_by, has_mode, mode_at, opened_datagram, packet_in, sid_at, timed_at, timed_by}
use Rattle.startup.specs.declared.answer.Answer.{Answer}
use Rattle.endpoint_model.specs.Log.{Answers, stopped}
use Rattle.rtmfp_data_chunks.specs.Fitting.{AreSmall, FitsIn}
use Rattle.endpoint_model.specs.declared.place.Place.TheVariants.{Attempt, Session, Startup}
use Rattle.startup.specs.declared.attempt.Stage.{Stage as AttemptStage}
use Rattle.startup.specs.declared.aim.Aim.{Aim}
use Rattle.startup.specs.declared.aim.Aim.TheVariants.{AtPeer, ByName}
use Rattle.startup.specs.Aims.{end_of_aim}
use Rattle.startup.specs.State.{AttemptState, SpreadParts, StartupState}
use Rattle.cookies.specs.declared.CookieTest.TheVariants.{Bad, Moved as CookieMoved, Expired as Stale, Current}
use Rattle.std.proofs.Common.{arith, drop, length, ◌≡◌, ℕ, ◌∷◌, ◌==◌, ◌+◌, if◌then◌else◌, ◌||◌, ◌∙◌, [], Bool, Err, List, None, Ok, Option, Result, Some, ap, false, refl, sym, take, true}
use Rattle.glare_core.specs.declared.facts.Why.TheVariants.{Cancelled, Expired, Far, Idle as WasIdle, Near, Unconfirmed as NotConfirmed}
use Rattle.rtmfp_base.specs.declared.cause.Cause.{Cause}
use Rattle.rtmfp_chunks.specs.Chunk.{Chunk, Close as CloseChunk, CloseAck, CookieChange, FIHello, Fragment, IHello, IIKeying, Ping, PingReply, RHello, RIKeying, Redirect}
use Rattle.rtmfp_chunks.specs.declared.reading.ChunkFault.{ChunkFault}
use Rattle.session_core.specs.declared.stage.Stage.TheVariants.{Opening, Open as OpenStage, NearClose, FarLinger, Closed}
use Rattle.cookies.specs.declared.CookieTest.{CookieTest}
use Rattle.rtmfp_data_chunks.specs.Chunk.{DataChunk}
use Rattle.rtmfp_data_chunks.specs.declared.view.DataFault.{DataFault}
use Rattle.endpoint_model.specs.State.{Did, Does, State, without_row, fact_entries, free_from, nothing, then_do, with_row, with_session, with_startup}
use Rattle.endpoint_model.specs.declared.config.Draws.{Draws}
use Rattle.endpoint_model.specs.declared.entry.Entry.{Entry}
use Rattle.glare_core.specs.declared.facts.Fact.{Fact}
use Rattle.glare_core.specs.declared.facts.Fact.TheVariants.{Ended}
use Rattle.endpoint_model.specs.declared.entry.Entry.TheVariants.{Fact as FactEntry}
use Rattle.endpoint_model.specs.FlowCall.{FlowCall, flow_did, flow_refusal}
use Rattle.glare_core.specs.declared.facts.Held.TheVariants.{HalfOpen, KeptAsInitiator, KeptAsResponder, Opening as OpeningHeld}
use Rattle.glare_core.specs.declared.facts.Held.{Held}
use Rattle.startup.specs.declared.attempt.Stage.TheVariants.{Hello, Keying}
use Rattle.startup.specs.declared.kept.KeptKeying.{KeptKeying}
use Rattle.endpoint_model.specs.Effects.{Hellos, InSession, InStartup, Introduction, Reply, Silence, seeking, unseeking, cancelling, chunk_did, chunks_did, steps_did, WalkStep, in_order, walk_of, due_done, forwarded, initiator_keyed, keying_done, most_acks, opening, opening_done, part_received, read_done, read_fact, read_left, read_reply, received, replied, responder_keyed, tick_once, ticks, walked_and_acked, with_opened}
use Rattle.session_core.specs.declared.stage.SessionDue.TheVariants.{Idle, Over, RepeatClose, Unconfirmed}
use Rattle.startup_packets.specs.Readings.{InitiatorKeying, ResponderKeying, initiator_keying_in, responder_keying_in}
use Rattle.startup.specs.Keyings.{after_keying, after_opening, again_by, again_or_birth, born_session, change_answer, kept_answer, keyed_reading, keyed_with, keying_of, opened_as, opened_reading, opened_with, repeated_session, session_answer}
use Rattle.glare_core.specs.declared.facts.Joined.{Joined}
use Rattle.rtmfp_packet.specs.declared.head.PacketFault.{PacketFault}
use Rattle.rtmfp_packet.specs.declared.head.PacketHead.{PacketHead}
use Rattle.endpoint_model.specs.declared.place.Place.{Place}
use Rattle.rtmfp_packet.specs.Walk.{Placed}
use Rattle.endpoint_model.specs.declared.row.Row.{Row}
use Rattle.endpoint_model.specs.declared.row_due.RowDue.{RowDue}
use Rattle.session_core.specs.declared.stage.SessionDue.{SessionDue}
use Rattle.session_core.specs.Session.{SessionState, confirmed, confirmed_stage, is_opening, moved_to}
use Rattle.session_core.specs.declared.stage.Stage.{Stage}
use Rattle.endpoint_model.specs.declared.answers.Stopped.{Stopped as Stop}
use Rattle.mobility.specs.declared.pending.Test.{Test}
use Rattle.endpoint_model.specs.declared.walk.Walk.{Walk}
use Rattle.rtmfp_packet.specs.Whole.{Whole}
use Rattle.glare_core.specs.declared.facts.Why.{Why}
use Rattle.rtmfp_base.specs.declared.cause.Cause.TheVariants.{WrongPlace}
use Rattle.endpoint_model.specs.FlowChunks.{acked, acks_body, flow_cause, flow_taken, flow_taken_by, taking_cause, unowed}
use Rattle.mobility.specs.Tests.{address_for, after_reply, after_seen, asks}
use Rattle.startup.specs.Attempts.{has_tag, rhello_fact, after_rhello, answer_fact_as, answer_fact, answer_keying, after_answer, after_answer_as, seek_spread, after_seek, after_unseek, after_end_of, after_begin, after_confirm, after_end, begin_spread, end_fact, end_of, has_number, hello_spread, keying_under, lowest, session_in, answered, met, begun_attempt, begun_search}
use Rattle.startup.specs.Due.{repeat_of, repeat_under}
use Rattle.session_core.specs.Closing.{first_due as session_first_due, after_due as after_due_in, asked_to_close, closed_near, is_held, is_near_close, kept_alive, needs_keepalive}
use Rattle.endpoint_model.specs.FlowTimes.{end_due, abandon_due, all_late, data_body, row_due, row_due_done}
use Rattle.endpoint_model.specs.OnFlows.{call_refusal, call_refusal_by, flow_called, flow_called_by, flows_done}
use Rattle.endpoint_laws.proofs.ByKind.{is_taken, chunk_by_kind}
use Rattle.endpoint_laws.proofs.Stepping.{AreAllSmall, small_in_order, small_steps, walk_is, part_is}
use Rattle.endpoint_laws.proofs.Spelled.{hello_kind}
use Rattle.rtmfp_chunks.specs.Writing.{chunk_bytes}
use Rattle.endpoint_model.specs.Causes.{initiator_keying_cause, takes}
use Rattle.rtmfp_chunks.specs.FieldReading.{chunk_reading}
use Rattle.rtmfp_fragments.specs.Pieces.{PieceParts, piece}
use Rattle.endpoint_model.specs.Gathering.{fault_entries, whole_by, whole_cause, whole_faults, gathered_more, piece_taken_by, piece_taken}
use Rattle.endpoint_model.specs.InSessions.{close_taken_by, closing, closing_by, dropped, ended_as, held_row, if_held, kept_alive_by, lingering, moved_by, moved_where, sent_home, sent_home_by, session_due_done, tested as tested_at, tested_by, told_in_session}
use Rattle.rtmfp_base.specs.Reasons.{where_true, first_that_stands}
use Rattle.glare_core.specs.Calls.{confirmed_fact, ended_fact, started_fact, way_made}
use Rattle.cookies.specs.Cookie.{cookie_test}
use Rattle.rtmfp_data_chunks.specs.Reader.{data_reading}
use Rattle.session_flows.specs.Timing.{overdue_in}
use Rattle.session_flows.specs.Packing.{is_data_due}
use Rattle.endpoint_laws.proofs.Hearing.{descends_same}
use Rattle.std.specs.FinMap.{get, insert}
use Rattle.glare_core.specs.Ledger.{held_with, noted}
use Rattle.endpoint_model.specs.Succession.{advancing, advancing_to, no_next}
use Rattle.endpoint_model.specs.Sending.{is_spent, last_count, has_counts, is_long, sent_answer, sent_by, sent_in_pieces, sent_whole, sent_each, sent_if, sent_in_session, sent_spread, sent_startup}
use Rattle.sha2.specs.Sha256.{sha256}
use Rattle.rtmfp_data_chunks.proofs.Fitting.{what_is_read_fits}
use Rattle.endpoint_laws.proofs.Small.{FlowThing, GoesOn, its_pieces, in_pieces, Called, Came, Acked, Unowed, Late, Overdue, Packed, on_flows, birth, stated, began, MayBe, IsNoChunk, Any, Gathers, Sends, Quiet, Timed, All, Begins, Enters, Succession}
use Rattle.startup.specs.Due.{repeated}
use Rattle.startup.specs.Attempts.{with_attempt, without_attempt_by}
use Rattle.endpoint_laws.proofs.Walks.{Steps, tick_walked, acked_walked, unowed_walked, tick_all_walked}
use Rattle.endpoint_laws.proofs.Kin.{IsKin, kin_begin, kin_answered, kin_repeat, kin_without, kin_confirm, kin_end, kin_redirect, kin_change, kin_keying, kin_unseek}

-- what a hello, a redirect or a change of a cookie states and leaves, before it is answered
abbrev pub read_first : State → Place → AddressParts → Result Chunk ChunkFault → Did
read_first s place from read = record { state = read_left s place from read; entries = fact_entries (read_fact s read) }

-- It isn't a responder's hello.
abbrev pub IsNoHello : Result Chunk ChunkFault → Type 0
IsNoHello (Ok (RHello tag cookie cert)) = ⊥
IsNoHello read = Unit {0}

-- all else states nothing
pub no_fact : (s : State) (read : Result Chunk ChunkFault) → IsNoHello read → read_fact s read ≡ None
no_fact s (Ok (RHello tag cookie cert)) other = absurd other
no_fact s _ other = refl

-- what is so of a responder's hello, and of all else that is read
pub by_hello : (R : Result Chunk ChunkFault → Type 0) → ((tag cookie cert : List ℕ) → R (Ok (RHello tag cookie cert))) → ((read : Result Chunk ChunkFault) → IsNoHello read → R read) → (read : Result Chunk ChunkFault) → R read
by_hello R hello other (Ok (RHello tag cookie cert)) = hello tag cookie cert
by_hello R hello other (Ok (IHello epd tag)) = other (Ok (IHello epd tag)) tt
by_hello R hello other (Ok (FIHello epd reply tag)) = other (Ok (FIHello epd reply tag)) tt
by_hello R hello other (Ok (Redirect tag list)) = other (Ok (Redirect tag list)) tt
by_hello R hello other (Ok (CookieChange old new)) = other (Ok (CookieChange old new)) tt
by_hello R hello other (Ok (IIKeying near cookie cert part sign)) = other (Ok (IIKeying near cookie cert part sign)) tt
by_hello R hello other (Ok (RIKeying near part sign)) = other (Ok (RIKeying near part sign)) tt
by_hello R hello other (Ok (Ping bytes)) = other (Ok (Ping bytes)) tt
by_hello R hello other (Ok (PingReply bytes)) = other (Ok (PingReply bytes)) tt
by_hello R hello other (Ok CloseChunk) = other (Ok CloseChunk) tt
by_hello R hello other (Ok CloseAck) = other (Ok CloseAck) tt
by_hello R hello other (Ok (Fragment more id number bytes)) = other (Ok (Fragment more id number bytes)) tt
by_hello R hello other (Err fault) = other (Err fault) tt

-- what an answer carries in sessions
abbrev pub Carries : (List ℕ → Type 0) → Reply → Type 0
Carries Body Silence = Unit {0}
Carries Body (InStartup answer) = Unit {0}
Carries Body (Hellos spread) = Unit {0}
Carries Body (InSession body) = Body body
Carries Body (Introduction to body redirect) = Body body

pub carries_any : (Body : List ℕ → Type 0) → ((body : List ℕ) → Body body) → (reply : Reply) → Carries Body reply
carries_any Body any Silence = tt
carries_any Body any (InStartup answer) = tt
carries_any Body any (Hellos spread) = tt
carries_any Body any (InSession body) = any body
carries_any Body any (Introduction to body redirect) = any body

-- ---- what goes out

module _ {Body : List ℕ → Type 0} {P : State → Did → Type 0} (l : Sends Body P) where
  pub either_made : (s : State) (b : Bool) (d e : Did) → P s d → P s e → P s (if b then d else e)
  either_made s true d e p q = p
  either_made s false d e p q = q

  pub startup_made : (s : State) (generation : ℕ) (keys : Keys) (to : AddressParts) (sid : ℕ) (plain : List ℕ) → P s (sent_startup s generation keys to sid plain)
  startup_made s generation keys to sid plain = either_made s (s.sealed == last_count) (nothing s) _ (l.steps.does_nothing s) (l.out s generation keys to sid plain)

  pub answer_made : (s : State) (answer : Answer) → P s (sent_answer s answer)
  answer_made s answer = startup_made s answer.generation answer.keys answer.to answer.sid answer.plain

  pub answered_made : (s : State) (answer : Option Answer) → P s (sent_if s answer)
  answered_made s None = l.steps.does_nothing s
  answered_made s (Some answer) = answer_made s answer

  pub each_made : (plain : List ℕ) (to : List AddressParts) (s : State) → P s (sent_each s plain to)
  each_made plain [] s = l.steps.does_nothing s
  each_made plain (to ∷ rest) s =
      let d : Did = sent_startup s s.group.generation (startup_keys_of s.group) to 0 plain in
      l.steps.and_then s d (sent_each d.state plain rest) (startup_made s s.group.generation (startup_keys_of s.group) to 0 plain) (each_made plain rest d.state)

  pub spread_made : (s : State) (spread : SpreadParts) → P s (sent_spread s spread)
  spread_made s spread = each_made spread.plain spread.to s

  pub by_made : (s : State) (near : ℕ) (to : AddressParts) (body : List ℕ) (o : Option Row) → get s.sessions near ≡ o → Body body → P s (sent_by s near to body o)
  by_made s near to body None is carries = l.steps.does_nothing s
  by_made s near to body (Some row) is carries = by (is_long s row body) refl
    where
      counted : (b : Bool) → has_counts row (length (its_pieces s row body)) ≡ b → is_long s row body ≡ true → P s (if b then in_pieces s near row to body else nothing s)
      counted true has long = l.parts s near row to body is carries long has
      counted false has long = l.steps.does_nothing s

      by : (b : Bool) → is_long s row body ≡ b → P s (if b then sent_in_pieces s near to row (its_pieces s row body) else sent_whole s near to body (Some row))
      by true long = counted (has_counts row (length (its_pieces s row body))) refl long
      by false long = either_made s (row.session.sealed == last_count) (nothing s) _ (l.steps.does_nothing s) (l.out_in s near row to body is carries)

  pub in_session_made : (s : State) (near : ℕ) (to : AddressParts) (body : List ℕ) → Body body → P s (sent_in_session s near to body)
  in_session_made s near to body carries = by_made s near to body (get s.sessions near) refl carries

  pub home_made : (s : State) (near : ℕ) (body : List ℕ) → Body body → P s (sent_home s near body)
  home_made s near body carries = by (get s.sessions near) refl
    where
      by : (o : Option Row) → get s.sessions near ≡ o → P s (sent_home_by s near body o)
      by None is = l.steps.does_nothing s
      by (Some row) is = by_made s near row.session.address body (Some row) is carries

  and_home_made : (s : State) (near : ℕ) (body : List ℕ) (d : Did) → P s d → Body body → P s (then_do d (λ t. sent_home t near body))
  and_home_made s near body d made carries = l.steps.and_then s d (sent_home d.state near body) made (home_made d.state near body carries)

  -- ---- hellos, redirects, changes of cookies, and pings

  forwarded_made : (s : State) (to : Option ℕ) (body : List ℕ) → Body body → P s (forwarded s to body)
  forwarded_made s None body carries = l.steps.does_nothing s
  forwarded_made s (Some near) body carries = home_made s near body carries

  pub replied_made : (s : State) (place : Place) (from : AddressParts) (reply : Reply) → Carries Body reply → P s (replied s place from reply)
  replied_made s place from Silence carries = l.steps.does_nothing s
  replied_made s place from (InStartup answer) carries = answered_made s answer
  replied_made s place from (Hellos None) carries = l.steps.does_nothing s
  replied_made s place from (Hellos (Some spread)) carries = spread_made s spread
  replied_made s place from (InSession body) carries = in_session_made s (sid_at place) from body carries
  replied_made s place from (Introduction to body redirect) carries =
      let d : Did = forwarded s to body in
      l.steps.and_then s d (sent_if d.state redirect) (forwarded_made s to body carries) (answered_made d.state redirect)

  -- after what it states and leaves
  pub read_by : (s : State) (place : Place) (from : AddressParts) (read : Result Chunk ChunkFault) → P s (read_first s place from read) → Carries Body (read_reply s place from read) → P s (read_done s place from read)
  read_by s place from read first carries =
      let t : State = read_left s place from read in
      l.steps.and_then s (read_first s place from read) (replied t place from (read_reply s place from read)) first (replied_made t place from (read_reply s place from read) carries)

-- ---- sessions that go on

same_goes : (row : Row) → GoesOn row row
same_goes row = record { descends = descends_same row.session; flows = refl; pieces = refl; packets = omega arith }

not_opening : (stage : Stage) → is_opening (confirmed_stage stage) ≡ true → ⊥
not_opening Opening e = cc
not_opening OpenStage e = cc
not_opening NearClose e = cc
not_opening FarLinger e = cc
not_opening Closed e = cc

confirmed_goes : (row : Row) → GoesOn row (record row { session = confirmed row.session })
confirmed_goes row = record { descends = record { same = refl; opening = λ e. absurd (not_opening row.session.stage e) }; flows = refl; pieces = refl; packets = omega arith }

closed_goes : (b : Bool) (moment : ℕ) (row : Row) → GoesOn row (record row { session = if b then record row.session { stage = NearClose; since = moment; close_sent = Some moment } else row.session })
closed_goes true moment row = record { descends = record { same = refl; opening = λ e. absurd (cc) }; flows = refl; pieces = refl; packets = omega arith }
closed_goes false moment row = same_goes row

lingering_goes : (b : Bool) (moment : ℕ) (row : Row) → GoesOn row (record row { session = if b then record row.session { stage = FarLinger; since = moment } else row.session })
lingering_goes true moment row = record { descends = record { same = refl; opening = λ e. absurd (cc) }; flows = refl; pieces = refl; packets = omega arith }
lingering_goes false moment row = same_goes row

alive_goes : (b : Bool) (moment : ℕ) (row : Row) → GoesOn row (record row { session = if b then record row.session { keepalive = Some moment } else row.session })
alive_goes true moment row = record { descends = record { same = refl; opening = λ e. (e, refl) }; flows = refl; pieces = refl; packets = omega arith }
alive_goes false moment row = same_goes row

pub held_is_there : (o : Option Row) (row : Row) → if_held o ≡ Some row → o ≡ Some row
held_is_there None row e = absurd (cc)
held_is_there (Some old) row e = by (is_held old.session.stage) e
  where
    by : (b : Bool) → (if b then Some old else None) ≡ Some row → Some old ≡ Some row
    by true e = e
    by false e = absurd (cc)

module _ {Body : List ℕ → Type 0} {P : State → Did → Type 0} (q : Quiet Body P) where
  -- all but a responder's hello state nothing
  left_made : (s : State) (place : Place) (from : AddressParts) (read : Result Chunk ChunkFault) → IsNoHello read → P s (read_first s place from read)
  left_made s place from (Ok (RHello tag cookie cert)) other = absurd other
  left_made s place from (Ok (Redirect tag list)) other = q.attempts s _ (kin_redirect s tag list from s.moment)
  left_made s place from (Ok (CookieChange old new)) other = q.attempts s _ (kin_change s (sid_at place) old new s.moment)
  left_made s place from (Ok _) other = q.sends.steps.does_nothing s
  left_made s place from (Err fault) other = q.sends.steps.does_nothing s

  pub quiet_read_made : (s : State) (place : Place) (from : AddressParts) (read : Result Chunk ChunkFault) → IsNoHello read → Carries Body (read_reply s place from read) → P s (read_done s place from read)
  quiet_read_made s place from read other carries = read_by q.sends s place from read (left_made s place from read other) carries

  -- a search is given up
  pub unseeking_made : (s : State) (near : ℕ) → P s (unseeking s near)
  unseeking_made s near = q.unseeks s (after_unseek s.startup near) near Cancelled (kin_unseek s near)

  -- ---- facts

  ended_fact_made : (s : State) (startup : StartupState) → IsKin s startup → (o : Option Held) (peer : List ℕ) (why : Why) → P s (record { state = with_startup s startup; entries = fact_entries (ended_fact o peer why) })
  ended_fact_made s startup kin None peer why = q.attempts s startup kin
  ended_fact_made s startup kin (Some thing) peer why = q.ends s startup peer _ why kin

  confirmed_fact_made : (s : State) (startup : StartupState) → IsKin s startup → (o : Option Held) (peer : List ℕ) → P s (record { state = with_startup s startup; entries = fact_entries (confirmed_fact o peer) })
  confirmed_fact_made s startup kin None peer = q.attempts s startup kin
  confirmed_fact_made s startup kin (Some (OpeningHeld n near ni)) peer = q.attempts s startup kin
  confirmed_fact_made s startup kin (Some (HalfOpen j)) peer = q.confirms s startup peer j.near kin
  confirmed_fact_made s startup kin (Some (KeptAsResponder j)) peer = q.attempts s startup kin
  confirmed_fact_made s startup kin (Some (KeptAsInitiator j)) peer = q.attempts s startup kin

  pub cancelling_made : (s : State) (n : ℕ) → P s (cancelling s n)
  cancelling_made s n = by (lowest (has_number n) s.startup.attempts)
    where
      by_aim : (near : ℕ) (aim : Aim) → P s (record { state = with_startup s (without_attempt_by s.startup near (end_of_aim near Cancelled aim)); entries = fact_entries (end_of_aim near Cancelled aim) })
      by_aim near (AtPeer peer n) = q.ends s _ peer near Cancelled (kin_without s near (Some (Ended peer near Cancelled)))
      by_aim near (ByName name) = q.attempts s _ (kin_without s near None)

      by : (o : Option (ℕ × AttemptState)) → P s (record { state = with_startup s (after_end_of s.startup o Cancelled); entries = fact_entries (end_of o Cancelled) })
      by None = q.sends.steps.does_nothing s
      by (Some e) = by_aim e.0 e.1.aim

  -- ---- the ends of sessions

  end_made : (s : State) (peer : List ℕ) (why : Why) → P s (record { state = with_startup s (after_end s.startup peer why); entries = fact_entries (end_fact s.startup peer why) })
  end_made s peer why = ended_fact_made s (after_end s.startup peer why) (kin_end s peer why) (session_in (held_with s.startup.ledger peer)) peer why

  ended_made : (s : State) (near : ℕ) (row : Row) (why : Why) (left : SessionState) → get s.sessions near ≡ Some row → GoesOn row (record row { session = left }) → P s (ended_as s near row why left)
  ended_made s near row why left is goes =
      let t : State = with_session s near row left in
      q.sends.steps.and_then s (nothing t) _ (q.goes_on s near row (record row { session = left }) is goes) (end_made t row.session.joined.peer why)

  dropped_made : (s : State) (near : ℕ) (row : Row) (why : Why) → P s (dropped s near row why)
  dropped_made s near row why = let t : State = without_row s near in q.sends.steps.and_then s (nothing t) _ (q.forgets s near) (end_made t row.session.joined.peer why)

  pub closing_made : (s : State) (near : ℕ) → P s (closing s near)
  closing_made s near = by (held_row s near) refl
    where
      by : (o : Option Row) → held_row s near ≡ o → P s (closing_by s near o)
      by None is = q.sends.steps.does_nothing s
      by (Some row) is = and_home_made q.sends s near (chunk_bytes CloseChunk) (ended_as s near row Near (closed_near s.moment row.session))
          (ended_made s near row Near (closed_near s.moment row.session) (held_is_there (get s.sessions near) row is) (closed_goes (is_held row.session.stage) s.moment row)) q.close

  -- ---- closes, their answers, and answers to pings

  lingering_made : (s : State) (near : ℕ) (row : Row) → get s.sessions near ≡ Some row → P s (lingering s near row)
  lingering_made s near row is =
      let goes = lingering_goes (is_held row.session.stage || is_near_close row.session.stage) s.moment row in
      either_made q.sends s (is_held row.session.stage) _ _ (ended_made s near row Far (asked_to_close s.moment row.session) is goes) (q.goes_on s near row (record row { session = asked_to_close s.moment row.session }) is goes)

  close_taken_made : (s : State) (near : ℕ) (o : Option Row) → get s.sessions near ≡ o → P s (close_taken_by s near o)
  close_taken_made s near None is = q.sends.steps.does_nothing s
  close_taken_made s near (Some row) is = and_home_made q.sends s near (chunk_bytes CloseAck) (lingering s near row) (lingering_made s near row is) q.close_ack

  moved_made : (s : State) (near : ℕ) (from : AddressParts) (bytes : List ℕ) (o : Option Row) → get s.sessions near ≡ o → P s (moved_by s near from bytes o)
  moved_made s near from bytes None is = q.sends.steps.does_nothing s
  moved_made s near from bytes (Some row) is = by (after_reply row.moves from bytes) (address_for row.moves from bytes)
    where
      by : (moves : Option Test) (to : Option AddressParts) → P s (moved_where s near row moves to)
      by moves None = q.sends.steps.does_nothing s
      by moves (Some to) =
          let new : Row = record row { session = moved_to to row.session; moves = moves } in
          let t : State = with_row s near new in
          q.sends.steps.and_then s (nothing t) _ (q.goes_on s near row new is (record { descends = record { same = refl; opening = λ e. (e, refl) }; flows = refl; pieces = refl; packets = omega arith })) (q.moves t near to)

  pub told_made : (s : State) (near : ℕ) (from : AddressParts) (c : Placed) → P s (told_in_session s near from c)
  told_made s near from c =
      either_made q.sends s (c.kind == 0x0c) _ _ (close_taken_made s near (get s.sessions near) refl) (either_made q.sends s (c.kind == 0x4c) _ _ (q.closes s near) (moved_made s near from c.payload (get s.sessions near) refl))

  -- ---- pieces of packets

  fault_made : (s : State) (at : ℕ) (o : Option Cause) → P s (record { state = s; entries = fault_entries at o })
  fault_made s at None = q.sends.steps.does_nothing s
  fault_made s at (Some cause) = q.discards s at cause

  faults_made : (s t : State) (near at : ℕ) (o : Option (List ℕ)) → P t (record { state = t; entries = whole_faults s near at o })
  faults_made s t near at None = q.sends.steps.does_nothing t
  faults_made s t near at (Some packet) = fault_made t at (whole_cause s near (packet_in packet))

  module _ (gathers : Gathers P) where
    piece_by_made : (s : State) (near at id : ℕ) (x : PieceParts) (o : Option Row) → get s.sessions near ≡ o → P s (piece_taken_by s near at id x o)
    piece_by_made s near at id x None is = q.sends.steps.does_nothing s
    piece_by_made s near at id x (Some row) is =
        let t : State = with_row s near (gathered_more s.moment id x row) in
        q.sends.steps.and_then s (nothing t) _ (gathers s near id row x is) (faults_made s t near at (whole_by s.moment (Some row) id x))

    pub piece_made : (s : State) (near at : ℕ) (read : Result Chunk ChunkFault) → P s (piece_taken s near at read)
    piece_made s near at (Ok (Fragment more id number bytes)) = piece_by_made s near at id (piece number more bytes) (get s.sessions near) refl
    piece_made s near at read = q.sends.steps.does_nothing s

  -- ---- tests of addresses, and confirming

  tested_by_made : (s : State) (near : ℕ) (from : AddressParts) (token : List ℕ) → Body (chunk_bytes (Ping token)) → (o : Option Row) → held_row s near ≡ o → P s (tested_by s near from token o)
  tested_by_made s near from token carries None is = q.sends.steps.does_nothing s
  tested_by_made s near from token carries (Some row) is =
      let new : Row = record row { moves = after_seen row.moves row.session.address from token s.moment } in
      let t : State = with_row s near new in
      either_made q.sends s (asks row.moves row.session.address from s.moment) _ _
      (q.sends.steps.and_then s (nothing t) _ (q.goes_on s near row new (held_is_there (get s.sessions near) row is) (record { descends = descends_same row.session; flows = refl; pieces = refl; packets = omega arith })) (in_session_made q.sends t near from (chunk_bytes (Ping token)) carries))
      (q.sends.steps.does_nothing s)

  pub tested_made : (s : State) (place : Place) (from : AddressParts) (draws : Draws) → Body (chunk_bytes (Ping draws.token)) → P s (tested_at s place from draws)
  tested_made s (Startup generation) from draws carries = q.sends.steps.does_nothing s
  tested_made s (Attempt near generation) from draws carries = q.sends.steps.does_nothing s
  tested_made s (Session near) from draws carries = tested_by_made s near from draws.token carries (held_row s near) refl

  confirming_by_made : (s : State) (near : ℕ) (o : Option Row) → get s.sessions near ≡ o → P s (confirming_by s near o)
  confirming_by_made s near None is = q.sends.steps.does_nothing s
  confirming_by_made s near (Some row) is =
      let new : Row = record row { session = confirmed row.session } in
      let peer : List ℕ = row.session.joined.peer in
      let t : State = with_row s near new in
      either_made q.sends s (is_opening row.session.stage) _ (nothing s)
      (q.sends.steps.and_then s (nothing t) _ (q.goes_on s near row new is (confirmed_goes row)) (confirmed_fact_made t (after_confirm s.startup peer) (kin_confirm t peer) (held_with s.startup.ledger peer) peer))
      (q.sends.steps.does_nothing s)

  pub confirming_made : (s : State) (place : Place) → P s (confirming s place)
  confirming_made s (Startup generation) = q.sends.steps.does_nothing s
  confirming_made s (Attempt near generation) = q.sends.steps.does_nothing s
  confirming_made s (Session near) = confirming_by_made s near (get s.sessions near) refl

  -- ---- time

  repeated_made : (s : State) (near : ℕ) (a : AttemptState) (cert : List ℕ) (stage : AttemptStage) → P s (due_done s (repeat_under cert near a stage))
  repeated_made s near a cert Hello = spread_made q.sends s (hello_spread a a.candidates)
  repeated_made s near a cert (Keying at cookie under) = answer_made q.sends s (keying_under under cert near a at cookie)

  kept_alive_made : (s : State) (near : ℕ) (row : Row) → get s.sessions near ≡ Some row → P s (kept_alive_by s near row)
  kept_alive_made s near row is =
      let new : Row = record row { session = kept_alive s.moment row.session } in
      and_home_made q.sends s near (chunk_bytes (Ping [])) (nothing (with_row s near new)) (q.goes_on s near row new is (alive_goes (needs_keepalive row.session s.moment) s.moment row)) q.empty_ping

  session_due_made : (s : State) (near : ℕ) (row : Row) (due : SessionDue) → get s.sessions near ≡ Some row → P s (session_due_done s near row due)
  session_due_made s near row Unconfirmed is = dropped_made s near row NotConfirmed
  session_due_made s near row Idle is = dropped_made s near row WasIdle
  session_due_made s near row Over is = q.closes s near
  session_due_made s near row RepeatClose is =
      let new : Row = record row { session = after_due_in (Some RepeatClose) s.moment row.session } in
      and_home_made q.sends s near (chunk_bytes CloseChunk) (nothing (with_row s near new)) (q.goes_on s near row new is (record { descends = record { same = refl; opening = λ e. (e, refl) }; flows = refl; pieces = refl; packets = omega arith })) q.close

-- ---- responders' hellos come in the startup context alone

pub not_in_session : (near kind : ℕ) → kind ≡ 0x70 → takes (Session near) kind ≡ true → ⊥
not_in_session near kind is taken = let clash : true ≡ false = sym taken ∙ ap (takes (Session near)) is in cc

pub not_in_attempt : (near generation kind : ℕ) → kind ≡ 0x70 → takes (Attempt near generation) kind ≡ true → ⊥
not_in_attempt near generation kind is taken = let clash : true ≡ false = sym taken ∙ ap (takes (Attempt near generation)) is in cc

-- ---- flows

-- a message that is due to be abandoned is the first that is overdue
abandon_is : (a : Option SessionDue) (b : Option (ℕ × ℕ)) (c d : Bool) (flow seq : ℕ) → first_that_stands (end_due a ∷ abandon_due b ∷ where_true c Data ∷ where_true d Keepalive ∷ []) ≡ Some (Abandon flow seq) → b ≡ Some (flow, seq)
abandon_is (Some first) b c d flow seq e = absurd (cc)
abandon_is None (Some found) c d flow seq e =
    let same : Abandon found.0 found.1 ≡ Abandon flow seq = cc in
    let one : found.0 ≡ flow = cc in
    let two : found.1 ≡ seq = cc in
    ap (λ (n : ℕ). Some (n, found.1)) one ∙ ap (λ (n : ℕ). Some (flow, n)) two
abandon_is None None true d flow seq e = absurd (cc)
abandon_is None None false true flow seq e = absurd (cc)
abandon_is None None false false flow seq e = absurd (cc)

module _ {Body : List ℕ → Type 0} {P : State → Did → Type 0} (k : Timed Body P) where
  pub acked_made : (count : ℕ) (s : State) (place : Place) → P s (acked count s place)
  acked_made = acked_walked k.quiet.sends.steps k.acks

  pub unowed_made : (s : State) (place : Place) → P s (nothing (unowed s place))
  unowed_made = unowed_walked k.quiet.sends.steps k.owes_none

  row_due_made : (s : State) (near : ℕ) (row : Row) (due : RowDue) → get s.sessions near ≡ Some row → row_due s.moment row ≡ Some due → P s (row_due_done s near row due)
  row_due_made s near row (SessionOf due) there is = session_due_made k.quiet s near row due there
  row_due_made s near row (Abandon flow seq) there is =
      k.abandons s near row flow seq there
      (abandon_is (session_first_due row.session s.moment) (overdue_in row.session row.flows s.moment) (is_data_due row.session row.flows s.moment) (needs_keepalive row.session s.moment) flow seq is)
  row_due_made s near row Data there is = k.packs s near row there
  row_due_made s near row Keepalive there is = kept_alive_made k.quiet s near row there

  pub tick_made : (s : State) → P s (tick_once s)
  tick_made s = tick_walked (P s) s (record {
    none = k.quiet.sends.steps.does_nothing s;
    ends = λ near a peer n aims there over. k.quiet.ends s _ peer near Expired (kin_without s near (Some (Ended peer near Expired)));
    unseeks = λ near a name aims there over. k.quiet.unseeks s _ near Expired (kin_without s near None);
    repeats = λ e there. (let startup : StartupState = with_attempt s.startup e.0 (repeated e.1 s.moment) in
        let t : State = with_startup s startup in
        k.quiet.sends.steps.and_then s (nothing t) (due_done t (repeat_of s.startup e.0 e.1)) (k.quiet.attempts s startup (kin_repeat s e there s.moment)) (repeated_made k.quiet t e.0 e.1 _ e.1.stage));
    row = λ near row due there is. row_due_made s near row due there is;
  })

  pub tick_all_made : (count : ℕ) (s : State) → P s (ticks count (all_late s))
  tick_all_made = tick_all_walked k.quiet.sends.steps k.loses tick_made

-- where any body may go out, what is done with flows is one thing and the datagram another
pub timed_law : {P : State → Did → Type 0} → Quiet Any P → ((s : State) (near : ℕ) (row : Row) (thing : FlowThing) → get s.sessions near ≡ Some row → MayBe row thing → IsNoChunk thing → P s (on_flows s near row thing)) → Timed Any P
timed_law q flows = record {
  quiet = q;
  acks = λ s near row is owed. and_home_made q.sends s near (acks_body row s.moment) (on_flows s near row Acked) (flows s near row Acked is tt tt) tt;
  owes_none = λ s near row is. flows s near row Unowed is tt tt;
  loses = λ s near row is. flows s near row Late is tt tt;
  abandons = λ s near row flow seq is due. flows s near row (Overdue flow seq) is tt tt;
  packs = λ s near row is. and_home_made q.sends s near (data_body row s.moment) (on_flows s near row Packed) (flows s near row Packed is tt tt) tt;
}

pub all_law : {P : State → Did → Type 0} → Quiet Any P → ((s : State) (near : ℕ) (row : Row) (thing : FlowThing) → get s.sessions near ≡ Some row → MayBe row thing → P s (on_flows s near row thing)) → Gathers P → All Any P
all_law q flows gathers = record {
  timed = timed_law q (λ s near row thing is may alone. flows s near row thing is may);
  gathers = gathers;
  bodies = λ body. tt;
  calls = λ s near row call is none. flows s near row (Called call) is none;
  takes = λ s near row chunk is fits none. flows s near row (Came chunk) is (fits, none);
}

-- a call on flows
abbrev pub CallsDo : (State → Did → Type 0) → Type 0
CallsDo P = (s : State) (near : ℕ) (row : Row) (call : FlowCall) → get s.sessions near ≡ Some row → flow_refusal row.flows call ≡ None → P s (flows_done s near row (flow_did row.flows call))

module _ (P : State → Did → Type 0) (calls : CallsDo P) where
  called_by_made : (s : State) (near : ℕ) (c : FlowCall) (o : Option Row) → held_row s near ≡ o → call_refusal_by c o ≡ None → P s (flow_called_by s near c o)
  called_by_made s near c None is none = absurd (cc)
  called_by_made s near c (Some row) is none = calls s near row c (held_is_there (get s.sessions near) row is) none

  call_made : (s : State) (near : ℕ) (c : FlowCall) → call_refusal s near c ≡ None → P s (flow_called s near c)
  call_made s near c none = called_by_made s near c (held_row s near) refl none

module _ {Body : List ℕ → Type 0} {P : State → Did → Type 0} (a : All Body P) where
  pub called_made : (s : State) (near : ℕ) (c : FlowCall) → call_refusal s near c ≡ None → P s (flow_called s near c)
  called_made s near c none = call_made P a.calls s near c none

  taken_by_made : (s : State) (near : ℕ) (chunk : DataChunk) → FitsIn chunk → (o : Option Row) → get s.sessions near ≡ o → taking_cause o chunk ≡ None → P s (flow_taken_by s near chunk o)
  taken_by_made s near chunk fits None is none = absurd (cc)
  taken_by_made s near chunk fits (Some row) is none = a.takes s near row chunk is fits none

  flow_taken_made : (s : State) (near : ℕ) (read : Result DataChunk DataFault) → ((chunk : DataChunk) → read ≡ Ok chunk → FitsIn chunk) → flow_cause (get s.sessions near) read ≡ None → P s (flow_taken s near read)
  flow_taken_made s near (Ok chunk) fits none = taken_by_made s near chunk (fits chunk refl) (get s.sessions near) refl none
  flow_taken_made s near (Err fault) fits none = a.timed.quiet.sends.steps.does_nothing s

  -- ---- a chunk

  -- by what is so of keyings
  pub chunk_by : (R : Did → Type 0) (place : Place) (from : AddressParts) (draws : Draws) (walk : Walk) (s : State) (c : Placed) → AreSmall walk.cursor → ((d : Did) → P s d → R d) →
      (c.kind ≡ 0x38 → takes place 0x38 ≡ true → initiator_keying_cause s place walk from c.payload ≡ None → R (initiator_keyed s place from draws c.payload)) → (takes place 0x78 ≡ true → R (responder_keyed s (sid_at place) from c.payload)) →
      ((tag cookie cert : List ℕ) → chunk_reading c.kind c.payload ≡ Ok (RHello tag cookie cert) → takes place c.kind ≡ true → R (read_done s place from (Ok (RHello tag cookie cert)))) →
      R (chunk_did place from draws walk s c)
  chunk_by R place from draws walk s c small up initiator responder hello = chunk_by_kind R place from draws walk s c (record {
    discarded = λ cause. up _ (a.timed.quiet.discards s c.at cause);
    initiator = λ kind taken none formed. initiator kind (is_taken place walk 0x38 taken) none;
    responder = λ kind taken none formed. responder (is_taken place walk 0x78 taken);
    told = λ told taken has. up _ (told_made a.timed.quiet s (sid_at place) from c);
    flows = λ is taken none. up _ (flow_taken_made s (sid_at place) (data_reading walk.cursor c.kind c.payload) (λ chunk read. (what_is_read_fits walk.cursor c.kind c.payload chunk small read).0) none);
    piece = λ kind taken. up _ (piece_made a.timed.quiet a.gathers s (sid_at place) c.at (chunk_reading c.kind c.payload));
    reads = λ taken formed none.
        by_hello (λ read. chunk_reading c.kind c.payload ≡ read → R (read_done s place from read)) (λ tag cookie cert is. hello tag cookie cert is (is_taken place walk c.kind taken))
        (λ read other is. up _ (quiet_read_made a.timed.quiet s place from read other (carries_any Body a.bodies (read_reply s place from read)))) (chunk_reading c.kind c.payload) refl;
  })

  -- one that came in a session begins none
  pub session_chunk_made : (near : ℕ) (from : AddressParts) (draws : Draws) (walk : Walk) (s : State) (c : Placed) → AreSmall walk.cursor → P s (chunk_did (Session near) from draws walk s c)
  session_chunk_made near from draws walk s c small = chunk_by (P s) (Session near) from draws walk s c small (λ d made. made) (λ kind taken none. absurd (cc)) (λ taken. absurd (cc)) (λ tag cookie cert is taken. absurd (not_in_session near c.kind (hello_kind c.kind c.payload tag cookie cert is) taken))

-- ---- sessions and attempts that begin

-- what a call did
pub record WasMade (P : State → Did → Type 0) (s t : State) (entries : List Entry) : Type 0 where
  pub did : Did
  pub made : P s did
  pub does : Does did t [] entries

module _ {Body : List ℕ → Type 0} {Q P : State → Did → Type 0} (q : Quiet Body Q) (b : Begins Q P) where
  pub opening_made : (s : State) (peer : List ℕ) (candidates : List AddressParts) (draws : Draws) → P s (opening s peer candidates draws)
  opening_made s peer candidates draws =
      let startup : StartupState = after_begin s.startup peer candidates (free_from s draws.word) draws.nonce draws.tag s.moment in
      let spread : SpreadParts = begin_spread s.startup peer candidates draws.nonce draws.tag s.moment in
      b.steps.and_then s (stated s startup (started_fact s.startup.ledger peer (free_from s draws.word) draws.nonce)) (sent_spread (with_startup s startup) spread) (b.starts s startup peer _ (free_from s draws.word) draws.nonce (kin_begin s _ (free_from s draws.word) (begun_attempt s.startup peer candidates draws.nonce draws.tag s.moment) refl refl))
      (b.quiet (with_startup s startup) _ (spread_made q.sends (with_startup s startup) spread))

  pub seeking_made : (s : State) (name : List ℕ) (candidates : List AddressParts) (draws : Draws) → P s (seeking s name candidates draws)
  seeking_made s name candidates draws =
      let near : ℕ = free_from s draws.word in
      let startup : StartupState = after_seek s.startup name candidates near draws.nonce draws.tag s.moment in
      let spread : SpreadParts = seek_spread name candidates draws.nonce draws.tag s.moment in
      b.steps.and_then s (began s startup near name) (sent_spread (with_startup s startup) spread) (b.seeks s startup near name (kin_begin s s.startup.ledger near (begun_search name candidates draws.nonce draws.tag s.moment) refl refl))
      (b.quiet (with_startup s startup) _ (spread_made q.sends (with_startup s startup) spread))

  -- a responder's hello makes an attempt of a search
  met_made : (s : State) (place : Place) (print : List ℕ) (e : ℕ × AttemptState) (from : AddressParts) (cookie : List ℕ) (aim : Aim) →
      P s (record { state = with_startup s (after_answer_as s.startup print e from cookie s.moment (group_at s place) aim); entries = fact_entries (answer_fact_as s.startup print e.0 e.1.ni aim) })
  met_made s place print e from cookie (AtPeer peer n) =
      b.quiet s _ (q.attempts s _ (kin_answered s place s.startup.ledger e.0 (answered e.1 from cookie s.moment (group_at s place)) from cookie refl refl))
  met_made s place print e from cookie (ByName name) =
      b.starts s _ print _ e.0 e.1.ni
      (kin_answered s place (noted s.startup.ledger (started_fact s.startup.ledger print e.0 e.1.ni)) e.0 (met e.1 print (s.startup.ledger.started + 1) from cookie s.moment (group_at s place)) from cookie refl refl)

  answer_first_made : (s : State) (place : Place) (print : List ℕ) (o : Option (ℕ × AttemptState)) (from : AddressParts) (cookie : List ℕ) →
      P s (record { state = with_startup s (after_answer s.startup print o from cookie s.moment (group_at s place)); entries = fact_entries (answer_fact s.startup print o) })
  answer_first_made s place print None from cookie = b.steps.does_nothing s
  answer_first_made s place print (Some e) from cookie = met_made s place print e from cookie e.1.aim

  -- but where no count of a startup packet is left
  hello_first : (s : State) (place : Place) (from : AddressParts) (tag cookie cert : List ℕ) (spent : Bool) →
      P s (record { state = if spent then s else with_startup s (after_rhello s.startup tag cookie cert from s.moment (group_at s place)); entries = fact_entries (if spent then None else rhello_fact s.startup tag cert) })
  hello_first s place from tag cookie cert true = b.steps.does_nothing s
  hello_first s place from tag cookie cert false = answer_first_made s place (sha256 cert) (lowest (has_tag tag) s.startup.attempts) from cookie

  pub hello_made : (s : State) (place : Place) (from : AddressParts) (tag cookie cert : List ℕ) → P s (read_done s place from (Ok (RHello tag cookie cert)))
  hello_made s place from tag cookie cert =
      let read : Result Chunk ChunkFault = Ok (RHello tag cookie cert) in
      let t : State = read_left s place from read in
      b.steps.and_then s (read_first s place from read) (replied t place from (read_reply s place from read)) (hello_first s place from tag cookie cert (is_spent s))
      (b.quiet t _ (answered_made q.sends t (answer_keying s.startup (sha256 cert) (lowest (has_tag tag) s.startup.attempts) from cookie (group_at s place))))

  pub read_made : (s : State) (place : Place) (from : AddressParts) (read : Result Chunk ChunkFault) → Carries Body (read_reply s place from read) → P s (read_done s place from read)
  read_made s place from = by_hello (λ read. Carries Body (read_reply s place from read) → P s (read_done s place from read)) (λ tag cookie cert carries. hello_made s place from tag cookie cert)
      (λ read other carries. b.quiet s _ (quiet_read_made q s place from read other carries))

  -- what is kept of it answers a repeat
  again_made : (s : State) (startup : StartupState) (from : AddressParts) (g : GroupSecret) (j : Joined) (kept : Option KeptKeying) → P s (keying_done s from g (again_by startup j from kept))
  again_made s startup from g j None = b.steps.does_nothing s
  again_made s startup from g j (Some kept) = b.quiet s _ (answer_made q.sends s (kept_answer startup j from kept))

  keyed_with_made : (s : State) (generation : ℕ) (startup : StartupState) (from : AddressParts) (now near : ℕ) (nr : List ℕ) (keying : InitiatorKeying) (t : CookieTest) →
      P s (keying_done s from (group_at s (Startup generation)) (keyed_with startup from now near nr (group_at s (Startup generation)) keying t))
  keyed_with_made s generation startup from now near nr keying Current = by (repeated_session (held_with startup.ledger (sha256 keying.cert)) (keying_of keying))
    where
      g : GroupSecret
      g = group_at s (Startup generation)

      by : (o : Option Joined) → P s (keying_done s from g (again_or_birth startup (keying_of keying) from near nr g o))
      by (Some j) = again_made s startup from g j (get startup.kept (sha256 keying.cert))
      by None =
          let j : Joined = born_session startup.ledger (keying_of keying) near nr in
          let o : Option Held = held_with startup.ledger (sha256 keying.cert) in
          let d : Did = birth s (way_made (sha256 keying.cert) o) j from g in
          b.steps.and_then s d (sent_answer d.state (session_answer startup j from g)) (b.bears s generation (sha256 keying.cert) o j from) (b.quiet d.state _ (answer_made q.sends d.state (session_answer startup j from g)))
  keyed_with_made s generation startup from now near nr keying Bad = b.quiet s _ (answer_made q.sends s (change_answer startup keying from now (group_at s (Startup generation))))
  keyed_with_made s generation startup from now near nr keying CookieMoved = b.quiet s _ (answer_made q.sends s (change_answer startup keying from now (group_at s (Startup generation))))
  keyed_with_made s generation startup from now near nr keying Stale = b.quiet s _ (answer_made q.sends s (change_answer startup keying from now (group_at s (Startup generation))))

  keyed_made : (s : State) (generation : ℕ) (startup : StartupState) (from : AddressParts) (now near : ℕ) (nr : List ℕ) (r : Result InitiatorKeying Cause) →
      P s (keying_done s from (group_at s (Startup generation)) (keyed_reading startup from now near nr (group_at s (Startup generation)) r))
  keyed_made s generation startup from now near nr (Ok keying) = keyed_with_made s generation startup from now near nr keying (cookie_test startup.cookie_secret keying.cookie from now)
  keyed_made s generation startup from now near nr (Err cause) = b.steps.does_nothing s

  -- it comes to startup alone
  pub initiator_made : (s : State) (generation : ℕ) (from : AddressParts) (draws : Draws) (payload : List ℕ) → P s (initiator_keyed s (Startup generation) from draws payload)
  initiator_made s generation from draws payload =
      let t : State = with_startup s (after_keying s.startup payload from s.moment (free_from s draws.word) draws.nonce (group_at s (Startup generation))) in
      b.steps.and_then s (nothing t) _ (b.quiet s (nothing t) (q.attempts s t.startup (kin_keying s (Startup generation) payload from s.moment (free_from s draws.word) draws.nonce)))
      (keyed_made t generation s.startup from s.moment (free_from s draws.word) draws.nonce (initiator_keying_in payload))

  -- wherever its kind is taken
  pub initiator_at : (place : Place) (s : State) (from : AddressParts) (draws : Draws) (payload : List ℕ) → takes place 0x38 ≡ true → P s (initiator_keyed s place from draws payload)
  initiator_at (Startup generation) s from draws payload taken = initiator_made s generation from draws payload
  initiator_at (Attempt near generation) s from draws payload taken = absurd (cc)
  initiator_at (Session near) s from draws payload taken = absurd (cc)

  opened_as_made : (s : State) (near : ℕ) (from : AddressParts) (keying : ResponderKeying) (ni : List ℕ) (aim : Aim) →
      P s (opening_done s near from (attempt_group s.group (get s.startup.attempts near)) (opened_as near keying ni aim))
  opened_as_made s near from keying ni (AtPeer peer n) =
      let fact : Fact = opened_with near keying peer n ni in
      let t : State = with_opened (with_startup s (after_opening s.startup near fact)) fact from (attempt_group s.group (get s.startup.attempts near)) in
      b.steps.and_then s (record { state = t; entries = FactEntry fact ∷ [] }) (sent_in_session t near from (chunk_bytes (Ping []))) (b.opens s (after_opening s.startup near fact) _ from (kin_without s near (Some fact)))
      (b.quiet t _ (in_session_made q.sends t near from (chunk_bytes (Ping [])) q.empty_ping))
  opened_as_made s near from keying ni (ByName name) = b.steps.does_nothing s

  opened_made : (s : State) (near : ℕ) (from : AddressParts) (o : Option AttemptState) (r : Result ResponderKeying Cause) →
      P s (opening_done s near from (attempt_group s.group (get s.startup.attempts near)) (opened_reading near o r))
  opened_made s near from (Some e) (Ok keying) = opened_as_made s near from keying e.ni e.aim
  opened_made s near from (Some e) (Err cause) = b.steps.does_nothing s
  opened_made s near from None r = b.steps.does_nothing s

  pub responder_made : (s : State) (near : ℕ) (from : AddressParts) (payload : List ℕ) → P s (responder_keyed s near from payload)
  responder_made s near from payload = opened_made s near from (get s.startup.attempts near) (responder_keying_in payload)

-- ---- what a datagram leaves of its session before its chunks

-- what an admission leaves
abbrev pub left_by : Admission → State
left_by (Rejected s cause) = s
left_by (Admitted s place packet) = s

module _ {P : State → Did → Type 0} (steps : Steps P) (e : Enters P) where
  counted_made : (s : State) (place : Place) (part : List ℕ) → P s (nothing (counted_at s place part))
  counted_made s (Startup generation) part = steps.does_nothing s
  counted_made s (Attempt near generation) part = steps.does_nothing s
  counted_made s (Session near) part = by (get s.sessions near) refl
    where
      by : (o : Option Row) → get s.sessions near ≡ o → P s (nothing (counted_by s near part o))
      by None is = steps.does_nothing s
      by (Some row) is = e.counts s near row _ is

  timed_made : (s : State) (place : Place) (head : PacketHead) → P s (nothing (timed_at s place head))
  timed_made s (Startup generation) head = steps.does_nothing s
  timed_made s (Attempt near generation) head = steps.does_nothing s
  timed_made s (Session near) head = by (get s.sessions near) refl
    where
      by : (o : Option Row) → get s.sessions near ≡ o → P s (nothing (timed_by s near head o))
      by None is = steps.does_nothing s
      by (Some row) is = e.counts s near row _ is

  pub admission_made : (s : State) (datagram : List ℕ) → P s (nothing (left_by (admission s datagram)))
  admission_made s datagram = by (opened_datagram s datagram)
    where
      packed : (t : State) (place : Place) (r : Result Whole PacketFault) → P t (nothing (left_by (admitted_packet t place r)))
      packed t place (Err fault) = steps.does_nothing t
      packed t place (Ok packet) = moded (has_mode packet.head (mode_at t place))
        where
          moded : (m : Bool) → P t (nothing (left_by (if m then Admitted (timed_at t place packet.head) place packet else Rejected t WrongPlace)))
          moded true = timed_made t place packet.head
          moded false = steps.does_nothing t

      by : (r : Result (Place × List ℕ) Cause) → P s (nothing (left_by (admitted s datagram r)))
      by (Err cause) = steps.does_nothing s
      by (Ok found) =
          let t : State = counted_at s found.0 (drop 4 datagram) in
          steps.and_then s (nothing t) (nothing (left_by (admitted_packet t found.0 (packet_in found.1)))) (counted_made s found.0 (drop 4 datagram)) (packed t found.0 (packet_in found.1))

-- ---- calls

-- what is done with the datagram of a call
pub record Given (P : State → Did → Type 0) : Type 0 where
  pub whole : (s : State) (from : AddressParts) (draws : Draws) (datagram : List ℕ) → P s (received from draws (admission s datagram))
  pub part : (s : State) (from : AddressParts) (draws : Draws) (datagram : List ℕ) (stop : Stop) (acks : ℕ) → P s (stopped s from draws (admission s datagram) stop acks)

-- The call doesn't learn a next secret or go over to it, or it is refused.
abbrev pub IsNoSuccession : Call → CallAnswer → Type 0
IsNoSuccession (Learn secret) (Succeeds generation) = ⊥
IsNoSuccession Advance (Succeeds generation) = ⊥
IsNoSuccession call answer = Unit {0}

module _ {Body : List ℕ → Type 0} {Q P : State → Did → Type 0} (k : Timed Body Q) (calls : CallsDo Q) (b : Begins Q P) (e : Enters P) (given : Given P) where
  answer_is : (s t : State) (entries : List Entry) (d : Did) → P s d → Does d t [] entries → WasMade P s t entries
  answer_is s t entries d made does = record { did = d; made = made; does = does }

  -- all calls but those that learn a next secret and go over to it
  pub answers_beside : (s t : State) (call : Call) (answer : CallAnswer) (entries : List Entry) → IsNoSuccession call answer → Answers s call answer entries t → WasMade P s t entries
  answers_beside s t (Open peer candidates draws) (Began n) entries other h = answer_is s t entries _ (opening_made k.quiet b s peer candidates draws) h.2
  answers_beside s t (Open peer candidates draws) (NotOpened refusal) entries other h = answer_is s t entries _ (b.steps.does_nothing s) h.1
  answers_beside s t (Seek name candidates draws) (Searching near) entries other h = answer_is s t entries _ (seeking_made k.quiet b s name candidates draws) h.2
  answers_beside s t (Seek name candidates draws) (NotSought refusal) entries other h = answer_is s t entries _ (b.steps.does_nothing s) h.1
  answers_beside s t (Unseek near) Done entries other h = answer_is s t entries _ (b.quiet s _ (unseeking_made k.quiet s near)) h.1
  answers_beside s t (Unseek near) (Refused refusal) entries other h = answer_is s t entries _ (b.steps.does_nothing s) h.1
  answers_beside s t (Cancel n) Done entries other h = answer_is s t entries _ (b.quiet s _ (cancelling_made k.quiet s n)) h.1
  answers_beside s t (Cancel n) (Refused refusal) entries other h = answer_is s t entries _ (b.steps.does_nothing s) h.2
  answers_beside s t (Close near) Done entries other h = answer_is s t entries _ (b.quiet s _ (closing_made k.quiet s near)) h.1
  answers_beside s t (Close near) (Refused refusal) entries other h = answer_is s t entries _ (b.steps.does_nothing s) h.2
  answers_beside s t (AddRow print addresses) Done entries other h = answer_is s t entries _ (e.unseen s s.limit s.introduces (insert s.redirects print addresses)) h.1
  answers_beside s t (AddRow print addresses) (NotAdded refusal) entries other h = answer_is s t entries _ (b.steps.does_nothing s) h.1
  answers_beside s t Introduce Done entries other h = answer_is s t entries _ (e.unseen s s.limit true s.redirects) h
  answers_beside s t (Narrow limit) Done entries other h = answer_is s t entries _ (e.unseen s limit s.introduces s.redirects) h
  answers_beside s t (Learn secret) (Succeeds generation) entries other h = absurd other
  answers_beside s t (Learn secret) (Refused refusal) entries other h = answer_is s t entries _ (b.steps.does_nothing s) h.1
  answers_beside s t Advance (Succeeds generation) entries other h = absurd other
  answers_beside s t Advance (Refused refusal) entries other h = answer_is s t entries _ (b.steps.does_nothing s) h.1
  answers_beside s t (OnFlows near call) Done entries other h = answer_is s t entries _ (b.quiet s _ (call_made Q calls s near call h.0)) h.1
  answers_beside s t (OnFlows near call) (Refused refusal) entries other h = answer_is s t entries _ (b.steps.does_nothing s) h.1
  answers_beside s t (Receive from datagram draws) Done entries other h = answer_is s t entries _ (given.whole s from draws datagram) h
  answers_beside s t (Receive from datagram draws) (Stopped stop) entries other h = answer_is s t entries _ (given.part s from draws datagram stop h.acks) h.left
  answers_beside s t (Tick draws) Done entries other h = answer_is s t entries _ (b.quiet s _ (tick_all_made k h.0.0 s)) h.0.1
  answers_beside s t (Tick draws) OutOfMemory entries other h = answer_is s t entries _ (b.quiet s _ (tick_all_made k h.0.0 s)) h.0.1
  answers_beside s t call answer entries other h = absurd h

  module _ (succession : Succession P) where
    -- a next secret is there to go over to
    advancing_made : (s : State) (next : Option GroupSecret) → s.next ≡ next → no_next next ≡ None → P s (advancing_to s next)
    advancing_made s None is none = absurd (cc)
    advancing_made s (Some next) is none = succession.advances s next is

    pub answers_by : (s t : State) (call : Call) (answer : CallAnswer) (entries : List Entry) → Answers s call answer entries t → WasMade P s t entries
    answers_by s t (Learn secret) (Succeeds generation) entries h = answer_is s t entries _ (succession.learns s secret h.0) h.2
    answers_by s t Advance (Succeeds generation) entries h = answer_is s t entries (advancing s) (advancing_made s s.next refl h.0) h.2
    answers_by s t call answer entries h = answers_beside s t call answer entries tt h

module _ {Body : List ℕ → Type 0} {Q P : State → Did → Type 0} (a : All Body Q) (b : Begins Q P) where
  -- ---- the chunks of a datagram

  pub chunk_made : (place : Place) (from : AddressParts) (draws : Draws) (walk : Walk) (s : State) (c : Placed) → AreSmall walk.cursor → P s (chunk_did place from draws walk s c)
  chunk_made place from draws walk s c small =
      chunk_by a (P s) place from draws walk s c small (b.quiet s) (λ kind taken none. initiator_at a.timed.quiet b place s from draws c.payload taken) (λ taken. responder_made a.timed.quiet b s (sid_at place) from c.payload) (λ tag cookie cert is taken. hello_made a.timed.quiet b s place from tag cookie cert)

  pub steps_made : (place : Place) (from : AddressParts) (draws : Draws) (s : State) (xs : List WalkStep) → AreAllSmall xs → P s (steps_did place from draws s xs)
  steps_made place from draws s [] small = b.steps.does_nothing s
  steps_made place from draws s (x ∷ xs) small =
      let d : Did = chunk_did place from draws x.walk s x.chunk in
      b.steps.and_then s d (steps_did place from draws d.state xs) (chunk_made place from draws x.walk s x.chunk small.0) (steps_made place from draws d.state xs small.1)

  pub chunks_made : (place : Place) (from : AddressParts) (draws : Draws) (walk : Walk) (s : State) (cs : List Placed) → AreSmall walk.cursor → P s (chunks_did place from draws walk s cs)
  chunks_made place from draws walk s cs small = steps_made place from draws s (in_order walk cs) (small_in_order walk cs small)

  acked_after_made : (from : AddressParts) (draws : Draws) (s : State) (place : Place) (xs : List WalkStep) (count : ℕ) → AreAllSmall xs → P s (walked_and_acked place from draws s xs count)
  acked_after_made from draws s place xs count small =
      let went : Did = steps_did place from draws s xs in
      b.steps.and_then s went (acked count went.state place) (steps_made place from draws s xs small) (b.quiet went.state _ (acked_made a.timed count went.state place))

  -- once the session is confirmed, and with what comes last
  walked_made : (from : AddressParts) (draws : Draws) (s : State) (place : Place) (xs : State → List WalkStep) (count : ℕ) (last : State → Did) → ((t : State) → AreAllSmall (xs t)) → ((t : State) → P t (last t)) →
      P s (then_do (confirming s place) (λ t. then_do (walked_and_acked place from draws t (xs t) count) last))
  walked_made from draws s place xs count last small ends =
      let first : Did = confirming s place in
      let went : Did = walked_and_acked place from draws first.state (xs first.state) count in
      b.steps.and_then s first (then_do went last) (b.quiet s first (confirming_made a.timed.quiet s place))
      (b.steps.and_then first.state went (last went.state) (acked_after_made from draws first.state place (xs first.state) count (small first.state)) (ends went.state))

  -- ---- a datagram, and a call

  module _ (e : Enters P) where
    received_made : (s : State) (from : AddressParts) (draws : Draws) (d : Admission) → P s (nothing (left_by d)) → P s (received from draws d)
    received_made s from draws (Rejected t cause) entered = b.steps.and_then s (nothing t) _ entered (b.quiet t _ (a.timed.quiet.discards t 0 cause))
    received_made s from draws (Admitted t place packet) entered =
        b.steps.and_then s (nothing t) (received from draws (Admitted t place packet)) entered
        (walked_made from draws t place (λ u. walk_of place from draws u packet) most_acks (λ u. tested_at u place from draws) (λ u. small_steps packet (walk_of place from draws u packet) (walk_is packet place from draws u)) (λ u. b.quiet u _ (tested_made a.timed.quiet u place from draws (a.bodies (chunk_bytes (Ping draws.token))))))

    part_made : (s : State) (from : AddressParts) (draws : Draws) (d : Admission) (count acks : ℕ) → P s (nothing (left_by d)) → P s (part_received from draws d count acks)
    part_made s from draws (Rejected t cause) count acks entered = entered
    part_made s from draws (Admitted t place packet) count acks entered =
        b.steps.and_then s (nothing t) (part_received from draws (Admitted t place packet) count acks) entered
        (walked_made from draws t place (λ u. take count (walk_of place from draws u packet)) acks (λ u. nothing (unowed u place)) (λ u. small_steps packet (take count (walk_of place from draws u packet)) (part_is packet place from draws u count)) (λ u. b.quiet u _ (unowed_made a.timed u place)))

    stopped_made : (s : State) (from : AddressParts) (draws : Draws) (d : Admission) (stop : Stop) (acks : ℕ) → P s (nothing (left_by d)) → P s (stopped s from draws d stop acks)
    stopped_made s from draws d stop acks entered = by stop.taken
      where
        by : (t : Bool) → P s (if t then part_received from draws d stop.chunks acks else nothing s)
        by true = part_made s from draws d stop.chunks acks entered
        by false = b.steps.does_nothing s

    pub given_made : Given P
    given_made = record {
      whole = λ s from draws datagram. received_made s from draws (admission s datagram) (admission_made b.steps e s datagram);
      part = λ s from draws datagram stop acks. stopped_made s from draws (admission s datagram) stop acks (admission_made b.steps e s datagram);
    }

    pub answers_made_beside : (s t : State) (call : Call) (answer : CallAnswer) (entries : List Entry) → IsNoSuccession call answer → Answers s call answer entries t → WasMade P s t entries
    answers_made_beside s t call answer entries other h = answers_beside a.timed a.calls b e given_made s t call answer entries other h

    pub answers_made : Succession P → (s t : State) (call : Call) (answer : CallAnswer) (entries : List Entry) → Answers s call answer entries t → WasMade P s t entries
    answers_made succession s t call answer entries h = answers_by a.timed a.calls b e given_made succession s t call answer entries h
