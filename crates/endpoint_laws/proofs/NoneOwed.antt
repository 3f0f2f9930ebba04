-- In every log no ack is owed: a datagram owes some in its own session alone, and 256 packets are
-- enough for them.
use Prim.Native.Nat.{zero, suc}
use Rattle.std.proofs.Common.{◌≡◌, ℕ, ◌≤◌, Bool, true, false, cond, List, [], ◌∷◌}
use Rattle.std.proofs.Common.{take, Option, Some, None, Result, Ok, Err, inl, inr, refl, sym, ap}
use Rattle.std.proofs.Common.{◌+◌, subst, ◌∙◌, arith}
use Rattle.std.specs.FinMap.{get, insert}
use Rattle.std.specs.List.{AllByRecursion, list_any}
use Rattle.std.proofs.lemmas.Bool.Decides.{nat_tests}
use Rattle.rtmfp_base.proofs.Maps.{same_or_not, get_inserted, get_beside}
use Rattle.rtmfp_forms.specs.Address.{AddressParts}
use Rattle.rtmfp_packet.specs.Walk.{Placed}
use Rattle.rtmfp_chunks.specs.FieldReading.{chunk_reading}
use Rattle.rtmfp_data_chunks.specs.Chunk.{DataChunk}
use Rattle.rtmfp_data_chunks.specs.Fitting.{AreSmall, FitsIn}
use Rattle.rtmfp_data_chunks.specs.Reader.{data_reading}
use Rattle.rtmfp_data_chunks.specs.declared.view.DataFault.{DataFault}
use Rattle.rtmfp_data_chunks.proofs.Fitting.{what_is_read_fits}
use Rattle.session_core.specs.Session.{head_at}
use Rattle.session_core.specs.Sealed.{after_seal}
use Rattle.session_flows.specs.declared.taking.TakingFlow.{TakingFlow}
use Rattle.session_flows.specs.Keeping.{FlowsState, sending_at}
use Rattle.session_flows.specs.Laws.{IsSound}
use Rattle.session_flows.specs.Owing.{owes, is_owed, owed_count, after_acks}
use Rattle.session_flows.proofs.Fewer.{none_owed}
use Rattle.endpoint_model.specs.declared.config.Draws.{Draws}
use Rattle.endpoint_model.specs.declared.answers.Stopped.{Stopped as Stop}
use Rattle.endpoint_model.specs.declared.place.Place.{Place}
use Rattle.endpoint_model.specs.declared.place.Place.TheVariants.{Startup, Attempt, Session}
use Rattle.endpoint_model.specs.declared.row.Row.{Row}
use Rattle.endpoint_model.specs.declared.walk.Walk.{Walk}
use Rattle.endpoint_model.specs.Admission.{Admission, Admitted, Rejected, admission, confirming}
use Rattle.endpoint_model.specs.Admission.{sid_at}
use Rattle.endpoint_model.specs.Causes.{takes}
use Rattle.endpoint_model.specs.Effects.{WalkStep, chunk_did, steps_did, most_acks, part_received}
use Rattle.endpoint_model.specs.Effects.{read_reply, received, walk_of}
use Rattle.endpoint_model.specs.FlowChunks.{acked, acked_by, acked_if, acked_in, acks_body}
use Rattle.endpoint_model.specs.FlowChunks.{flow_cause, flow_taken, flow_taken_by, is_of_flows}
use Rattle.endpoint_model.specs.FlowChunks.{owes_by, taking_cause, unowed, unowed_by}
use Rattle.endpoint_model.specs.Log.{stopped}
use Rattle.endpoint_model.specs.OnFlows.{with_flows}
use Rattle.endpoint_model.specs.Sending.{packet_head}
use Rattle.endpoint_model.specs.State.{State, Did, nothing, with_row}
use Rattle.endpoint_laws.specs.Within.{NoAckIsOwed}
use Rattle.endpoint_laws.proofs.AcksFew.{AreShort, IsShort, fewer, at_most, none_put, none_paid}
use Rattle.endpoint_laws.proofs.AcksFew.{chunk_short, acks_short, paid_short, call_same}
use Rattle.endpoint_laws.proofs.AcksFew.{abandon_same, late_same}
use Rattle.endpoint_laws.proofs.ByKind.{is_taken, chunk_by_kind}
use Rattle.endpoint_laws.proofs.EachRow.{IsKeptAlone, AreKeptAlone, OfFlows, in_rows}
use Rattle.endpoint_laws.proofs.EachRow.{Each, Keeps, put, each_quiet, each_timed}
use Rattle.endpoint_laws.proofs.EachRow.{each_gathers, each_calls, each_begins, each_enters, each_succession, after_every_log}
use Rattle.endpoint_laws.proofs.FlowsWithin.{sound_is_kept}
use Rattle.endpoint_laws.proofs.Made.{Given, admission_made, answers_by, acked_made, carries_any}
use Rattle.endpoint_laws.proofs.Made.{confirming_made, home_made, initiator_at, left_by}
use Rattle.endpoint_laws.proofs.Made.{piece_made, read_made, responder_made, tested_made, told_made}
use Rattle.endpoint_laws.proofs.Made.{unowed_made}
use Rattle.endpoint_laws.proofs.PacketPieces.{any_sends, head_few}
use Rattle.endpoint_laws.proofs.Small.{Any, Sends}
use Rattle.endpoint_laws.proofs.Stepping.{AreAllSmall, small_steps, walk_is, part_is}

-- ---- what is so of the flows of a session

-- The session is that of the place.
abbrev IsOf : Place → ℕ → Type 0
IsOf (Startup generation) near = ⊥
IsOf (Attempt id generation) near = ⊥
IsOf (Session id) near = near ≡ id

-- No ack is owed but in the session of the place, and all that may be owed there go into 256
-- packets.
record ArePaidBut (place : Place) (near : ℕ) (f : FlowsState) : Type 0 where
  sound : IsSound f
  short : AreShort f
  paid : (IsOf place near → ⊥) → owes f ≡ false

abbrev IsPaidBut : Place → ℕ → Row → Type 0
IsPaidBut place = OfFlows (ArePaidBut place)

-- no ack is owed in any
abbrev IsPaid : ℕ → Row → Type 0
IsPaid = IsPaidBut (Startup 0)

but : (place : Place) (s : State) → Each IsPaid s → Each (IsPaidBut place) s
but place s each near row is =
    let h = each near row is in
    record { sound = h.sound; short = h.short; paid = λ other. h.paid (λ none. none) }

same_short : (ts us : List TakingFlow) → us ≡ ts → AllByRecursion IsShort ts →
    AllByRecursion IsShort us
same_short ts us same h = subst (λ (ts : List TakingFlow). AllByRecursion IsShort ts) (sym same) h

same_owes : (ts us : List TakingFlow) → us ≡ ts → list_any is_owed ts ≡ false →
    list_any is_owed us ≡ false
same_owes ts us same none = ap (λ (ts : List TakingFlow). list_any is_owed ts) same ∙ none

module _ (place : Place) where
  alone : AreKeptAlone (ArePaidBut place)
  alone = record {
    none = λ near. record { sound = sound_is_kept.none; short = tt; paid = λ other. refl };
    called = λ near f c may h. record {
      sound = sound_is_kept.called f c may h.sound;
      short = same_short f.taking _ (call_same f c) h.short;
      paid = λ other. same_owes f.taking _ (call_same f c) (h.paid other);
    };
    acked = λ near f packet h. record {
      sound = sound_is_kept.acked f packet h.sound;
      short = acks_short f.taking packet h.short;
      paid = λ other. none_put f.taking packet (h.paid other);
    };
    unowed = λ near f h. record {
      sound = sound_is_kept.unowed f h.sound;
      short = paid_short f.taking h.short;
      paid = λ other. none_paid f.taking;
    };
    late = λ near session f moment h. record {
      sound = sound_is_kept.late session f moment h.sound;
      short = same_short f.taking _ (late_same session f moment) h.short;
      paid = λ other. same_owes f.taking _ (late_same session f moment) (h.paid other);
    };
    overdue = λ near f flow seq h. record {
      sound = sound_is_kept.overdue f flow seq h.sound;
      short = same_short f.taking _ (abandon_same f flow seq (sending_at f flow)) h.short;
      paid = λ other. same_owes f.taking _ (abandon_same f flow seq (sending_at f flow))
          (h.paid other);
    };
    sent = λ near pace f packet h. record {
      sound = sound_is_kept.sent pace f packet h.sound;
      short = h.short;
      paid = h.paid;
    };
  }

  kept : IsKeptAlone (IsPaidBut place)
  kept = in_rows (ArePaidBut place) alone

  abbrev Stays : State → Did → Type 0
  Stays = Keeps (IsPaidBut place)

  -- ---- the chunks of a datagram

  taken_by_stays : (s : State) (near : ℕ) → IsOf place near → (chunk : DataChunk) → FitsIn chunk →
      (o : Option Row) → get s.sessions near ≡ o → taking_cause o chunk ≡ None →
      Stays s (flow_taken_by s near chunk o)
  taken_by_stays s near own chunk fits None is none each = absurd cc
  taken_by_stays s near own chunk fits (Some row) is none each =
      let h = each near row is in
      put (IsPaidBut place) s.sessions near _ (record {
        sound = sound_is_kept.chunk row.session row.flows chunk fits
            none h.sound;
        short = chunk_short row.flows chunk fits h.short;
        paid = λ other. absurd (other own);
      }) each

  taken_stays : (s : State) (near : ℕ) → IsOf place near → (read : Result DataChunk DataFault) →
      ((chunk : DataChunk) → read ≡ Ok chunk → FitsIn chunk) →
      flow_cause (get s.sessions near) read ≡ None → Stays s (flow_taken s near read)
  taken_stays s near own (Ok chunk) fits none each = taken_by_stays s near own chunk
      (fits chunk refl) (get s.sessions near) refl none each
  taken_stays s near own (Err fault) fits none each = each

-- chunks of flows come in sessions alone
own_of : (place : Place) (kind : ℕ) → is_of_flows kind ≡ true → takes place kind ≡ true →
    IsOf place (sid_at place)
own_of (Startup generation) kind flows taken = grind (arith, nat_tests)
own_of (Attempt near generation) kind flows taken = grind (arith, nat_tests)
own_of (Session near) kind flows taken = refl

module _ (place : Place) (from : AddressParts) (draws : Draws) where
  chunk_stays : (walk : Walk) (s : State) (c : Placed) → AreSmall walk.cursor →
      Stays place s (chunk_did place from draws walk s c)
  chunk_stays walk s c small =
      let q = each_quiet (IsPaidBut place) (kept place) in
      let b = each_begins (IsPaidBut place) (kept place) in
      chunk_by_kind (Stays place s) place from draws walk s c (record {
        discarded = λ cause. q.discards s c.at cause;
        initiator = λ kind taken none formed. initiator_at q b place s from draws c.payload
            (is_taken place walk 0x38 taken);
        responder = λ kind taken none formed. responder_made q b s (sid_at place) from c.payload;
        told = λ told taken has. told_made q s (sid_at place) from c;
        flows = λ is taken none. taken_stays place s (sid_at place)
            (own_of place c.kind is (is_taken place walk c.kind taken))
            (data_reading walk.cursor c.kind c.payload) (λ chunk read.
            (what_is_read_fits walk.cursor c.kind c.payload chunk small read).0) none;
        piece = λ kind taken. piece_made q
            (each_gathers (IsPaidBut place) (kept place)) s (sid_at place) c.at
            (chunk_reading c.kind c.payload);
        reads = λ taken formed none. read_made q b s place from (chunk_reading c.kind c.payload)
            (carries_any Any (λ body. tt) (read_reply s place from
            (chunk_reading c.kind c.payload)));
      })

  steps_stay : (s : State) (xs : List WalkStep) → AreAllSmall xs →
      Stays place s (steps_did place from draws s xs)
  steps_stay s [] small each = each
  steps_stay s (x ∷ xs) small each =
      steps_stay (chunk_did place from draws x.walk s x.chunk).state xs small.1
      (chunk_stays x.walk s x.chunk small.0 each)

-- ---- the acks of a session

-- The session has these flows.
abbrev Has : State → ℕ → FlowsState → Type 0
Has s near f = (row : Row) × (get s.sessions near ≡ Some row) × (row.flows ≡ f)

-- what is sent leaves them
abbrev KeepsHas : ℕ → FlowsState → State → Did → Type 0
KeepsHas near f s d = Has s near f → Has d.state near f

replaced_has : (s : State) (near : ℕ) (f : FlowsState) (at : ℕ) (old new : Row) →
    get s.sessions at ≡ Some old → new.flows ≡ old.flows → Has s near f →
    Has (with_row s at new) near f
replaced_has s near f at old new there same has = elim (same_or_not near at) [
  | inl own ↦ (
    new,
    ap (get (insert s.sessions at new)) own.0 ∙ get_inserted s.sessions at new,
    same ∙ same_flows (sym there ∙ ap (get s.sessions) (sym own.0) ∙ has.1) ∙ has.2,
  )
  | inr not ↦ (has.0, get_beside s.sessions at new near not.0 ∙ has.1, has.2)
]
  where
    same_flows : {a b : Row} → ◌≡◌ {A = Option Row} (Some a) (Some b) → a.flows ≡ b.flows
    same_flows e = cc

has_sends : (near : ℕ) (f : FlowsState) → Sends Any (KeepsHas near f)
has_sends near f = any_sends (record {
  steps = record {
    does_nothing = λ s has. has;
    and_then = λ s d e first later has. later (first has);
  };
  out = λ s generation keys to sid plain has. has;
  out_in = λ s at row to body is. replaced_has s near f at row
      (record row { session = after_seal row.session }) is refl;
  packets = λ s at row is. replaced_has s near f at row
      (record row { packets = row.packets + 1 }) is refl;
})

-- one packet of them
paid_once : (s : State) (near : ℕ) (row : Row) (o : Option Row) → o ≡ Some row →
    Has (acked_by s near o).state near (after_acks row.flows (packet_head row.session s.moment))
paid_once s near row None there = absurd cc
paid_once s near row (Some found) there =
    let t : State = with_flows s near found
    (after_acks found.flows (packet_head found.session s.moment)) in
    subst (λ (r : Row). Has (acked_by s near (Some found)).state near
    (after_acks r.flows (packet_head r.session s.moment))) (same there)
    (home_made (has_sends near _) t near (acks_body found s.moment) tt
    (_, get_inserted s.sessions near _, refl))
  where
    same : {a b : Row} → ◌≡◌ {A = Option Row} (Some a) (Some b) → a ≡ b
    same e = cc

-- as many packets as acks are owed leave none
paid_by : (count : ℕ) (s : State) (near : ℕ) (row : Row) → get s.sessions near ≡ Some row →
    AreShort row.flows → owed_count row.flows ≤ count →
    owes_by (get (acked_in count s near).state.sessions near) ≡ false
paid_by zero s near row is short few = ap owes_by is ∙ none_owed row.flows.taking few
paid_by (suc count) s near row is short few = by (owes_by (get s.sessions near)) refl
    (λ t r there h left. paid_by count t near r there h left)
  where
    by : (b : Bool) → owes_by (get s.sessions near) ≡ b →
        ((t : State) (r : Row) → get t.sessions near ≡ Some r → AreShort r.flows →
        owed_count r.flows ≤ count →
        owes_by (get (acked_in count t near).state.sessions near) ≡ false) →
        owes_by (get (acked_if s near b (λ t. acked_in count t near)).state.sessions near) ≡ false
    by false e later = e
    by true e later =
        let once = paid_once s near row (get s.sessions near) is in
        let less = fewer row.flows.taking (packet_head row.session s.moment) short
        (head_few (head_at row.session s.moment)) (sym (ap owes_by is) ∙ e) in
        later (acked_by s near (get s.sessions near)).state once.0 once.1
        (same_short _ _ (ap (λ (f : FlowsState). f.taking) once.2)
        (acks_short row.flows.taking (packet_head row.session s.moment) short))
        (subst (λ (f : FlowsState). owed_count f ≤ count) (sym once.2) (omega (arith, less, few)))

-- after 256 packets, or where they are given up, none is owed in any session
module _ (s : State) where
  own_paid : (id : ℕ) → Each (IsPaidBut (Session id)) s → (o : Option Row) → get s.sessions id ≡ o →
      owes_by (get (acked most_acks s (Session id)).state.sessions id) ≡ false
  own_paid id each None is = none_there most_acks
    where
      none_there : (count : ℕ) → owes_by (get (acked_in count s id).state.sessions id) ≡ false
      none_there zero = ap owes_by is
      none_there (suc count) = by (owes_by (get s.sessions id)) refl
        where
          by : (b : Bool) → owes_by (get s.sessions id) ≡ b →
              owes_by (get (acked_if s id b (λ t. acked_in count t id)).state.sessions id) ≡ false
          by false e = e
          by true e = absurd (let clash : true ≡ false = sym e ∙ ap owes_by is in cc)
  own_paid id each (Some row) is =
      let h = each id row is in
      paid_by most_acks s id row is h.short
      (omega (arith, at_most row.flows.taking, h.sound.few_taking))

  acked_pays : (place : Place) → Each (IsPaidBut place) s →
      Each IsPaid (acked most_acks s place).state
  acked_pays (Startup generation) each near row is =
      let h = each near row is in
      record { sound = h.sound; short = h.short; paid = h.paid }
  acked_pays (Attempt id generation) each near row is =
      let h = each near row is in
      record { sound = h.sound; short = h.short; paid = h.paid }
  acked_pays (Session id) each near row is =
      let h = acked_made (each_timed (IsPaidBut (Session id)) (kept (Session id))) most_acks s
      (Session id) each near row is in
      record {
        sound = h.sound;
        short = h.short;
        paid = λ other. elim (same_or_not near id) [
          | inl own ↦ sym (ap owes_by is)
              ∙ ap (λ (n : ℕ). owes_by (get (acked most_acks s (Session id)).state.sessions n)) own.0
              ∙ own_paid id each (get s.sessions id) refl
          | inr not ↦ h.paid not.0
        ];
      }

  own_unowed : (id : ℕ) (o : Option Row) → get s.sessions id ≡ o →
      owes_by (get (unowed_by s id o).sessions id) ≡ false
  own_unowed id None is = ap owes_by is
  own_unowed id (Some row) is =
      ap owes_by (get_inserted s.sessions id _) ∙ none_paid row.flows.taking

  unowed_pays : (place : Place) → Each (IsPaidBut place) s → Each IsPaid (unowed s place)
  unowed_pays (Startup generation) each near row is =
      let h = each near row is in
      record { sound = h.sound; short = h.short; paid = h.paid }
  unowed_pays (Attempt id generation) each near row is =
      let h = each near row is in
      record { sound = h.sound; short = h.short; paid = h.paid }
  unowed_pays (Session id) each near row is =
      let h = unowed_made (each_timed (IsPaidBut (Session id)) (kept (Session id))) s (Session id)
      each near row is in
      record {
        sound = h.sound;
        short = h.short;
        paid = λ other. elim (same_or_not near id) [
          | inl own ↦ sym (ap owes_by is)
              ∙ ap (λ (n : ℕ). owes_by (get (unowed s (Session id)).sessions n)) own.0
              ∙ own_unowed id (get s.sessions id) refl
          | inr not ↦ h.paid not.0
        ];
      }

-- ---- a datagram, and a call

-- the chunks, once the session is confirmed
walked_stays : (s : State) (place : Place) (from : AddressParts) (draws : Draws)
    (xs : List WalkStep) → AreAllSmall xs → Each IsPaid s →
    Each (IsPaidBut place) (steps_did place from draws (confirming s place).state xs).state
walked_stays s place from draws xs small each =
    let t : State = (confirming s place).state in
    steps_stay place from draws t xs small (but place t (confirming_made
    (each_quiet IsPaid (kept (Startup 0))) s place each))

received_pays : (s : State) (from : AddressParts) (draws : Draws) (a : Admission) →
    Each IsPaid (left_by a) → Each IsPaid (received from draws a).state
received_pays s from draws (Rejected t cause) each = each
received_pays s from draws (Admitted t place packet) each =
    let xs : List WalkStep = walk_of place from draws (confirming t place).state packet in
    let u : State = (steps_did place from draws (confirming t place).state xs).state in
    tested_made (each_quiet IsPaid (kept (Startup 0))) (acked most_acks u place).state place from draws
    tt (acked_pays u place (walked_stays t place from draws xs (small_steps packet xs
    (walk_is packet place from draws (confirming t place).state)) each))

part_pays : (s : State) (from : AddressParts) (draws : Draws) (a : Admission) (count acks : ℕ) →
    Each IsPaid (left_by a) → Each IsPaid (part_received from draws a count acks).state
part_pays s from draws (Rejected t cause) count acks each = each
part_pays s from draws (Admitted t place packet) count acks each =
    let xs : List WalkStep = take count
    (walk_of place from draws (confirming t place).state packet) in
    let u : State = (steps_did place from draws (confirming t place).state xs).state in
    unowed_pays (acked acks u place).state place
    (acked_made (each_timed (IsPaidBut place) (kept place)) acks u place
    (walked_stays t place from draws xs (small_steps packet xs
    (part_is packet place from draws (confirming t place).state count)) each))

stopped_pays : (s : State) (from : AddressParts) (draws : Draws) (a : Admission) (stop : Stop)
    (acks : ℕ) → Each IsPaid s → Each IsPaid (left_by a) →
    Each IsPaid (stopped s from draws a stop acks).state
stopped_pays s from draws a stop acks each entered = by stop.taken
  where
    by : (b : Bool) → Each IsPaid (cond b (part_received from draws a stop.chunks acks)
        (nothing s)).state
    by true = part_pays s from draws a stop.chunks acks entered
    by false = each

given_pays : Given (Keeps IsPaid)
given_pays =
    let k = kept (Startup 0) in
    let q = each_quiet IsPaid k in
    record {
      whole = λ s from draws datagram each. received_pays s from draws (admission s datagram)
          (admission_made q.sends.steps (each_enters IsPaid k) s datagram each);
      part = λ s from draws datagram stop acks each. stopped_pays s from draws
          (admission s datagram) stop acks each (admission_made q.sends.steps (each_enters IsPaid k)
          s datagram each);
    }

-- ---- all logs

pub no_ack_is_owed : NoAckIsOwed
no_ack_is_owed setup log s near stands = by (get s.sessions near) refl
  where
    k : IsKeptAlone IsPaid
    k = kept (Startup 0)

    each : Each IsPaid s
    each = after_every_log IsPaid (answers_by (each_timed IsPaid k) (each_calls IsPaid k)
        (each_begins IsPaid k) (each_enters IsPaid k) given_pays (each_succession IsPaid k)) setup log s stands

    by : (o : Option Row) → get s.sessions near ≡ o → owes_by o ≡ false
    by None is = refl
    by (Some row) is = (each near row is).paid (λ none. none)
