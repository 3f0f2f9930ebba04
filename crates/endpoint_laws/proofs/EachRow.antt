-- What is so of the row of each session, at every moment: it is so of a new one, and all that is
-- done with a row keeps it. And what is so of the flows of each session alone.
use Rattle.std.proofs.Common.{◌≡◌, ℕ, List, [], ◌∷◌, Option, Some, None, inl, inr, sym, subst}
use Rattle.std.specs.Ordering.{nat_cmp}
use Rattle.std.specs.FinMap.{get, insert, remove, get-empty}
use Rattle.rtmfp_base.proofs.Maps.{found_inserted, found_left, none_is_some}
use Rattle.rtmfp_data_chunks.specs.Chunk.{DataChunk}
use Rattle.rtmfp_data_chunks.specs.Fitting.{FitsIn}
use Rattle.glare_core.specs.declared.facts.Fact.{Fact}
use Rattle.glare_core.specs.declared.facts.Fact.TheVariants.{Started, Born, Opened, Confirmed}
use Rattle.glare_core.specs.declared.facts.Fact.TheVariants.{Ended}
use Rattle.session_core.specs.Session.{SessionState}
use Rattle.session_core.specs.Sealed.{after_seal}
use Rattle.session_flows.specs.Keeping.{FlowsState, no_flows, with_sending}
use Rattle.session_flows.specs.Causes.{chunk_cause as flows_cause}
use Rattle.session_flows.specs.Chunks.{chunk_done}
use Rattle.session_flows.specs.Owing.{after_acks, owing_none}
use Rattle.session_flows.specs.Timing.{after_late, overdue_done}
use Rattle.session_flows.specs.Packing.{pace_of, filled}
use Rattle.session_flows.specs.declared.pace.Pace.{Pace}
use Rattle.rtmfp_fragments.specs.Pieces.{PieceParts}
use Rattle.endpoint_model.specs.declared.row.Row.{Row}
use Rattle.endpoint_model.specs.declared.entry.Entry.{Entry}
use Rattle.endpoint_model.specs.State.{State, Sessions, Did, with_session, new_row, fresh}
use Rattle.endpoint_model.specs.State.{at_moment}
use Rattle.endpoint_model.specs.Sending.{packet_head}
use Rattle.endpoint_model.specs.FlowCall.{FlowCall, flow_refusal, flow_did}
use Rattle.endpoint_model.specs.Gathering.{gathered_more}
use Rattle.endpoint_model.specs.Effects.{without_ended}
use Rattle.endpoint_model.specs.Event.{Setup, Call, Answer, Event}
use Rattle.endpoint_model.specs.Log.{Answers, Leads, StandsFor}
use Rattle.endpoint_laws.proofs.PacketPieces.{any_sends, one_packet}
use Rattle.endpoint_laws.proofs.Small.{GoesOn, Quiet, FlowThing, Called, Came, Acked, Unowed}
use Rattle.endpoint_laws.proofs.Small.{Late, Overdue, Packed, on_flows, row_after, MayBe}
use Rattle.endpoint_laws.proofs.Small.{IsNoChunk, Any, Timed, Gathers, All, Begins, Enters, Succession}
use Rattle.endpoint_laws.proofs.Made.{timed_law, all_law, CallsDo, WasMade, answers_made}
use Rattle.glare_core.specs.Calls.{way_made}

-- ---- rows, by the session ID, and without the chunks that came

module _ (P : ℕ → Row → Type 0) where
  -- It is so of a new row, and what is done with a row keeps it, but for a chunk of flows that
  -- came.
  pub record IsKeptAlone : Type 0 where
    pub begins : (near : ℕ) (session : SessionState) → P near (new_row session)
    pub changed : (near : ℕ) (row : Row) (session : SessionState) → P near row →
        P near (record row { session = session })
    pub goes_on : (near : ℕ) (old new : Row) → GoesOn old new → P near old → P near new
    pub gathers : (near moment id : ℕ) (row : Row) (x : PieceParts) → P near row →
        P near (gathered_more moment id x row)
    pub alone : (near moment : ℕ) (row : Row) (thing : FlowThing) → MayBe row thing →
        IsNoChunk thing → P near row → P near (row_after moment row thing)

  -- And so does a chunk.
  abbrev pub ChunksKeep : Type 0
  ChunksKeep = (near moment : ℕ) (row : Row) (c : DataChunk) → MayBe row (Came c) → P near row →
      P near (row_after moment row (Came c))

  -- It is so of the row of each session.
  abbrev pub InEach : Sessions → Type 0
  InEach sessions = (near : ℕ) (row : Row) → get sessions near ≡ Some row → P near row

  abbrev pub Each : State → Type 0
  Each s = InEach s.sessions

  abbrev pub Keeps : State → Did → Type 0
  Keeps s d = Each s → Each d.state

  -- ---- one row

  pub put : (m : Sessions) (near : ℕ) (row : Row) → P near row → InEach m →
      InEach (insert m near row)
  put m near row p each q r e = elim (found_inserted m near row q r e) [
    | inl is ↦ subst (λ (x : Row). P q x) is.1 (subst (λ (n : ℕ). P n row) (sym is.0) p)
    | inr is ↦ each q r is.1
  ]

  module _ (kept : IsKeptAlone) where
    left : (m : Sessions) (near : ℕ) → InEach m → InEach (remove m near)
    left m near each q r e = each q r (found_left m near q r e).1

    keeps_session : (s : State) (near : ℕ) (row : Row) (session : SessionState) →
        get s.sessions near ≡ Some row → Each s → Each (with_session s near row session)
    keeps_session s near row session is each = put s.sessions near
        (record row { session = session }) (kept.changed near row session (each near row is)) each

    ended_left : (m : Sessions) (o : Option Fact) → InEach m → InEach (without_ended m o)
    ended_left m None each = each
    ended_left m (Some (Started peer n near ni)) each = each
    ended_left m (Some (Born j)) each = each
    ended_left m (Some (Opened j)) each = each
    ended_left m (Some (Confirmed peer near)) each = each
    ended_left m (Some (Ended peer near why)) each = left m near each

    -- ---- small things

    pub each_quiet : Quiet Any Keeps
    each_quiet = record {
      sends = any_sends (record {
        steps = record {
          does_nothing = λ s each. each;
          and_then = λ s d e first later each. later (first each);
        };
        out = λ s generation keys to sid plain each. each;
        out_in = λ s near row to body is.
            keeps_session s near row (after_seal row.session) is;
        packets = λ s near row is each. put s.sessions near _
            (kept.goes_on near row _ (one_packet row) (each near row is)) each;
      });
      attempts = λ s startup kin each. each;
      close = tt;
      close_ack = tt;
      empty_ping = tt;
      discards = λ s at cause each. each;
      ends = λ s startup peer near why kin each. each;
      unseeks = λ s startup near why kin each. each;
      confirms = λ s startup peer near kin each. each;
      closes = λ s near. left s.sessions near;
      forgets = λ s near. left s.sessions near;
      moves = λ s near to each. each;
      goes_on = λ s near old new is goes each. put s.sessions near new
          (kept.goes_on near old new goes (each near old is)) each;
    }

    on_each : (s : State) (near : ℕ) (row : Row) (thing : FlowThing) →
        get s.sessions near ≡ Some row → MayBe row thing → IsNoChunk thing →
        Keeps s (on_flows s near row thing)
    on_each s near row thing is may alone each = put s.sessions near _
        (kept.alone near s.moment row thing may alone (each near row is)) each

    pub each_timed : Timed Any Keeps
    each_timed = timed_law each_quiet on_each

    pub each_calls : CallsDo Keeps
    each_calls s near row call is may = on_each s near row (Called call) is may tt

    pub each_begins : Begins Keeps Keeps
    each_begins = record {
      quiet = λ s d keeps. keeps;
      steps = each_quiet.sends.steps;
      starts = λ s startup peer n near ni kin each. each;
      seeks = λ s startup near name kin each. each;
      bears = λ s generation peer o j from each. put (without_ended s.sessions (way_made peer o)) j.near _
          (kept.begins j.near _) (ended_left s.sessions (way_made peer o) each);
      opens = λ s startup j from kin each. put s.sessions j.near _ (kept.begins j.near _) each;
    }

    pub each_enters : Enters Keeps
    each_enters = record {
      counts = λ s near row session is. keeps_session s near row session is;
      unseen = λ s limit introduces rows each. each;
    }

    pub each_succession : Succession Keeps
    each_succession = record {
      learns = λ s secret none each. each;
      advances = λ s next is each. each;
    }

    pub each_gathers : Gathers Keeps
    each_gathers s near id row x is each = put s.sessions near _
        (kept.gathers near s.moment id row x (each near row is)) each

    pub each_law : ChunksKeep → All Any Keeps
    each_law chunk = all_law each_quiet by each_gathers
      where
        by : (s : State) (near : ℕ) (row : Row) (thing : FlowThing) →
            get s.sessions near ≡ Some row → MayBe row thing → Keeps s (on_flows s near row thing)
        by s near row (Came c) is may each = put s.sessions near _
            (chunk near s.moment row c may (each near row is)) each
        by s near row (Called call) is may each = on_each s near row (Called call) is may tt each
        by s near row Acked is may each = on_each s near row Acked is may tt each
        by s near row Unowed is may each = on_each s near row Unowed is may tt each
        by s near row Late is may each = on_each s near row Late is may tt each
        by s near row (Overdue flow seq) is may each = on_each s near row (Overdue flow seq) is may
            tt each
        by s near row Packed is may each = on_each s near row Packed is may tt each

  -- ---- logs

  -- Each call keeps it.
  abbrev pub AnswersKeep : Type 0
  AnswersKeep = (s t : State) (call : Call) (answer : Answer) (entries : List Entry) →
      Answers s call answer entries t → WasMade Keeps s t entries

  keeps_leads : AnswersKeep → (log : List Event) (s t : State) → Each s → Leads s log t → Each t
  keeps_leads answers [] s t each leads = subst Each leads each
  keeps_leads answers (e ∷ events) s t each leads =
      let one = answers (at_moment s e.moment) leads.0 e.call e.answer e.entries leads.1 in
      keeps_leads answers events leads.0 t (subst Each (sym one.does.state) (one.made each)) leads.2

  -- In every log it is so of the row of each session.
  pub after_every_log : AnswersKeep → (setup : Setup) (log : List Event) (s : State) →
      StandsFor setup log s → Each s
  after_every_log answers setup log s stands = keeps_leads answers log (fresh setup) s
      (λ near row e. absurd (none_is_some row (get (fresh setup).sessions near)
      (get-empty nat_cmp near) e)) stands

  pub in_every_log : IsKeptAlone → ChunksKeep → (setup : Setup) (log : List Event) (s : State) →
      StandsFor setup log s → Each s
  in_every_log kept chunk = after_every_log (answers_made (each_law kept chunk) (each_begins kept)
      (each_enters kept) (each_succession kept))

-- ---- flows, by the session ID, and without the chunks that came

module _ (P : ℕ → FlowsState → Type 0) where
  -- It is so of no flows, and what is done with the flows of a session keeps it, but for a chunk
  -- that came.
  pub record AreKeptAlone : Type 0 where
    pub none : (near : ℕ) → P near no_flows
    pub called : (near : ℕ) (f : FlowsState) (c : FlowCall) → flow_refusal f c ≡ None → P near f →
        P near (flow_did f c).flows
    pub acked : (near : ℕ) (f : FlowsState) (packet : List ℕ) → P near f →
        P near (after_acks f packet)
    pub unowed : (near : ℕ) (f : FlowsState) → P near f → P near (owing_none f)
    pub late : (near : ℕ) (session : SessionState) (f : FlowsState) (moment : ℕ) → P near f →
        P near (after_late session f moment)
    pub overdue : (near : ℕ) (f : FlowsState) (flow seq : ℕ) → P near f →
        P near (overdue_done f (Some (flow, seq))).flows
    pub sent : (near : ℕ) (pace : Pace) (f : FlowsState) (packet : List ℕ) → P near f →
        P near (with_sending f (filled pace f.sending packet).sending)

  -- It is so of the flows in a row.
  abbrev pub OfFlows : ℕ → Row → Type 0
  OfFlows near row = P near row.flows

  module _ (kept : AreKeptAlone) where
    flows_kept : (near moment : ℕ) (row : Row) (thing : FlowThing) → MayBe row thing →
        IsNoChunk thing → P near row.flows → P near (row_after moment row thing).flows
    flows_kept near moment row (Called call) may alone p = kept.called near row.flows call may p
    flows_kept near moment row (Came chunk) may alone p = absurd alone
    flows_kept near moment row Acked may alone p = kept.acked near row.flows
        (packet_head row.session moment) p
    flows_kept near moment row Unowed may alone p = kept.unowed near row.flows p
    flows_kept near moment row Late may alone p = kept.late near row.session row.flows moment p
    flows_kept near moment row (Overdue flow seq) may alone p =
        kept.overdue near row.flows flow seq p
    flows_kept near moment row Packed may alone p = kept.sent near (pace_of row.session moment)
        row.flows (packet_head row.session moment) p

    pub in_rows : IsKeptAlone OfFlows
    in_rows = record {
      begins = λ near session. kept.none near;
      changed = λ near row session h. h;
      goes_on = λ near old new goes h. subst (λ (f : FlowsState). P near f) (sym goes.flows) h;
      gathers = λ near moment id row x h. h;
      alone = flows_kept;
    }

-- ---- of the flows of each session alike

module _ (P : FlowsState → Type 0) where
  -- It is so of no flows, and what is done with the flows of a session keeps it.
  pub record IsKept : Type 0 where
    pub none : P no_flows
    pub called : (f : FlowsState) (c : FlowCall) → flow_refusal f c ≡ None → P f →
        P (flow_did f c).flows
    pub chunk : (session : SessionState) (f : FlowsState) (c : DataChunk) → FitsIn c →
        flows_cause session f c ≡ None → P f → P (chunk_done f c).flows
    pub acked : (f : FlowsState) (packet : List ℕ) → P f → P (after_acks f packet)
    pub unowed : (f : FlowsState) → P f → P (owing_none f)
    pub late : (session : SessionState) (f : FlowsState) (moment : ℕ) → P f →
        P (after_late session f moment)
    pub overdue : (f : FlowsState) (flow seq : ℕ) → P f →
        P (overdue_done f (Some (flow, seq))).flows
    pub sent : (pace : Pace) (f : FlowsState) (packet : List ℕ) → P f →
        P (with_sending f (filled pace f.sending packet).sending)

  alone_kept : IsKept → AreKeptAlone (λ near f. P f)
  alone_kept kept = record {
    none = λ near. kept.none;
    called = λ near. kept.called;
    acked = λ near. kept.acked;
    unowed = λ near. kept.unowed;
    late = λ near. kept.late;
    overdue = λ near. kept.overdue;
    sent = λ near. kept.sent;
  }

  -- In every log it is so of the flows of each session.
  pub flows_in_every_log : IsKept → (setup : Setup) (log : List Event) (s : State) →
      StandsFor setup log s → Each (OfFlows (λ near f. P f)) s
  flows_in_every_log kept = in_every_log (OfFlows (λ near f. P f))
      (in_rows (λ near f. P f) (alone_kept kept))
      (λ near moment row c may. kept.chunk row.session row.flows c may.0 may.1)
