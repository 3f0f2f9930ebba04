-- A packet that a piece completes is read as one of its session, before and behind the piece alike.
use Rattle.std.specs.Prelude.{◌==◌}
use Rattle.std.proofs.Common.{ℕ, ◌≡◌, List, [], Bool, true, false, if◌then◌else◌, Option, Some, None, Result, Ok, Err, refl, sym, ap, ◌∙◌}
use Rattle.std.specs.FinMap.{get}
use Rattle.rtmfp_forms.specs.Address.{AddressParts}
use Rattle.rtmfp_base.proofs.Maps.{get_inserted}
use Rattle.rtmfp_base.specs.declared.cause.Cause.{Cause}
use Rattle.rtmfp_base.specs.declared.cause.Cause.TheVariants.{WrongPlace}
use Rattle.rtmfp_chunks.specs.declared.kinds.TheConstants.{IIKEYING, RIKEYING, FRAGMENT}
use Rattle.rtmfp_chunks.specs.declared.reading.ChunkFault.{ChunkFault}
use Rattle.rtmfp_chunks.specs.Chunk.{Chunk, Fragment}
use Rattle.rtmfp_chunks.specs.FieldReading.{chunk_reading}
use Rattle.rtmfp_data_chunks.specs.Reader.{data_reading}
use Rattle.rtmfp_fragments.specs.Pieces.{PieceParts, piece}
use Rattle.rtmfp_packet.specs.declared.head.Mode.{Mode}
use Rattle.rtmfp_packet.specs.declared.head.PacketFault.{PacketFault}
use Rattle.rtmfp_packet.specs.Walk.{Placed}
use Rattle.rtmfp_packet.specs.Whole.{Whole}
use Rattle.endpoint_model.specs.declared.config.Draws.{Draws}
use Rattle.endpoint_model.specs.declared.place.Place.{Place}
use Rattle.endpoint_model.specs.declared.place.Place.TheVariants.{Startup, Attempt, Session}
use Rattle.endpoint_model.specs.declared.row.Row.{Row}
use Rattle.endpoint_model.specs.declared.walk.Walk.{Walk}
use Rattle.endpoint_model.specs.Admission.{has_mode, mode_at, mode_by, packet_in, sid_at}
use Rattle.endpoint_model.specs.Causes.{chunk_cause}
use Rattle.endpoint_model.specs.Effects.{chunk_did, discarded_or, effect, in_order, initiator_keyed, inset, is_told_in_session, read_done, responder_keyed, whole_at}
use Rattle.endpoint_model.specs.FlowChunks.{flow_taken, is_of_flows}
use Rattle.endpoint_model.specs.Gathering.{chunks_in, gathered_more, piece_taken, piece_taken_by, whole_chunks, whole_in}
use Rattle.endpoint_model.specs.InSessions.{told_in_session}
use Rattle.endpoint_model.specs.Keying.{chunks_of}
use Rattle.endpoint_model.specs.State.{State, Did}
use Rattle.endpoint_laws.proofs.Spelled.{read_kind}
use Rattle.endpoint_laws.proofs.Stepping.{none_completed}
use Rattle.end_loops.specs.Walks.{gathered_steps, packet_at, taken_chunks}

-- ---- what a piece leaves

-- It changes no session's role.
same_mode : (s : State) (near at id : ℕ) (x : PieceParts) (o : Option Row) → get s.sessions near ≡ o → mode_by (get (piece_taken_by s near at id x o).state.sessions near) ≡ mode_by (get s.sessions near)
same_mode s near at id x None is = refl
same_mode s near at id x (Some row) is = ap mode_by (get_inserted s.sessions near (gathered_more s.moment id x row)) ∙ ap mode_by (sym is)

piece_mode : (s : State) (near at : ℕ) (read : Result Chunk ChunkFault) → mode_at (piece_taken s near at read).state (Session near) ≡ mode_at s (Session near)
piece_mode s near at (Ok (Fragment more id number bytes)) = same_mode s near at id (piece number more bytes) (get s.sessions near) refl
piece_mode s near at read = refl

fragment_effect : (s : State) (place : Place) (walk : Walk) (from : AddressParts) (draws : Draws) (c : Placed) → c.kind ≡ 0x7f →
    effect s place walk from draws c ≡ piece_taken s (sid_at place) c.at (chunk_reading c.kind c.payload)
fragment_effect s place walk from draws c kind =
    ap (λ (k : ℕ). if k == IIKEYING then initiator_keyed s place from draws c.payload
    else if k == RIKEYING then responder_keyed s (sid_at place) from c.payload
    else if is_told_in_session k then told_in_session s (sid_at place) from c
    else if is_of_flows k then flow_taken s (sid_at place) (data_reading walk.cursor c.kind c.payload)
    else if k == FRAGMENT then piece_taken s (sid_at place) c.at (chunk_reading c.kind c.payload)
    else read_done s place from (chunk_reading c.kind c.payload)) kind

-- ---- what completes a packet is a fragment

completed_by : (s : State) (near kind : ℕ) (payload : List ℕ) (read : Result Chunk ChunkFault) (plain : List ℕ) → chunk_reading kind payload ≡ read → Some plain ≡ whole_in s near read → kind ≡ 0x7f
completed_by s near kind payload (Ok (Fragment more id number bytes)) plain reads whole = read_kind kind payload (Fragment more id number bytes) reads
completed_by s near kind payload read plain reads whole = absurd (cc)

-- ---- the packet's chunks

chosen : (packet : Whole) (b : Bool) → taken_chunks (if b then Ok packet else Err WrongPlace) ≡ (if b then chunks_of packet else [])
chosen packet true = refl
chosen packet false = refl

same_chunks : (s t : State) (place : Place) (near : ℕ) (read : Result Whole PacketFault) → mode_at t place ≡ mode_at s (Session near) → taken_chunks (packet_at t place read) ≡ whole_chunks s near read
same_chunks s t place near (Err fault) mode = refl
same_chunks s t place near (Ok packet) mode =
    chosen packet (has_mode packet.head (mode_at t place)) ∙ ap (λ (m : Mode). if has_mode packet.head m then chunks_of packet else []) mode

nothing_whole : {A : Type 0} (x : A) (o : Option A) → Some x ≡ o → o ≡ None → ⊥
nothing_whole x o is none = let clash : Some x ≡ None = is ∙ none in absurd (cc)

module _ (s t : State) (from : AddressParts) (draws : Draws) (walk : Walk) (c : Placed) (plain : List ℕ) where
  abbrev AreGathered : Place → Type 0
  AreGathered place = t ≡ (chunk_did place from draws walk s c).state → Some plain ≡ whole_at s place (chunk_cause s place walk from c) c →
      gathered_steps t place (packet_in plain) ≡ in_order inset (chunks_in s (sid_at place) (whole_at s place (chunk_cause s place walk from c) c))

  in_session : (near : ℕ) → AreGathered (Session near)
  in_session near left whole = by (chunk_cause s (Session near) walk from c) refl
    where
      by : (o : Option Cause) → chunk_cause s (Session near) walk from c ≡ o → gathered_steps t (Session near) (packet_in plain) ≡ in_order inset (chunks_in s near (whole_at s (Session near) (chunk_cause s (Session near) walk from c) c))
      by (Some cause) is = absurd (nothing_whole plain _ whole (ap (λ (o : Option Cause). whole_at s (Session near) o c) is))
      by None is =
          let kind : c.kind ≡ 0x7f = completed_by s near c.kind c.payload (chunk_reading c.kind c.payload) plain refl (whole ∙ ap (λ (o : Option Cause). whole_at s (Session near) o c) is) in
          let state : t ≡ (piece_taken s near c.at (chunk_reading c.kind c.payload)).state =
          left ∙ ap (λ (o : Option Cause). (discarded_or s c.at o (effect s (Session near) walk from draws c)).state) is ∙ ap (λ (d : Did). d.state) (fragment_effect s (Session near) walk from draws c kind) in
          let mode : mode_at t (Session near) ≡ mode_at s (Session near) = ap (λ (u : State). mode_at u (Session near)) state ∙ piece_mode s near c.at (chunk_reading c.kind c.payload) in
          ap (in_order inset) (same_chunks s t (Session near) near (packet_in plain) mode) ∙ ap (λ (o : Option (List ℕ)). in_order inset (chunks_in s near o)) whole

  -- The steps over the packet that a chunk completed, in the state that the chunk left.
  pub gathered_are : (place : Place) → AreGathered place
  gathered_are (Startup generation) left whole = absurd (nothing_whole plain _ whole (none_completed (Startup generation) refl from walk s c (chunk_cause s (Startup generation) walk from c) refl))
  gathered_are (Attempt near generation) left whole = absurd (nothing_whole plain _ whole (none_completed (Attempt near generation) refl from walk s c (chunk_cause s (Attempt near generation) walk from c) refl))
  gathered_are (Session near) left whole = in_session near left whole
