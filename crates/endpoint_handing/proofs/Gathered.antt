-- Pieces of packets that come: a session holds them, and the packet that one of them completes went
-- out in its context.
use Rattle.std.specs.Prelude.{if◌then◌else◌}
use Rattle.std.proofs.Common.{◌≡◌, ℕ, ◌==◌, List, [], ◌∷◌, Bool}
use Rattle.std.proofs.Common.{Option, Some, None, Result, Ok, inl, inr, refl, sym, ap, subst, ◌∙◌}
use Rattle.std.specs.FinMap.{get}
use Rattle.rtmfp_base.proofs.Maps.{found_inserted}
use Rattle.rtmfp_base.specs.declared.cause.Cause.{Cause}
use Rattle.rtmfp_chunks.specs.declared.reading.ChunkFault.{ChunkFault}
use Rattle.rtmfp_chunks.specs.Chunk.{Chunk, Fragment}
use Rattle.rtmfp_chunks.specs.FieldReading.{chunk_reading}
use Rattle.rtmfp_packet.specs.Walk.{Placed}
use Rattle.rtmfp_data_chunks.specs.HandsOver.{IsIn}
use Rattle.rtmfp_data_chunks.specs.declared.user_data.Numbers.{Numbers}
use Rattle.rtmfp_data_chunks.specs.Reader.{data_reading}
use Rattle.rtmfp_fragments.specs.Pieces.{PieceParts, piece, pieces_of}
use Rattle.rtmfp_fragments.specs.Answers.{taken}
use Rattle.glare_core.specs.declared.facts.Fact.{Fact}
use Rattle.endpoint_model.specs.declared.row.Row.{Row}
use Rattle.endpoint_model.specs.declared.entry.Entry.{Entry}
use Rattle.endpoint_model.specs.declared.place.Place.TheVariants.{Session}
use Rattle.endpoint_model.specs.State.{State, Did, with_row}
use Rattle.endpoint_model.specs.Admission.{packet_in}
use Rattle.endpoint_model.specs.Gathering.{fault_entries, whole_by, whole_cause, whole_faults}
use Rattle.endpoint_model.specs.Gathering.{gathered_more, piece_taken_by, piece_taken, whole_in}
use Rattle.endpoint_model.specs.Effects.{whole_at}
use Rattle.endpoint_laws.proofs.Spelled.{read_kind}
use Rattle.endpoint_laws.proofs.Kin.{holds_still}
use Rattle.flow_history.specs.Deeds.{Context, back, Piece, Part, In, done, History}
use Rattle.flow_history.specs.Lawful.{HasBegun, CameIn, HasPart, WasSent}
use Rattle.flow_history.proofs.Splitting.{what_comes_was_split, an_id_is_given_once, split_before}
use Rattle.flow_history.proofs.Splitting.{split_by_before}
use Rattle.session_deeds.specs.Pieces.{pieces_at, pieces_read, parts_read}
use Rattle.endpoint_handing.proofs.Pieces.{pieces_plain}
use Rattle.endpoint_handing.proofs.PartsHeld.{AllHeld, held_wider, held_taken, gives_the_packet}
use Rattle.endpoint_handing.proofs.PartsHeld.{given_whole}
use Rattle.endpoint_handing.proofs.Kept.{End, away, PartCame, RowKept, HasStarted, Stands, AreNew}
use Rattle.endpoint_handing.proofs.Kept.{grows_then, Hands}
use Rattle.endpoint_handing.proofs.Deeding.{grows_by, kept_by}
use Rattle.endpoint_handing.proofs.Silent.{AreSilent, had_it, does_silent}
use Rattle.endpoint_handing.proofs.Items.{discard_silent}

-- ---- a piece is held

fault_silent : (at : ℕ) (o : Option Cause) → AreSilent (fault_entries at o)
fault_silent at None = tt
fault_silent at (Some cause) = (discard_silent at cause, tt)

faults_silent : (s : State) (near at : ℕ) (o : Option (List ℕ)) →
    AreSilent (whole_faults s near at o)
faults_silent s near at None = tt
faults_silent s near at (Some packet) = fault_silent at (whole_cause s near (packet_in packet))

module _ (e : End) (facts : List Fact) (s : State) (near : ℕ) (row : Row) (there : get s.sessions near ≡ Some row) (id : ℕ) (x : PieceParts) (h : History) (stands : Stands e facts s h) (came : PartCame e.who (away row.session) h id x) where
  abbrev kept : RowKept e facts near row h
  kept = stands.state.rows near row there

  abbrev new : Row
  new = gathered_more s.moment id x row

  abbrev holding : State
  holding = with_row s near new

  new_kept : RowKept e facts near new h
  new_kept = record {
    id = kept.id;
    own = kept.own;
    keyed = kept.keyed;
    named = kept.named;
    flows = kept.flows;
    held = held_taken (PartCame e.who (away row.session) h) row.gathering id s.moment x came kept.held;
    split = kept.split;
  }

  stands_holding : Stands e facts holding h
  stands_holding = record {
    lawful = stands.lawful;
    honest = stands.honest;
    begun = stands.begun;
    splits = stands.splits;
    state = record {
      own = stands.state.own;
      rows = λ q other is. elim (found_inserted s.sessions near new q other is) [
        | inl at ↦ subst (λ (r : Row). RowKept e facts q r h) at.1 (subst (λ (k : ℕ). RowKept e facts k new h) (sym at.0) new_kept)
        | inr beside ↦ stands.state.rows q other beside.1
      ];
    };
    holds = holds_still e.secrets s holding stands.holds refl refl refl;
  }

  pub hands_piece : (at : ℕ) → AreNew e facts (whole_faults s near at (whole_by s.moment (Some row) id x)) → Hands e facts (piece_taken_by s near at id x (Some row)) h
  hands_piece at fresh =
      let faults : List Entry = whole_faults s near at (whole_by s.moment (Some row) id x) in
      does_silent e facts holding holding faults (faults_silent s near at (whole_by s.moment (Some row) id x))
      (record { own = refl; holds = λ secrets holds. holds; rows = had_it holding.sessions }) h stands_holding fresh

  -- ---- the packet that it completes

  abbrev here : Context
  here = back (away row.session)

  abbrev of_one : (size : ℕ) (packet : List ℕ) → Type 0
  of_one size packet = AllHeld (λ (its : ℕ) (y : PieceParts). its ≡ id → IsIn y (pieces_of packet size)) row.gathering

  -- what is held under its ID are pieces of the packet of which it is one
  all_of_one : (part : HasPart here id x h) → of_one part.0 part.1
  all_of_one part = held_wider (PartCame e.who (away row.session) h) (λ (its : ℕ) (y : PieceParts). its ≡ id → IsIn y (pieces_of part.1 part.0)) row.gathering
      (λ its y there same.
      let other : HasPart here its y h = what_comes_was_split h e.who here its y stands.lawful stands.honest there in
      let under : HasPart here id y h = subst (λ (n : ℕ). HasPart here n y h) same other in
      let one = an_id_is_given_once h here id under.0 part.0 under.1 part.1 stands.lawful under.2 part.2 in
      subst (λ (p : List ℕ). IsIn y (pieces_of p part.0)) one.1 (subst (λ (n : ℕ). IsIn y (pieces_of under.1 n)) one.0 under.3)) kept.held

  pub whole_sent : (packet : List ℕ) → whole_by s.moment (Some row) id x ≡ Some packet → WasSent here (pieces_plain packet) h
  whole_sent packet is =
      let part : HasPart here id x h = what_comes_was_split h e.who here id x stands.lawful stands.honest came in
      let same : packet ≡ part.1 = gives_the_packet row.gathering id part.0 s.moment x part.1 packet (all_of_one part) part.3 (given_whole (taken row.gathering id x s.moment).1 packet is) in
      subst (λ (p : List ℕ). WasSent here (pieces_plain p) h) (sym same) (stands.splits here id part.0 part.1 part.2)

-- ---- a chunk that is a piece

-- what it has is the piece
pub parts_at : (before : Option Numbers) (c : Placed) → c.kind ≡ 0x7f → pieces_at before c.kind c.payload ≡ parts_read (chunk_reading c.kind c.payload)
parts_at before c kind = ap (λ (b : Bool). if b then parts_read (chunk_reading c.kind c.payload) else pieces_read (data_reading before c.kind c.payload)) (ap (λ (k : ℕ). k == 0x7f) kind)

module _ (e : End) (facts : List Fact) (s : State) (near : ℕ) (h : History) (stands : Stands e facts s h) where
  -- the pieces came towards the session
  abbrev pub HaveCome : List Piece → Type 0
  HaveCome pieces = (row : Row) → get s.sessions near ≡ Some row → (x : Piece) → IsIn x pieces → CameIn e.who (back (away row.session)) x h

  taken_by_row : (at id : ℕ) (x : PieceParts) (o : Option Row) → get s.sessions near ≡ o → HaveCome (Part id x ∷ []) → AreNew e facts (piece_taken_by s near at id x o).entries → Hands e facts (piece_taken_by s near at id x o) h
  taken_by_row at id x None is came fresh = does_silent e facts s s [] tt (record { own = refl; holds = λ secrets holds. holds; rows = had_it s.sessions }) h stands tt
  taken_by_row at id x (Some row) is came fresh = hands_piece e facts s near row is id x h stands (came row is (Part id x) (inl refl)) at fresh

  pub hands_taken : (at : ℕ) (read : Result Chunk ChunkFault) → HaveCome (parts_read read) → AreNew e facts (piece_taken s near at read).entries → Hands e facts (piece_taken s near at read) h
  hands_taken at (Ok (Fragment more id number bytes)) came fresh = taken_by_row at id (piece number more bytes) (get s.sessions near) refl came fresh
  hands_taken at read came fresh = does_silent e facts s s [] tt (record { own = refl; holds = λ secrets holds. holds; rows = had_it s.sessions }) h stands tt

  -- Its packet went out in the context towards the session.
  abbrev pub IsSentHere : List ℕ → Type 0
  IsSentHere packet = (row : Row) × (get s.sessions near ≡ Some row) × WasSent (back (away row.session)) (pieces_plain packet) h

  sent_by_row : (id : ℕ) (x : PieceParts) (o : Option Row) → get s.sessions near ≡ o → HaveCome (Part id x ∷ []) → (packet : List ℕ) → whole_by s.moment o id x ≡ Some packet → IsSentHere packet
  sent_by_row id x None is came packet whole = absurd cc
  sent_by_row id x (Some row) is came packet whole = (row, is, whole_sent e facts s near row is id x h stands (came row is (Part id x) (inl refl)) packet whole)

  sent_read : (read : Result Chunk ChunkFault) → HaveCome (parts_read read) → (packet : List ℕ) → whole_in s near read ≡ Some packet → IsSentHere packet
  sent_read (Ok (Fragment more id number bytes)) came packet whole = sent_by_row id (piece number more bytes) (get s.sessions near) refl came packet whole
  sent_read read came packet whole = absurd cc

  -- what completes a packet is a fragment chunk
  read_came : (before : Option Numbers) (c : Placed) → HaveCome (pieces_at before c.kind c.payload) → (read : Result Chunk ChunkFault) → chunk_reading c.kind c.payload ≡ read → (packet : List ℕ) → whole_in s near read ≡ Some packet → IsSentHere packet
  read_came before c came (Ok (Fragment more id number bytes)) is packet whole =
      let kind : c.kind ≡ 0x7f = read_kind c.kind c.payload (Fragment more id number bytes) is in
      sent_read (Ok (Fragment more id number bytes)) (subst HaveCome (parts_at before c kind ∙ ap parts_read is) came) packet whole
  read_came before c came read is packet whole = absurd cc

  pub completed_sent : (before : Option Numbers) (c : Placed) → HaveCome (pieces_at before c.kind c.payload) → (o : Option Cause) (packet : List ℕ) → whole_at s (Session near) o c ≡ Some packet → IsSentHere packet
  completed_sent before c came (Some cause) packet whole = absurd cc
  completed_sent before c came None packet whole = read_came before c came (chunk_reading c.kind c.payload) refl packet whole

-- ---- a packet comes

module _ (e : End) (facts : List Fact) (c : Context) (pieces : List Piece) (h : History) where
  abbrev pub came_now : History
  came_now = done e.who (In c pieces) ∷ h

  pub stands_in : (s : State) → WasSent c pieces h → Stands e facts s h → Stands e facts s came_now
  stands_in s sent k = record {
    lawful = (tt, k.lawful);
    honest = (sent, k.honest);
    begun = λ d was. earlier d was;
    splits = λ d id size packet was. inr (k.splits d id size packet (split_before e.who (In c pieces ∷ []) d id size packet h (tt, tt) was));
    state = record {
      own = k.state.own;
      rows = λ near row there.
          (let r = k.state.rows near row there in
          record {
            id = r.id;
            own = r.own;
            keyed = r.keyed;
            named = r.named;
            flows = kept_by e.who (away row.session) row.flows (In c pieces) h (record { sends = λ f k. refl; takes = λ f k. refl }) r.flows;
            held = held_wider (PartCame e.who (away row.session) h) (PartCame e.who (away row.session) came_now) row.gathering (λ id x came. inr came) r.held;
            split = λ id was. r.split id (split_by_before e.who e.who (In c pieces ∷ []) (away row.session) id h (tt, tt) was);
          });
    };
    holds = k.holds;
  }
    where
      earlier : (d : Context) → HasBegun d came_now → HasStarted e facts d
      earlier d (inl none) = absurd none
      earlier d (inr before) = k.begun d before

  pub hands_in : (d : Did) → Hands e facts d came_now → Hands e facts d h
  hands_in d k = record {
    after = k.after;
    grows = grows_then e.who h came_now k.after (grows_by e.who (In c pieces) h) k.grows;
    stands = k.stands;
    log = k.log;
    named = k.named;
    outs = k.outs;
    still = k.still;
    order = λ b n asked was. k.order b n asked (tt, was);
  }
