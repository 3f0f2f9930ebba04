-- Rows of deeds, and of what is read of a packet.
use Rattle.std.specs.Prelude.{ℕ, ◌≡◌, Bool, true, false, List, [], ◌∷◌, Option, Some, None}
use Rattle.rtmfp_packet.specs.Walk.{Placed}
use Rattle.rtmfp_data_chunks.specs.declared.user_data.Part.TheVariants.{Whole}
use Rattle.rtmfp_fragments.specs.Pieces.{piece}
use Rattle.flow_send.specs.Acks.{Told, told}
use Rattle.flow_exchange.specs.Sending.{Act, Queues, Abandons, Finishes, Sends, Hears}
use Rattle.flow_history.specs.Flow.{Carried}
use Rattle.flow_history.specs.Deeds.{Piece, Data, Ack, Part}
use Rattle.flow_history.specs.Keeping.{Flows}
use Rattle.session_flows.specs.Keeping.{Queued, Abandoned, Handed}
use Rattle.session_deeds.specs.Deeds.{Deed, Opens, ActsOn, Makes, Takes, Hands, Acks, none_yet}
use Rattle.session_deeds.specs.Deeds.{did, told_all, May}
use Rattle.session_deeds.specs.Goes.{IsSaid}
use Rattle.session_deeds.specs.Pieces.{pieces_of}

-- ---- what is read of a packet

abbrev pub placed : ℕ → List ℕ → Placed
placed kind payload = record { kind = kind; at = 1; payload = payload }

-- of flow 0, a fragment of one byte
abbrev pub carried : ℕ → ℕ → Option Bool → Carried
carried seq byte order = record {
  chunk = record {
    part = Whole;
    abandon = false;
    last = false;
    seq = seq;
    forward = 0;
    bytes = byte ∷ [];
  };
  order = order;
}

abbrev pub first_data : Placed
first_data = placed 0x10 (0x00 ∷ 0x00 ∷ 0x01 ∷ 0x01 ∷ 0x07 ∷ [])

-- behind number 1, number 2
abbrev pub next_data : Placed
next_data = placed 0x11 (0x00 ∷ 0x08 ∷ [])

-- the same as the first, with these metadata in its options
abbrev pub with_metadata : ℕ → Placed
with_metadata byte = placed 0x10
    (0x80 ∷ 0x00 ∷ 0x01 ∷ 0x01 ∷ 0x02 ∷ 0x00 ∷ byte ∷ 0x00 ∷ 0x07 ∷ [])

-- 2,048 blocks, all up to 1, and 3 and 4
abbrev pub ranges : Placed
ranges = placed 0x51 (0x00 ∷ 0x90 ∷ 0x00 ∷ 0x01 ∷ 0x00 ∷ 0x01 ∷ [])

-- of the packet with ID 2, the piece 3, behind which more follow; and one without a number
abbrev pub fragment : Placed
fragment = placed 0x7f (0x80 ∷ 0x02 ∷ 0x03 ∷ 0x09 ∷ [])

abbrev pub cut_fragment : Placed
cut_fragment = placed 0x7f (0x80 ∷ 0x02 ∷ [])

abbrev pub ping : Placed
ping = placed 0x01 []

pub record ReadsInTurn : Type 0 where
  pub one : pieces_of (first_data ∷ []) ≡ Data 0 (carried 1 7 None) ∷ []
  pub behind : pieces_of (first_data ∷ next_data ∷ [])
      ≡ Data 0 (carried 1 7 None) ∷ Data 0 (carried 2 8 None) ∷ []
  -- a next chunk alone, or behind a chunk of another kind, has no number
  pub alone : pieces_of (next_data ∷ []) ≡ []
  pub apart : pieces_of (first_data ∷ ping ∷ next_data ∷ []) ≡ Data 0 (carried 1 7 None) ∷ []
  -- metadata that begin with the byte 61 have messages handed over as they arrive
  pub arriving : pieces_of (with_metadata 0x61 ∷ []) ≡ Data 0 (carried 1 7 (Some true)) ∷ []
  pub beside : pieces_of (with_metadata 0x60 ∷ []) ≡ Data 0 (carried 1 7 (Some false)) ∷ []
  -- a fragment is a part of a packet, behind which a next chunk has no number; one that can't be
  -- read is none
  pub part : pieces_of (first_data ∷ fragment ∷ next_data ∷ [])
      ≡ Data 0 (carried 1 7 None) ∷ Part 2 (piece 3 true (0x09 ∷ [])) ∷ []
  pub cut : pieces_of (cut_fragment ∷ []) ≡ []
  pub acks : pieces_of (ranges ∷ []) ≡ Ack 0 (told 2048 1 ((3, 4) ∷ [])) ∷ []

-- ---- which deeds may be done

abbrev pub one_open : Flows
one_open = did none_yet (Opens 0 false)

abbrev pub an_ack : Told
an_ack = told 2048 1 []

-- a piece of flow 0 that tells an order, or none
abbrev pub a_piece : Option Bool → Piece
a_piece order = Data 0 (carried 1 7 order)

-- what may be done, and what may not
pub record MayBeDone : Type 0 where
  -- a flow is opened once, and acted on where it is open
  pub opened : May [] none_yet (Opens 0 false)
  pub twice : May [] one_open (Opens 0 false) → ⊥
  pub another : May [] one_open (Opens 1 true)
  pub acted_on : May [] one_open (ActsOn 0 Finishes)
  pub unopened : May [] one_open (ActsOn 1 Finishes) → ⊥
  -- what is heard came, and of this flow
  pub heard : May (Ack 0 an_ack ∷ []) one_open (ActsOn 0 (Hears an_ack))
  pub unheard : May [] one_open (ActsOn 0 (Hears an_ack)) → ⊥
  pub other : May (Ack 1 an_ack ∷ []) one_open (ActsOn 0 (Hears an_ack)) → ⊥
  -- a flow is made of a chunk that tells its order, and takes what came
  pub made : May (a_piece (Some true) ∷ []) none_yet (Makes 0 true)
  pub otherwise : May (a_piece (Some true) ∷ []) none_yet (Makes 0 false) → ⊥
  pub untold : May (a_piece None ∷ []) none_yet (Makes 0 false) → ⊥
  pub took : May (a_piece None ∷ []) (did none_yet (Makes 0 false))
      (Takes 0 (carried 1 7 None).chunk)
  pub unsent : May [] (did none_yet (Makes 0 false)) (Takes 0 (carried 1 7 None).chunk) → ⊥
  -- nothing is handed over that isn't there
  pub empty : May [] (did none_yet (Makes 0 false)) (Hands 0) → ⊥

-- ---- what they state and give

abbrev pub queue : ℕ → Act
queue byte = Queues (byte ∷ []) (record { deadline = None; resends = None })

abbrev pub at_sender : List Deed
at_sender = Opens 0 false ∷ ActsOn 0 (queue 7) ∷ ActsOn 0 (queue 8) ∷ ActsOn 0 (Abandons 2)
    ∷ ActsOn 0 Finishes ∷ ActsOn 0 (Sends 5 1000) ∷ []

abbrev pub at_receiver : List Deed
at_receiver = Makes 0 false ∷ Takes 0 (carried 1 7 None).chunk ∷ Hands 0 ∷ Acks 0 0 ∷ []

pub record IsStatedAndSaid : Type 0 where
  pub sender : told_all none_yet at_sender
      ≡ Queued 0 1 (7 ∷ []) ∷ Queued 0 2 (8 ∷ []) ∷ Abandoned 0 2 ∷ []
  pub receiver : told_all none_yet at_receiver ≡ Handed 0 1 (7 ∷ []) ∷ []
  -- the fragment is given, with the flow's order or with none, and no other one
  pub given : IsSaid none_yet at_sender (Data 0 (carried 1 7 None))
  pub in_order : IsSaid none_yet at_sender (Data 0 (carried 1 7 (Some false)))
  pub arriving : IsSaid none_yet at_sender (Data 0 (carried 1 7 (Some true))) → ⊥
  pub abandoned : IsSaid none_yet at_sender (Data 0 (carried 2 8 None)) → ⊥
  -- and the ack is told that has the number
  pub acked : IsSaid none_yet at_receiver (Ack 0 an_ack)
  pub early : IsSaid none_yet at_receiver (Ack 0 (told 2048 2 [])) → ⊥
