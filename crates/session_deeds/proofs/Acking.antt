-- The acks that go into a packet are told by deeds.
use Rattle.std.proofs.Common.{◌≡◌, ℕ, ◌+◌, ◌-◌, ◌^◌, ◌<◌, ◌≤◌, Bool, true, false, cond, nat_lt}
use Rattle.std.proofs.Common.{List, [], ◌∷◌, ◌++◌, Option, Some, None, Ok, option_map, length, refl}
use Rattle.std.proofs.Common.{sym, ap, ◌∙◌, subst, arith, append_assoc, append-nil, length-append}
use Rattle.std.proofs.Common.{inl}
use Rattle.std.specs.Int.{to_be_bytes, w16}
use Rattle.std.specs.List.{AllByRecursion, flat_map}
use Rattle.std.proofs.lemmas.Bool.{eq-eqb, ne_eqb, ltb-false}
use Rattle.rtmfp_vlu.specs.Vlu.{vlu}
use Rattle.rtmfp_forms.specs.Outgoing.{packet_limit}
use Rattle.rtmfp_data_chunks.specs.declared.user_data.Numbers.{Numbers}
use Rattle.rtmfp_data_chunks.specs.Acked.{spans_of_pairs, acked}
use Rattle.rtmfp_data_chunks.specs.Chunk.{DataChunk, AckRanges}
use Rattle.rtmfp_data_chunks.specs.Reader.{data_reading}
use Rattle.rtmfp_data_chunks.specs.Writing.{payload_bytes, data_bytes}
use Rattle.rtmfp_data_chunks.proofs.PairsTold.{pairs_told}
use Rattle.rtmfp_data_chunks.proofs.ReadingLaws.{data_reading_is}
use Rattle.rtmfp_data_chunks.proofs.Respelling.{ranges_spelled}
use Rattle.flow_recv.specs.declared.spans.Span.{Span}
use Rattle.flow_recv.specs.Receiver.{Receiver, span, Apart, end_of_first, through_in, held_in}
use Rattle.flow_recv.specs.Acking.{free_blocks, pair_bytes, pairs_in, spans_in, later_spans}
use Rattle.flow_recv.specs.Acking.{ack_head, ack_payload, ack_bytes}
use Rattle.flow_recv.proofs.Telling.{AllFit, pairs_tell}
use Rattle.flow_send.specs.Acks.{told}
use Rattle.flow_exchange.specs.Pair.{ack_by}
use Rattle.flow_history.specs.Deeds.{Piece, Ack}
use Rattle.flow_history.specs.Keeping.{Flows}
use Rattle.flow_history.specs.Told.{pairs_in as told_pairs}
use Rattle.flow_history.proofs.Told.{written_is_told}
use Rattle.session_flows.specs.declared.taking.TakingFlow.{TakingFlow}
use Rattle.session_flows.specs.Keeping.{FlowsState, in_taking}
use Rattle.session_flows.specs.Owing.{paid, Acked, with_front, is_full_for, acks_put, after_acks}
use Rattle.session_flows.specs.Laws.{Rise}
use Rattle.session_deeds.specs.Deeds.{Deed, Acks, MayAll, did_all, told_all}
use Rattle.session_deeds.specs.Shows.{receiver_of, AreNarrow, IsTellable, Shows}
use Rattle.session_deeds.specs.Goes.{Says, AllSaid}
use Rattle.session_deeds.specs.Pieces.{pieces_in}
use Rattle.session_deeds.specs.Laws.{AckingGoes}
use Rattle.session_deeds.proofs.Chains.{all_later}
use Rattle.session_deeds.proofs.Lists.{Alike, alike_same}
use Rattle.session_deeds.proofs.Changing.{alike_shows}
use Rattle.session_deeds.proofs.Reading.{AreRead, IsShort, put_behind}

-- ---- one ack

abbrev room_for : ℕ → ℕ → Receiver → ℕ
room_for id room r = room - length (ack_head id r)

abbrev pairs_for : ℕ → ℕ → Receiver → List ℕ
pairs_for id room r = pairs_in (room_for id room r) (through_in r) (later_spans r.spans)

abbrev ack_chunk : ℕ → ℕ → Receiver → DataChunk
ack_chunk id room r =
    AckRanges id (free_blocks (held_in r.runs)) (through_in r) (pairs_for id room r)

same_payload : (id room : ℕ) (r : Receiver) →
    ack_payload id room r ≡ payload_bytes (ack_chunk id room r)
same_payload id room r =
    append_assoc (vlu id ++ vlu (free_blocks (held_in r.runs))) (vlu (through_in r))
    (pairs_for id room r)
    ∙ append_assoc (vlu id) (vlu (free_blocks (held_in r.runs)))
    (vlu (through_in r) ++ pairs_for id room r)

same_ack : (id room : ℕ) (r : Receiver) → ack_bytes id room r ≡ data_bytes (ack_chunk id room r)
same_ack id room r =
    ap (λ (l : List ℕ). 81 ∷ (to_be_bytes w16 (length l) ++ l)) (same_payload id room r)

pairs_fit : (room : ℕ) (full : Bool) (first later : List ℕ) → nat_lt room (length first) ≡ full →
    length later ≤ room - length first → length (cond full [] (first ++ later)) ≤ room
pairs_fit room true first later e short = omega arith
pairs_fit room false first later e short = let fits : length first ≤ room =
    ltb-false room (length first) e in omega (arith, length-append first later, short, fits)

pairs_short : (room after : ℕ) (spans : List Span) → length (pairs_in room after spans) ≤ room
pairs_short room after [] = omega arith
pairs_short room after (s ∷ later) =
    let first : List ℕ = pair_bytes after s in
    pairs_fit room (nat_lt room (length first)) first
    (pairs_in (room - length first) s.last later) refl
    (pairs_short (room - length first) s.last later)

ack_short : (id room : ℕ) (r : Receiver) → length (ack_head id r) ≤ room → room < 2 ^ 16 →
    IsShort (ack_chunk id room r)
ack_short id room r fits small =
    let short : length (pairs_for id room r) ≤ room_for id room r =
    pairs_short (room_for id room r) (through_in r) (later_spans r.spans) in
    omega (
      arith,
      ap length (same_payload id room r),
      length-append (ack_head id r) (pairs_for id room r),
      short,
      fits,
      small,
    )

-- what it tells

apart_later : (ss : List Span) → Apart ss → Apart (span 0 (end_of_first ss) ∷ later_spans ss)
apart_later [] h = (omega arith, λ t n. absurd n, tt)
apart_later (s ∷ later) h = (omega arith, h.1, h.2)

fit_all : (ss : List Span) → AreNarrow ss → AllFit ss
fit_all [] h = tt
fit_all (s ∷ later) h = (h.0, fit_all later h.1)

fit_later : (ss : List Span) → AreNarrow ss → AllFit (later_spans ss)
fit_later [] h = tt
fit_later (s ∷ later) h = fit_all later h.1

narrow_first : (ss : List Span) → AreNarrow ss → end_of_first ss < 2 ^ 64
narrow_first [] h = omega arith
narrow_first (s ∷ later) h = h.0

ack_read : (last : Option Numbers) (t : TakingFlow) (room : ℕ) → IsTellable t →
    data_reading last 81 (payload_bytes (ack_chunk t.id room t.receiver)) ≡ Ok
    (ack_chunk t.id room t.receiver)
ack_read last t room h =
    let r : Receiver = t.receiver in
    data_reading_is last 81 (payload_bytes (ack_chunk t.id room r)) (Ok (ack_chunk t.id room r))
    (λ e. absurd (omega arith)) (
      refl,
      ranges_spelled t.id (free_blocks (held_in r.runs)) (through_in r) (pairs_for t.id room r) h.id
          (omega arith) (narrow_first r.spans h.narrow) (
            spans_in (room_for t.id room r) (through_in r) (later_spans r.spans),
            pairs_tell (room_for t.id room r) (through_in r) (later_spans r.spans)
                (apart_later r.spans h.apart) (fit_later r.spans h.narrow),
          ),
    )

-- how many pairs those are
abbrev count_of : ℕ → ℕ → Receiver → ℕ
count_of id room r = told_pairs (room_for id room r) r

ack_tells : (t : TakingFlow) (room : ℕ) → IsTellable t →
    record {
      upto = through_in t.receiver;
      spans =
          spans_of_pairs (through_in t.receiver) (pairs_for t.id room t.receiver);
    } ≡ ack_by
    t.receiver (count_of t.id room t.receiver)
ack_tells t room h =
    let r : Receiver = t.receiver in
    let tell = pairs_tell (room_for t.id room r) (through_in r) (later_spans r.spans)
    (apart_later r.spans h.apart) (fit_later r.spans h.narrow) in
    ap (λ (ss : List (ℕ × ℕ)). record { upto = through_in r; spans = ss })
    (pairs_told (through_in r)
    (spans_in (room_for t.id room r) (through_in r) (later_spans r.spans))
    (pairs_for t.id room r) tell)
    ∙ written_is_told r (room_for t.id room r)

-- ---- one after another

-- the flow that tells is there
abbrev IsMade : Flows → TakingFlow → Type 0
IsMade fl t = fl.made t.id ≡ Some t.receiver

-- what goes into a packet of these flows
record AreTold (came : List Piece) (fl : Flows) (ts : List TakingFlow) (packet : List ℕ)
    (a : Acked) : Type 0 where
  deeds : List Deed
  chunks : List DataChunk
  may : MayAll came fl deeds
  still : did_all fl deeds ≡ fl
  silent : told_all fl deeds ≡ []
  said : AllSaid fl deeds (flat_map pieces_in chunks)
  is : a.packet ≡ packet ++ flat_map data_bytes chunks
  short : AllByRecursion IsShort chunks
  read : (last : Option Numbers) → AreRead last chunks
  alike : Alike ts a.taking

none_told : (came : List Piece) (fl : Flows) (ts : List TakingFlow) (packet : List ℕ) →
    AreTold came fl ts packet (record { taking = ts; packet = packet })
none_told came fl ts packet = record {
  deeds = [];
  chunks = [];
  may = tt;
  still = refl;
  silent = refl;
  said = tt;
  is = sym (append-nil packet);
  short = tt;
  read = λ last. tt;
  alike = alike_same ts;
}

passed_over : (came : List Piece) (fl : Flows) (t : TakingFlow) (ts : List TakingFlow)
    (packet : List ℕ) (a : Acked) → AreTold came fl ts packet a →
    AreTold came fl (t ∷ ts) packet (with_front t a)
passed_over came fl t ts packet a h = record {
  deeds = h.deeds;
  chunks = h.chunks;
  may = h.may;
  still = h.still;
  silent = h.silent;
  said = h.said;
  is = h.is;
  short = h.short;
  read = h.read;
  alike = ((refl, refl), h.alike);
}

abbrev room_in : List ℕ → ℕ
room_in packet = packet_limit - length packet - 3

abbrev ack_of : TakingFlow → List ℕ → List ℕ
ack_of t packet = ack_bytes t.id (room_in packet) t.receiver

one_told : (came : List Piece) (fl : Flows) (t : TakingFlow) (ts : List TakingFlow)
    (packet : List ℕ) (a : Acked) → IsTellable t → IsMade fl t →
    length (ack_head t.id t.receiver) ≤ room_in packet →
    AreTold came fl ts (packet ++ ack_of t packet) a →
    AreTold came fl (t ∷ ts) packet (with_front (paid t) a)
one_told came fl t ts packet a tellable made fits h =
    let room : ℕ = room_in packet in
    let chunk : DataChunk = ack_chunk t.id room t.receiver in
    let deed : Deed = Acks t.id (count_of t.id room t.receiver) in
    let says : Says fl deed
    (Ack t.id (told (free_blocks (held_in t.receiver.runs)) (through_in t.receiver)
    (acked chunk))) = (
      refl,
      record {
        receiver = t.receiver;
        is_made =
            ap (λ (o : Option Receiver). Some o) made;
        told = ack_tells t room tellable;
      },
    ) in
    record {
      deeds = deed ∷ h.deeds;
      chunks = chunk ∷ h.chunks;
      may = ((t.receiver, made), h.may);
      still = h.still;
      silent = h.silent;
      said = (inl says, all_later (deed ∷ []) h.deeds fl (flat_map pieces_in h.chunks) h.said);
      is = h.is ∙ append_assoc packet (ack_of t packet) (flat_map data_bytes h.chunks)
          ∙ ap (λ (l : List ℕ). packet ++ (l ++ flat_map data_bytes h.chunks))
          (same_ack t.id room t.receiver);
      short = (ack_short t.id room t.receiver fits (omega arith), h.short);
      read = λ last. (ack_read last t room tellable, h.read None);
      alike = ((refl, refl), h.alike);
    }

owed_told : (came : List Piece) (fl : Flows) (t : TakingFlow) (ts : List TakingFlow)
    (packet : List ℕ) (full : Bool) (a : Acked) → is_full_for t packet ≡ full → IsTellable t →
    IsMade fl t → AreTold came fl ts (packet ++ ack_of t packet) a →
    AreTold came fl (t ∷ ts) packet
    (cond full (record { taking = t ∷ ts; packet = packet }) (with_front (paid t) a))
owed_told came fl t ts packet true a e tellable made h = none_told came fl (t ∷ ts) packet
owed_told came fl t ts packet false a e tellable made h =
    let fits : length packet + 3 + length (ack_head t.id t.receiver) ≤ packet_limit =
    ltb-false packet_limit (length packet + 3 + length (ack_head t.id t.receiver)) e in
    one_told came fl t ts packet a tellable made (omega (arith, fits)) h

either_told : (came : List Piece) (fl : Flows) (t : TakingFlow) (ts : List TakingFlow)
    (packet : List ℕ) (owed : Bool) (more same : Acked) → IsTellable t → IsMade fl t →
    AreTold came fl ts (packet ++ ack_of t packet) more →
    AreTold came fl ts packet same →
    AreTold came fl (t ∷ ts) packet
    (cond owed (cond (is_full_for t packet) (record { taking = t ∷ ts; packet = packet })
    (with_front (paid t) more)) (with_front t same))
either_told came fl t ts packet true more same tellable made h k =
    owed_told came fl t ts packet (is_full_for t packet) more refl tellable made h
either_told came fl t ts packet false more same tellable made h k =
    passed_over came fl t ts packet same k

all_told : (came : List Piece) (fl : Flows) (ts : List TakingFlow) (packet : List ℕ) →
    AllByRecursion IsTellable ts → AllByRecursion (IsMade fl) ts →
    AreTold came fl ts packet (acks_put ts packet)
all_told came fl [] packet h made = none_told came fl [] packet
all_told came fl (t ∷ ts) packet h made =
    either_told came fl t ts packet t.owed (acks_put ts (packet ++ ack_of t packet))
    (acks_put ts packet) h.0 made.0 (all_told came fl ts (packet ++ ack_of t packet) h.1 made.1)
    (all_told came fl ts packet h.1 made.1)

-- ---- the flows are there

-- those of a list that rises are found by their IDs, in it and behind others
abbrev AreFound : List TakingFlow → List TakingFlow → Type 0
AreFound all ts = AllByRecursion (λ (t : TakingFlow). in_taking t.id all ≡ Some t) ts

found_behind : (x : TakingFlow) (low : ℕ) (all ts : List TakingFlow) → x.id < low → Rise low ts →
    AreFound all ts → AreFound (x ∷ all) ts
found_behind x low all [] lt h found = tt
found_behind x low all (t ∷ later) lt h found = (
  ap (λ (b : Bool). cond b (Some x) (in_taking t.id all))
      (ne_eqb x.id t.id (λ e. absurd (omega (arith, lt, h.0)))) ∙ found.0,
  found_behind x (t.id + 1) all later (omega (arith, lt, h.0)) h.1 found.1,
)

all_found : (low : ℕ) (ts : List TakingFlow) → Rise low ts → AreFound ts ts
all_found low [] h = tt
all_found low (t ∷ later) h = (
  ap (λ (b : Bool). cond b (Some t) (in_taking t.id later)) (eq-eqb t.id t.id refl),
  found_behind t (t.id + 1) later later (omega arith) h.1 (all_found (t.id + 1) later h.1),
)

are_made : (s : FlowsState) (fl : Flows) (ts : List TakingFlow) → Shows s fl →
    AreFound s.taking ts → AllByRecursion (IsMade fl) ts
are_made s fl [] h found = tt
are_made s fl (t ∷ later) h found = (
  h.made t.id ∙ ap (λ (o : Option TakingFlow). option_map receiver_of o) found.0,
  are_made s fl later h found.1,
)

pub acking_goes : AckingGoes
acking_goes came s front fl h =
    let k : AreTold came fl s.taking front (acks_put s.taking front) =
    all_told came fl s.taking front h.tellable
    (are_made s fl s.taking h (all_found 0 s.taking h.sound.rise)) in
    record {
      deeds = k.deeds;
      pieces = flat_map pieces_in k.chunks;
      done = record {
        may = k.may;
        shows = subst (λ (x : Flows). Shows (after_acks s front) x) (sym k.still)
            (alike_shows s fl (acks_put s.taking front).taking h k.alike);
        states = k.silent;
      };
      said = k.said;
      put = put_behind front (acks_put s.taking front).packet k.chunks k.is k.short (k.read None);
    }
