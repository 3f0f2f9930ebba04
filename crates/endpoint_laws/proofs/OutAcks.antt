-- The acks that go out in a packet are chunks that are no keyings.
use Rattle.std.proofs.Common.{◌≡◌, ℕ, ◌+◌, ◌-◌, ◌^◌, ◌<◌, ◌≤◌, List, [], ◌∷◌, ◌++◌, length, drop, nat_lt, Bool, true, false, if◌then◌else◌, refl, sym, ap, subst, ◌∙◌, arith, append_assoc, append-nil, length-append}
use Rattle.std.proofs.lemmas.Bool.{ltb-false}
use Rattle.rtmfp_forms.specs.Outgoing.{packet_limit}
use Rattle.flow_recv.specs.declared.spans.Span.{Span}
use Rattle.flow_recv.specs.Receiver.{Receiver, through_in}
use Rattle.flow_recv.specs.Acking.{pair_bytes, pairs_in, later_spans, ack_head, ack_payload, ack_bytes}
use Rattle.session_flows.specs.declared.taking.TakingFlow.{TakingFlow}
use Rattle.session_flows.specs.Owing.{paid, Acked, with_front, is_full_for, acks_put}
use Rattle.endpoint_model.specs.declared.row.Row.{Row}
use Rattle.endpoint_model.specs.Sending.{packet_head}
use Rattle.endpoint_model.specs.FlowChunks.{acks_body}
use Rattle.endpoint_laws.proofs.OutPackets.{IsModest, none_is_modest, joined_is_modest}

-- ---- one ack

pairs_fit : (room : ℕ) (full : Bool) (first later : List ℕ) → nat_lt room (length first) ≡ full → length later ≤ room - length first → length (if full then [] else first ++ later) ≤ room
pairs_fit room true first later e short = omega arith
pairs_fit room false first later e short = let fits : length first ≤ room = ltb-false room (length first) e in omega (arith, length-append first later, short, fits)

pairs_short : (room after : ℕ) (spans : List Span) → length (pairs_in room after spans) ≤ room
pairs_short room after [] = omega arith
pairs_short room after (s ∷ later) =
    let first : List ℕ = pair_bytes after s in
    pairs_fit room (nat_lt room (length first)) first (pairs_in (room - length first) s.last later) refl (pairs_short (room - length first) s.last later)

-- its payload has at most so many bytes
payload_short : (id room : ℕ) (r : Receiver) → length (ack_head id r) ≤ room → length (ack_payload id room r) ≤ room
payload_short id room r fits =
    let pairs : List ℕ = pairs_in (room - length (ack_head id r)) (through_in r) (later_spans r.spans) in
    let short : length pairs ≤ room - length (ack_head id r) = pairs_short (room - length (ack_head id r)) (through_in r) (later_spans r.spans) in
    omega (arith, length-append (ack_head id r) pairs, short, fits)

ack_is_modest : (id room : ℕ) (r : Receiver) → length (ack_head id r) ≤ room → room < 2 ^ 16 → IsModest (ack_bytes id room r)
ack_is_modest id room r fits small = record {
  chunks = record { kind = 81; payload = ack_payload id room r } ∷ [];
  is = sym (append-nil (ack_bytes id room r));
  each = (record { kind = omega arith; size = omega (arith, payload_short id room r fits, small); no_initiator = omega arith; no_responder = omega arith }, tt);
}

-- ---- one after another

-- Such chunks were put to the packet.
record Puts (packet : List ℕ) (a : Acked) : Type 0 where
  body : List ℕ
  is : a.packet ≡ packet ++ body
  modest : IsModest body

puts_none : (packet : List ℕ) (taking : List TakingFlow) → Puts packet (record { taking = taking; packet = packet })
puts_none packet taking = record { body = []; is = sym (append-nil packet); modest = none_is_modest }

puts_same : (packet : List ℕ) (t : TakingFlow) (a : Acked) → Puts packet a → Puts packet (with_front t a)
puts_same packet t a p = record { body = p.body; is = p.is; modest = p.modest }

puts_more : (packet one : List ℕ) (t : TakingFlow) (a : Acked) → IsModest one → Puts (packet ++ one) a → Puts packet (with_front t a)
puts_more packet one t a modest p = record { body = one ++ p.body; is = p.is ∙ append_assoc packet one p.body; modest = joined_is_modest one p.body modest p.modest }

-- the ack of a flow, in the room that is left
abbrev ack_of : TakingFlow → List ℕ → List ℕ
ack_of t packet = ack_bytes t.id (packet_limit - length packet - 3) t.receiver

puts_owed : (t : TakingFlow) (later : List TakingFlow) (packet : List ℕ) (full : Bool) (a : Acked) → is_full_for t packet ≡ full → Puts (packet ++ ack_of t packet) a →
    Puts packet (if full then record { taking = t ∷ later; packet = packet } else with_front (paid t) a)
puts_owed t later packet true a e p = puts_none packet (t ∷ later)
puts_owed t later packet false a e p =
    let fits : length packet + 3 + length (ack_head t.id t.receiver) ≤ packet_limit = ltb-false packet_limit (length packet + 3 + length (ack_head t.id t.receiver)) e in
    puts_more packet (ack_of t packet) (paid t) a (ack_is_modest t.id (packet_limit - length packet - 3) t.receiver (omega (arith, fits)) (omega arith)) p

puts_either : (t : TakingFlow) (later : List TakingFlow) (packet : List ℕ) (owed : Bool) (more same : Acked) → Puts (packet ++ ack_of t packet) more → Puts packet same →
    Puts packet (if owed then (if is_full_for t packet then record { taking = t ∷ later; packet = packet } else with_front (paid t) more) else with_front t same)
puts_either t later packet true more same p q = puts_owed t later packet (is_full_for t packet) more refl p
puts_either t later packet false more same p q = puts_same packet t same q

puts : (taking : List TakingFlow) (packet : List ℕ) → Puts packet (acks_put taking packet)
puts [] packet = puts_none packet []
puts (t ∷ later) packet =
    puts_either t later packet t.owed (acks_put later (packet ++ ack_of t packet)) (acks_put later packet) (puts later (packet ++ ack_of t packet)) (puts later packet)

behind : (front back : List ℕ) → drop (length front) (front ++ back) ≡ back
behind [] back = refl
behind (x ∷ front) back = behind front back

pub acks_are_modest : (row : Row) (moment : ℕ) → IsModest (acks_body row moment)
acks_are_modest row moment =
    let head : List ℕ = packet_head row.session moment in
    let p = puts row.flows.taking head in
    subst IsModest (sym (ap (drop (length head)) p.is ∙ behind head p.body)) p.modest
