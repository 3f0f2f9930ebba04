-- How many datagrams a packet of a session takes.
use Rattle.std.proofs.Common.{ℕ, zero, suc, ◌≡◌, ◌≤◌, ◌<◌, ◌+◌, ◌-◌, ◌/◌, List, [], ◌∷◌, length, map, take, drop, Bool, true, false, nat_le, if◌then◌else◌, Option, Some, None, refl, ap, arith, length-append}
use Rattle.std.proofs.lemmas.Bool.{leb-true, leb-false, ltb-true}
use Rattle.std.proofs.lemmas.List.{length-drop, length-map}
use Rattle.std.proofs.lemmas.Nat.{le-div}
use Rattle.std.proofs.Math.Nat.{div-eq-sub-div, div-mul-le_self}
use Rattle.std.specs.FinMap.{get}
use Rattle.rtmfp_forms.specs.Address.{AddressParts}
use Rattle.rtmfp_packet.specs.declared.head.PacketHead.{PacketHead}
use Rattle.rtmfp_packet.specs.Head.{head_bytes, stamp_bytes}
use Rattle.rtmfp_fragments.specs.Pieces.{PieceParts, piece, stretches}
use Rattle.session_core.specs.Session.{context_of, head_at}
use Rattle.session_core.specs.Sealed.{after_seal, is_spent}
use Rattle.endpoint_model.specs.declared.row.Row.{Row}
use Rattle.endpoint_model.specs.declared.entry.Entry.TheVariants.{Out}
use Rattle.endpoint_model.specs.State.{State, Did, nothing, then_do, with_row, with_session}
use Rattle.endpoint_model.specs.Sending.{has_counts, is_long, limit_of, packet_head, piece_body, pieces_for, sent_bodies, sent_by, sent_in_pieces, sent_whole, session_datagram, session_packet}
use Rattle.endpoint_model.specs.InSessions.{sent_home, sent_home_by}
use Rattle.end_state.specs.Steps.{datagrams_for}

-- ---- a longer body takes as many or more

quotient_more : (a b k : ℕ) → 0 < k → a ≤ b → a / k ≤ b / k
quotient_more a b k some more = le-div (a / k) b k some (omega (arith, div-mul-le_self a k, more))

pub longer_takes_more : (limit a b : ℕ) → 32 < limit → a ≤ b → datagrams_for limit a ≤ datagrams_for limit b
longer_takes_more limit a b wide more = by (nat_le (5 + a) limit) (nat_le (5 + b) limit) refl refl
  where
    by : (p q : Bool) → nat_le (5 + a) limit ≡ p → nat_le (5 + b) limit ≡ q → (if p then 1 else (5 + a) / (limit - 32) + 1) ≤ (if q then 1 else (5 + b) / (limit - 32) + 1)
    by true true is whole = omega arith
    by true false is whole = omega arith
    by false true is whole = absurd (omega (arith, leb-false (5 + a) limit is, leb-true (5 + b) limit whole, more))
    by false false is whole = omega (arith, quotient_more (5 + a) (5 + b) (limit - 32) (omega (arith, wide)) (omega (arith, more)))

-- ---- each piece is one

few_stretches : (most n size : ℕ) (bytes : List ℕ) → 0 < size → length (stretches most n size bytes) ≤ length bytes / size + 1
few_stretches zero n size bytes some = omega arith
few_stretches (suc most) n size bytes some = by (nat_le (length bytes) size) refl (few_stretches most (n + 1) size (drop size bytes) some)
  where
    by : (b : Bool) → nat_le (length bytes) size ≡ b → length (stretches most (n + 1) size (drop size bytes)) ≤ length (drop size bytes) / size + 1 →
        length (if b then piece n false bytes ∷ [] else piece n true (take size bytes) ∷ stretches most (n + 1) size (drop size bytes)) ≤ length bytes / size + 1
    by true is rest = omega arith
    by false is rest =
        let all : length bytes / size ≡ (length bytes - size) / size + 1 = div-eq-sub-div some (omega (arith, leb-false (length bytes) size is)) in
        let less : length (drop size bytes) / size ≡ (length bytes - size) / size = ap (λ (k : ℕ). k / size) (length-drop size bytes) in
        omega (arith, rest, all, less)

one_whole : (s : State) (near : ℕ) (to : AddressParts) (body : List ℕ) (o : Option Row) → length (sent_whole s near to body o).entries ≤ 1
one_whole s near to body None = omega arith
one_whole s near to body (Some row) = by (is_spent row.session)
  where
    by : (b : Bool) → length (if b
        then nothing s
        else record { state = with_session s near row (after_seal row.session); entries = Out to (session_datagram row.session s.moment body) (context_of row.session true) ∷ [] }).entries ≤ 1
    by true = omega arith
    by false = omega arith

few_bodies : (s : State) (near : ℕ) (to : AddressParts) (bodies : List (List ℕ)) → length (sent_bodies s near to bodies).entries ≤ length bodies
few_bodies s near to [] = omega arith
few_bodies s near to (body ∷ rest) =
    let first : Did = sent_whole s near to body (get s.sessions near) in
    omega (arith, one_whole s near to body (get s.sessions near), few_bodies first.state near to rest, length-append first.entries (sent_bodies first.state near to rest).entries)

stamp_at_most : (stamp : Option ℕ) → length (stamp_bytes stamp) ≤ 2
stamp_at_most None = omega arith
stamp_at_most (Some stamp) = omega arith

head_at_most : (head : PacketHead) → length (head_bytes head) ≤ 5
head_at_most head = omega (arith, stamp_at_most head.stamp, stamp_at_most head.echo, length-append (stamp_bytes head.stamp) (stamp_bytes head.echo))

-- ---- so many datagrams are enough for a packet

few_pieces : (s : State) (near : ℕ) (to : AddressParts) (row : Row) (pieces : List PieceParts) → length (sent_in_pieces s near to row pieces).entries ≤ length pieces
few_pieces s near to row pieces = by (has_counts row (length pieces))
  where
    bodies : List (List ℕ)
    bodies = map (piece_body (row.packets + 1)) pieces

    by : (b : Bool) → length (if b then then_do (nothing (with_row s near (record row { packets = row.packets + 1 }))) (λ t. sent_bodies t near to bodies) else nothing s).entries ≤ length pieces
    by true = omega (arith, few_bodies (with_row s near (record row { packets = row.packets + 1 })) near to bodies, length-map pieces (piece_body (row.packets + 1)))
    by false = omega arith

few_sent : (s : State) (near : ℕ) (to : AddressParts) (body : List ℕ) (row : Row) → length (sent_by s near to body (Some row)).entries ≤ datagrams_for (limit_of s) (length body)
few_sent s near to body row = by (is_long s row body) (nat_le (5 + length body) (limit_of s)) refl refl
  where
    plain : List ℕ
    plain = session_packet row.session s.moment body

    size : length plain ≤ 5 + length body
    size = omega (arith, length-append (packet_head row.session s.moment) body, head_at_most (head_at row.session s.moment))

    by : (long short : Bool) → is_long s row body ≡ long → nat_le (5 + length body) (limit_of s) ≡ short →
        length (if long then sent_in_pieces s near to row (pieces_for s plain) else sent_whole s near to body (Some row)).entries ≤ (if short then 1 else (5 + length body) / (limit_of s - 32) + 1)
    by false true is whole = one_whole s near to body (Some row)
    by false false is whole = omega (arith, one_whole s near to body (Some row))
    by true true is whole = absurd (omega (arith, ltb-true (limit_of s) (length plain) is, leb-true (5 + length body) (limit_of s) whole, size))
    by true false is whole =
        omega (
          arith,
          few_pieces s near to row (pieces_for s plain),
          few_stretches (suc (length plain)) 0 (limit_of s - 32) plain (omega arith),
          quotient_more (length plain) (5 + length body) (limit_of s - 32) (omega arith) size,
        )

pub few_home : (s : State) (near : ℕ) (body : List ℕ) → length (sent_home s near body).entries ≤ datagrams_for (limit_of s) (length body)
few_home s near body = by (get s.sessions near)
  where
    by : (o : Option Row) → length (sent_home_by s near body o).entries ≤ datagrams_for (limit_of s) (length body)
    by None = omega arith
    by (Some row) = few_sent s near row.session.address body row
