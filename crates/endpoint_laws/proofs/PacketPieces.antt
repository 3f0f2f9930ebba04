-- How a packet of a session goes out in pieces: what a law has to say of it where a piece is a datagram like any other, and that no piece is a keying. A short packet goes out whole.
use Rattle.std.proofs.Common.{◌≡◌, ℕ, zero, suc, ◌+◌, ◌-◌, ◌^◌, ◌<◌, ◌≤◌, ◌==◌, ◌&&◌, List, [], ◌∷◌, ◌++◌, length, map, take, drop, Bool, true, false, nat_le, nat_lt, if◌then◌else◌, Option, Some, None, refl, ap, arith, length-append}
use Rattle.std.specs.Prelude.{max, min}
use Rattle.std.specs.FinMap.{get}
use Rattle.std.specs.List.{AllByRecursion}
use Rattle.std.proofs.Math.Nat.{le-max_left, min-le_left}
use Rattle.std.proofs.lemmas.List.{length-take-le}
use Rattle.std.proofs.lemmas.Bool.Decides.{nat_tests}
use Rattle.rtmfp_forms.specs.Address.{AddressParts}
use Rattle.rtmfp_vlu.specs.Vlu.{vlu}
use Rattle.rtmfp_vlu.proofs.Fields.{length-vlu_within}
use Rattle.rtmfp_packet.specs.declared.head.PacketHead.{PacketHead}
use Rattle.rtmfp_packet.specs.Head.{head_bytes, stamp_bytes}
use Rattle.rtmfp_chunks.specs.Chunk.{Fragment}
use Rattle.rtmfp_fragments.specs.Pieces.{PieceParts, piece, stretches}
use Rattle.crypto_profile.specs.Keys.{Keys}
use Rattle.crypto_profile.specs.declared.keys.Context.TheVariants.{Startup as StartupContext}
use Rattle.session_core.specs.Session.{context_of, head_at}
use Rattle.session_core.specs.Sealed.{after_seal}
use Rattle.endpoint_model.specs.declared.row.Row.{Row}
use Rattle.endpoint_model.specs.declared.entry.Entry.TheVariants.{Out}
use Rattle.endpoint_model.specs.State.{State, Did, nothing, with_row, with_sealed, with_session, longest_packet}
use Rattle.endpoint_model.specs.Sending.{last_count, startup_datagram, packet_head, session_packet, session_datagram, sent_whole, sent_bodies, sent_in_pieces, sent_by, piece_body, has_counts, is_long, limit_of}
use Rattle.endpoint_laws.proofs.Hearing.{descends_same}
use Rattle.endpoint_laws.proofs.OutPackets.{IsModest, one_is_modest}
use Rattle.endpoint_laws.proofs.Small.{GoesOn, Sends, Any, its_pieces, in_pieces}
use Rattle.endpoint_laws.proofs.Walks.{Steps}

-- ---- where a piece is a datagram like any other

-- Of nothing, of one thing after another, of a datagram with whatever body, and of a session that
-- counts one packet more.
pub record Packets (P : State → Did → Type 0) : Type 0 where
  pub steps : Steps P
  pub out : (s : State) (generation : ℕ) (keys : Keys) (to : AddressParts) (sid : ℕ) (plain : List ℕ) →
      P s (record { state = with_sealed s (s.sealed + 1); entries = Out to (startup_datagram s keys sid plain) (StartupContext generation) ∷ [] })
  pub out_in : (s : State) (near : ℕ) (row : Row) (to : AddressParts) (body : List ℕ) → get s.sessions near ≡ Some row →
      P s (record { state = with_session s near row (after_seal row.session); entries = Out to (session_datagram row.session s.moment body) (context_of row.session true) ∷ [] })
  pub packets : (s : State) (near : ℕ) (row : Row) → get s.sessions near ≡ Some row → P s (nothing (with_row s near (record row { packets = row.packets + 1 })))

-- a session that counts one packet more goes on
pub one_packet : (row : Row) → GoesOn row (record row { packets = row.packets + 1 })
one_packet row = record { descends = descends_same row.session; flows = refl; pieces = refl; packets = omega arith }

module _ {P : State → Did → Type 0} (l : Packets P) where
  one_made : (s : State) (near : ℕ) (to : AddressParts) (body : List ℕ) (o : Option Row) → get s.sessions near ≡ o → P s (sent_whole s near to body o)
  one_made s near to body None is = l.steps.does_nothing s
  one_made s near to body (Some row) is = by (row.session.sealed == last_count)
    where
      by : (b : Bool) → P s (if b then nothing s else record { state = with_session s near row (after_seal row.session); entries = Out to (session_datagram row.session s.moment body) (context_of row.session true) ∷ [] })
      by true = l.steps.does_nothing s
      by false = l.out_in s near row to body is

  bodies_made : (near : ℕ) (to : AddressParts) (bodies : List (List ℕ)) (s : State) → P s (sent_bodies s near to bodies)
  bodies_made near to [] s = l.steps.does_nothing s
  bodies_made near to (body ∷ rest) s =
      let d : Did = sent_whole s near to body (get s.sessions near) in
      l.steps.and_then s d (sent_bodies d.state near to rest) (one_made s near to body (get s.sessions near) refl) (bodies_made near to rest d.state)

  pub pieces_made : (s : State) (near : ℕ) (row : Row) (to : AddressParts) (body : List ℕ) → get s.sessions near ≡ Some row → P s (in_pieces s near row to body)
  pieces_made s near row to body is =
      let t : State = with_row s near (record row { packets = row.packets + 1 }) in
      let bodies : List (List ℕ) = map (piece_body (row.packets + 1)) (its_pieces s row body) in
      l.steps.and_then s (nothing t) (sent_bodies t near to bodies) (l.packets s near row is) (bodies_made near to bodies t)

-- so a law is one of all that is sent
pub any_sends : {P : State → Did → Type 0} → Packets P → Sends Any P
any_sends l = record {
  steps = l.steps;
  out = l.out;
  out_in = λ s near row to body is carries. l.out_in s near row to body is;
  parts = λ s near row to body is carries long has. pieces_made l s near row to body is;
}

-- ---- no piece is a keying

piece_is_modest : (id number : ℕ) (more : Bool) (bytes : List ℕ) → id < 2 ^ 64 → number < 2 ^ 64 → length bytes ≤ 1132 → IsModest (piece_body id (piece number more bytes))
piece_is_modest id number more bytes named numbered short =
    let a = length-vlu_within id named in
    let b = length-vlu_within number numbered in
    one_is_modest (Fragment more id number bytes)
    (omega (arith, a.1, b.1, short, length-append (vlu number) bytes, length-append (vlu id) (vlu number ++ bytes))) (omega arith) (omega arith)

abbrev AreModest : ℕ → List PieceParts → Type 0
AreModest id pieces = AllByRecursion IsModest (map (piece_body id) pieces)

stretches_are_modest : (id size : ℕ) → id < 2 ^ 64 → size ≤ 1132 → (most number : ℕ) (bytes : List ℕ) → number + length (stretches most number size bytes) < 2 ^ 64 → AreModest id (stretches most number size bytes)
stretches_are_modest id size named short zero number bytes few = tt
stretches_are_modest id size named short (suc most) number bytes few =
    by (nat_le (length bytes) size) refl few (λ less. stretches_are_modest id size named short most (number + 1) (drop size bytes) less)
  where
    later : List PieceParts
    later = stretches most (number + 1) size (drop size bytes)

    by : (b : Bool) → nat_le (length bytes) size ≡ b →
        number + length (if b then piece number false bytes ∷ [] else piece number true (take size bytes) ∷ later) < 2 ^ 64 →
        ((number + 1) + length later < 2 ^ 64 → AreModest id later) →
        AreModest id (if b then piece number false bytes ∷ [] else piece number true (take size bytes) ∷ later)
    by true fits few rest = (piece_is_modest id number false bytes named (omega (arith, few)) (grind (arith, nat_tests)), tt)
    by false fits few rest =
        let long : size ≤ length bytes = grind (arith, nat_tests) in (
          piece_is_modest id number true (take size bytes) named (omega (arith, few)) (omega (arith, short, length-take-le size bytes long)),
          rest (omega (arith, few)),
        )

least_limit : (s : State) → 96 ≤ limit_of s
least_limit s = at_least (max 96 s.limit) (le-max_left 96 s.limit)
  where
    at_least : (m : ℕ) → 96 ≤ m → 96 ≤ min longest_packet m
    at_least m up = grind (arith, nat_tests)

counts_both : (a b : Bool) → (a && b) ≡ true → (a ≡ true) × (b ≡ true)
counts_both true true e = (refl, refl)
counts_both true false e = absurd cc
counts_both false b e = absurd cc

-- where there is an ID and a count for each of them
pub pieces_are_modest : (s : State) (row : Row) (body : List ℕ) → has_counts row (length (its_pieces s row body)) ≡ true → AllByRecursion IsModest (map (piece_body (row.packets + 1)) (its_pieces s row body))
pieces_are_modest s row body has =
    let packet : List ℕ = session_packet row.session s.moment body in
    let size : ℕ = limit_of s - 32 in
    let both = counts_both (nat_lt row.packets last_count) (nat_le (row.session.sealed + length (its_pieces s row body)) last_count) has in
    let named : row.packets < last_count = grind (arith, nat_tests) in
    let counted : row.session.sealed + length (its_pieces s row body) ≤ last_count = grind (arith, nat_tests) in
    stretches_are_modest (row.packets + 1) size (omega (arith, named)) (omega (arith, min-le_left longest_packet (max 96 s.limit))) (suc (length packet)) 0 packet (omega (arith, counted))

-- ---- a short packet goes out whole

stamp_few : (stamp : Option ℕ) → length (stamp_bytes stamp) ≤ 2
stamp_few None = omega arith
stamp_few (Some stamp) = omega arith

pub head_few : (head : PacketHead) → length (head_bytes head) ≤ 5
head_few head =
    omega (
      arith,
      stamp_few head.stamp,
      stamp_few head.echo,
      length-append (stamp_bytes head.stamp) (stamp_bytes head.echo),
    )

pub short_goes_whole : (s : State) (near : ℕ) (to : AddressParts) (body : List ℕ) (row : Row) → length body ≤ 91 → sent_by s near to body (Some row) ≡ sent_whole s near to body (Some row)
short_goes_whole s near to body row short =
    ap (λ (b : Bool). if b then sent_in_pieces s near to row (its_pieces s row body) else sent_whole s near to body (Some row)) fits
  where
    few : length (session_packet row.session s.moment body) ≤ 96
    few = omega (arith, short, head_few (head_at row.session s.moment), length-append (packet_head row.session s.moment) body)

    fits : is_long s row body ≡ false
    fits = let least = least_limit s in grind (arith, nat_tests)
