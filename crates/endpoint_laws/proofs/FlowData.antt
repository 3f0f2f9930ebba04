-- Flow data in a packet is chunks that are no keyings.
use Prim.Native.Nat.{zero, suc}
use Rattle.std.proofs.Common.{◌≡◌, ℕ, ◌+◌, ◌-◌, ◌≤◌, List, [], ◌∷◌, ◌++◌, length, drop, Bool, true, false, nat_lt, if◌then◌else◌, Option, Some, None, IfSome, refl, sym, ap, subst, ◌∙◌, arith, append-nil, append_assoc, length-append}
use Rattle.std.proofs.lemmas.Bool.{ltb-false}
use Rattle.std.proofs.Math.Seq.{drop-append_seam}
use Rattle.rtmfp_vlu.specs.Vlu.{vlu}
use Rattle.rtmfp_forms.specs.Options.{OptionParts}
use Rattle.rtmfp_forms.specs.Outgoing.{packet_limit}
use Rattle.rtmfp_packet.specs.Spelling.{Chunk as Written}
use Rattle.rtmfp_data_chunks.specs.Runs.{Chunk}
use Rattle.rtmfp_data_chunks.specs.Chunk.{DataChunk, Data, Next}
use Rattle.rtmfp_data_chunks.specs.Writing.{payload_bytes, list_bytes, body_bytes, data_bytes}
use Rattle.rtmfp_data_chunks.specs.Spelling.{kind_of}
use Rattle.flow_send.specs.declared.outcome.NoChunk.{NoChunk}
use Rattle.flow_send.specs.declared.outcome.NoChunk.TheVariants as no_chunk
use Rattle.flow_send.specs.Choice.{Choice, chunk_for}
use Rattle.flow_send.specs.Flow.{Flow, options_length, data_length, user_data, chunk_options, if_room, chunk_refusal_of}
use Rattle.session_flows.specs.declared.pace.Pace.{Pace}
use Rattle.session_flows.specs.Packing.{pace_of, chosen, first_to_send, session_flight, is_first, follows, numbers_in, as_chunk, Packed, packed, packed_by, refused_of, flow_packed, Packing, packing, put_back, packed_of, packed_once, packs_on, packs}
use Rattle.endpoint_model.specs.declared.row.Row.{Row}
use Rattle.endpoint_model.specs.Sending.{packet_head}
use Rattle.endpoint_model.specs.FlowTimes.{data_body}
use Rattle.endpoint_laws.proofs.OutPackets.{IsModest, none_is_modest, joined_is_modest}

-- ---- one chunk

options_same : (options : Option (List OptionParts)) → options_length options ≡ length (list_bytes options)
options_same None = omega arith
options_same (Some options) = omega arith

body_length : (flow : ℕ) (options : Option (List OptionParts)) (c : Chunk) → length (body_bytes (user_data flow options c)) ≡ options_length options + length c.bytes
body_length flow options c = omega (arith, length-append (list_bytes options) c.bytes, options_same options)

-- the chunk as it is put into a packet
abbrev written : DataChunk → Written
written chunk = record { kind = kind_of chunk; payload = payload_bytes chunk }

data_short : (flow : ℕ) (options : Option (List OptionParts)) (c : Chunk) → length (payload_bytes (Data (user_data flow options c))) ≤ data_length flow options c
data_short flow options c =
    let body : List ℕ = body_bytes (user_data flow options c) in
    omega (
      arith,
      length-append (vlu flow) (vlu c.seq ++ (vlu (c.seq - c.forward) ++ body)),
      length-append (vlu c.seq) (vlu (c.seq - c.forward) ++ body),
      length-append (vlu (c.seq - c.forward)) body,
      body_length flow options c,
    )

next_short : (flow : ℕ) (options : Option (List OptionParts)) (c : Chunk) → length (payload_bytes (Next (user_data flow options c))) ≤ data_length flow options c
next_short flow options c = omega (arith, body_length flow options c)

-- such a chunk is no keying
data_plain : (b : Bool) (flow : ℕ) (options : Option (List OptionParts)) (c : Chunk) → data_length flow options c ≤ 1164 → IsModest (data_bytes (if b then Next (user_data flow options c) else Data (user_data flow options c)))
data_plain true flow options c fits =
    let chunk : DataChunk = Next (user_data flow options c) in
    record {
      chunks = written chunk ∷ [];
      is = sym (append-nil (data_bytes chunk));
      each = (record { kind = omega arith; size = omega (arith, next_short flow options c, fits); no_initiator = omega arith; no_responder = omega arith }, tt);
    }
data_plain false flow options c fits =
    let chunk : DataChunk = Data (user_data flow options c) in
    record {
      chunks = written chunk ∷ [];
      is = sym (append-nil (data_bytes chunk));
      each = (record { kind = omega arith; size = omega (arith, data_short flow options c, fits); no_initiator = omega arith; no_responder = omega arith }, tt);
    }

-- a chunk that isn't refused is no longer than a packet may be
room_of : (room size : ℕ) (b : Bool) → nat_lt room size ≡ b → (if b then Some no_chunk.Room else None) ≡ None → size ≤ room
room_of room size true e h = absurd (cc)
room_of room size false e h = ltb-false room size e

fits_in : (f : Flow) (first : Bool) (room flight window : ℕ) (o : Choice) (c : Chunk) (b : Bool) → (if b then Some no_chunk.Window else if_room room (data_length f.id (chunk_options f first) c)) ≡ None →
    data_length f.id (chunk_options f first) c ≤ room
fits_in f first room flight window o c true h = absurd (cc)
fits_in f first room flight window o c false h = room_of room (data_length f.id (chunk_options f first) c) (nat_lt room (data_length f.id (chunk_options f first) c)) refl h

-- ---- a packet

-- The packet is its front, and a body of such chunks.
record IsPut (front packet : List ℕ) : Type 0 where
  body : List ℕ
  is : packet ≡ front ++ body
  modest : IsModest body

put_more : (front packet bytes : List ℕ) → IsPut front packet → IsModest bytes → IsPut front (packet ++ bytes)
put_more front packet bytes put more = record {
  body = put.body ++ bytes;
  is = ap (λ (p : List ℕ). p ++ bytes) put.is ∙ append_assoc front put.body bytes;
  modest = joined_is_modest put.body bytes put.modest more;
}

-- one chunk more, where one goes
by_put : (front : List ℕ) (pace : Pace) (flight : ℕ) (p : Packed) → IsPut front p.packet → (refused : Option NoChunk) (c : Option Chunk) →
    chunk_refusal_of p.flow (is_first p.marks p.flow.id) (packet_limit - length p.packet) flight pace.window (chosen pace p.flow) c ≡ refused → IfSome (packed_by pace p refused c) (λ (q : Packed). IsPut front q.packet)
by_put front pace flight p put (Some refused) c e = tt
by_put front pace flight p put None None e = tt
by_put front pace flight p put None (Some c) e =
    let first : Bool = is_first p.marks p.flow.id in
    let options : Option (List OptionParts) = chunk_options p.flow first in
    let fits : data_length p.flow.id options c ≤ packet_limit - length p.packet = fits_in p.flow first (packet_limit - length p.packet) flight pace.window (chosen pace p.flow) c _ e in
    put_more front p.packet (data_bytes (as_chunk p.marks.before (user_data p.flow.id options c))) put
    (data_plain (follows p.marks.before (numbers_in (user_data p.flow.id options c))) p.flow.id options c (omega (arith, fits)))

back_put : (front : List ℕ) (sending : List Flow) (o : Option Packed) → IfSome o (λ (q : Packed). IsPut front q.packet) → IfSome (put_back sending o) (λ (q : Packing). IsPut front q.packet)
back_put front sending None put = tt
back_put front sending (Some q) put = put

of_put : (front : List ℕ) (pace : Pace) (p : Packing) → IsPut front p.packet → (o : Option Flow) → IfSome (packed_of pace p o) (λ (q : Packing). IsPut front q.packet)
of_put front pace p put None = tt
of_put front pace p put (Some f) =
    let x : Packed = packed f p.packet p.marks in
    back_put front p.sending (flow_packed pace (session_flight p.sending) x) (by_put front pace (session_flight p.sending) x put (refused_of pace (session_flight p.sending) x) (chunk_for f.sender (chosen pace f)) refl)

on_put : (front : List ℕ) (later : Packing → Packing) (p : Packing) → ((q : Packing) → IsPut front q.packet → IsPut front (later q).packet) → IsPut front p.packet →
    (o : Option Packing) → IfSome o (λ (q : Packing). IsPut front q.packet) → IsPut front (packs_on later p o).packet
on_put front later p more put None one = put
on_put front later p more put (Some q) one = more q one

packs_put : (front : List ℕ) (pace : Pace) (count : ℕ) (p : Packing) → IsPut front p.packet → IsPut front (packs pace count p).packet
unfolding packs
packs_put front pace zero p put = put
packs_put front pace (suc count) p put = on_put front (packs pace count) p (packs_put front pace count) put (packed_once pace p) (of_put front pace p put (first_to_send pace p.sending))

-- ---- the flow data of a session

pub data_is_modest : (row : Row) (moment : ℕ) → IsModest (data_body row moment)
data_is_modest row moment =
    let front : List ℕ = packet_head row.session moment in
    let put : IsPut front (packs (pace_of row.session moment) 1165 (packing row.flows.sending front)).packet =
    packs_put front (pace_of row.session moment) 1165 (packing row.flows.sending front) (record { body = []; is = sym (append-nil front); modest = none_is_modest }) in
    subst IsModest (sym (ap (λ (l : List ℕ). drop (length front) l) put.is ∙ drop-append_seam front put.body)) put.modest
