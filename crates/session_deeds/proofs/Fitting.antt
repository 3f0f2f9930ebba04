-- A packet is read as it was put.
use Rattle.std.proofs.Common.{◌≡◌, ℕ, List, [], ◌++◌, Result, Ok, length, sym, ap, ◌∙◌, arith}
use Rattle.std.proofs.Common.{append-nil, length-append}
use Rattle.std.specs.List.{flat_map}
use Rattle.rtmfp_packet.specs.Reading.{Reads}
use Rattle.rtmfp_packet.specs.Spelling.{chunk_bytes}
use Rattle.rtmfp_packet.specs.Walk.{all_placed_from, visible}
use Rattle.rtmfp_packet.specs.Whole.{Whole}
use Rattle.rtmfp_packet.proofs.Readings.{packet_reading_same}
use Rattle.session_deeds.specs.Pieces.{pieces_of}
use Rattle.session_deeds.specs.Laws.{WhatIsPutIsRead}

ok_is : {A E : Type 0} {x y : A} → ◌≡◌ {A = Result A E} (Ok x) (Ok y) → x ≡ y
ok_is e = cc

pub what_is_put_is_read : WhatIsPutIsRead
what_is_put_is_read head front packet pieces whole spells put reads =
    let made : Whole =
    record { head = head; start = length front; chunks = put.chunks; padding = [] } in
    let bytes : List ℕ = flat_map chunk_bytes put.chunks in
    let is : Reads made packet = record {
      spells = record {
        front = front;
        head_spelled = spells;
        each = put.each;
        is_padding = tt;
        joined = put.whole ∙ sym (append-nil (front ++ bytes));
      };
      start = omega (
        arith,
        ap length put.whole,
        length-append front bytes,
        ap length (append-nil bytes),
      );
    } in
    let same : Ok whole ≡ Ok made = packet_reading_same packet (Ok whole) (Ok made) reads is in
    ap (λ (w : Whole). pieces_of (visible (all_placed_from w.start w.chunks))) (ok_is same)
    ∙ put.read (length front)
