use Rattle.std.proofs.Common.{◌∙◌, ◌≡◌, ◌+◌, ◌*◌, ◌/◌, length, subst, arith}
use Rattle.std.proofs.lemmas.List.Edits.{length-between}
use Rattle.rtmfp_show.proofs.Pieces.{IsReadTo, read_more, piece_refused, rest_reads}
use Rattle.rtmfp_show.proofs.digits.decode.Goals as goal

pub returns-then-not-decode_piece : goal.returns-then-not-decode_piece
returns-then-not-decode_piece c =
    piece_refused c.loop-piece.piece c.args.digits.now c.loop-piece.bytes c.decode_piece.new.bytes _ c.decode_piece.result
    (omega (arith, c.loop-piece-test.true)) c.loop-piece.invariant c.decode_piece.ensures c.if-not-decode_piece.true

pub loop-piece-preserved : goal.loop-piece-preserved
loop-piece-preserved c =
    let at = c.loop-piece.piece in
    let bytes = c.loop-piece.bytes in
    let wide = length-between bytes (at * 16) ((at + 1) * 16) (omega (arith, c.loop-piece-test.true, c.loop-piece.auto.bytes, c.requires)) in
    read_more at c.args.digits.now bytes c.decode_piece.new.bytes c.decode_piece.result
    (omega (arith, c.loop-piece-test.true)) (omega (arith, c.loop-piece-test.true, c.loop-piece.auto.bytes, c.requires)) (c.decode_piece.auto.bytes ∙ wide ∙ (omega arith))
    c.loop-piece.invariant c.decode_piece.ensures c.if-not-decode_piece.false

pub returns : goal.returns
returns c =
    let digits = c.args.digits.now in
    let bytes = c.loop-piece.bytes in
    let all : c.loop-piece.piece ≡ length digits / 32 = omega (arith, c.loop-piece-test.false, c.loop-piece.auto.piece-end) in
    rest_reads (length digits / 32) digits bytes c.decode_to_slice.new.out c.decode_to_slice.result c.is_ok.result
    (c.loop-piece.auto.bytes ∙ c.requires) (omega arith) (subst (λ piece. IsReadTo piece digits bytes) all c.loop-piece.invariant)
    c.decode_to_slice.ensures.value c.is_ok.ensures.value
