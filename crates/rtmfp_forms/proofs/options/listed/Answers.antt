use Rattle.std.proofs.Common.{Some, None, arith}
use Rattle.std.proofs.lemmas.Result.{err_from_is_err_and}
use Rattle.rtmfp_forms.specs.OptionReading.{option_parts, piece_then}
use Rattle.rtmfp_forms.proofs.Lists.{walked_fault, walked_on, walked_end, shown_piece}
use Rattle.rtmfp_forms.proofs.options.listed.Goals as goal

pub returns-in_err-after : goal.returns-in_err-after
returns-in_err-after c =
    let p = err_from_is_err_and c.from_residual.result c.from_residual.ensures.1 in
    rw (p.1, p.2) (walked_fault c.args.bytes.now c.loop-after.rest.now c.in_err-after.field-0.0 (λ i. omega (arith, c.type_inv.bytes i)) c.loop-after.invariant c.in_err-after.ensures)

pub loop-after-smaller : goal.loop-after-smaller
loop-after-smaller c =
    let ok = c.in_ok-after in
    let read = shown_piece c.piece.result (piece_then c.loop-after.rest.now) ok.field-0.0 (Some c.in-Some-default.field-0-0) ok.field-0.1 c.piece.ensures ok.was c.in-Some-default.is-0 in
    (walked_on c.args.bytes.now c.loop-after.rest.now (option_parts c.in-Some-default.field-0-0) ok.field-0.1.now (λ i. omega (arith, c.type_inv.bytes i)) c.loop-after.invariant read).1

pub loop-after-preserved : goal.loop-after-preserved
loop-after-preserved c =
    let ok = c.in_ok-after in
    let read = shown_piece c.piece.result (piece_then c.loop-after.rest.now) ok.field-0.0 (Some c.in-Some-default.field-0-0) ok.field-0.1 c.piece.ensures ok.was c.in-Some-default.is-0 in
    (walked_on c.args.bytes.now c.loop-after.rest.now (option_parts c.in-Some-default.field-0-0) ok.field-0.1.now (λ i. omega (arith, c.type_inv.bytes i)) c.loop-after.invariant read).0

pub overflow_sub-used : goal.overflow_sub-used
overflow_sub-used c =
    let ok = c.in_ok-after in
    let read = shown_piece c.piece.result (piece_then c.loop-after.rest.now) ok.field-0.0 None ok.field-0.1 c.piece.ensures ok.was c.in-None-default.is-0 in
    (walked_end c.args.bytes.now c.loop-after.rest.now ok.field-0.1.now (λ i. omega (arith, c.type_inv.bytes i)) c.loop-after.invariant read).within

pub invariant_of-result : goal.invariant_of-result
invariant_of-result c =
    let ok = c.in_ok-after in
    let read = shown_piece c.piece.result (piece_then c.loop-after.rest.now) ok.field-0.0 None ok.field-0.1 c.piece.ensures ok.was c.in-None-default.is-0 in
    (walked_end c.args.bytes.now c.loop-after.rest.now ok.field-0.1.now (λ i. omega (arith, c.type_inv.bytes i)) c.loop-after.invariant read).spells

pub returns-in-None-default : goal.returns-in-None-default
returns-in-None-default c = (omega arith, invariant_of-result c)
