use Rattle.std.proofs.Common.{sym, ap, ◌∙◌, Some, true≢false}
use Rattle.rtmfp_show.proofs.Pieces.{accepted, refused, decodes, uuid_reads, nothing_parsed}
use Rattle.rtmfp_show.proofs.digits.decode_piece.Goals as goal

pub returns-in-Ok : goal.returns-in-Ok
returns-in-Ok c =
    accepted _ _ (decodes c.args.digits.now ∙ sym (uuid_reads c.args.digits.now c.requires.digits) ∙ sym (c.in-Ok.ensures.bytes) ∙ ap Some (sym (c.copy_from_slice.ensures.after ∙ c.as_bytes.ensures)))

pub returns-in-Err : goal.returns-in-Err
returns-in-Err c =
    refused _ _ (decodes c.args.digits.now ∙ sym (uuid_reads c.args.digits.now c.requires.digits) ∙ nothing_parsed _ (λ u e. true≢false (sym (c.in-Err.ensures.ok.1 (u, e)))))
