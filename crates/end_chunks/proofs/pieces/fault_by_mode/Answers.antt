use Rattle.std.proofs.Common.{ℕ, ◌≡◌, Bool, true, false, not, Option, Some, Ok, Err, sym, ap, ◌∙◌, arith}
use Rattle.rtmfp_packet.specs.declared.head.PacketHead.{PacketHead}
use Rattle.rtmfp_base.specs.Reasons.{where_true}
use Rattle.rtmfp_base.specs.declared.cause.Cause.{Cause}
use Rattle.rtmfp_base.specs.declared.cause.Cause.TheVariants.{BadWhole}
use Rattle.endpoint_model.specs.Admission.{packet_in, has_mode}
use Rattle.endpoint_model.proofs.Reading.{packet_reads}
use Rattle.end_chunks.specs.Pieces.{fault_by_mode}
use Rattle.end_chunks.proofs.pieces.fault_by_mode.Goals as goal

abbrev by_mode : Bool → Option Cause
by_mode right = where_true (not right) (BadWhole 4)

pub returns-then-has_mode : goal.returns-then-has_mode
returns-then-has_mode c =
    let read : packet_in c.args.plain.now ≡ Ok c.in-Ok.packet = c.in-Ok.ensures.only (packet_in c.args.plain.now) (packet_reads c.args.plain.now (λ i. omega (arith, c.type_inv.plain i))) in
    let mode : has_mode c.in-Ok.packet.head c.args.mode ≡ true =
    ap (λ (h : PacketHead). has_mode h c.args.mode) (sym c.head.ensures) ∙ sym c.if-has_mode.ensures in
    sym (ap (fault_by_mode c.args.mode) read ∙ ap by_mode mode)

pub returns-else-has_mode : goal.returns-else-has_mode
returns-else-has_mode c =
    let read : packet_in c.args.plain.now ≡ Ok c.in-Ok.packet = c.in-Ok.ensures.only (packet_in c.args.plain.now) (packet_reads c.args.plain.now (λ i. omega (arith, c.type_inv.plain i))) in
    let mode : has_mode c.in-Ok.packet.head c.args.mode ≡ false =
    ap (λ (h : PacketHead). has_mode h c.args.mode) (sym c.head.ensures) ∙ sym c.if-has_mode.ensures in
    sym (ap (fault_by_mode c.args.mode) read ∙ ap by_mode mode)

pub returns-in-Err : goal.returns-in-Err
returns-in-Err c =
    let read : packet_in c.args.plain.now ≡ Err c.in-Err.fault = c.in-Err.ensures.only (packet_in c.args.plain.now) (packet_reads c.args.plain.now (λ i. omega (arith, c.type_inv.plain i))) in
    let bad : ℕ → Option Cause = λ n. Some (BadWhole n) in
    sym (ap (fault_by_mode c.args.mode) read ∙ ap bad (sym c.fault_number.ensures))
