use Rattle.std.proofs.Common.{ℕ, ◌≡◌, Bool, true, false, if◌then◌else◌, Result, Ok, Err, sym, ap, ◌∙◌, arith}
use Rattle.rtmfp_packet.specs.declared.head.PacketHead.{PacketHead}
use Rattle.rtmfp_packet.specs.Whole.{Whole}
use Rattle.rtmfp_base.specs.declared.cause.Cause.{Cause}
use Rattle.rtmfp_base.specs.declared.cause.Cause.TheVariants.{BadPacket, WrongPlace}
use Rattle.endpoint_model.specs.Admission.{packet_in, has_mode, mode_at}
use Rattle.endpoint_model.proofs.Reading.{packet_reads}
use Rattle.end_loops.specs.Walks.{packet_at}
use Rattle.end_loops.proofs.Near.{few_if_short, near_if_short}
use Rattle.end_loops.proofs.admission.packet_at.Goals as goal

abbrev by_mode : Whole → Bool → Result Whole Cause
by_mode packet right = if right then Ok packet else Err WrongPlace

pub returns-then-has_mode-clause-ok : goal.returns-then-has_mode-clause-ok
returns-then-has_mode-clause-ok c =
    let read : packet_in c.args.plain.now ≡ Ok c.in-Ok.packet = c.in-Ok.ensures.only (packet_in c.args.plain.now) (packet_reads c.args.plain.now (λ i. omega (arith, c.type_inv.plain i))) in
    let mode : has_mode c.in-Ok.packet.head (mode_at c.args.end.now c.args.place) ≡ true =
    ap (λ (h : PacketHead). has_mode h (mode_at c.args.end.now c.args.place)) (sym c.head.ensures) ∙ ap (has_mode c.head.result.now) (sym c.mode_at.ensures) ∙ sym c.if-has_mode.ensures in
    ap (packet_at c.args.end.now c.args.place) read ∙ ap (by_mode c.in-Ok.packet) mode

pub returns-then-has_mode-clause-near : goal.returns-then-has_mode-clause-near
returns-then-has_mode-clause-near c = near_if_short c.in-Ok.packet c.args.plain.now c.in-Ok.ensures.reads c.requires

pub returns-then-has_mode-clause-few : goal.returns-then-has_mode-clause-few
returns-then-has_mode-clause-few c = few_if_short c.in-Ok.packet c.args.plain.now c.in-Ok.ensures.reads c.requires

pub returns-else-has_mode-clause-err : goal.returns-else-has_mode-clause-err
returns-else-has_mode-clause-err c =
    let read : packet_in c.args.plain.now ≡ Ok c.in-Ok.packet = c.in-Ok.ensures.only (packet_in c.args.plain.now) (packet_reads c.args.plain.now (λ i. omega (arith, c.type_inv.plain i))) in
    let mode : has_mode c.in-Ok.packet.head (mode_at c.args.end.now c.args.place) ≡ false =
    ap (λ (h : PacketHead). has_mode h (mode_at c.args.end.now c.args.place)) (sym c.head.ensures) ∙ ap (has_mode c.head.result.now) (sym c.mode_at.ensures) ∙ sym c.if-has_mode.ensures in
    ap (packet_at c.args.end.now c.args.place) read ∙ ap (by_mode c.in-Ok.packet) mode

pub returns-in-Err-clause-err : goal.returns-in-Err-clause-err
returns-in-Err-clause-err c =
    let read : packet_in c.args.plain.now ≡ Err c.in-Err.fault = c.in-Err.ensures.only (packet_in c.args.plain.now) (packet_reads c.args.plain.now (λ i. omega (arith, c.type_inv.plain i))) in
    let bad : ℕ → Result Whole Cause = λ n. Err (BadPacket n) in
    ap (packet_at c.args.end.now c.args.place) read ∙ ap bad (sym c.fault_number.ensures)
