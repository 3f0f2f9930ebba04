use Rattle.std.proofs.Common.{sym, ap, ◌∙◌, arith}
use Rattle.endpoint_model.specs.Admission.{packet_in}
use Rattle.endpoint.specs.Kinds.{kinds_of, kinds_read}
use Rattle.endpoint_model.proofs.Reading.{packet_reads}
use Rattle.endpoint.proofs.kinds.outgoing_kinds.Goals as goal

pub returns-in-Ok-clause-value : goal.returns-in-Ok-clause-value
returns-in-Ok-clause-value c =
    ap kinds_of c.chunks.ensures
    ∙ sym (ap kinds_read (c.in-Ok.ensures.only (packet_in c.args.plain.now) (packet_reads c.args.plain.now (λ i. omega (arith, c.type_inv.plain i)))))

pub returns-in-Err-clause-value : goal.returns-in-Err-clause-value
returns-in-Err-clause-value c =
    sym (ap kinds_read (c.in-Err.ensures.only (packet_in c.args.plain.now) (packet_reads c.args.plain.now (λ i. omega (arith, c.type_inv.plain i)))))
