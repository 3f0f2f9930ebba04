use Rattle.std.proofs.Common.{refl, arith}
use Rattle.rtmfp_chunks.specs.Chunk.{chunk_of}
use Rattle.rtmfp_chunks.proofs.ReadingLaws.{found_reads, fault_reads, none_reads}
use Rattle.rtmfp_chunks.proofs.reading.read_kind.Goals as goal

pub overflow_sub-result : goal.overflow_sub-result
overflow_sub-result c = (fault_reads c.args.kind c.args.payload.now c.in-Some-Err.left (λ i. omega (arith, c.type_inv.payload i)) (rw c.in-Some-Err.field-0-is at c.in-Some-Err.ensures)).0

pub returns-in-Some-Ok : goal.returns-in-Some-Ok
returns-in-Some-Ok c = found_reads c.args.kind c.args.payload.now (chunk_of c.in-Some-Ok.view) (λ i. omega (arith, c.type_inv.payload i)) (rw c.in-Some-Ok.field-0-is at c.in-Some-Ok.ensures)

pub returns-in-Some-Err : goal.returns-in-Some-Err
returns-in-Some-Err c = (fault_reads c.args.kind c.args.payload.now c.in-Some-Err.left (λ i. omega (arith, c.type_inv.payload i)) (rw c.in-Some-Err.field-0-is at c.in-Some-Err.ensures)).1

pub returns-in-None : goal.returns-in-None
returns-in-None c = (refl, none_reads c.args.kind c.args.payload.now c.in-None.ensures)
