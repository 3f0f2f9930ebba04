use Rattle.std.proofs.Common.{ap, ◌∙◌}
use Rattle.rtmfp_chunks.specs.Chunk.{chunk_of}
use Rattle.rtmfp_chunks.specs.Writing.{chunk_bytes}
use Rattle.session_core.specs.Session.{SessionState}
use Rattle.endpoint_model.specs.declared.row.Row.{Row}
use Rattle.session_table.specs.Table.{packed_in}
use Rattle.endpoint_model.specs.Sending.{session_packet}
use Rattle.session_table.proofs.Changing.{packing_keeps}
use Rattle.session_table.proofs.Taken.{row_loose, row_changed, packed_is, packed_none, same_rows}
use Rattle.session_table.proofs.table.SessionTable.seal.Goals as goal

pub settle-requires : goal.settle-requires
settle-requires c = row_loose c.args.self.now c.self.inside.kept.rows _ c.args.near c.in-Some.slot c.index_mut.result.now c.self.view_is c.self.invariant c.in-Some.ensures.found c.index_mut.ensures.value _
    (ap (λ (s : SessionState). s.joined.near) c.pack_chunk-packed.ensures.session ∙ packing_keeps c.args.limit (session_packet c.index_mut.result.now.session c.args.moment (chunk_bytes (chunk_of c.args.chunk.now))) c.index_mut.result.now.session)

pub returns-in-Some-clause-answer : goal.returns-in-Some-clause-answer
returns-in-Some-clause-answer c = packed_is c.args.self.now c.self.inside.kept.rows _ c.args.near c.in-Some.slot c.index_mut.result.now c.self.view_is c.self.invariant c.in-Some.ensures.found c.index_mut.ensures.value c.args.limit c.args.moment (λ (row : Row). chunk_bytes (chunk_of c.args.chunk.now)) c.pack_chunk-packed.result c.pack_chunk-packed.ensures.answer

pub returns-in-Some-clause-rows : goal.returns-in-Some-clause-rows
returns-in-Some-clause-rows c = c.settle.ensures.table ∙ row_changed c.args.self.now c.self.inside.kept.rows _ c.args.near c.in-Some.slot c.index_mut.result.now c.self.view_is c.self.invariant c.in-Some.ensures.found c.index_mut.ensures.value (packed_in c.args.limit c.args.moment (λ (row : Row). chunk_bytes (chunk_of c.args.chunk.now))) _
    (ap (λ (s : SessionState). record c.index_mut.result.now { session = s }) c.pack_chunk-packed.ensures.session)
    (ap (λ (s : SessionState). s.joined.near) c.pack_chunk-packed.ensures.session ∙ packing_keeps c.args.limit (session_packet c.index_mut.result.now.session c.args.moment (chunk_bytes (chunk_of c.args.chunk.now))) c.index_mut.result.now.session)

pub returns-in-None-clause-answer : goal.returns-in-None-clause-answer
returns-in-None-clause-answer c = packed_none c.args.self.now c.self.inside.kept.rows _ c.args.near c.self.view_is c.self.invariant c.in-None.ensures.found c.args.limit c.args.moment (λ (row : Row). chunk_bytes (chunk_of c.args.chunk.now))

pub returns-in-None-clause-rows : goal.returns-in-None-clause-rows
returns-in-None-clause-rows c = same_rows c.args.self.now c.self.inside.kept.rows _ c.args.near c.self.view_is c.self.invariant c.in-None.ensures.found (packed_in c.args.limit c.args.moment (λ (row : Row). chunk_bytes (chunk_of c.args.chunk.now)))
