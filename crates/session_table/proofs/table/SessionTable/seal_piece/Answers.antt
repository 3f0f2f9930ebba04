use Rattle.std.proofs.Common.{sym, ap, ◌∙◌}
use Rattle.rtmfp_fragments.specs.Pieces.{piece_parts}
use Rattle.session_core.specs.Session.{SessionState}
use Rattle.session_core.specs.Sealed.{after_seal}
use Rattle.endpoint_model.specs.Sending.{piece_body}
use Rattle.session_table.specs.Table.{of_session, sealed_by}
use Rattle.session_table.proofs.Changing.{sealing_keeps}
use Rattle.session_table.proofs.Taken.{row_loose, row_changed, told_is, told_none, same_rows}
use Rattle.session_table.proofs.table.SessionTable.seal_piece.Goals as goal

pub settle-requires : goal.settle-requires
settle-requires c = row_loose c.args.self.now c.self.inside.kept.rows _ c.args.near c.in-Some.slot c.index_mut.result.now c.self.view_is c.self.invariant c.in-Some.ensures.found c.index_mut.ensures.value _
    (ap (λ (s : SessionState). s.joined.near) c.seal_piece_in-sealed.ensures.session ∙ sealing_keeps c.index_mut.result.now.session)

pub returns-in-Some-clause-answer : goal.returns-in-Some-clause-answer
returns-in-Some-clause-answer c = c.seal_piece_in-sealed.ensures.answer ∙ sym (told_is c.args.self.now c.self.inside.kept.rows _ c.args.near c.in-Some.slot c.index_mut.result.now c.self.view_is c.self.invariant c.in-Some.ensures.found c.index_mut.ensures.value (sealed_by c.args.moment (piece_body c.args.id (piece_parts c.args.piece.now))))

pub returns-in-Some-clause-rows : goal.returns-in-Some-clause-rows
returns-in-Some-clause-rows c = c.settle.ensures.table ∙ row_changed c.args.self.now c.self.inside.kept.rows _ c.args.near c.in-Some.slot c.index_mut.result.now c.self.view_is c.self.invariant c.in-Some.ensures.found c.index_mut.ensures.value (of_session after_seal) _
    (ap (λ (s : SessionState). record c.index_mut.result.now { session = s }) c.seal_piece_in-sealed.ensures.session)
    (ap (λ (s : SessionState). s.joined.near) c.seal_piece_in-sealed.ensures.session ∙ sealing_keeps c.index_mut.result.now.session)

pub returns-in-None-clause-answer : goal.returns-in-None-clause-answer
returns-in-None-clause-answer c = sym (told_none c.args.self.now c.self.inside.kept.rows _ c.args.near c.self.view_is c.self.invariant c.in-None.ensures.found (sealed_by c.args.moment (piece_body c.args.id (piece_parts c.args.piece.now))))

pub returns-in-None-clause-rows : goal.returns-in-None-clause-rows
returns-in-None-clause-rows c = same_rows c.args.self.now c.self.inside.kept.rows _ c.args.near c.self.view_is c.self.invariant c.in-None.ensures.found (of_session after_seal)
