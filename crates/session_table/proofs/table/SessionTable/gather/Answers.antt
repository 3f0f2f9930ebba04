use Rattle.std.proofs.Common.{List, Bool, Option, refl, sym, ap, ◌∙◌}
use Rattle.rtmfp_fragments.specs.Held.{PacketParts}
use Rattle.rtmfp_fragments.specs.Pieces.{piece_parts}
use Rattle.endpoint_model.specs.declared.row.Row.{Row}
use Rattle.endpoint_model.specs.Gathering.{gathered_more, holds_it, whole_by}
use Rattle.session_table.proofs.Called.{there, ok_on, ok_if}
use Rattle.session_table.proofs.Taken.{row_loose, row_changed, told_is, same_rows, told_none}
use Rattle.session_table.proofs.Staying.{on_err, row_stays}
use Rattle.session_table.proofs.Gathered.{not_refused, held_is, given_is}
use Rattle.session_table.proofs.table.SessionTable.gather.Goals as goal

pub returns-in_default-clause-rows : goal.returns-in_default-clause-rows
returns-in_default-clause-rows c = same_rows c.args.self.now c.self.inside.kept.rows _ c.args.near c.self.view_is c.self.invariant c.in_default.ensures.found (gathered_more c.args.moment c.args.id (piece_parts c.args.piece.now))

pub returns-in_default-clause-given : goal.returns-in_default-clause-given
returns-in_default-clause-given c = sym (told_none c.args.self.now c.self.inside.kept.rows _ c.args.near c.self.view_is c.self.invariant c.in_default.ensures.found (λ (o : Option Row). whole_by c.args.moment o c.args.id (piece_parts c.args.piece.now)))

pub gather-gathered-requires : goal.gather-gathered-requires
gather-gathered-requires c =
    not_refused c.args.moment c.args.id (piece_parts c.args.piece.now) c.index_mut.result.now _
    (there c.args.self.now c.self.inside.kept.rows _ c.args.near c.in-Some.slot c.index_mut.result.now c.self.view_is c.self.invariant c.in-Some.ensures.found c.index_mut.ensures.value) c.requires

pub settle-requires : goal.settle-requires
settle-requires c = row_loose c.args.self.now c.self.inside.kept.rows _ c.args.near c.in-Some.slot c.index_mut.result.now c.self.view_is c.self.invariant c.in-Some.ensures.found c.index_mut.ensures.value _ refl

pub returns-clause-rows : goal.returns-clause-rows
returns-clause-rows c =
    let old = c.index_mut.result.now in
    let x = piece_parts c.args.piece.now in
    ok_on c.gather-gathered.result c.gather-gathered.ensures.ok (λ g is.
    c.settle.ensures.table
    ∙ row_changed c.args.self.now c.self.inside.kept.rows _ c.args.near c.in-Some.slot old c.self.view_is c.self.invariant c.in-Some.ensures.found c.index_mut.ensures.value (gathered_more c.args.moment c.args.id x) _
    (ap (λ (packets : List PacketParts). record old { gathering = packets }) (held_is old.gathering _ c.args.id c.args.moment x g is)) refl)

pub returns-clause-given : goal.returns-clause-given
returns-clause-given c =
    let old = c.index_mut.result.now in
    let x = piece_parts c.args.piece.now in
    ok_if c.gather-gathered.result c.gather-gathered.ensures.ok (λ g is.
    given_is old.gathering _ c.args.id c.args.moment x g is
    ∙ sym (told_is c.args.self.now c.self.inside.kept.rows _ c.args.near c.in-Some.slot old c.self.view_is c.self.invariant c.in-Some.ensures.found c.index_mut.ensures.value (λ (o : Option Row). whole_by c.args.moment o c.args.id x)))

pub returns-clause-err : goal.returns-clause-err
returns-clause-err c = on_err c.gather-gathered.result c.gather-gathered.ensures.err (λ same. c.settle.ensures.table
    ∙ row_stays c.args.self.now c.self.inside.kept.rows _ c.in-Some.slot c.index_mut.result.now c.self.view_is c.index_mut.ensures.value _
    (ap (λ (packets : List PacketParts). record c.index_mut.result.now { gathering = packets }) same))

pub returns-clause-is_new : goal.returns-clause-is_new
returns-clause-is_new c =
    let held : Option Row → Bool = λ o. holds_it c.args.moment o c.args.id (piece_parts c.args.piece.now) in
    on_err c.gather-gathered.result c.gather-gathered.ensures.is_new (λ new.
    told_is c.args.self.now c.self.inside.kept.rows _ c.args.near c.in-Some.slot c.index_mut.result.now c.self.view_is c.self.invariant c.in-Some.ensures.found c.index_mut.ensures.value held ∙ new)
