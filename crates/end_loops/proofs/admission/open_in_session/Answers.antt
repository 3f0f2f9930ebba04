use Rattle.std.proofs.Common.{◌≡◌, None, Some, Err, sym, ap, ◌∙◌}
use Rattle.std.specs.FinMap.{get}
use Rattle.session_core.specs.declared.hearing.Unheard.TheVariants.{Short as ShortPart, BadTag as WrongTag, Repeated as OldNumber}
use Rattle.session_core.specs.Hearing.{unheard}
use Rattle.endpoint_model.specs.State.{State}
use Rattle.endpoint_model.specs.Admission.{heard_by, heard_in}
use Rattle.end_loops.proofs.Opening.{heard_whole, unheard_for, is_heard, heard_in_place, heard_plain}
use Rattle.end_loops.proofs.admission.open_in_session.Goals as goal

pub returns-in-Ok-clause-ok : goal.returns-in-Ok-clause-ok
returns-in-Ok-clause-ok c =
    let none : unheard c.in-Some.row.now.session c.args.part.now ≡ None = heard_whole _ c.args.part.now c.in-Ok.field-0 (sym c.open.ensures.answer ∙ c.in-Ok.is) in
    sym (ap (λ (s : State). heard_in (get s.sessions c.args.near) c.args.part.now) c.end.view_is)
    ∙ ap (λ found. heard_in found c.args.part.now) (sym c.in-Some.ensures)
    ∙ heard_plain c.in-Some.row.now.session c.args.part.now c.open.new.sealed none (heard_in_place c.in-Some.row.now.session c.args.part.now c.open.new.sealed c.open.ensures.buffer (is_heard c.in-Some.row.now.session c.args.part.now none))

pub returns-in-Ok-clause-front : goal.returns-in-Ok-clause-front
returns-in-Ok-clause-front c =
    let none : unheard c.in-Some.row.now.session c.args.part.now ≡ None = heard_whole _ c.args.part.now c.in-Ok.field-0 (sym c.open.ensures.answer ∙ c.in-Ok.is) in
    (heard_in_place c.in-Some.row.now.session c.args.part.now c.open.new.sealed c.open.ensures.buffer (is_heard c.in-Some.row.now.session c.args.part.now none)).front

pub returns-in-Err-Short-clause-err : goal.returns-in-Err-Short-clause-err
returns-in-Err-Short-clause-err c =
    let why : unheard c.in-Some.row.now.session c.args.part.now ≡ Some ShortPart = unheard_for _ c.args.part.now ShortPart (sym c.open.ensures.answer ∙ c.in-Err-Short.is ∙ ap Err c.in-Err-Short.field-0-is) in
    sym (ap (λ (s : State). heard_in (get s.sessions c.args.near) c.args.part.now) c.end.view_is)
    ∙ ap (λ found. heard_in found c.args.part.now) (sym c.in-Some.ensures)
    ∙ ap (heard_by c.in-Some.row.now.session c.args.part.now) why

pub returns-in-Err-BadTag-clause-err : goal.returns-in-Err-BadTag-clause-err
returns-in-Err-BadTag-clause-err c =
    let why : unheard c.in-Some.row.now.session c.args.part.now ≡ Some WrongTag = unheard_for _ c.args.part.now WrongTag (sym c.open.ensures.answer ∙ c.in-Err-BadTag.is ∙ ap Err c.in-Err-BadTag.field-0-is) in
    sym (ap (λ (s : State). heard_in (get s.sessions c.args.near) c.args.part.now) c.end.view_is)
    ∙ ap (λ found. heard_in found c.args.part.now) (sym c.in-Some.ensures)
    ∙ ap (heard_by c.in-Some.row.now.session c.args.part.now) why

pub returns-in-Err-Repeated-clause-err : goal.returns-in-Err-Repeated-clause-err
returns-in-Err-Repeated-clause-err c =
    let why : unheard c.in-Some.row.now.session c.args.part.now ≡ Some OldNumber = unheard_for _ c.args.part.now OldNumber (sym c.open.ensures.answer ∙ c.in-Err-Repeated.is ∙ ap Err c.in-Err-Repeated.field-0-is) in
    sym (ap (λ (s : State). heard_in (get s.sessions c.args.near) c.args.part.now) c.end.view_is)
    ∙ ap (λ found. heard_in found c.args.part.now) (sym c.in-Some.ensures)
    ∙ ap (heard_by c.in-Some.row.now.session c.args.part.now) why

pub returns-in-None-clause-err : goal.returns-in-None-clause-err
returns-in-None-clause-err c =
    sym (ap (λ (s : State). heard_in (get s.sessions c.args.near) c.args.part.now) c.end.view_is)
    ∙ ap (λ found. heard_in found c.args.part.now) (sym c.in-None.ensures)
