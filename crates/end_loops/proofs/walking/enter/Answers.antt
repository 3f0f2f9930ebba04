use Rattle.std.proofs.Common.{sym, ap, ◌∙◌}
use Rattle.endpoint_model.specs.State.{State}
use Rattle.endpoint_model.specs.Admission.{confirms}
use Rattle.end_state.proofs.Confirms.{confirms_where}
use Rattle.end_loops.proofs.Confirms.{confirms_counted, confirms_timed}
use Rattle.end_loops.proofs.walking.enter.Goals as goal

pub add-requires-clause-room : goal.add-requires-clause-room
add-requires-clause-room c =
    let timed = ap (λ (s : State). confirms s c.args.place) c.time.ensures ∙ confirms_timed c.count.new.self c.args.place c.args.head.now in
    let counted = ap (λ (s : State). confirms s c.args.place) c.count.ensures ∙ confirms_counted c.args.end.now c.args.place c.args.part.now in
    let confirming = confirms_where c.time.new.self c.confirm.new.self c.args.place c.in-Some.entry (c.in-Some.ensures) in
    c.in_ok-make_room_to_confirm.ensures.ok (sym (timed ∙ counted) ∙ confirming)
