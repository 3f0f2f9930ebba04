use Rattle.std.proofs.Common.{sym, ◌∙◌, subst}
use Rattle.rtmfp_script.specs.declared.line.Said.{Said as LineSaid}
use Rattle.rtmfp_script.specs.Lines.{Says}
use Rattle.rtmfp_play.proofs.Played.{below_next, line_played, line_bad}
use Rattle.rtmfp_play.proofs.play.play_in.Goals as goal

pub returns-in-Ok-Nothing-clause-above : goal.returns-in-Ok-Nothing-clause-above
returns-in-Ok-Nothing-clause-above c = λ _. below_next c.args.world.now.world.lines c.args.number c.requires.above

pub returns-in-Some-clause-played : goal.returns-in-Some-clause-played
returns-in-Some-clause-played c =
    let says = c.in-Ok-Step.ensures.says in
    let only = c.in-Ok-Step.ensures.only in
    line_played c.args.world.now c.args.number c.args.line.now c.take_step.new.world c.clear.new.self c.take_step.new.text c.in-Ok-Step.said c.in-Some.step c.take_step.result
    (λ other is. sym c.in-Ok-Step.field-0-is ∙ only other is) (subst (λ (o : LineSaid). Says c.args.line.now o) c.in-Ok-Step.field-0-is says)
    (sym c.in_ok-step-in-Ok-Step.ensures ∙ c.in-Some.is) c.clear.ensures c.take_step.ensures.stepped

pub returns-in-None-clause-played : goal.returns-in-None-clause-played
returns-in-None-clause-played c =
    let only = c.in-Ok-Step.ensures.only in
    line_bad c.args.world.now c.args.line.now c.in-Ok-Step.said (λ other is. sym c.in-Ok-Step.field-0-is ∙ only other is)
    (sym c.in_ok-step-in-Ok-Step.ensures ∙ c.in-None.is)
