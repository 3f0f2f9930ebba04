use Rattle.std.proofs.lemmas.Result.{err_from_is_err_and}
use Rattle.rtmfp_script.specs.declared.line.Said.TheVariants.{Step, Outside}
use Rattle.rtmfp_script.proofs.Saying.{one_saying, outside_says, step_says, takes_memory}
use Rattle.rtmfp_script.proofs.reading.read_line.Goals as goal

pub returns-in-Some-clause-says : goal.returns-in-Some-clause-says
returns-in-Some-clause-says c = step_says c.args.line.now c.in_ok-step.field-0 c.in-Some.step c.in_ok-step.ensures.value c.in-Some.is

pub returns-in-Some-clause-only : goal.returns-in-Some-clause-only
returns-in-Some-clause-only c = λ other says.
    one_saying c.args.line.now (Step c.in-Some.step) other (step_says c.args.line.now c.in_ok-step.field-0 c.in-Some.step c.in_ok-step.ensures.value c.in-Some.is) says

pub returns-in-None-clause-says : goal.returns-in-None-clause-says
returns-in-None-clause-says c = outside_says c.args.line.now c.in_ok-step.field-0 c.is_skipped.result c.is_skipped.ensures.1 c.if-is_skipped.false c.in_ok-step.ensures.value c.in-None.is

pub returns-in-None-clause-only : goal.returns-in-None-clause-only
returns-in-None-clause-only c = λ other says.
    one_saying c.args.line.now Outside other
    (outside_says c.args.line.now c.in_ok-step.field-0 c.is_skipped.result c.is_skipped.ensures.1 c.if-is_skipped.false c.in_ok-step.ensures.value c.in-None.is) says

pub returns-in_err-step-clause-memory : goal.returns-in_err-step-clause-memory
returns-in_err-step-clause-memory c =
    let p = err_from_is_err_and c.from_residual.result c.from_residual.ensures.1 in
    rw p.1 (takes_memory c.args.line.now c.in_err-step.ensures.memory)
