use Rattle.std.proofs.Common.{rules}
use Rattle.rtmfp_cli.proofs.script_run.do_line.Goals as goal

pub returns-in-Ok-Bad-clause-printed : goal.returns-in-Ok-Bad-clause-printed
returns-in-Ok-Bad-clause-printed g c = search rules

pub returns-in-Ok-Forged-clause-printed : goal.returns-in-Ok-Forged-clause-printed
returns-in-Ok-Forged-clause-printed g c = search rules

pub returns-in-Done-clause-printed : goal.returns-in-Done-clause-printed
returns-in-Done-clause-printed g c = search rules

pub returns-in-Done-clause-next : goal.returns-in-Done-clause-next
returns-in-Done-clause-next g c = search rules
