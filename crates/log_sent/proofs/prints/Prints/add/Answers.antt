use Rattle.std.proofs.Common.{sym, ◌∙◌, true, false}
use Rattle.log_sent.proofs.OnePrint.{one_more_print, answer_is, is_new, is_old}
use Rattle.log_sent.proofs.prints.Prints.add.Goals as goal

pub returns-in-Ok-clause-prints : goal.returns-in-Ok-clause-prints
returns-in-Ok-clause-prints c = λ prints are. one_more_print prints c.args.print.now c.args.self.now c.put.new.self are c.in-Ok.ensures.more

pub returns-in-Ok-clause-yes : goal.returns-in-Ok-clause-yes
returns-in-Ok-clause-yes c = λ prints are e. is_new prints c.args.self.now c.args.print.now are (sym (answer_is c.in-Ok.is_new true e) ∙ c.in-Ok.ensures.is_new)

pub returns-in-Ok-clause-no : goal.returns-in-Ok-clause-no
returns-in-Ok-clause-no c = λ prints are e. is_old prints c.args.self.now c.args.print.now are (sym (answer_is c.in-Ok.is_new false e) ∙ c.in-Ok.ensures.is_new)
