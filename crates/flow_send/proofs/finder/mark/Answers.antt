use Rattle.flow_send.proofs.Finding.{marked_own, marked_others}
use Rattle.flow_send.proofs.finder.mark.Goals as goal

pub returns-clause-own : goal.returns-clause-own
returns-clause-own c = marked_own c.args.words.now c.args.block c.told-words

pub returns-clause-others : goal.returns-clause-others
returns-clause-others c = λ b e. marked_others c.args.words.now c.args.block b c.told-words e
