use Rattle.flow_send.proofs.Finding.{unmarked_others}
use Rattle.flow_send.proofs.finder.unmark.Goals as goal

pub returns : goal.returns
returns c = λ b differ. unmarked_others c.args.words.now c.args.block b c.told-words differ
