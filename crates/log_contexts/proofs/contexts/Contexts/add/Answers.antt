use Rattle.std.proofs.Common.{subst, sym}
use Rattle.endpoint_laws.specs.Past.{with_entry}
use Rattle.log_contexts.specs.Contexts.{AreContextsOf}
use Rattle.log_contexts.proofs.Going.{contexts_added}
use Rattle.log_contexts.proofs.contexts.Contexts.add.Goals as goal

pub returns-in-Ok-clause-log : goal.returns-in-Ok-clause-log
returns-in-Ok-clause-log c = λ secrets setup own last past d moment are is may told opens.
    subst (AreContextsOf secrets setup (with_entry moment c.args.entry.now past)) (sym c.in-Ok.ensures.ok)
    (contexts_added secrets setup own last past d is moment c.args.self.now are c.args.entry.now c.args.keyings.now c.args.opened may told opens)
