use Rattle.std.proofs.Common.{subst, sym}
use Rattle.log_contexts.specs.Kept.{KeptContexts}
use Rattle.log_contexts.specs.Changes.{begun_in_session}
use Rattle.log_contexts.specs.Contexts.{HearsThere}
use Rattle.log_contexts.proofs.Going.{hears_there}
use Rattle.log_contexts.proofs.contexts.Contexts.begin_in.Goals as goal

pub returns-clause-log : goal.returns-clause-log
returns-clause-log c = λ secrets setup last past d e thing generation datagram are is given there.
    subst (λ (k : KeptContexts). HearsThere secrets setup past c.args.moment e c.args.near thing generation datagram k c.hear.result) (sym c.hear.ensures.value)
    (subst (HearsThere secrets setup past c.args.moment e c.args.near thing generation datagram (begun_in_session c.args.near c.args.count c.args.moment c.args.fits c.args.self.now)) (sym c.hear.ensures.takes)
    (hears_there secrets setup past c.args.self.now are c.args.moment e last d is c.args.near thing generation datagram given c.args.count c.args.fits there))
