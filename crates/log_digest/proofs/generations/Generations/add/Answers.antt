use Rattle.std.proofs.Common.{subst, sym}
use Rattle.endpoint_laws.specs.Past.{with_entry}
use Rattle.log_digest.specs.Generations.{AreGenerationsOf}
use Rattle.log_digest.proofs.Going.{generations_more}
use Rattle.log_digest.proofs.generations.Generations.add.Goals as goal

pub returns-clause-log : goal.returns-clause-log
returns-clause-log c = λ setup moment past are.
    subst (AreGenerationsOf setup (with_entry moment c.args.entry.now past)) (sym c.note.ensures) (generations_more setup moment past c.args.entry.now c.args.self.now are)
