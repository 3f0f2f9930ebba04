use Rattle.std.proofs.Common.{subst}
use Rattle.startup.specs.Attempts.{changed}
use Rattle.startup.specs.Judging.{IsFound}
use Rattle.endpoint_model.specs.Admission.{sid_at}
use Rattle.endpoint_model.specs.State.{State}
use Rattle.end_chunks.proofs.Found.{change_does}
use Rattle.end_chunks.proofs.judging.judge_change.Goals as goal

pub returns-in-Ok-clause-ok : goal.returns-in-Ok-clause-ok
returns-in-Ok-clause-ok c =
    λ from.
    let s : State = c.args.end.now in
    let old = c.args.old.now in
    let found = c.in-Ok.found in
    let at : IsFound s.startup found (changed s.startup.attempts (sid_at c.args.place) old) =
    subst (λ sid. IsFound s.startup found (changed s.startup.attempts sid old)) c.sid_at.ensures
    (subst (λ (t : State). IsFound t.startup found (changed t.startup.attempts c.sid_at.result old)) c.end.view_is c.in-Ok.ensures.found) in
    record {
      so = ((sid_at c.args.place, (old, at)), c.in-Ok.ensures.cookie);
      does_so = λ draws. change_does s (sid_at c.args.place) old c.args.new.now found at;
    }
