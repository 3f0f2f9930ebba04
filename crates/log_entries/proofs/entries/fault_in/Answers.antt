use Rattle.endpoint_laws.specs.Lawful.{Line}
use Rattle.log_verdict.specs.Checks.{AreNew, nonces_at}
use Rattle.log_entries.proofs.Adding.{not_fresh, passes, unlawful}
use Rattle.log_entries.proofs.entries.fault_in.Goals as goal

pub returns-then-not-meets-clause-found : goal.returns-then-not-meets-clause-found
returns-then-not-meets-clause-found c = λ setup now e before past stated s reads h are.
    unlawful (Line c.args.secrets.now setup now e.call past c.args.rest.now c.args.entry.now) (AreNew (nonces_at c.args.entry.now) stated) c.in-Ok.meets
    (c.in-Ok.ensures.tells setup now e before past s reads h) c.if-not-meets.true

pub returns-then-not-states_new-clause-found : goal.returns-then-not-states_new-clause-found
returns-then-not-states_new-clause-found c = λ setup now e before past stated s reads h are.
    not_fresh (Line c.args.secrets.now setup now e.call past c.args.rest.now c.args.entry.now) (AreNew (nonces_at c.args.entry.now) stated) c.in-Ok.meets
    (c.in-Ok.ensures.tells setup now e before past s reads h) c.if-not-meets.false c.states_new.result c.if-not-states_new.true (c.states_new.ensures.no stated are)

pub returns-clause-found : goal.returns-clause-found
returns-clause-found c = λ setup now e before past stated s reads h are.
    passes (Line c.args.secrets.now setup now e.call past c.args.rest.now c.args.entry.now) (AreNew (nonces_at c.args.entry.now) stated) c.in-Ok.meets
    (c.in-Ok.ensures.tells setup now e before past s reads h) c.if-not-meets.false (c.states_new.ensures.yes stated are c.if-not-states_new.false)
