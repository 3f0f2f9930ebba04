use Rattle.std.proofs.Common.{subst, ◌≡◌, None}
use Rattle.endpoint_laws.specs.Lawful.{Line}
use Rattle.log_verdict.specs.Checks.{AreNew, nonces_at}
use Rattle.log_entries.specs.Found.{IsFoundOf}
use Rattle.log_entries.proofs.Adding.{none_found}
use Rattle.log_entries.proofs.entries.judge_entry.Goals as goal

pub returns-clause-found : goal.returns-clause-found
returns-clause-found c = λ setup now e before past stated s reads h are.
    subst (IsFoundOf (Line c.args.secrets.now setup now e.call past c.args.rest.now c.args.entry.now) (AreNew (nonces_at c.args.entry.now) stated))
    (none_found c.in_ok-found.found c.is_some.result c.is_some.ensures c.if-is_some.false) (c.in_ok-found.ensures.found setup now e before past stated s reads h are)

pub returns-clause-goes_on : goal.returns-clause-goes_on
returns-clause-goes_on c = λ setup now e before past stated s reads h are passes.
    let none : c.in_ok-found.found ≡ None = none_found c.in_ok-found.found c.is_some.result c.is_some.ensures c.if-is_some.false in
    let meets = subst (IsFoundOf (Line c.args.secrets.now setup now e.call past c.args.rest.now c.args.entry.now) (AreNew (nonces_at c.args.entry.now) stated)) none (c.in_ok-found.ensures.found setup now e before past stated s reads h are) in
    (c.in_ok-pass_entry.ensures.here c.args.secrets.now setup now e before past c.args.scene.now.plain.now c.args.rest.now h s.arrives meets.0 (c.in_ok-found.ensures.sealed none), c.in_ok-pass_entry.ensures.stated stated are)
