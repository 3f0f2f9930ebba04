use Rattle.std.proofs.Common.{ℕ, ◌≡◌, ◌+◌, Option, sym, subst, arith}
use Rattle.startup.specs.Sought.{fits}
use Rattle.startup.proofs.Walked.{IsBestBelow, none_below, looked_further, all_looked}
use Rattle.startup.proofs.table.lowest_in.Goals as goal

pub loop-slot-init : goal.loop-slot-init
loop-slot-init c = none_below (fits c.args.sought.now) c.args.rows.now

pub loop-slot-preserved : goal.loop-slot-preserved
loop-slot-preserved c =
    let l = c.loop-slot in
    subst (λ (o : Option ℕ). IsBestBelow (fits c.args.sought.now) c.args.rows.now (l.slot + 1) o) (sym c.better-best.ensures)
    (looked_further (fits c.args.sought.now) c.args.rows.now l.slot l.best l.invariant)

pub returns-clause-none : goal.returns-clause-none
returns-clause-none c =
    let l = c.loop-slot in
    let all : l.slot ≡ c.bound-slot-end.result = omega (arith, c.loop-slot-test.false, l.auto.slot-end) in
    (all_looked (fits c.args.sought.now) c.args.rows.now c.bound-slot-end.result l.best c.bound-slot-end.ensures
    (subst (λ (n : ℕ). IsBestBelow (fits c.args.sought.now) c.args.rows.now n l.best) all l.invariant)).0

pub returns-clause-some : goal.returns-clause-some
returns-clause-some c =
    let l = c.loop-slot in
    let all : l.slot ≡ c.bound-slot-end.result = omega (arith, c.loop-slot-test.false, l.auto.slot-end) in
    (all_looked (fits c.args.sought.now) c.args.rows.now c.bound-slot-end.result l.best c.bound-slot-end.ensures
    (subst (λ (n : ℕ). IsBestBelow (fits c.args.sought.now) c.args.rows.now n l.best) all l.invariant)).1
