use Rattle.std.proofs.Common.{ℕ, ◌+◌, refl, subst, arith}
use Rattle.session_table.specs.Inside.{IsDueUnder, NoneIsDueUnder}
use Rattle.session_table.proofs.Rounds.{found_first, found_none, passed_awaits}
use Rattle.session_table.proofs.round.Round.first_due.Goals as goal

pub loop-near-preserved : goal.loop-near-preserved
loop-near-preserved c =
    let l = c.loop-near in
    let things = c.args.rows.now.things in
    let none = subst (λ (n : ℕ). NoneIsDueUnder c.args.moment n things) c.in-Some.ensures.some c.in-None.ensures.none in (
      λ a b first le below. l.invariant.0 a b (omega (arith, first)) le below,
      passed_awaits things l.self c.args.moment l.invariant.2 l.invariant.1 (record l.self { next = l.self.next + 1 }) refl refl refl none,
      l.invariant.2,
    )

pub returns-in-Some-due_under-clause-some : goal.returns-in-Some-due_under-clause-some
returns-in-Some-due_under-clause-some c =
    let l = c.loop-near in
    let things = c.args.rows.now.things in
    found_first things l.self c.args.moment l.invariant.2 l.invariant.1 c.in-Some-due_under.slot l.invariant.0 (subst (λ (n : ℕ). IsDueUnder c.args.moment n things c.in-Some-due_under.slot) c.in-Some.ensures.some c.in-Some-due_under.ensures.some)

pub returns-clause-none : goal.returns-clause-none
returns-clause-none c =
    let l = c.loop-near in
    found_none c.args.rows.now.things l.self c.args.moment l.invariant.2 l.invariant.1 c.in_default.ensures.none
