use Rattle.std.proofs.Common.{◌≡◌, ℕ, ◌-◌, drop, subst, arith, rules}
use Rattle.flow_send.specs.Passed.{AllAcked}
use Rattle.flow_send.proofs.Passing.{acked_less, acked_join}
use Rattle.flow_send.proofs.rows.Rows.known_to.Goals as goal

pub loop-at-init : goal.loop-at-init
loop-at-init c =
    let from = c.args.from in
    let none : 0 ≡ from - from = omega arith in
    record {
      order = omega arith;
      inside = omega (arith, c.requires);
      acked = subst (λ (i : ℕ). AllAcked i (drop from c.args.self.now.rows)) none tt;
    }

pub loop-at-preserved : goal.loop-at-preserved
loop-at-preserved c =
    let v = c.loop-at.invariant in
    let rows = c.args.self.now.rows in
    let at = c.loop-at.at in
    let far = c.min-at.result in
    record {
      order = omega (arith, v.order);
      inside = omega arith;
      acked = acked_join c.args.from at far rows v.order (omega arith) v.acked (acked_less (far - at) c.known-known.result (drop at rows) (omega arith) c.known-known.ensures);
    }

pub returns-then-known-eq0-clause-acked : goal.returns-then-known-eq0-clause-acked
returns-then-known-eq0-clause-acked c = search rules

pub returns-clause-acked : goal.returns-clause-acked
returns-clause-acked c =
    let e : c.loop-at.at ≡ c.args.to = omega (arith, c.loop-at.invariant.inside) in
    subst (λ (i : ℕ). AllAcked (i - c.args.from) (drop c.args.from c.args.self.now.rows)) e c.loop-at.invariant.acked
