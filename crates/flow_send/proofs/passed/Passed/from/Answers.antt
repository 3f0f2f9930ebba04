use Rattle.std.proofs.Common.{◌≡◌, ℕ, ◌<◌, length, get_or, drop, sym, subst, arith}
use Rattle.std.proofs.lemmas.List.{get_or_read}
use Rattle.flow_send.specs.Passed.{AllAcked, ArePassed, Known}
use Rattle.flow_send.proofs.Passing.{passed_at}
use Rattle.flow_send.proofs.passed.Passed.from.Goals as goal

pub returns-then-at-len : goal.returns-then-at-len
returns-then-at-len c rows h =
    let counts = c.self.inside.counts in
    let lt : c.args.at < length counts.items = omega (arith, c.if-at-len.true, c.len.ensures, counts.ok) in
    let is : c.index.result.now ≡ get_or counts.items c.args.at 0 = get_or_read counts.items _ _ lt c.index.ensures 0 in
    subst (λ (k : ℕ). AllAcked k (drop c.args.at rows)) (sym is) (passed_at counts.items c.args.at rows (subst (λ (p : Known). ArePassed p.counts rows) (sym c.self.view_is) h))
