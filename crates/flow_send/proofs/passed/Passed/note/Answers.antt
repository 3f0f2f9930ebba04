use Rattle.std.proofs.Common.{◌≡◌, ◌-◌, ◌<◌, length, get_or, sym, ap, ◌∙◌, subst, arith}
use Rattle.std.proofs.lemmas.List.{get_or_read, length-set}
use Rattle.flow_send.specs.Passed.{ArePassed, Known}
use Rattle.flow_send.proofs.Passing.{acked_from, passed_raised, reaches_raised, reaches_end}
use Rattle.flow_send.proofs.passed.Passed.note.Goals as goal

pub loop-at-init : goal.loop-at-init
loop-at-init c = record {
  from = omega arith;
  counts = λ rows a h. subst (λ (p : Known). ArePassed p.counts rows) (sym c.self.view_is) h;
  all = ap (λ (p : Known). length p.counts) c.self.view_is;
  reaches = λ before inside. absurd (omega (arith, before));
  room = ap (λ (p : Known). p.room) c.self.view_is;
}

pub loop-at-preserved : goal.loop-at-preserved
loop-at-preserved c =
    let at = c.loop-at.at in
    let inv = c.loop-at.invariant in
    let counts = c.loop-at.self-inside.counts in
    let lt : at < length counts.items = omega (arith, c.if-at-len.true, c.len.ensures, counts.ok) in
    let is : c.index-known.result.now ≡ get_or counts.items at 0 = get_or_read counts.items _ _ lt c.index-known.ensures 0 in
    record {
      from = omega (arith, inv.from, c.saturating_add-at.ensures);
      counts = λ rows a h. passed_raised counts.items at c.index-known.result.now (c.args.to - at) c.max.result rows is c.max.ensures (acked_from c.args.from at c.args.to rows inv.from (omega arith) a) (inv.counts rows a h);
      all = length-set counts.items at c.max.result ∙ inv.all;
      reaches = λ before inside. reaches_raised counts.items c.args.from at c.args.to c.index-known.result.now c.max.result inv.from lt c.max.ensures (λ earlier. inv.reaches earlier inside);
      room = inv.room;
    }

pub returns-else-at-len-clause-counts : goal.returns-else-at-len-clause-counts
returns-else-at-len-clause-counts c rows a h = c.loop-at.invariant.counts rows a h

pub returns-else-at-len-clause-reaches : goal.returns-else-at-len-clause-reaches
returns-else-at-len-clause-reaches c inside =
    let inv = c.loop-at.invariant in
    let counts = c.loop-at.self-inside.counts in
    inv.reaches (omega (arith, inside, inv.all, c.if-at-len.false, c.len.ensures, counts.ok)) inside

pub returns-after-loop-at-clause-counts : goal.returns-after-loop-at-clause-counts
returns-after-loop-at-clause-counts c rows a h = c.loop-at.invariant.counts rows a h

pub returns-after-loop-at-clause-reaches : goal.returns-after-loop-at-clause-reaches
returns-after-loop-at-clause-reaches c inside =
    let inv = c.loop-at.invariant in
    reaches_end c.loop-at.self-inside.counts.items c.args.from c.loop-at.at c.args.to inv.from (omega (arith, c.loop-at-test.false)) (λ earlier. inv.reaches earlier inside)
