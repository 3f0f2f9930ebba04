use Rattle.std.proofs.Common.{◌∷◌, ℕ, List, length, sym, subst, ap, ◌∙◌, arith}
use Rattle.flow_recv.specs.declared.spans.Span.{Span}
use Rattle.flow_recv.specs.Receiver.{Apart, span}
use Rattle.flow_recv.specs.Above.{spans_of}
use Rattle.flow_recv.specs.Acking.{pairs_in}
use Rattle.flow_recv.proofs.Pairs.{next_above}
use Rattle.flow_recv.proofs.acking.pairs_len.Goals as goal

pub loop-first-init : goal.loop-first-init
loop-first-init c =
    let e = ap (λ (es : List (ℕ × ℕ)). spans_of es) c.into_iter-first-iterator.ensures.into_iter_gives ∙ c.iter-first-items.ensures in
    record {
      apart = subst (λ (ss : List Span). Apart (span 0 c.args.through ∷ ss)) (sym e) c.requires;
      within = omega arith;
      length = omega (arith, ap (λ (ss : List Span). length (pairs_in c.args.room c.args.through ss)) e);
    }

pub pair_len-len-requires-clause-above : goal.pair_len-len-requires-clause-above
pair_len-len-requires-clause-above c =
    next_above c.loop-first.after c.in-Some.first.now c.in-Some.last.now c.loop-first.first-iterator c.next.new.self c.in-Some.ensures.steps c.loop-first.invariant.apart
