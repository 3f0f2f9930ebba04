use Rattle.std.proofs.Common.{◌+◌, ap, sym, ◌∙◌, arith}
use Rattle.std.specs.Prelude.{slice_get}
use Rattle.flow_send.specs.Ordered.{Ordered}
use Rattle.flow_send.proofs.Marking.{all_to_come, next_to_come, none_to_come, late_to_come, get_less}
use Rattle.flow_send.proofs.ordered.Sendings.mark_oldest.Goals as goal

pub loop-sent-init : goal.loop-sent-init
loop-sent-init c = record {
  come = all_to_come c.args.marks.now c.args.waiting.now c.args.loss c.args.self.now.queue (c.args.forward + 1) c.args.rows.now.rows c.requires.complete.there;
  grows = λ b h. h;
}

pub returns-then-not-may_lose-clause-covers : goal.returns-then-not-may_lose-clause-covers
returns-then-not-may_lose-clause-covers c =
    let q = c.args.self.now.queue in
    let here = ap (λ (o : Ordered). slice_get o.queue c.loop-sent.index) (sym c.self.view_is) ∙ (sym c.sending.ensures ∙ c.in-Some.is) in
    late_to_come c.loop-sent.marks c.args.waiting.now c.args.loss q c.loop-sent.index (c.in-Some.sent, c.in-Some.number, c.in-Some.at) (c.args.forward + 1) c.args.rows.now.rows here (sym c.may_lose.ensures ∙ c.if-not-may_lose.true) c.requires.complete.rising c.requires.complete.moments c.loop-sent.invariant.come

pub overflow_add-index : goal.overflow_add-index
overflow_add-index c =
    let i = c.self.inside.queue in
    let here = sym c.sending.ensures ∙ c.in-Some.is in
    omega (arith, get_less i.items c.loop-sent.index (c.in-Some.sent, c.in-Some.number, c.in-Some.at) here, i.ok, i.small)

pub loop-sent-smaller : goal.loop-sent-smaller
loop-sent-smaller c =
    let here = ap (λ (o : Ordered). slice_get o.queue c.loop-sent.index) (sym c.self.view_is) ∙ (sym c.sending.ensures ∙ c.in-Some.is) in
    omega (arith, get_less c.args.self.now.queue c.loop-sent.index (c.in-Some.sent, c.in-Some.number, c.in-Some.at) here)

pub loop-sent-preserved : goal.loop-sent-preserved
loop-sent-preserved c =
    let q = c.args.self.now.queue in
    let here = ap (λ (o : Ordered). slice_get o.queue c.loop-sent.index) (sym c.self.view_is) ∙ (sym c.sending.ensures ∙ c.in-Some.is) in
    record {
      come = next_to_come c.loop-sent.marks c.mark_number.new.marks c.args.waiting.now c.args.loss q c.loop-sent.index (c.in-Some.sent, c.in-Some.number, c.in-Some.at) (c.args.forward + 1) c.args.rows.now.rows here c.mark_number.ensures.grows c.mark_number.ensures.covers c.loop-sent.invariant.come;
      grows = λ b h. c.mark_number.ensures.grows b (c.loop-sent.invariant.grows b h);
    }

pub returns-clause-covers : goal.returns-clause-covers
returns-clause-covers c =
    let here = ap (λ (o : Ordered). slice_get o.queue c.loop-sent.index) (sym c.self.view_is) ∙ (sym c.sending.ensures ∙ c.in_default.is) in
    none_to_come c.loop-sent.marks c.args.waiting.now c.args.loss c.args.self.now.queue c.loop-sent.index (c.args.forward + 1) c.args.rows.now.rows here c.loop-sent.invariant.come
