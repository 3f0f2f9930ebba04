use Rattle.std.proofs.Common.{List, ℕ, ◌<◌, ◌^◌, length, sym, ap, ◌∙◌, subst, arith}
use Rattle.endpoint_model.specs.declared.entry.Entry.{Entry}
use Rattle.rendezvous_world.specs.Seen.{Seen}
use Rattle.rendezvous_world.specs.Sent.{sent_among}
use Rattle.endpoint_model.specs.Log.{Step as StepOf}
use Rattle.rendezvous_world.specs.Deed.{deed_of}
use Rattle.rendezvous_world.specs.History.{given_by, peer_of}
use Rattle.rendezvous_world.specs.Entering.{IsEntering, IsUndone, event_by}
use Rattle.rendezvous_world.specs.Line.{refused_kept, stopped_kept}
use Rattle.rendezvous_world.specs.Inside.{world_seen}
use Rattle.rendezvous_world.proofs.Entered.{IsCalled, entered_kept, entered_as, with_datagram, named_is, undone_kept, undone_entered}
use Rattle.rendezvous_world.proofs.Calling.{may_limits}
use Rattle.rendezvous_world.proofs.world.World.enter.Goals as goal

pub call_end-outcome-requires-clause-limits : goal.call_end-outcome-requires-clause-limits
call_end-outcome-requires-clause-limits c = may_limits c.args.self.now c.args.step.now c.requires.entering.fine

pub invariant_of-self-then-outcome : goal.invariant_of-self-then-outcome
invariant_of-self-then-outcome c =
    let i = c.self.inside in
    let o = c.call_end-outcome in
    let given_is = c.given_to-given.ensures ∙ ap (λ (n : ℕ). given_by c.named_at.result.now.print n (deed_of c.args.step.now)) c.generation-generation.ensures in
    let entering : IsEntering (world_seen i.moment i.ends.items i.journal) c.args.line c.args.end c.args.step.now c.args.datagram c.args.bytes.now =
    subst (λ (w : Seen). IsEntering w c.args.line c.args.end c.args.step.now c.args.datagram c.args.bytes.now) (sym c.self.view_is) c.requires.entering in
    let peer_is = named_is c.named_at.result.now i.named c.as_slice.result.now (peer_of (deed_of c.args.step.now)) c.args.peer (sym c.requires.named) c.as_slice.ensures c.named_at.ensures in
    rw (c.make_ready.ensures.lines, c.make_ready.ensures.starts, c.journal.view_is)
    (undone_kept i.moment i.ends.items i.named i.journal i.starts.items i.sent i.keyed c.self.invariant c.args.line c.args.end c.args.step.now c.args.datagram c.args.bytes.now entering
    c.index_mut-there.result.now o.new.endpoint c.named_at.result.now c.index_mut-there.ensures.value peer_is (subst (λ (given : List ℕ). IsUndone given i.moment c.args.step.now c.index_mut-there.result.now.endpoint o.new.endpoint) given_is (o.ensures.undone c.if-outcome.true)))

pub returns-then-outcome : goal.returns-then-outcome
returns-then-outcome c =
    let i = c.self.inside in
    let o = c.call_end-outcome in
    let given_is = c.given_to-given.ensures ∙ ap (λ (n : ℕ). given_by c.named_at.result.now.print n (deed_of c.args.step.now)) c.generation-generation.ensures in
    let entering : IsEntering (world_seen i.moment i.ends.items i.journal) c.args.line c.args.end c.args.step.now c.args.datagram c.args.bytes.now =
    subst (λ (w : Seen). IsEntering w c.args.line c.args.end c.args.step.now c.args.datagram c.args.bytes.now) (sym c.self.view_is) c.requires.entering in
    let peer_is = named_is c.named_at.result.now i.named c.as_slice.result.now (peer_of (deed_of c.args.step.now)) c.args.peer (sym c.requires.named) c.as_slice.ensures c.named_at.ensures in
    let entered = undone_entered i.moment i.ends.items i.named i.journal i.starts.items i.sent i.keyed c.self.invariant c.args.line c.args.end c.args.step.now c.args.datagram c.args.bytes.now entering
    c.index_mut-there.result.now o.new.endpoint c.named_at.result.now c.index_mut-there.ensures.value peer_is (subst (λ (given : List ℕ). IsUndone given i.moment c.args.step.now c.index_mut-there.result.now.endpoint o.new.endpoint) given_is (o.ensures.undone c.if-outcome.true)) in
    rw (c.make_ready.ensures.lines, c.journal.view_is, ← c.self.view_is) entered

pub invariant_of-self-2 : goal.invariant_of-self-2
invariant_of-self-2 c =
    let i = c.self.inside in
    let o = c.call_end-outcome in
    let given_is = c.given_to-given.ensures ∙ ap (λ (n : ℕ). given_by c.named_at.result.now.print n (deed_of c.args.step.now)) c.generation-generation.ensures in
    let entering : IsEntering (world_seen i.moment i.ends.items i.journal) c.args.line c.args.end c.args.step.now c.args.datagram c.args.bytes.now =
    subst (λ (w : Seen). IsEntering w c.args.line c.args.end c.args.step.now c.args.datagram c.args.bytes.now) (sym c.self.view_is) c.requires.entering in
    let did : IsCalled i.moment i.ends.items i.named c.args.line c.args.end c.args.step.now c.args.bytes.now (refused_kept o.result.answer) (stopped_kept o.result.answer) c.without_spare-out.result c.index_mut-there.result.now o.new.endpoint = record {
      there_is = c.index_mut-there.ensures.value;
      peer = c.named_at.result.now;
      peer_is = named_is c.named_at.result.now i.named c.as_slice.result.now (peer_of (deed_of c.args.step.now)) c.args.peer (sym c.requires.named) c.as_slice.ensures c.named_at.ensures;
      event = subst (λ (es : List Entry). StepOf c.index_mut-there.result.now.endpoint (event_by (given_by c.named_at.result.now.print c.index_mut-there.result.now.endpoint.group.generation (deed_of c.args.step.now)) c.args.line i.moment c.args.step.now c.args.bytes.now (refused_kept o.result.answer) (stopped_kept o.result.answer) es) o.new.endpoint) (sym c.without_spare-out.ensures)
          (subst (λ (given : List ℕ). StepOf c.index_mut-there.result.now.endpoint (event_by given c.args.line i.moment c.args.step.now c.args.bytes.now (refused_kept o.result.answer) (stopped_kept o.result.answer) o.new.out.entries) o.new.endpoint) given_is o.ensures.event);
      answer = o.ensures.answer c.if-outcome.false;
    } in
    let brings = with_datagram i.moment i.ends.items i.named i.journal i.starts.items i.sent i.keyed c.self.invariant c.args.line c.args.end c.args.step.now c.args.datagram c.args.bytes.now entering in
    let count = c.count_among-count.ensures.value ∙ ap (λ (es : List Entry). length (sent_among c.args.end es)) (c.entries.ensures.entries ∙ sym c.without_spare-out.ensures) in
    let fits : c.count_among-count.result < 2 ^ 64 = omega arith in
    rw (c.put-2.ensures, c.line_of-told.ensures, c.generation-generation.ensures, c.in-Ok.ensures.end, c.in-Ok.ensures.step c.args.datagram brings, c.put.ensures, c.make_ready.ensures.lines, c.make_ready.ensures.starts, c.journal.view_is)
    (entered_kept i.moment i.ends.items i.named i.journal i.starts.items i.sent i.keyed c.self.invariant c.args.line c.args.end c.args.step.now c.args.datagram c.args.bytes.now entering
    (refused_kept o.result.answer) (stopped_kept o.result.answer) c.without_spare-out.result c.index_mut-there.result.now o.new.endpoint did c.count_among-count.result count fits)

pub returns : goal.returns
returns c =
    let i = c.self.inside in
    let o = c.call_end-outcome in
    let given_is = c.given_to-given.ensures ∙ ap (λ (n : ℕ). given_by c.named_at.result.now.print n (deed_of c.args.step.now)) c.generation-generation.ensures in
    let entering : IsEntering (world_seen i.moment i.ends.items i.journal) c.args.line c.args.end c.args.step.now c.args.datagram c.args.bytes.now =
    subst (λ (w : Seen). IsEntering w c.args.line c.args.end c.args.step.now c.args.datagram c.args.bytes.now) (sym c.self.view_is) c.requires.entering in
    let did : IsCalled i.moment i.ends.items i.named c.args.line c.args.end c.args.step.now c.args.bytes.now (refused_kept o.result.answer) (stopped_kept o.result.answer) c.without_spare-out.result c.index_mut-there.result.now o.new.endpoint = record {
      there_is = c.index_mut-there.ensures.value;
      peer = c.named_at.result.now;
      peer_is = named_is c.named_at.result.now i.named c.as_slice.result.now (peer_of (deed_of c.args.step.now)) c.args.peer (sym c.requires.named) c.as_slice.ensures c.named_at.ensures;
      event = subst (λ (es : List Entry). StepOf c.index_mut-there.result.now.endpoint (event_by (given_by c.named_at.result.now.print c.index_mut-there.result.now.endpoint.group.generation (deed_of c.args.step.now)) c.args.line i.moment c.args.step.now c.args.bytes.now (refused_kept o.result.answer) (stopped_kept o.result.answer) es) o.new.endpoint) (sym c.without_spare-out.ensures)
          (subst (λ (given : List ℕ). StepOf c.index_mut-there.result.now.endpoint (event_by given c.args.line i.moment c.args.step.now c.args.bytes.now (refused_kept o.result.answer) (stopped_kept o.result.answer) o.new.out.entries) o.new.endpoint) given_is o.ensures.event);
      answer = o.ensures.answer c.if-outcome.false;
    } in
    let brings = with_datagram i.moment i.ends.items i.named i.journal i.starts.items i.sent i.keyed c.self.invariant c.args.line c.args.end c.args.step.now c.args.datagram c.args.bytes.now entering in
    let entered = entered_as i.moment i.ends.items i.named i.journal i.starts.items i.sent i.keyed c.self.invariant c.args.line c.args.end c.args.step.now c.args.datagram c.args.bytes.now entering
    (refused_kept o.result.answer) (stopped_kept o.result.answer) c.without_spare-out.result c.index_mut-there.result.now o.new.endpoint did c.is_stopped-is_stopped.result c.is_stopped-is_stopped.ensures in
    rw (c.answered.ensures, c.put-2.ensures, c.line_of-told.ensures, c.generation-generation.ensures, c.in-Ok.ensures.end, c.in-Ok.ensures.step c.args.datagram brings, c.make_ready.ensures.lines, c.journal.view_is, ← c.self.view_is) entered
