use Rattle.std.proofs.Common.{ℕ, suc, ◌≡◌, ◌+◌, ◌-◌, sym, ◌∙◌, subst, arith}
use Rattle.std.specs.FinMap.{get}
use Rattle.endpoint_model.specs.declared.place.Place.{Place}
use Rattle.endpoint_model.specs.State.{Done}
use Rattle.endpoint_model.specs.FlowChunks.{acked, acked_by, acked_in}
use Rattle.endpoint_model.proofs.FlowChunks.{acked_more, acked_still}
use Rattle.end_state.proofs.Endings.{made_room}
use Rattle.end_loops.proofs.Acking.{owed_from}
use Rattle.end_loops.proofs.walking.send_acks.Goals as goal

pub returns-then-not-owes_acks-clause-ok : goal.returns-then-not-owes_acks-clause-ok
returns-then-not-owes_acks-clause-ok c =
    let all : (256 - c.loop.counter) + c.loop.counter ≡ 256 = omega (arith, c.loop-test.true) in
    subst (λ (p : Place). Done (acked 256 c.args.end.now p) c.loop.end c.args.out.now c.loop.out) (sym c.in-Session.is)
    (subst (λ (n : ℕ). Done (acked_in n c.args.end.now c.in-Session.near) c.loop.end c.args.out.now c.loop.out) all
    (acked_still (256 - c.loop.counter) c.loop.counter c.args.end.now c.loop.end c.in-Session.near c.args.out.now c.loop.out c.loop.invariant.so_far (sym c.owes_acks.ensures ∙ c.if-not-owes_acks.true)))

pub loop-preserved : goal.loop-preserved
loop-preserved c =
    let more : suc c.loop.counter ≡ c.loop.counter + 1 = omega arith in
    let owed = sym c.owes_acks.ensures ∙ c.if-not-owes_acks.false in
    let acks = acked_by c.loop.end c.in-Session.near (get c.loop.end.sessions c.in-Session.near) in
    let once = made_room acks c.send_acks.new.self c.loop.out c.make_room.new.self c.send_acks.new.out c.make_room.ensures.entries c.make_room.ensures.free c.make_room.ensures.room c.send_acks.ensures in
    record {
      so_far =
          subst (λ (n : ℕ). Done (acked_in n c.args.end.now c.in-Session.near) c.send_acks.new.self c.args.out.now c.send_acks.new.out) more
          (acked_more c.loop.counter c.args.end.now c.loop.end c.send_acks.new.self c.in-Session.near c.args.out.now c.loop.out c.send_acks.new.out c.loop.invariant.so_far owed once);
      owed = λ some. owed_from c.loop.counter c.args.end.now c.loop.end c.in-Session.near c.args.out.now c.loop.out c.loop.invariant.so_far c.loop.invariant.owed owed;
    }

pub returns-clause-ok : goal.returns-clause-ok
returns-clause-ok c =
    let all : c.loop.counter ≡ 256 = omega (arith, c.loop-test.false, c.loop.auto.counter-end) in
    subst (λ (p : Place). Done (acked 256 c.args.end.now p) c.loop.end c.args.out.now c.loop.out) (sym c.in-Session.is)
    (subst (λ (n : ℕ). Done (acked_in n c.args.end.now c.in-Session.near) c.loop.end c.args.out.now c.loop.out) all c.loop.invariant.so_far)
