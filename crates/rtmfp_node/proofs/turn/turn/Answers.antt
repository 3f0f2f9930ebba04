use Rattle.std.proofs.Common.{rules, ◌++◌, ap, ◌∙◌, inl, inr}
use Rattle.rtmfp_host.specs.Linking.{given_by}
use Rattle.rtmfp_node.specs.Outside.{outside}
use Rattle.rtmfp_node.specs.Report.{front_of}
use Rattle.rtmfp_node.specs.Acting.{begun}
use Rattle.rtmfp_node.proofs.Sends.{counted_all, emit_as, passes_all}
use Rattle.rtmfp_node.proofs.Told.{leaves_map}
use Rattle.rtmfp_node.proofs.Turning.{begun_for, turn_ends_on, unbegun, undrawn, wait_failed, waited}
use Rattle.rtmfp_node.proofs.turn.turn.Goals as goal

pub returns-clause-ends : goal.returns-clause-ends
returns-clause-ends g c =
    let given = given_by c.receive-got.result c.receive-got.new.buf in
    let m = c.args.node.now.notes in
    let early = c.begin.new.node in
    let node = c.act_on.new.node in
    turn_ends_on c.emit.result c.args.words.now c.args.turn m.far c.in-Some.block c.now-first.result c.now-moment.result given c.args.node.now.end early.end node.end
    early.early.entries (node.heard.entries ++ node.out.entries) (begun m) early.notes node.notes (g.L.Link.seen c.args.link.now) (g.L.Link.seen c.receive-got.new.self) (g.L.Link.seen c.emit.new.link)
    (g.C.Moments.seen c.args.clock.now) (g.C.Moments.seen c.now-first.new.self) (g.C.Moments.seen c.now-moment.new.self) (g.E.Entropy.seen c.args.entropy.now)
    (g.E.Entropy.seen c.draw.new.entropy) (g.K.Sink.seen c.args.sink.now) (g.K.Sink.seen c.emit.new.sink) (search rules) (search rules) (search rules) (search rules) (search rules) (search rules)
    (begun_for c.args.words.now m c.requires)
    (emit_as c.emit.result c.front_of.result (front_of c.args.words.now.journal c.args.turn) c.sent-count.result m.far.sent c.text.result.now node.notes.text c.entries.result.now c.entries-2.result.now node.heard.entries node.out.entries
    (g.L.Link.seen c.receive-got.new.self).line (g.L.Link.seen c.emit.new.link).line (g.K.Sink.seen c.args.sink.now).written (g.K.Sink.seen c.emit.new.sink).written (search rules) (search rules) (search rules)
    (search rules) (search rules) c.emit.ensures.ends)

pub returns-clause-counted : goal.returns-clause-counted
returns-clause-counted g c =
    counted_all c.emit.result c.front_of.result c.sent-count.result c.text.result.now (c.entries.result.now ++ c.entries-2.result.now) (g.L.Link.seen c.receive-got.new.self).line
    (g.L.Link.seen c.emit.new.link).line (g.K.Sink.seen c.args.sink.now).written (g.K.Sink.seen c.emit.new.sink).written
    (outside (g.L.Link.seen c.args.link.now) (g.C.Moments.seen c.args.clock.now) (g.E.Entropy.seen c.args.entropy.now) (g.K.Sink.seen c.args.sink.now))
    (outside (g.L.Link.seen c.emit.new.link) (g.C.Moments.seen c.now-moment.new.self) (g.E.Entropy.seen c.draw.new.entropy) (g.K.Sink.seen c.emit.new.sink)) c.emit.ensures.ends
    (c.emit.ensures.link ∙ c.is_failed.ensures.no (search rules) _ _ c.receive-got.ensures.faults) (search rules) c.emit.ensures.sink

pub returns-clause-passed : goal.returns-clause-passed
returns-clause-passed g c =
    passes_all c.emit.result
    (outside (g.L.Link.seen c.args.link.now) (g.C.Moments.seen c.args.clock.now) (g.E.Entropy.seen c.args.entropy.now) (g.K.Sink.seen c.args.sink.now))
    (outside (g.L.Link.seen c.emit.new.link) (g.C.Moments.seen c.now-moment.new.self) (g.E.Entropy.seen c.draw.new.entropy) (g.K.Sink.seen c.emit.new.sink)) c.emit.ensures.passed

pub returns-then-is_failed-clause-ends : goal.returns-then-is_failed-clause-ends
returns-then-is_failed-clause-ends g c =
    wait_failed c.in-Some.block c.now-first.result (given_by c.receive-got.result c.receive-got.new.buf) (g.L.Link.seen c.args.link.now) (g.L.Link.seen c.receive-got.new.self)
    (g.C.Moments.seen c.args.clock.now) (g.C.Moments.seen c.now-first.new.self) (g.E.Entropy.seen c.args.entropy.now) (g.E.Entropy.seen c.draw.new.entropy) (g.K.Sink.seen c.args.sink.now)
    (ap (λ x. given_by x c.receive-got.new.buf) (c.is_failed.ensures.yes (search rules))) (search rules) (search rules) (search rules)

pub returns-in_default-act_on-clause-ends : goal.returns-in_default-act_on-clause-ends
returns-in_default-act_on-clause-ends g c =
    leaves_map
    (waited c.in-Some.block c.now-first.result c.now-moment.result (given_by c.receive-got.result c.receive-got.new.buf) (g.L.Link.seen c.args.link.now) (g.L.Link.seen c.receive-got.new.self)
    (g.C.Moments.seen c.args.clock.now) (g.C.Moments.seen c.now-first.new.self) (g.C.Moments.seen c.now-moment.new.self) (g.E.Entropy.seen c.args.entropy.now) (g.E.Entropy.seen c.draw.new.entropy)
    (g.K.Sink.seen c.args.sink.now) (c.is_failed.ensures.given (search rules) c.receive-got.new.buf) (search rules) (search rules) (search rules) (search rules))
    (λ x y h. inr (inl h))

pub returns-in_default-draw-clause-ends : goal.returns-in_default-draw-clause-ends
returns-in_default-draw-clause-ends g c =
    undrawn (g.L.Link.seen c.args.link.now) (g.C.Moments.seen c.args.clock.now) (g.E.Entropy.seen c.args.entropy.now) (g.E.Entropy.seen c.draw.new.entropy) (g.K.Sink.seen c.args.sink.now)
    (c.draw.ensures.undrawn (search rules))

pub returns-in_default-clause-ends : goal.returns-in_default-clause-ends
returns-in_default-clause-ends g c =
    unbegun c.args.words.now c.args.turn c.args.node.now.notes.far c.args.node.now.end
    (outside (g.L.Link.seen c.args.link.now) (g.C.Moments.seen c.args.clock.now) (g.E.Entropy.seen c.args.entropy.now) (g.K.Sink.seen c.args.sink.now)) (search rules)
