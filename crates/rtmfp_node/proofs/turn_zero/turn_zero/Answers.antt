use Rattle.std.proofs.Common.{rules}
use Rattle.rtmfp_node.specs.Report.{front_of}
use Rattle.rtmfp_node.proofs.Sends.{emit_as}
use Rattle.rtmfp_node.proofs.Turning.{all_opened, opens_as, unlearnt, zero_cut, zero_ends, zero_for}
use Rattle.rtmfp_node.proofs.turn_zero.turn_zero.Goals as goal

pub returns-clause-ends : goal.returns-clause-ends
returns-clause-ends g c =
    let o = c.open_all-served in
    let b = (g.E.Entropy.seen c.args.entropy.now).blocks in
    let a = (g.E.Entropy.seen o.new.entropy).blocks in
    let n = c.args.node.now in
    let l = c.learn.new in
    zero_ends c.args.words.now n.notes.text c.now-moment.result n.end l.end o.new.end c.clear.new.self.entries o.new.out.entries c.clear-2.new.self.entries l.out.entries n.notes l.notes o.new.notes (g.L.Link.seen c.args.link.now)
    (g.L.Link.seen c.emit.new.link) (g.C.Moments.seen c.args.clock.now) (g.C.Moments.seen c.now-moment.new.self) (g.E.Entropy.seen c.args.entropy.now) (g.E.Entropy.seen o.new.entropy)
    (g.K.Sink.seen c.args.sink.now) (g.K.Sink.seen c.emit.new.sink) (search rules) (search rules)
    (all_opened o.result c.as_slice.result.now c.args.words.now.openings c.now-moment.result b a l.end o.new.end l.out.entries o.new.out.entries l.notes o.new.notes (search rules) (search rules)
    o.ensures.ends) (search rules) (search rules)
    (zero_for c.args.words.now n.notes c.requires.words c.requires.none) c.emit.result
    (emit_as c.emit.result c.front_of.result (front_of c.args.words.now.journal 0) 0 0 c.text.result.now o.new.notes.text c.entries.result.now c.entries-2.result.now c.clear.new.self.entries o.new.out.entries (g.L.Link.seen c.args.link.now).line
    (g.L.Link.seen c.emit.new.link).line (g.K.Sink.seen c.args.sink.now).written (g.K.Sink.seen c.emit.new.sink).written (search rules) (search rules) (search rules) (search rules) (search rules) c.emit.ensures.ends)

pub returns-then-not-is_done-clause-ends : goal.returns-then-not-is_done-clause-ends
returns-then-not-is_done-clause-ends g c =
    let o = c.open_all-served in
    let b = (g.E.Entropy.seen c.args.entropy.now).blocks in
    let a = (g.E.Entropy.seen o.new.entropy).blocks in
    let l = c.learn.new in
    zero_cut o.result c.args.words.now c.args.node.now.notes.text c.now-moment.result _ c.args.node.now.end l.end o.new.end _ l.out.entries o.new.out.entries l.notes o.new.notes
    (g.L.Link.seen c.args.link.now) (g.C.Moments.seen c.args.clock.now) (g.C.Moments.seen c.now-moment.new.self) (g.E.Entropy.seen c.args.entropy.now) (g.E.Entropy.seen o.new.entropy)
    (g.K.Sink.seen c.args.sink.now) (search rules) (search rules)
    (opens_as o.result c.as_slice.result.now c.args.words.now.openings c.now-moment.result b a l.end o.new.end l.out.entries o.new.out.entries l.notes o.new.notes
    (search rules) o.ensures.ends)

pub returns-in_default-clause-ends : goal.returns-in_default-clause-ends
returns-in_default-clause-ends g c =
    unlearnt c.args.words.now c.args.node.now.notes.text c.now-moment.result c.args.node.now.end (g.L.Link.seen c.args.link.now) (g.C.Moments.seen c.args.clock.now) (g.C.Moments.seen c.now-moment.new.self)
    (g.E.Entropy.seen c.args.entropy.now) (g.K.Sink.seen c.args.sink.now) (search rules) (search rules)
