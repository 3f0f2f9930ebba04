use Rattle.std.proofs.Common.{rules}
use Rattle.rtmfp_node.specs.Outside.{outside}
use Rattle.rtmfp_node.proofs.Running.{run_ends, stopped_at_zero, zero_as, zero_is_done, passed_as, passed_later}
use Rattle.rtmfp_node.proofs.serving.take_all.Goals as goal

pub returns-clause-ends : goal.returns-clause-ends
returns-clause-ends g c block before blocks setup begins made head drew bound =
    let z = c.turn_zero-served in
    let t = c.take_turns in
    let first = outside (g.L.Link.seen c.args.link.now) (g.C.Moments.seen c.args.clock.now) (g.E.Entropy.seen c.args.entropy.now) (g.K.Sink.seen c.args.sink.now) in
    let opened = outside (g.L.Link.seen z.new.link) (g.C.Moments.seen z.new.clock) (g.E.Entropy.seen z.new.entropy) (g.K.Sink.seen z.new.sink) in
    let o = outside (g.L.Link.seen t.new.link) (g.C.Moments.seen t.new.clock) (g.E.Entropy.seen t.new.entropy) (g.K.Sink.seen t.new.sink) in
    run_ends c.args.words.now block z.new.node.notes.far c.args.node.now.end z.new.node.end before (g.L.Link.seen c.args.link.now) (g.C.Moments.seen c.args.clock.now) blocks
    (g.E.Entropy.seen c.args.entropy.now) (g.K.Sink.seen c.args.sink.now) opened o setup begins drew bound
    (zero_as c.args.words.now c.args.node.now.notes.text _ z.new.node.notes.far c.args.node.now.end z.new.node.end first opened head (zero_is_done z.result c.args.words.now c.args.node.now.notes.text z.new.node.notes.far c.args.node.now.end z.new.node.end first opened (search rules) z.ensures.ends)) t.result t.new.node.notes.far t.new.node.end
    t.ensures.ends

pub returns-then-not-is_done-clause-ends : goal.returns-then-not-is_done-clause-ends
returns-then-not-is_done-clause-ends g c block before blocks setup begins made head drew bound =
    let z = c.turn_zero-served in
    let opened = outside (g.L.Link.seen z.new.link) (g.C.Moments.seen z.new.clock) (g.E.Entropy.seen z.new.entropy) (g.K.Sink.seen z.new.sink) in
    stopped_at_zero z.result c.args.words.now block c.args.node.now.notes.text z.new.node.notes.far c.args.node.now.end z.new.node.end before (g.L.Link.seen c.args.link.now) (g.C.Moments.seen c.args.clock.now) blocks
    (g.E.Entropy.seen c.args.entropy.now) (g.K.Sink.seen c.args.sink.now) opened (search rules) drew bound made head z.ensures.ends

-- turn 0 has passed on what it wrote, and so have the turns then
pub returns-clause-passed : goal.returns-clause-passed
returns-clause-passed g c =
    let z = c.turn_zero-served in
    let t = c.take_turns in
    let first = outside (g.L.Link.seen c.args.link.now) (g.C.Moments.seen c.args.clock.now) (g.E.Entropy.seen c.args.entropy.now) (g.K.Sink.seen c.args.sink.now) in
    let opened = outside (g.L.Link.seen z.new.link) (g.C.Moments.seen z.new.clock) (g.E.Entropy.seen z.new.entropy) (g.K.Sink.seen z.new.sink) in
    let o = outside (g.L.Link.seen t.new.link) (g.C.Moments.seen t.new.clock) (g.E.Entropy.seen t.new.entropy) (g.K.Sink.seen t.new.sink) in
    passed_later t.result first opened o (passed_as z.result first opened (search rules) z.ensures.passed) t.ensures.passed
