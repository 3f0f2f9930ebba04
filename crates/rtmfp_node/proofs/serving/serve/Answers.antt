use Rattle.std.proofs.Common.{rules}
use Rattle.rtmfp_node.proofs.Running.{unbegun_run, unbound_run, undrawn_run}
use Rattle.rtmfp_node.proofs.serving.serve.Goals as goal

pub returns-clause-ends : goal.returns-clause-ends
returns-clause-ends g c =
    c.serve_node.ensures.ends c.in-Some.block (g.L.Link.seen c.args.link.now) (g.E.Entropy.seen c.args.entropy.now) (search rules) (search rules) (search rules) (search rules) (search rules) (search rules)

pub returns-in_default-clause-ends : goal.returns-in_default-clause-ends
returns-in_default-clause-ends g c =
    undrawn_run c.args.words.now (g.L.Link.seen c.args.link.now) (g.C.Moments.seen c.args.clock.now) (g.E.Entropy.seen c.args.entropy.now) (g.E.Entropy.seen c.draw.new.entropy)
    (g.K.Sink.seen c.args.sink.now) (c.draw.ensures.undrawn (search rules))

pub returns-in-Failed-clause-ends : goal.returns-in-Failed-clause-ends
returns-in-Failed-clause-ends g c =
    unbound_run c.args.words.now c.in-Some.block (g.L.Link.seen c.args.link.now) (g.L.Link.seen c.bind.new.self) (g.C.Moments.seen c.args.clock.now) (g.E.Entropy.seen c.args.entropy.now)
    (g.E.Entropy.seen c.draw.new.entropy) (g.K.Sink.seen c.args.sink.now) (search rules) (search rules)

pub returns-in_default-node_of-clause-ends : goal.returns-in_default-node_of-clause-ends
returns-in_default-node_of-clause-ends g c =
    unbegun_run c.args.words.now c.in-Some.block (g.L.Link.seen c.args.link.now) (g.L.Link.seen c.bind.new.self) (g.C.Moments.seen c.args.clock.now) (g.E.Entropy.seen c.args.entropy.now)
    (g.E.Entropy.seen c.draw.new.entropy) (g.K.Sink.seen c.args.sink.now) (search rules) (search rules)
