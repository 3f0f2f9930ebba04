use Rattle.rtmfp_node.specs.declared.served.Served.TheVariants.{Done}
use Rattle.rtmfp_node.specs.Outside.{Counted, PassesOn, outside}
use Rattle.rtmfp_node.specs.Acting.{IsFor, TurnsDone}
use Rattle.rtmfp_node.proofs.serving.take_turns.Given as goal

abbrev pub invariant-loop-before : goal.invariant-loop-before
invariant-loop-before g l =
    let first = outside (g.L.Link.seen l.fn.link) (g.C.Moments.seen l.fn.clock) (g.E.Entropy.seen l.fn.entropy) (g.K.Sink.seen l.fn.sink) in
    let now = outside (g.L.Link.seen l.link) (g.C.Moments.seen l.clock) (g.E.Entropy.seen l.entropy) (g.K.Sink.seen l.sink) in record {
      turns : TurnsDone l.fn.words l.before l.fn.node.notes.far l.fn.node.end l.node.end l.node.notes.far first now;
      counted : Counted Done first now;
      passed : PassesOn Done first now;
      words : IsFor l.fn.words l.node.notes;
    }
