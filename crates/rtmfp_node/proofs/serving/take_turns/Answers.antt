use Rattle.std.proofs.Common.{rules, subst, refl}
use Rattle.rtmfp_node.specs.declared.served.Served.TheVariants.{Done}
use Rattle.rtmfp_node.specs.Outside.{outside}
use Rattle.rtmfp_node.specs.Acting.{TurnsDone}
use Rattle.rtmfp_node.proofs.Running.{counted_as, counted_later, passed_as, passed_later, turn_done, turns_more, turns_none, turns_stopped}
use Rattle.rtmfp_node.proofs.serving.take_turns.Goals as goal

pub loop-before-init : goal.loop-before-init
loop-before-init g c =
    let first = outside (g.L.Link.seen c.args.link.now) (g.C.Moments.seen c.args.clock.now) (g.E.Entropy.seen c.args.entropy.now) (g.K.Sink.seen c.args.sink.now) in record {
      turns = turns_none c.args.words.now c.args.node.now.notes.far c.args.node.now.end first;
      counted = record { link = refl; entropy = refl; sink = refl };
      passed = λ h. h;
      words = c.requires;
    }

pub loop-before-preserved : goal.loop-before-preserved
loop-before-preserved g c =
    let first = outside (g.L.Link.seen c.args.link.now) (g.C.Moments.seen c.args.clock.now) (g.E.Entropy.seen c.args.entropy.now) (g.K.Sink.seen c.args.sink.now) in
    let l = c.loop-before in
    let before = outside (g.L.Link.seen l.link) (g.C.Moments.seen l.clock) (g.E.Entropy.seen l.entropy) (g.K.Sink.seen l.sink) in
    let t = c.turn-served in
    let after = outside (g.L.Link.seen t.new.link) (g.C.Moments.seen t.new.clock) (g.E.Entropy.seen t.new.entropy) (g.K.Sink.seen t.new.sink) in record {
      turns =
          turns_more c.args.words.now l.before c.args.node.now.notes.far l.node.notes.far t.new.node.notes.far c.args.node.now.end l.node.end t.new.node.end first before after
          l.invariant.turns
          (turn_done t.result c.args.words.now _ l.node.notes.far t.new.node.notes.far l.node.end t.new.node.end before after (search rules) t.ensures.ends);
      counted = counted_later Done first before after l.invariant.counted (counted_as t.result before after (search rules) t.ensures.counted);
      passed = passed_later Done first before after l.invariant.passed (passed_as t.result before after (search rules) t.ensures.passed);
      words = search rules;
    }

pub returns-then-not-is_done-clause-ends : goal.returns-then-not-is_done-clause-ends
returns-then-not-is_done-clause-ends g c =
    let first = outside (g.L.Link.seen c.args.link.now) (g.C.Moments.seen c.args.clock.now) (g.E.Entropy.seen c.args.entropy.now) (g.K.Sink.seen c.args.sink.now) in
    let l = c.loop-before in
    let before = outside (g.L.Link.seen l.link) (g.C.Moments.seen l.clock) (g.E.Entropy.seen l.entropy) (g.K.Sink.seen l.sink) in
    let t = c.turn-served in
    let after = outside (g.L.Link.seen t.new.link) (g.C.Moments.seen t.new.clock) (g.E.Entropy.seen t.new.entropy) (g.K.Sink.seen t.new.sink) in
    turns_stopped t.result c.args.words.now l.before c.args.node.now.notes.far l.node.notes.far t.new.node.notes.far _ c.args.node.now.end l.node.end t.new.node.end _ first before after
    (search rules) (search rules) l.invariant.turns t.ensures.ends

pub returns-then-not-is_done-clause-counted : goal.returns-then-not-is_done-clause-counted
returns-then-not-is_done-clause-counted g c =
    let first = outside (g.L.Link.seen c.args.link.now) (g.C.Moments.seen c.args.clock.now) (g.E.Entropy.seen c.args.entropy.now) (g.K.Sink.seen c.args.sink.now) in
    let l = c.loop-before in
    let before = outside (g.L.Link.seen l.link) (g.C.Moments.seen l.clock) (g.E.Entropy.seen l.entropy) (g.K.Sink.seen l.sink) in
    let t = c.turn-served in
    let after = outside (g.L.Link.seen t.new.link) (g.C.Moments.seen t.new.clock) (g.E.Entropy.seen t.new.entropy) (g.K.Sink.seen t.new.sink) in
    counted_later t.result first before after l.invariant.counted t.ensures.counted

pub returns-then-not-is_done-clause-passed : goal.returns-then-not-is_done-clause-passed
returns-then-not-is_done-clause-passed g c =
    let first = outside (g.L.Link.seen c.args.link.now) (g.C.Moments.seen c.args.clock.now) (g.E.Entropy.seen c.args.entropy.now) (g.K.Sink.seen c.args.sink.now) in
    let l = c.loop-before in
    let before = outside (g.L.Link.seen l.link) (g.C.Moments.seen l.clock) (g.E.Entropy.seen l.entropy) (g.K.Sink.seen l.sink) in
    let t = c.turn-served in
    let after = outside (g.L.Link.seen t.new.link) (g.C.Moments.seen t.new.clock) (g.E.Entropy.seen t.new.entropy) (g.K.Sink.seen t.new.sink) in
    passed_later t.result first before after l.invariant.passed t.ensures.passed

pub returns-clause-ends : goal.returns-clause-ends
returns-clause-ends g c =
    let first = outside (g.L.Link.seen c.args.link.now) (g.C.Moments.seen c.args.clock.now) (g.E.Entropy.seen c.args.entropy.now) (g.K.Sink.seen c.args.sink.now) in
    let l = c.loop-before in
    let before = outside (g.L.Link.seen l.link) (g.C.Moments.seen l.clock) (g.E.Entropy.seen l.entropy) (g.K.Sink.seen l.sink) in
    subst (λ n. TurnsDone c.args.words.now n c.args.node.now.notes.far c.args.node.now.end l.node.end l.node.notes.far first before) (search rules) l.invariant.turns
