use Rattle.std.proofs.Common.{sym, ◌∙◌}
use Rattle.rendezvous_world.proofs.Refusing.{lacking_done, entered_done, call_beyond, call_lacks, call_named, entering_call}
use Rattle.rendezvous_world.specs.Deed.{deed_of}
use Rattle.rendezvous_world.proofs.world.World.call.Goals as goal

pub returns-then-lacks_one : goal.returns-then-lacks_one
returns-then-lacks_one c =
    lacking_done c.args.self.now c.args.line c.args.step.now
    (call_lacks c.args.self.now c.args.end c.args.peer c.args.step.now c.requires.deed ∙ sym c.lacks_one.ensures ∙ c.if-lacks_one.true)

pub returns-then-narrows_beyond : goal.returns-then-narrows_beyond
returns-then-narrows_beyond c =
    call_beyond c.args.self.now c.args.line c.args.end c.args.peer c.args.step.now c.requires.deed (sym c.lacks_one.ensures ∙ c.if-lacks_one.false) (sym c.narrows_beyond.ensures ∙ c.if-narrows_beyond.true)

pub enter-requires-clause-entering : goal.enter-requires-clause-entering
enter-requires-clause-entering c =
    entering_call c.args.self.now c.args.line c.args.end c.args.peer c.args.step.now c.requires.above c.requires.fits c.requires.deed (sym c.lacks_one.ensures ∙ c.if-lacks_one.false) (sym c.narrows_beyond.ensures ∙ c.if-narrows_beyond.false)

pub enter-requires-clause-named : goal.enter-requires-clause-named
enter-requires-clause-named c = call_named c.args.self.now c.args.end c.args.peer (deed_of c.args.step.now) c.requires.deed ∙ sym c.peer_or.ensures

pub returns : goal.returns
returns c =
    let entering = entering_call c.args.self.now c.args.line c.args.end c.args.peer c.args.step.now c.requires.above c.requires.fits c.requires.deed (sym c.lacks_one.ensures ∙ c.if-lacks_one.false) (sym c.narrows_beyond.ensures ∙ c.if-narrows_beyond.false) in
    entered_done c.args.self.now c.args.line c.args.step.now c.enter.result c.enter.new.self entering.calls entering.fine c.enter.ensures
