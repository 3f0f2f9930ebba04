use Rattle.placed_world.specs.Stepping.{comes_to}
use Rattle.placed_world.proofs.Answering.{flat_if, undone_if}
use Rattle.placed_world.proofs.world.PlacedWorld.step.Goals as goal

pub returns-clause-ok : goal.returns-clause-ok
returns-clause-ok c = c.take_step-result.ensures.ok

pub returns-clause-refused : goal.returns-clause-refused
returns-clause-refused c = c.take_step-result.ensures.refused

pub returns-clause-memory : goal.returns-clause-memory
returns-clause-memory c = c.take_step-result.ensures.memory

pub returns-clause-err : goal.returns-clause-err
returns-clause-err c = undone_if c.args.self.now c.take_step-result.new.self c.args.line c.args.step.now c.take_step-result.result c.take_step-result.ensures

pub returns-clause-flat : goal.returns-clause-flat
returns-clause-flat c = flat_if c.args.self.now.world c.args.line (comes_to c.args.self.now c.args.step.now) c.take_step-result.new.self c.take_step-result.result c.take_step-result.ensures.ok
