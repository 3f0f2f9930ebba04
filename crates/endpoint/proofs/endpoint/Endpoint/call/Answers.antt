use Rattle.endpoint.specs.Calls.{call_of}
use Rattle.endpoint.proofs.Extending.{called_extends}
use Rattle.endpoint.proofs.endpoint.Endpoint.call.Goals as goal

pub returns-clause-stands : goal.returns-clause-stands
returns-clause-stands c = called_extends c.args.self.now c.make.new.self c.args.moment (call_of c.args.call.now c.args.draws.now) c.make.result c.args.out.now c.make.new.out c.make.ensures
