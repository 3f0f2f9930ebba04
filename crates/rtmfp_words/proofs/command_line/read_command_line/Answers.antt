use Rattle.rtmfp_words.proofs.Commanding.{lines_only}
use Rattle.rtmfp_words.proofs.command_line.read_command_line.Goals as goal

pub returns-in-Some-clause-only : goal.returns-in-Some-clause-only
returns-in-Some-clause-only c =
    lines_only c.args.words.now c.read_command.result c.in-Some.command c.in-Some.is c.in-Some.ensures.reads c.read_command.ensures.show c.read_command.ensures.replay c.read_command.ensures.journal c.read_command.ensures.generate c.read_command.ensures.audit
