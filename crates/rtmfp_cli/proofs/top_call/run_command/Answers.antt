use Rattle.rtmfp_cli.proofs.Holding.{new_holds}
use Rattle.rtmfp_cli.proofs.top_call.run_command.Goals as goal

pub over_lines-requires-in-Lines-Replay-clause-holds :
    goal.over_lines-requires-in-Lines-Replay-clause-holds
over_lines-requires-in-Lines-Replay-clause-holds g c =
    new_holds c.new-playing.result c.new-playing.ensures

pub over_lines-requires-in-Lines-Journal-clause-holds :
    goal.over_lines-requires-in-Lines-Journal-clause-holds
over_lines-requires-in-Lines-Journal-clause-holds g c =
    new_holds c.new-journaling.result c.new-journaling.ensures
