use Rattle.rtmfp_lines.specs.Outside.{outside}
use Rattle.rtmfp_cli.proofs.Flushed.{run_ends}
use Rattle.rtmfp_cli.proofs.top_call.over_lines.Goals as goal

pub returns : goal.returns
returns g c =
    let read = c.run_script-status.new.source in
    let made = c.run_script-status.new.sink in
    let last = c.finish.new.sink in
    let mid = outside (g.S.Source.seen read) (g.K.Sink.seen made) in
    run_ends c.args.doing c.run_script-status.result c.finish.result _ mid (g.K.Sink.seen last) c.finish.ensures c.run_script-status.ensures
