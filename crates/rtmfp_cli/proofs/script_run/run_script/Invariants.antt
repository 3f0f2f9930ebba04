use Rattle.std.proofs.Common.{◌+◌, ◌*◌, ◌<◌}
use Rattle.rtmfp_cli.specs.Doing.{IsNext, limit_of}
use Rattle.rtmfp_lines.specs.Outside.{outside}
use Rattle.rtmfp_cli.proofs.Going.{Going}
use Rattle.rtmfp_cli.proofs.script_run.run_script.Given as goal

abbrev pub invariant-loop-before : goal.invariant-loop-before
invariant-loop-before g l = record {
  going :
      Going l.fn.doing l.doing
      (outside (g.S.Source.seen l.fn.source) (g.K.Sink.seen l.fn.sink))
      (outside (g.S.Source.seen l.source) (g.K.Sink.seen l.sink)) l.before l.buffer.bytes;
  capacity : 2 * limit_of l.doing < l.buffer.capacity;
  next : IsNext l.doing (l.before + 1);
}
