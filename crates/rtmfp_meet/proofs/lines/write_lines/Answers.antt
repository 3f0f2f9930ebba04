use Rattle.rtmfp_meet.proofs.Written.{written_more, written_part}
use Rattle.rtmfp_meet.proofs.lines.write_lines.Goals as goal

pub returns-in-Failed-clause-bytes : goal.returns-in-Failed-clause-bytes
returns-in-Failed-clause-bytes g c =
    written_part c.args.prefix.now c.args.text.now c.loop-line.rest.now c.in-Some.line.now c.in-Some.after.now _ (g.K.Sink.seen c.loop-line.sink) (g.K.Sink.seen c.write_line.new.sink) c.loop-line.invariant c.in-Some.ensures c.in-Failed.ensures.bytes

pub loop-line-preserved : goal.loop-line-preserved
loop-line-preserved g c =
    written_more c.args.prefix.now c.args.text.now c.loop-line.rest.now c.in-Some.line.now c.in-Some.after.now _ (g.K.Sink.seen c.loop-line.sink) (g.K.Sink.seen c.write_line.new.sink) c.loop-line.invariant c.in-Some.ensures c.in-Done.ensures.bytes c.in-Done.ensures.faults
