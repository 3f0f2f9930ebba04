use Rattle.rtmfp_meet.proofs.Written.{handed}
use Rattle.rtmfp_meet.proofs.lines.hand_over.Goals as goal

pub returns-in-Done : goal.returns-in-Done
returns-in-Done g c = handed c.flush.result c.args.node c.args.text.now c.prefix.result.now _ (g.K.Sink.seen c.write_lines.new.sink) _ c.prefix.ensures c.in-Done.ensures.bytes c.in-Done.ensures.faults c.flush.ensures.bytes c.flush.ensures.passed c.flush.ensures.faults
