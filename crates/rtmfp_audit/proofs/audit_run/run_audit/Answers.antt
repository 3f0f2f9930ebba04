use Rattle.rtmfp_lines.specs.Outside.{outside}
use Rattle.rtmfp_audit.proofs.Ending.{run_ends}
use Rattle.rtmfp_audit.proofs.audit_run.run_audit.Goals as goal

pub returns : goal.returns
returns g c =
    let read = c.audit_source-ended.new.source in
    let made = c.audit_source-ended.new.sink in
    let last = c.finish.new.sink in
    let mid = outside (g.S.Source.seen read) (g.K.Sink.seen made) in
    run_ends c.audit_source-ended.result c.finish.result _ mid (g.K.Sink.seen last) c.finish.ensures c.audit_source-ended.ensures
