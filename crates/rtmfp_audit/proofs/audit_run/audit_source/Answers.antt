use Rattle.rtmfp_lines.specs.Outside.{outside}
use Rattle.rtmfp_audit.proofs.Ending.{told}
use Rattle.rtmfp_audit.proofs.audit_run.audit_source.Goals as goal

pub returns-in-Done : goal.returns-in-Done
returns-in-Done g c =
    let read = c.read_lines.new.source in
    let made = c.read_lines.new.sink in
    let last = c.tell.new.sink in
    let mid = outside (g.S.Source.seen read) (g.K.Sink.seen made) in
    told c.tell.result c.read_lines.new.gathered _ mid (g.K.Sink.seen last) c.in-Done.ensures c.tell.ensures
