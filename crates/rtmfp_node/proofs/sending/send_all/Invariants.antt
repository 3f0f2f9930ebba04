use Rattle.std.proofs.Common.{◌≡◌, take}
use Rattle.rtmfp_report.specs.EntryText.{sent_after}
use Rattle.rtmfp_node.specs.Outside.{Stays}
use Rattle.rtmfp_node.specs.Acting.{SentAll}
use Rattle.rtmfp_node.proofs.sending.send_all.Given as goal

abbrev pub invariant-loop-entry : goal.invariant-loop-entry
invariant-loop-entry g l = record {
  sent : SentAll l.fn.front l.fn.number (take l.entry-index l.fn.entries) (g.L.Link.seen l.fn.link).line (g.L.Link.seen l.link).line (g.K.Sink.seen l.fn.sink).written (g.K.Sink.seen l.sink).written;
  number : l.number ≡ sent_after l.fn.number (take l.entry-index l.fn.entries);
  link : Stays (g.L.Link.seen l.fn.link).faults (g.L.Link.seen l.link).faults;
  sink : Stays (g.K.Sink.seen l.fn.sink).faults (g.K.Sink.seen l.sink).faults;
}
