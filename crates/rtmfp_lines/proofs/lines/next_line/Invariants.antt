use Rattle.std.proofs.Common.{◌≡◌, ◌+◌, ◌-◌, ◌≤◌, [], length, take}
use Rattle.rtmfp_host.specs.Writing.{Appends}
use Rattle.rtmfp_lines.specs.Lines.{NoLf}
use Rattle.rtmfp_lines.specs.Reading.{Asks, HasRead}
use Rattle.rtmfp_lines.proofs.lines.next_line.Given as goal

abbrev pub invariant-reading : goal.invariant-reading
invariant-reading g l = record {
  has_read : HasRead (g.S.Source.seen l.fn.source).left (g.S.Source.seen l.source).left l.fn.buffer.bytes l.buffer.bytes;
  within : l.scanned ≤ length l.buffer.bytes;
  none : NoLf (take l.scanned l.buffer.bytes);
  written : Appends (g.K.Sink.seen l.fn.sink).written (g.K.Sink.seen l.sink).written [];
  capacity : l.buffer.capacity ≡ l.fn.buffer.capacity;
  asks :
      Asks l.limit (g.S.Source.seen l.fn.source)
      (g.S.Source.seen l.source) l.fn.buffer.bytes l.buffer.bytes;
  source : (g.S.Source.seen l.source).faults ≡ (g.S.Source.seen l.fn.source).faults;
  sink : (g.K.Sink.seen l.sink).faults ≡ (g.K.Sink.seen l.fn.sink).faults;
}

abbrev pub decreases-reading : goal.decreases-reading
decreases-reading g l = l.limit + 1 - length l.buffer.bytes
