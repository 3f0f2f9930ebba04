use Rattle.std.proofs.Common.{refl}
use Rattle.rtmfp_lines.specs.Outside.{outside}
use Rattle.rtmfp_cli.proofs.Turns.{none_written, line_is_there, starts_is_some, not_none, reading_stopped}
use Rattle.rtmfp_cli.proofs.script_run.close_script.Goals as goal

pub returns-in-Line : goal.returns-in-Line
returns-in-Line g c =
    let e = c.in-Line.ensures in
    let bytes = c.next_line.new.buffer.bytes in
    let read = c.next_line.new.source in
    let made = c.next_line.new.sink in
    let now = outside (g.S.Source.seen read) (g.K.Sink.seen made) in
    (e.faults, (bytes, none_written 0 _ now now.sink c.args.buffer.now.bytes bytes (record { read = e.read.0; asks = e.asks; kept = e.written }) refl, line_is_there _ bytes (starts_is_some 0 c.in-Line.field-0 bytes e.read.1)))

pub returns-in-TooLong : goal.returns-in-TooLong
returns-in-TooLong g c =
    let e = c.in-TooLong.ensures in
    let bytes = c.next_line.new.buffer.bytes in
    let read = c.next_line.new.source in
    let made = c.next_line.new.sink in
    let now = outside (g.S.Source.seen read) (g.K.Sink.seen made) in
    (e.faults, (bytes, none_written 0 _ now now.sink c.args.buffer.now.bytes bytes (record { read = e.read.0; asks = e.asks; kept = e.written }) refl, line_is_there _ bytes (not_none 0 bytes e.read.1.0)))

pub returns-in-SourceFailed : goal.returns-in-SourceFailed
returns-in-SourceFailed g c =
    let e = c.in-SourceFailed.ensures in
    reading_stopped 0 _ _ c.args.buffer.now.bytes c.next_line.new.buffer.bytes (record { read = e.read.0; asks = e.asks; kept = e.written }) e.faults.0 e.faults.1 e.read.1
