use Rattle.std.proofs.Common.{List, ℕ, take, subst, sym}
use Rattle.rtmfp_lines.specs.Reading.{IsPart, IsTooLong}
use Rattle.rtmfp_host.specs.Seen.{SinkSeen}
use Rattle.rtmfp_lines.specs.Outside.{Outside, outside}
use Rattle.rtmfp_cli.specs.Doing.{limit_of}
use Rattle.rtmfp_cli.specs.Turning.{Printed, Turned}
use Rattle.rtmfp_cli.specs.declared.script_run.Turn.TheVariants.{Went, Ended}
use Rattle.rtmfp_cli.proofs.Turns.{Between, between_at, line_turned, last_done, last_turned, end_turned, long_turned, nothing_turned, reading_stopped}
use Rattle.rtmfp_cli.proofs.script_run.next_turn.Goals as goal

pub returns-in-End-clause-turned : goal.returns-in-End-clause-turned
returns-in-End-clause-turned g c =
    let e = c.in-End.ensures in
    end_turned c.args.doing.now c.args.number _ _ c.args.buffer.now.bytes c.next_line.new.buffer.bytes
    (between_at c.limit.result (limit_of c.args.doing.now) _ _ _ _ c.limit.ensures (record { read = e.read.0; asks = e.asks; kept = e.written })) e.faults e.read.1.0 e.read.1.1

pub returns-in-TooLong-clause-turned : goal.returns-in-TooLong-clause-turned
returns-in-TooLong-clause-turned g c =
    let e = c.in-TooLong.ensures in
    let P : ℕ → Type 0 = λ limit. IsTooLong limit c.next_line.new.buffer.bytes in
    long_turned c.args.doing.now c.args.doing.now c.args.number _ _ c.args.buffer.now.bytes c.next_line.new.buffer.bytes c.next_line.new.buffer.bytes
    (between_at c.limit.result (limit_of c.args.doing.now) _ _ _ _ c.limit.ensures (record { read = e.read.0; asks = e.asks; kept = e.written })) e.faults (subst P c.limit.ensures e.read.1)

pub returns-in-SinkFailed-clause-turned : goal.returns-in-SinkFailed-clause-turned
returns-in-SinkFailed-clause-turned g c =
    let e = c.in-SinkFailed.ensures in
    nothing_turned c.args.doing.now c.args.number _ _ c.args.buffer.now.bytes c.next_line.new.buffer.bytes
    (between_at c.limit.result (limit_of c.args.doing.now) _ _ _ _ c.limit.ensures (record { read = e.read.0; asks = e.asks; kept = e.written })) e.faults

pub returns-in-SourceFailed-clause-turned : goal.returns-in-SourceFailed-clause-turned
returns-in-SourceFailed-clause-turned g c =
    let e = c.in-SourceFailed.ensures in
    let P : ℕ → Type 0 = λ limit. IsPart limit c.next_line.new.buffer.bytes in
    reading_stopped (limit_of c.args.doing.now) _ _ c.args.buffer.now.bytes c.next_line.new.buffer.bytes
    (between_at c.limit.result (limit_of c.args.doing.now) _ _ _ _ c.limit.ensures (record { read = e.read.0; asks = e.asks; kept = e.written })) e.faults.0 e.faults.1 (subst P c.limit.ensures e.read.1)

pub returns-in-Went-clause-turned : goal.returns-in-Went-clause-turned
returns-in-Went-clause-turned g c =
    let e = c.in-Last.ensures in
    let read = c.next_line.new.source in
    let made = c.next_line.new.sink in
    let last = c.do_line.new.sink in
    let mid = outside (g.S.Source.seen read) (g.K.Sink.seen made) in
    let P : List ℕ → Type 0 = λ line. Printed Went c.args.doing.now c.do_line.new.doing c.args.number line (g.K.Sink.seen made) (g.K.Sink.seen last) in
    let Q : ℕ → Type 0 = λ limit. IsPart limit c.next_line.new.buffer.bytes in
    last_done c.args.doing.now c.do_line.new.doing c.args.number _ mid (g.K.Sink.seen last) c.args.buffer.now.bytes c.next_line.new.buffer.bytes
    (between_at c.limit.result (limit_of c.args.doing.now) _ mid _ _ c.limit.ensures (record { read = e.read.0; asks = e.asks; kept = e.written })) e.faults (subst Q c.limit.ensures e.read.1.0) e.read.1.1 e.read.1.2
    (subst P c.bytes-in-Last.ensures c.in-Went.ensures.printed)

pub returns-in-Ended-clause-turned : goal.returns-in-Ended-clause-turned
returns-in-Ended-clause-turned g c =
    let e = c.in-Last.ensures in
    let read = c.next_line.new.source in
    let made = c.next_line.new.sink in
    let last = c.do_line.new.sink in
    let mid = outside (g.S.Source.seen read) (g.K.Sink.seen made) in
    let P : List ℕ → Type 0 =
    λ line. Printed (Ended c.in-Ended.status) c.args.doing.now c.do_line.new.doing c.args.number line (g.K.Sink.seen made) (g.K.Sink.seen last) in
    last_turned c.in-Ended.status c.args.doing.now c.do_line.new.doing c.args.number _ mid (g.K.Sink.seen last) c.args.buffer.now.bytes c.next_line.new.buffer.bytes
    c.next_line.new.buffer.bytes (between_at c.limit.result (limit_of c.args.doing.now) _ mid _ _ c.limit.ensures (record { read = e.read.0; asks = e.asks; kept = e.written })) e.faults e.read.1.0.1 e.read.1.1 e.read.1.2
    (subst P c.bytes-in-Last.ensures c.in-Ended.ensures.printed)

pub returns-in-Line-clause-turned : goal.returns-in-Line-clause-turned
returns-in-Line-clause-turned g c =
    let e = c.in-Line.ensures in
    let read = c.next_line.new.source in
    let made = c.next_line.new.sink in
    let last = c.do_line-turn.new.sink in
    let before : Outside =
    outside (g.S.Source.seen c.args.source.now) (g.K.Sink.seen c.args.sink.now) in
    let mid : Outside = outside (g.S.Source.seen read) (g.K.Sink.seen made) in
    let sink : SinkSeen = g.K.Sink.seen last in
    let P : List ℕ → Type 0 =
    λ bytes. Printed c.do_line-turn.result c.args.doing.now c.do_line-turn.new.doing c.args.number (take c.in-Line.len bytes) mid.sink sink in
    let Q : List ℕ → Type 0 = λ bytes. Turned c.do_line-turn.result c.args.doing.now c.do_line-turn.new.doing c.args.number before (outside mid.source sink) c.args.buffer.now.bytes bytes in
    let between : Between (limit_of c.args.doing.now) before mid c.args.buffer.now.bytes c.next_line.new.buffer.bytes =
    between_at c.limit.result (limit_of c.args.doing.now) before mid _ _ c.limit.ensures (record { read = e.read.0; asks = e.asks; kept = e.written }) in
    subst Q (sym c.consume.ensures.bytes)
    (line_turned c.do_line-turn.result c.args.doing.now c.do_line-turn.new.doing c.args.number c.limit.result c.in-Line.len before mid sink c.args.buffer.now.bytes c.next_line.new.buffer.bytes between e.faults c.limit.ensures e.read.1
    (subst P c.bytes.ensures c.do_line-turn.ensures.printed))
