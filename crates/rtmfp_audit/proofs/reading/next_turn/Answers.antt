use Rattle.std.proofs.Common.{List, ℕ, ◌+◌, take, subst, sym, arith}
use Rattle.rtmfp_lines.specs.Outside.{Outside, outside}
use Rattle.rtmfp_audit.specs.declared.reading.Turn.TheVariants.{Went, Ended}
use Rattle.rtmfp_audit.specs.Turning.{Moves, Took, Turned}
use Rattle.rtmfp_audit.proofs.Turns.{line_turned, last_went, last_ended, long_turned}
use Rattle.rtmfp_audit.proofs.reading.next_turn.Goals as goal

pub returns-in-Line-clause-turned : goal.returns-in-Line-clause-turned
returns-in-Line-clause-turned g c =
    let e = c.in-Line.ensures in
    let before : Outside =
    outside (g.S.Source.seen c.args.source.now) (g.K.Sink.seen c.args.sink.now) in
    let after : Outside =
    outside (g.S.Source.seen c.next_line.new.source) (g.K.Sink.seen c.next_line.new.sink) in
    let read = c.args.gathered.now in
    let made = c.take_line-turn.new.gathered in
    let moves : Moves before after c.args.buffer.now.bytes c.next_line.new.buffer.bytes = record { read = e.read.0; asks = e.asks; silent = e.written } in
    let P : List ℕ → Type 0 = λ bytes. Took c.take_line-turn.result (take c.in-Line.len bytes) read made in
    let Q : List ℕ → Type 0 = λ bytes. Turned c.take_line-turn.result read made before after c.args.buffer.now.bytes bytes in
    subst Q (sym c.consume.ensures.bytes)
    (line_turned c.take_line-turn.result read made c.in-Line.len before after c.args.buffer.now.bytes c.next_line.new.buffer.bytes e.faults moves e.read.1 (subst P c.bytes.ensures c.take_line-turn.ensures))

pub returns-in-Went-clause-turned : goal.returns-in-Went-clause-turned
returns-in-Went-clause-turned g c =
    let e = c.in-Last.ensures in
    let P : List ℕ → Type 0 = λ bytes. Took Went bytes c.args.gathered.now c.take_line.new.gathered in
    last_went c.args.gathered.now c.take_line.new.gathered _ _ c.args.buffer.now.bytes c.next_line.new.buffer.bytes c.next_line.new.buffer.bytes e.faults (record { read = e.read.0; asks = e.asks; silent = e.written }) e.read.1.0 e.read.1.1 e.read.1.2
    (subst P c.bytes-in-Last.ensures c.in-Went.ensures)

pub returns-in-Ended-clause-turned : goal.returns-in-Ended-clause-turned
returns-in-Ended-clause-turned g c =
    let e = c.in-Last.ensures in
    let P : List ℕ → Type 0 = λ bytes. Took (Ended c.in-Ended.status) bytes c.args.gathered.now c.take_line.new.gathered in
    last_ended c.in-Ended.status c.args.gathered.now c.take_line.new.gathered _ _ c.args.buffer.now.bytes c.next_line.new.buffer.bytes c.next_line.new.buffer.bytes e.faults (record { read = e.read.0; asks = e.asks; silent = e.written }) e.read.1.0.1 e.read.1.1 e.read.1.2
    (subst P c.bytes-in-Last.ensures c.in-Ended.ensures)

pub returns-in-TooLong-clause-turned : goal.returns-in-TooLong-clause-turned
returns-in-TooLong-clause-turned g c =
    let e = c.in-TooLong.ensures in
    long_turned c.args.gathered.now c.args.gathered.now (c.from.result + 1) _ _ c.args.buffer.now.bytes c.next_line.new.buffer.bytes c.next_line.new.buffer.bytes e.faults (record { read = e.read.0; asks = e.asks; silent = e.written }) e.read.1
    (omega (arith, c.from.ensures, c.lines.ensures))
