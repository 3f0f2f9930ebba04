use Rattle.rtmfp_meet.specs.Meeting.{sides}
use Rattle.rtmfp_meet.proofs.Going.{still_started}
use Rattle.rtmfp_meet.proofs.Runs.{Started, all_done, fifth_stops, first_stops, fourth_stops, second_stops, sixth_stops, third_stops, three}
use Rattle.rtmfp_meet.proofs.meeting.meet.Goals as goal

pub returns-in-Err : goal.returns-in-Err
returns-in-Err g c = first_stops c.args.meet.port c.args.meet.turns c.in-Err.status _ _ (g.K.Sink.seen c.args.sink.now) c.requires c.in-Err.ensures

pub start-requires-2 : goal.start-requires-2
start-requires-2 g c = (c.in-Ok.ensures.1 (g.K.Sink.seen c.args.sink.now)).first

pub returns-in-Err-start : goal.returns-in-Err-start
returns-in-Err-start g c = second_stops c.args.meet.port c.args.meet.turns c.in-Ok.child c.in-Err-start.status _ _ _ (g.K.Sink.seen c.args.sink.now) c.requires c.in-Ok.ensures c.in-Err-start.ensures

pub start-requires-3 : goal.start-requires-3
start-requires-3 g c = (c.in-Ok-start.ensures.1 (g.K.Sink.seen c.args.sink.now)).first

pub returns-in-Err-start-2 : goal.returns-in-Err-start-2
returns-in-Err-start-2 g c =
    third_stops c.args.meet.port c.args.meet.turns c.in-Ok.child c.in-Ok-start.child c.in-Err-start-2.status _ _ _ _ (g.K.Sink.seen c.args.sink.now) c.requires c.in-Ok.ensures c.in-Ok-start.ensures c.in-Err-start-2.ensures

pub finish-requires-clause-none : goal.finish-requires-clause-none
finish-requires-clause-none g c = (c.in-Ok-start-2.ensures.1 (g.K.Sink.seen c.args.sink.now)).first

pub finish-requires-clause-started : goal.finish-requires-clause-started
finish-requires-clause-started g c =
    let sink = g.K.Sink.seen c.args.sink.now in
    still_started _ _ _ c.in-Ok.child (c.in-Ok-start-2.ensures.1 sink).calls (still_started _ _ _ c.in-Ok.child (c.in-Ok-start.ensures.1 sink).calls c.in-Ok.ensures.0)

pub returns-in-Err-finish : goal.returns-in-Err-finish
returns-in-Err-finish g c =
    let sink = g.K.Sink.seen c.args.sink.now in
    let started : Started c.args.meet.port c.args.meet.turns c.in-Ok.child c.in-Ok-start.child c.in-Ok-start-2.child (sides (g.P.Spawner.seen c.args.spawner.now) sink) (sides (g.P.Spawner.seen c.start-3.new.spawner) sink) =
    record { went = λ text. three c.args.meet.port c.args.meet.turns c.in-Ok.child c.in-Ok-start.child c.in-Ok-start-2.child text _ _ _ _ sink c.requires c.in-Ok.ensures c.in-Ok-start.ensures c.in-Ok-start-2.ensures } in
    fourth_stops c.args.meet.port c.args.meet.turns c.in-Ok.child c.in-Ok-start.child c.in-Ok-start-2.child c.in-Err-finish.status _ _ _ started c.in-Err-finish.ensures

pub finish-requires-2-clause-none : goal.finish-requires-2-clause-none
finish-requires-2-clause-none g c = c.in-Ok-finish.ensures.1.first

pub finish-requires-2-clause-started : goal.finish-requires-2-clause-started
finish-requires-2-clause-started g c =
    let sink = g.K.Sink.seen c.args.sink.now in
    still_started _ _ _ c.in-Ok-start.child c.in-Ok-finish.ensures.1.calls (still_started _ _ _ c.in-Ok-start.child (c.in-Ok-start-2.ensures.1 sink).calls c.in-Ok-start.ensures.0)

pub returns-in-Err-finish-2 : goal.returns-in-Err-finish-2
returns-in-Err-finish-2 g c =
    let sink = g.K.Sink.seen c.args.sink.now in
    let started : Started c.args.meet.port c.args.meet.turns c.in-Ok.child c.in-Ok-start.child c.in-Ok-start-2.child (sides (g.P.Spawner.seen c.args.spawner.now) sink) (sides (g.P.Spawner.seen c.start-3.new.spawner) sink) =
    record { went = λ text. three c.args.meet.port c.args.meet.turns c.in-Ok.child c.in-Ok-start.child c.in-Ok-start-2.child text _ _ _ _ sink c.requires c.in-Ok.ensures c.in-Ok-start.ensures c.in-Ok-start-2.ensures } in
    fifth_stops c.args.meet.port c.args.meet.turns c.in-Ok.child c.in-Ok-start.child c.in-Ok-start-2.child c.in-Err-finish-2.status _ _ _ _ started c.in-Ok-finish.ensures c.in-Err-finish-2.ensures

pub finish-requires-3-clause-none : goal.finish-requires-3-clause-none
finish-requires-3-clause-none g c = c.in-Ok-finish-2.ensures.1.first

pub finish-requires-3-clause-started : goal.finish-requires-3-clause-started
finish-requires-3-clause-started g c =
    still_started _ _ _ c.in-Ok-start-2.child c.in-Ok-finish-2.ensures.1.calls (still_started _ _ _ c.in-Ok-start-2.child c.in-Ok-finish.ensures.1.calls c.in-Ok-start-2.ensures.0)

pub returns-in-Err-finish-3 : goal.returns-in-Err-finish-3
returns-in-Err-finish-3 g c =
    let sink = g.K.Sink.seen c.args.sink.now in
    let started : Started c.args.meet.port c.args.meet.turns c.in-Ok.child c.in-Ok-start.child c.in-Ok-start-2.child (sides (g.P.Spawner.seen c.args.spawner.now) sink) (sides (g.P.Spawner.seen c.start-3.new.spawner) sink) =
    record { went = λ text. three c.args.meet.port c.args.meet.turns c.in-Ok.child c.in-Ok-start.child c.in-Ok-start-2.child text _ _ _ _ sink c.requires c.in-Ok.ensures c.in-Ok-start.ensures c.in-Ok-start-2.ensures } in
    sixth_stops c.args.meet.port c.args.meet.turns c.in-Ok.child c.in-Ok-start.child c.in-Ok-start-2.child c.in-Err-finish-3.status _ _ _ _ _ started c.in-Ok-finish.ensures c.in-Ok-finish-2.ensures c.in-Err-finish-3.ensures

pub returns : goal.returns
returns g c =
    let sink = g.K.Sink.seen c.args.sink.now in
    let started : Started c.args.meet.port c.args.meet.turns c.in-Ok.child c.in-Ok-start.child c.in-Ok-start-2.child (sides (g.P.Spawner.seen c.args.spawner.now) sink) (sides (g.P.Spawner.seen c.start-3.new.spawner) sink) =
    record { went = λ text. three c.args.meet.port c.args.meet.turns c.in-Ok.child c.in-Ok-start.child c.in-Ok-start-2.child text _ _ _ _ sink c.requires c.in-Ok.ensures c.in-Ok-start.ensures c.in-Ok-start-2.ensures } in
    all_done c.args.meet.port c.args.meet.turns c.in-Ok.child c.in-Ok-start.child c.in-Ok-start-2.child _ _ _ _ _ started c.in-Ok-finish.ensures c.in-Ok-finish-2.ensures c.in-Ok-finish-3.ensures
