use Rattle.std.proofs.Common.{List, sym, ◌∙◌, subst}
use Rattle.rtmfp_packet.specs.Chunks.{shown}
use Rattle.endpoint_model.specs.Admission.{packet_in}
use Rattle.endpoint_model.specs.Effects.{WalkStep, walk_step}
use Rattle.end_loops.specs.Walks.{TakesAll, TakesSome, gathered_steps}
use Rattle.end_loops.proofs.Chunks.{first_and_all, first_and_some}
use Rattle.end_loops.proofs.Gathered.{gathered_are}
use Rattle.end_loops.proofs.Refusals.{IsRoomy, one_refused}
use Rattle.end_loops.proofs.walking.go_on_with.Goals as goal

pub returns-in-Ok-clause-ok : goal.returns-in-Ok-clause-ok
returns-in-Ok-clause-ok c =
    first_and_all c.args.place c.args.from.now c.args.draws.now c.args.end.now c.take_chunk.new.end c.go_through_whole.new.end (walk_step c.args.walk.now (shown c.args.chunk.now)) _ c.args.out.now c.take_chunk.new.out c.go_through_whole.new.out c.in-Ok.count
    c.in-Ok-Some.ensures.ok
    (subst (λ (xs : List WalkStep). TakesAll c.args.place c.args.from.now c.args.draws.now c.take_chunk.new.end xs c.go_through_whole.new.end c.take_chunk.new.out c.go_through_whole.new.out c.in-Ok.count) (gathered_are c.args.end.now c.take_chunk.new.end c.args.from.now c.args.draws.now c.args.walk.now (shown c.args.chunk.now) c.in-Ok-Some.plain c.args.place c.in-Ok-Some.ensures.ok.state (sym c.in-Ok-Some.field-0-is ∙ c.in-Ok-Some.ensures.whole)) c.in-Ok.ensures.ok)

pub returns-clause-stop : goal.returns-clause-stop
returns-clause-stop c =
    first_and_some c.args.place c.args.from.now c.args.draws.now c.args.end.now c.take_chunk.new.end c.go_through_whole.new.end (walk_step c.args.walk.now (shown c.args.chunk.now)) _ c.args.out.now c.take_chunk.new.out c.go_through_whole.new.out c.in-Err-go_through_whole.count
    c.in-Ok-Some.ensures.ok
    (subst (λ (xs : List WalkStep). TakesSome c.args.place c.args.from.now c.args.draws.now c.take_chunk.new.end xs c.go_through_whole.new.end c.take_chunk.new.out c.go_through_whole.new.out c.in-Err-go_through_whole.count) (gathered_are c.args.end.now c.take_chunk.new.end c.args.from.now c.args.draws.now c.args.walk.now (shown c.args.chunk.now) c.in-Ok-Some.plain c.args.place c.in-Ok-Some.ensures.ok.state (sym c.in-Ok-Some.field-0-is ∙ c.in-Ok-Some.ensures.whole)) c.in-Err-go_through_whole.ensures.stop)

pub returns-clause-enough : goal.returns-clause-enough
returns-clause-enough c quiet room =
    let behind : IsRoomy c.args.place c.args.from.now c.args.draws.now c.take_chunk.new.end (gathered_steps c.take_chunk.new.end c.args.place (packet_in c.in-Ok-Some.plain)) c.take_chunk.new.out.free =
    subst (λ (xs : List WalkStep). IsRoomy c.args.place c.args.from.now c.args.draws.now c.take_chunk.new.end xs c.take_chunk.new.out.free) (sym (gathered_are c.args.end.now c.take_chunk.new.end c.args.from.now c.args.draws.now c.args.walk.now (shown c.args.chunk.now) c.in-Ok-Some.plain c.args.place c.in-Ok-Some.ensures.ok.state (sym c.in-Ok-Some.field-0-is ∙ c.in-Ok-Some.ensures.whole)))
    (one_refused c.args.place c.args.from.now c.args.draws.now c.args.end.now c.take_chunk.new.end (walk_step c.args.walk.now (shown c.args.chunk.now)) _ c.args.out.now c.take_chunk.new.out (record { refused = quiet; room = room }) c.in-Ok-Some.ensures.ok) in
    c.in-Err-go_through_whole.ensures.enough behind.refused behind.room
