use Rattle.std.proofs.Common.{rules, ◌≡◌, ℕ, List, Option, Some, sym, subst, ◌∙◌}
use Rattle.rtmfp_forms.specs.Address.{AddressParts}
use Rattle.rtmfp_chunks.specs.Chunk.{FIHello}
use Rattle.rtmfp_chunks.specs.Writing.{chunk_bytes}
use Rattle.cookies.specs.Cookie.{observed}
use Rattle.startup.specs.declared.answer.Answer.{Answer}
use Rattle.endpoint_model.specs.State.{State, Did, Done, then_do}
use Rattle.endpoint_model.specs.Sending.{sent_answer, sent_if}
use Rattle.endpoint_model.specs.Admission.{group_at}
use Rattle.endpoint_model.specs.Introducing.{redirect_of}
use Rattle.endpoint_model.specs.Effects.{forwarded}
use Rattle.endpoint_model.proofs.Steps.{joined}
use Rattle.end_state.proofs.Endings.{made_room}
use Rattle.end_state.proofs.Giving.{given_done}
use Rattle.end_chunks.proofs.introducing.introduce.Goals as goal

pub returns-in-Some-clause-ok : goal.returns-in-Some-clause-ok
returns-in-Some-clause-ok c =
    let s : State = c.args.end.now in
    let tag : List ℕ = c.args.tag.now in
    let from : AddressParts = c.args.from.now in
    let first : Did = forwarded s c.args.near (chunk_bytes (FIHello c.args.epd.now (observed from) tag)) in
    let redirect : Option Answer = redirect_of tag from c.args.row.now (group_at s c.args.place) in
    let told : Some c.in-Some.answer ≡ redirect = sym c.in-Some.is ∙ c.redirect_at-redirect.ensures in
    let answers = given_done (sent_answer c.forward.new.end c.in-Some.answer) c.seal_answer.new.self c.seal_answer.result c.forward.new.out c.add_some.new.self
    c.seal_answer.ensures c.add_some.ensures.entries c.add_some.ensures.free c.add_some.ensures.room in
    made_room (then_do first (λ t. sent_if t redirect)) c.seal_answer.new.self c.args.out.now c.make_room.new.self c.add_some.new.self c.make_room.ensures.entries c.make_room.ensures.free c.make_room.ensures.room
    (joined first (λ t. sent_if t redirect) c.forward.new.end c.seal_answer.new.self c.make_room.new.self c.forward.new.out c.add_some.new.self c.forward.ensures.done
    (subst (λ (o : Option Answer). Done (sent_if c.forward.new.end o) c.seal_answer.new.self c.forward.new.out c.add_some.new.self) told answers))

-- so that a wrong body is refused fast
pub returns-in_default-clause-ok : goal.returns-in_default-clause-ok
returns-in_default-clause-ok c = search rules
