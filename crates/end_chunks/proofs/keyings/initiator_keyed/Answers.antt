use Rattle.std.proofs.Common.{◌≡◌, ◌++◌, ◌∷◌, [], List, length, Some, sym, ap, ◌∙◌, subst, arith}
use Rattle.crypto_profile.specs.declared.group.GroupSecret.{GroupSecret}
use Rattle.startup.specs.declared.answer.Keyed.{Keyed}
use Rattle.startup.specs.declared.answer.Keyed.TheVariants.{Again, Birth, Change}
use Rattle.startup.specs.Judging.{judged_initiator}
use Rattle.startup_packets.specs.Read.{initiator_of}
use Rattle.endpoint_model.specs.declared.entry.Entry.{Entry}
use Rattle.endpoint_model.specs.declared.entry.Entry.TheVariants.{Fact as FactEntry}
use Rattle.endpoint_model.specs.Admission.{group_at}
use Rattle.endpoint_model.specs.Effects.{with_born}
use Rattle.endpoint_model.specs.Sending.{sent_answer}
use Rattle.endpoint_model.specs.State.{State, fact_entries, full}
use Rattle.end_state.specs.Stored.{IsEnd, state_of}
use Rattle.end_state.specs.Steps.{Gives}
use Rattle.end_state.proofs.Giving.{given_done}
use Rattle.end_state.proofs.Under.{there_is}
use Rattle.end_chunks.proofs.Keyed.{kept_keying, born_state, keyed_here, answer_sent, one_added, added_first, IsAdded}
use Rattle.end_chunks.proofs.keyings.initiator_keyed.Goals as goal

pub invariant_of-end-in-Ok-Change : goal.invariant_of-end-in-Ok-Change
invariant_of-end-in-Ok-Change c =
    kept_keying c.end.inside.settings c.end.inside.print c.end.inside.startup c.apply_initiator_keying.new.self
    c.args.fields.now.payload.now c.args.from.now c.end.inside.moment c.free_from-near.result c.args.draws.now.nonce c.copy-group.result c.end.invariant c.in-Ok-Change.ensures.ok.1

pub invariant_of-end-in-Ok-Again : goal.invariant_of-end-in-Ok-Again
invariant_of-end-in-Ok-Again c =
    kept_keying c.end.inside.settings c.end.inside.print c.end.inside.startup c.apply_initiator_keying.new.self
    c.args.fields.now.payload.now c.args.from.now c.end.inside.moment c.free_from-near.result c.args.draws.now.nonce c.copy-group.result c.end.invariant c.in-Ok-Again.ensures.ok.1

pub invariant_of-end-in-Ok-Birth : goal.invariant_of-end-in-Ok-Birth
invariant_of-end-in-Ok-Birth c =
    kept_keying c.end.inside.settings c.end.inside.print c.end.inside.startup c.apply_initiator_keying.new.self
    c.args.fields.now.payload.now c.args.from.now c.end.inside.moment c.free_from-near.result c.args.draws.now.nonce c.copy-group.result c.end.invariant c.in-Ok-Birth.ensures.ok.1

pub apply_initiator_keying-requires-clause-judged : goal.apply_initiator_keying-requires-clause-judged
apply_initiator_keying-requires-clause-judged c =
    let i = c.end.inside in
    let under : c.copy-group.result ≡ group_at c.args.end.now c.args.place =
    c.copy-group.ensures ∙ c.at.ensures ∙ there_is i.settings i.moment i.sealed i.limit i.groups i.startup i.sessions.rows c.args.place ∙ ap (λ (s : State). group_at s c.args.place) c.end.view_is in
    (full c.args.end.now, (λ x. judged_initiator (c.end.view_is x).startup c.args.fields.now.payload.now c.args.from.now (c.end.view_is x).moment (full c.args.end.now) (under x) (initiator_of c.args.fields.now)) ∙ c.requires.judged)

pub returns-in-Ok-Change-clause-ok : goal.returns-in-Ok-Change-clause-ok
returns-in-Ok-Change-clause-ok c =
    let i = c.end.inside in
    let g : GroupSecret = c.copy-group.result in
    let t : State = state_of i.settings i.moment i.sealed i.limit i.groups c.apply_initiator_keying.new.self c.reserve.new.self.rows in
    keyed_here i.settings i.moment i.sealed i.limit i.groups i.startup c.apply_initiator_keying.new.self i.sessions.rows c.reserve.new.self.rows c.args.end.now c.args.place c.args.from.now c.args.draws.now c.args.fields.now.payload.now
    c.free_from-near.result g (Change c.in-Ok-Change.answer) c.seal_answer.new.self c.args.out.now c.add_some.new.self c.end.view_is c.free_from-near.ensures (c.copy-group.ensures ∙ c.at.ensures) c.reserve.ensures.rows
    (c.in-Ok-Change.ensures.ok.0 ∙ ap (λ (x : Keyed). Some x) c.in-Ok-Change.field-0-is) c.in-Ok-Change.ensures.ok.1
    (answer_sent t c.in-Ok-Change.answer c.seal_answer.new.self c.seal_answer.result c.args.out.now c.make_room.new.self c.add_some.new.self c.make_room.ensures.entries c.make_room.ensures.free c.make_room.ensures.room
    c.seal_answer.ensures c.add_some.ensures.entries c.add_some.ensures.free c.add_some.ensures.room)

pub returns-in-Ok-Again-clause-ok : goal.returns-in-Ok-Again-clause-ok
returns-in-Ok-Again-clause-ok c =
    let i = c.end.inside in
    let g : GroupSecret = c.copy-group.result in
    let t : State = state_of i.settings i.moment i.sealed i.limit i.groups c.apply_initiator_keying.new.self c.reserve.new.self.rows in
    keyed_here i.settings i.moment i.sealed i.limit i.groups i.startup c.apply_initiator_keying.new.self i.sessions.rows c.reserve.new.self.rows c.args.end.now c.args.place c.args.from.now c.args.draws.now c.args.fields.now.payload.now
    c.free_from-near.result g (Again c.in-Ok-Again.answer) c.seal_answer-in-Ok-Again.new.self c.args.out.now c.add_some-in-Ok-Again.new.self c.end.view_is c.free_from-near.ensures (c.copy-group.ensures ∙ c.at.ensures) c.reserve.ensures.rows
    (c.in-Ok-Again.ensures.ok.0 ∙ ap (λ (x : Keyed). Some x) c.in-Ok-Again.field-0-is) c.in-Ok-Again.ensures.ok.1
    (answer_sent t c.in-Ok-Again.answer c.seal_answer-in-Ok-Again.new.self c.seal_answer-in-Ok-Again.result c.args.out.now c.make_room.new.self c.add_some-in-Ok-Again.new.self c.make_room.ensures.entries c.make_room.ensures.free c.make_room.ensures.room
    c.seal_answer-in-Ok-Again.ensures c.add_some-in-Ok-Again.ensures.entries c.add_some-in-Ok-Again.ensures.free c.add_some-in-Ok-Again.ensures.room)

pub returns-in-Ok-Birth-clause-ok : goal.returns-in-Ok-Birth-clause-ok
returns-in-Ok-Birth-clause-ok c =
    let i = c.end.inside in
    let g : GroupSecret = c.copy-group.result in
    let t : State = state_of i.settings i.moment i.sealed i.limit i.groups c.apply_initiator_keying.new.self c.reserve.new.self.rows in
    let born : State = with_born t c.in-Ok-Birth.ended c.in-Ok-Birth.born c.args.from.now g in
    let kept : IsEnd i.settings i.print c.apply_initiator_keying.new.self =
    kept_keying i.settings i.print i.startup c.apply_initiator_keying.new.self
    c.args.fields.now.payload.now c.args.from.now i.moment c.free_from-near.result c.args.draws.now.nonce g c.end.invariant c.in-Ok-Birth.ensures.ok.1 in
    let entries : List Entry = fact_entries c.in-Ok-Birth.ended ++ FactEntry c.in-Ok-Birth.born ∷ [] in
    let added : IsAdded c.args.out.now c.add.new.self entries =
    one_added c.args.out.now c.add_some-in-Ok-Birth.new.self c.add.new.self (fact_entries c.in-Ok-Birth.ended) (FactEntry c.in-Ok-Birth.born)
    (c.add_some-in-Ok-Birth.ensures.entries ∙ ap (λ xs. c.make_room.new.self.entries ++ xs) (sym c.fact_entry.ensures.entries) ∙ ap (λ xs. xs ++ fact_entries c.in-Ok-Birth.ended) c.make_room.ensures.entries)
    (omega (arith, c.add_some-in-Ok-Birth.ensures.free, ap (λ (xs : List Entry). length xs) c.fact_entry.ensures.entries, c.make_room.ensures.free)) (c.add_some-in-Ok-Birth.ensures.room ∙ c.make_room.ensures.room)
    c.add.ensures.entries c.add.ensures.free c.add.ensures.room in
    let bore = born_state i.settings i.moment i.sealed i.limit i.groups c.apply_initiator_keying.new.self c.reserve.new.self.rows c.keep_born.new.sessions.rows
    c.in-Ok-Birth.ended c.in-Ok-Birth.born c.args.from.now i.print g kept.print_is c.keep_born.ensures in
    let gives : Gives (sent_answer born c.in-Ok-Birth.answer) c.seal_answer-in-Ok-Birth.new.self c.seal_answer-in-Ok-Birth.result =
    subst (λ (u : State). Gives (sent_answer u c.in-Ok-Birth.answer) c.seal_answer-in-Ok-Birth.new.self c.seal_answer-in-Ok-Birth.result) bore c.seal_answer-in-Ok-Birth.ensures in
    let sent = given_done (sent_answer born c.in-Ok-Birth.answer) c.seal_answer-in-Ok-Birth.new.self c.seal_answer-in-Ok-Birth.result c.add.new.self c.add_some-in-Ok-Birth-2.new.self
    gives c.add_some-in-Ok-Birth-2.ensures.entries c.add_some-in-Ok-Birth-2.ensures.free c.add_some-in-Ok-Birth-2.ensures.room in
    keyed_here i.settings i.moment i.sealed i.limit i.groups i.startup c.apply_initiator_keying.new.self i.sessions.rows c.reserve.new.self.rows c.args.end.now c.args.place c.args.from.now c.args.draws.now c.args.fields.now.payload.now
    c.free_from-near.result g (Birth c.in-Ok-Birth.ended c.in-Ok-Birth.born c.in-Ok-Birth.answer) c.seal_answer-in-Ok-Birth.new.self c.args.out.now c.add_some-in-Ok-Birth-2.new.self
    c.end.view_is c.free_from-near.ensures (c.copy-group.ensures ∙ c.at.ensures) c.reserve.ensures.rows
    (c.in-Ok-Birth.ensures.ok.0 ∙ ap (λ (x : Keyed). Some x) c.in-Ok-Birth.field-0-is) c.in-Ok-Birth.ensures.ok.1
    (added_first entries (sent_answer born c.in-Ok-Birth.answer) c.seal_answer-in-Ok-Birth.new.self c.args.out.now c.add.new.self c.add_some-in-Ok-Birth-2.new.self added sent)
