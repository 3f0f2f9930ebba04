use Rattle.std.proofs.Common.{◌++◌, List, length, refl, sym, ap, ◌∙◌, subst, arith}
use Rattle.startup.specs.Attempts.{after_answer}
use Rattle.startup.specs.Judging.{IsFound, found_in}
use Rattle.startup.proofs.Choices.{found_is}
use Rattle.endpoint_model.specs.declared.entry.Entry.{Entry}
use Rattle.endpoint_model.specs.Admission.{group_at}
use Rattle.endpoint_model.specs.Sending.{sent_answer}
use Rattle.endpoint_model.specs.State.{State, Done, fact_entries}
use Rattle.end_state.specs.Stored.{state_of}
use Rattle.end_state.proofs.Giving.{given_done}
use Rattle.end_state.proofs.Under.{there_is}
use Rattle.end_chunks.specs.Judging.{greeting_did}
use Rattle.end_chunks.proofs.Constants.{answer_keeps}
use Rattle.end_chunks.proofs.Found.{hello_so}
use Rattle.end_chunks.proofs.Keyed.{kept_end, startup_put, added_first, IsAdded}
use Rattle.end_chunks.proofs.chunks.greet.Goals as goal

pub invariant_of-end : goal.invariant_of-end
invariant_of-end c =
    let i = c.end.inside in
    let greeting = c.args.greeting.now in
    let g = c.copy-group.result in
    let chosen = c.requires.greeted.0 in
    let is : IsFound i.startup greeting.found chosen = subst (λ (s : State). IsFound s.startup greeting.found chosen) (sym c.end.view_is) c.requires.greeted.1.1.found in
    kept_end i.settings i.print i.startup c.apply_responder_hello.new.self (after_answer i.startup greeting.print chosen c.args.from.now c.args.cookie.now i.moment g) c.end.invariant
    (answer_keeps i.startup greeting.print chosen c.args.from.now c.args.cookie.now i.moment g) (c.in-Ok.ensures.after chosen is)

pub returns-in-Ok-clause-ok : goal.returns-in-Ok-clause-ok
returns-in-Ok-clause-ok c =
    let i = c.end.inside in
    let greeting = c.args.greeting.now in
    let g = c.copy-group.result in
    let chosen = c.requires.greeted.0 in
    let is : IsFound i.startup greeting.found chosen = subst (λ (s : State). IsFound s.startup greeting.found chosen) (sym c.end.view_is) c.requires.greeted.1.1.found in
    let v : State = state_of i.settings i.moment i.sealed i.limit i.groups i.startup i.sessions.rows in
    let t : State = state_of i.settings i.moment i.sealed i.limit i.groups c.apply_responder_hello.new.self i.sessions.rows in
    let put = startup_put i.settings i.moment i.sealed i.limit i.groups i.startup c.apply_responder_hello.new.self (after_answer i.startup greeting.print chosen c.args.from.now c.args.cookie.now i.moment g)
    i.sessions.rows i.sessions.rows refl (c.in-Ok.ensures.after chosen is) in
    let entries : List Entry = fact_entries c.in-Ok.told.0 in
    let added : IsAdded c.args.out.now c.add_some.new.self entries = record {
      entries_are = c.add_some.ensures.entries ∙ ap (λ xs. c.make_room.new.self.entries ++ xs) (sym c.fact_entry.ensures.entries) ∙ ap (λ xs. xs ++ entries) c.make_room.ensures.entries;
      free = omega (arith, c.add_some.ensures.free, ap (λ (xs : List Entry). length xs) c.fact_entry.ensures.entries, c.make_room.ensures.free);
      room = c.add_some.ensures.room ∙ c.make_room.ensures.room;
    } in
    let sent = given_done (sent_answer t c.in-Ok.told.1) c.seal_answer.new.self c.seal_answer.result c.add_some.new.self c.add_some-in-Ok.new.self
    c.seal_answer.ensures c.add_some-in-Ok.ensures.entries c.add_some-in-Ok.ensures.free c.add_some-in-Ok.ensures.room in
    subst (λ (s : State). Done (greeting_did s (group_at s c.args.place) greeting.print (found_in s.startup greeting.found) c.args.from.now c.args.cookie.now) c.seal_answer.new.self c.args.out.now c.add_some-in-Ok.new.self) c.end.view_is
    (hello_so v t g (group_at v c.args.place) greeting.print chosen (found_in i.startup greeting.found) c.args.from.now c.args.cookie.now c.in-Ok.told.0 c.in-Ok.told.1 c.seal_answer.new.self c.args.out.now c.add_some-in-Ok.new.self
    (c.copy-group.ensures ∙ c.at.ensures ∙ there_is i.settings i.moment i.sealed i.limit i.groups i.startup i.sessions.rows c.args.place)
    (found_is i.startup greeting.found chosen is) (c.in-Ok.ensures.fact chosen is) (c.in-Ok.ensures.answer chosen is) put
    (added_first entries (sent_answer t c.in-Ok.told.1) c.seal_answer.new.self c.args.out.now c.add_some.new.self c.add_some-in-Ok.new.self added sent))
