use Rattle.std.proofs.Common.{◌≡◌, ℕ, ◌<◌, ◌==◌, true, List, None, length, sym, ap, ◌∙◌, subst, rules}
use Rattle.std.specs.List.{insert}
use Rattle.std.specs.Option.{option_map, unwrap_or}
use Rattle.rtmfp_data_chunks.specs.Chunk.{user_parts}
use Rattle.rtmfp_data_chunks.specs.Taken.{chunk_of}
use Rattle.flow_recv.specs.Receiver.{Receiver, fresh, taken}
use Rattle.session_flows.specs.declared.taking.TakingFlow.{TakingFlow}
use Rattle.session_flows.specs.Keeping.{FlowsState, in_taking}
use Rattle.session_flows.specs.Told.{first_byte}
use Rattle.session_flows.specs.Causes.{metadata_of, order_of, receiver_for, receiver_cause}
use Rattle.session_flows.specs.Chunks.{data_taken}
use Rattle.session_flows.specs.Places.{index_from, place_of}
use Rattle.session_flows.specs.Laws.{IsSound}
use Rattle.session_flows.proofs.Indexed.{not_there}
use Rattle.session_flows.proofs.Takes.{taken_new, order_by, sound_added, receiver_new, not_refused}
use Rattle.session_flows.proofs.flows.Flows.make.Goals as goal

pub invariant_of-self-2 : goal.invariant_of-self-2
invariant_of-self-2 c =
    let before : FlowsState = record { sending = c.self.inside.sending.items; taking = c.self.inside.taking.items } in
    let row : TakingFlow = record { id = c.args.chunk.now.flow; receiver = c.apply.new.self; owed = true } in
    let none : in_taking c.args.chunk.now.flow before.taking ≡ None =
    not_there 0 c.args.chunk.now.flow before.taking (subst (λ (s : FlowsState). index_from 0 c.args.chunk.now.flow s.taking ≡ None) (sym c.self.view_is) c.requires.new) in
    let place : c.place_for-at.result ≡ place_of c.args.chunk.now.flow before.taking = search rules in
    let put : c.insert.new.self.items ≡ insert before.taking c.place_for-at.result row = search rules in
    let at_place : c.insert.new.self.items ≡ insert before.taking (place_of c.args.chunk.now.flow before.taking) row = put ∙ ap (λ (n : ℕ). insert before.taking n row) place in
    let few : length before.taking < 256 = subst (λ (s : FlowsState). length s.taking < 256) (sym c.self.view_is) c.requires.room in
    record { sound = subst (λ (ts : List TakingFlow). IsSound (record { sending = before.sending; taking = ts })) (sym at_place) (sound_added before row none few c.self.invariant.sound); kept = c.self.invariant.kept }

pub returns-clause-taken : goal.returns-clause-taken
returns-clause-taken c =
    let before : FlowsState = record { sending = c.self.inside.sending.items; taking = c.self.inside.taking.items } in
    let row : TakingFlow = record { id = c.args.chunk.now.flow; receiver = c.apply.new.self; owed = true } in
    let none : in_taking c.args.chunk.now.flow before.taking ≡ None =
    not_there 0 c.args.chunk.now.flow before.taking (subst (λ (s : FlowsState). index_from 0 c.args.chunk.now.flow s.taking ≡ None) (sym c.self.view_is) c.requires.new) in
    let place : c.place_for-at.result ≡ place_of c.args.chunk.now.flow before.taking = search rules in
    let put : c.insert.new.self.items ≡ insert before.taking c.place_for-at.result row = search rules in
    let at_place : c.insert.new.self.items ≡ insert before.taking (place_of c.args.chunk.now.flow before.taking) row = put ∙ ap (λ (n : ℕ). insert before.taking n row) place in
    let took : c.apply.new.self ≡ taken c.new-receiver.result (chunk_of c.args.chunk.now) = search rules in
    let first : c.unwrap_or-first.result ≡ unwrap_or (option_map first_byte (metadata_of (user_parts c.args.chunk.now))) 0 = search rules in
    let made : c.new-receiver.result ≡ fresh (order_of (metadata_of (user_parts c.args.chunk.now))) =
    c.new-receiver.ensures ∙ ap (λ (n : ℕ). fresh (n == 97)) first ∙ ap fresh (order_by (metadata_of (user_parts c.args.chunk.now))) in
    subst (λ (s : FlowsState). record { sending = before.sending; taking = c.insert.new.self.items } ≡ data_taken s (user_parts c.args.chunk.now)) c.self.view_is
    (ap (λ (ts : List TakingFlow). record { sending = before.sending; taking = ts }) at_place
    ∙ taken_new before (user_parts c.args.chunk.now) c.apply.new.self none (took ∙ ap (λ (r : Receiver). taken r (chunk_of c.args.chunk.now)) made))

pub apply-requires-clause-free : goal.apply-requires-clause-free
apply-requires-clause-free c =
    let before : FlowsState = record { sending = c.self.inside.sending.items; taking = c.self.inside.taking.items } in
    let none : in_taking c.args.chunk.now.flow before.taking ≡ None =
    not_there 0 c.args.chunk.now.flow before.taking (subst (λ (s : FlowsState). index_from 0 c.args.chunk.now.flow s.taking ≡ None) (sym c.self.view_is) c.requires.new) in
    let first : c.unwrap_or-first.result ≡ unwrap_or (option_map first_byte (metadata_of (user_parts c.args.chunk.now))) 0 = search rules in
    let made : c.new-receiver.result ≡ fresh (order_of (metadata_of (user_parts c.args.chunk.now))) =
    c.new-receiver.ensures ∙ ap (λ (n : ℕ). fresh (n == 97)) first ∙ ap fresh (order_by (metadata_of (user_parts c.args.chunk.now))) in
    let same : receiver_for before (user_parts c.args.chunk.now) ≡ c.new-receiver.result = receiver_new before (user_parts c.args.chunk.now) none ∙ sym made in
    not_refused before (user_parts c.args.chunk.now) c.new-receiver.result same (subst (λ (s : FlowsState). receiver_cause s (user_parts c.args.chunk.now) ≡ None) (sym c.self.view_is) c.requires.takes)
