use Rattle.std.proofs.Common.{◌≡◌, true, Some, None, length, refl, sym, subst, rules}
use Rattle.std.specs.Prelude.{slice_get, slice_set}
use Rattle.std.proofs.lemmas.Option.{slice_get_read}
use Rattle.rtmfp_data_chunks.specs.Chunk.{user_parts}
use Rattle.rtmfp_data_chunks.specs.Taken.{chunk_of}
use Rattle.flow_recv.specs.Receiver.{taken}
use Rattle.session_flows.specs.Keeping.{FlowsState}
use Rattle.session_flows.specs.Causes.{receiver_for, receiver_cause}
use Rattle.session_flows.specs.Chunks.{data_taken}
use Rattle.session_flows.specs.Places.{index_from, IsAt}
use Rattle.session_flows.proofs.Sounds.{sound_taking}
use Rattle.session_flows.proofs.Indexed.{is_at}
use Rattle.session_flows.proofs.Takes.{taken_there, receiver_there, not_refused}
use Rattle.session_flows.proofs.flows.Flows.take_at.Goals as goal

pub invariant_of-self-2 : goal.invariant_of-self-2
invariant_of-self-2 c =
    let before : FlowsState = record { sending = c.self.inside.sending.items; taking = c.self.inside.taking.items } in
    let at : IsAt c.args.chunk.now.flow before.taking c.args.at = is_at c.args.chunk.now.flow before.taking c.args.at (subst (λ (s : FlowsState). index_from 0 c.args.chunk.now.flow s.taking ≡ Some c.args.at) (sym c.self.view_is) c.requires.at) in
    let there : slice_get before.taking c.args.at ≡ Some c.index_mut-row.result.now = slice_get_read before.taking (length before.taking) c.args.at c.index_mut-row.result.now refl at.within c.index_mut-row.ensures.value in
    record { sound = sound_taking before c.args.at c.index_mut-row.result.now (record { id = c.index_mut-row.result.now.id; receiver = c.apply.new.self; owed = true }) there refl c.self.invariant.sound; kept = c.self.invariant.kept }

pub returns-clause-taken : goal.returns-clause-taken
returns-clause-taken c =
    let before : FlowsState = record { sending = c.self.inside.sending.items; taking = c.self.inside.taking.items } in
    let at : IsAt c.args.chunk.now.flow before.taking c.args.at = is_at c.args.chunk.now.flow before.taking c.args.at (subst (λ (s : FlowsState). index_from 0 c.args.chunk.now.flow s.taking ≡ Some c.args.at) (sym c.self.view_is) c.requires.at) in
    let there : slice_get before.taking c.args.at ≡ Some c.index_mut-row.result.now = slice_get_read before.taking (length before.taking) c.args.at c.index_mut-row.result.now refl at.within c.index_mut-row.ensures.value in
    let took : c.apply.new.self ≡ taken c.index_mut-row.result.now.receiver (chunk_of c.args.chunk.now) = search rules in
    let after : FlowsState = record { sending = before.sending; taking = slice_set before.taking c.args.at (record { id = c.index_mut-row.result.now.id; receiver = c.apply.new.self; owed = true }) } in
    subst (λ (s : FlowsState). after ≡ data_taken s (user_parts c.args.chunk.now)) c.self.view_is
    (taken_there before c.args.at (user_parts c.args.chunk.now) c.index_mut-row.result.now c.apply.new.self at there took)

pub apply-requires-clause-free : goal.apply-requires-clause-free
apply-requires-clause-free c =
    let before : FlowsState = record { sending = c.self.inside.sending.items; taking = c.self.inside.taking.items } in
    let at : IsAt c.args.chunk.now.flow before.taking c.args.at = is_at c.args.chunk.now.flow before.taking c.args.at (subst (λ (s : FlowsState). index_from 0 c.args.chunk.now.flow s.taking ≡ Some c.args.at) (sym c.self.view_is) c.requires.at) in
    let there : slice_get before.taking c.args.at ≡ Some c.index_mut-row.result.now = slice_get_read before.taking (length before.taking) c.args.at c.index_mut-row.result.now refl at.within c.index_mut-row.ensures.value in
    let same : receiver_for before (user_parts c.args.chunk.now) ≡ c.index_mut-row.result.now.receiver = receiver_there before c.args.at (user_parts c.args.chunk.now) c.index_mut-row.result.now at there in
    not_refused before (user_parts c.args.chunk.now) c.index_mut-row.result.now.receiver same (subst (λ (s : FlowsState). receiver_cause s (user_parts c.args.chunk.now) ≡ None) (sym c.self.view_is) c.requires.takes)
