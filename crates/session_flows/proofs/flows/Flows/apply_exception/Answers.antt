use Rattle.std.proofs.Common.{◌≡◌, ℕ, ◌<◌, ◌++◌, map, List, Some, length, refl, sym, ap, ◌∙◌, subst}
use Rattle.std.specs.Prelude.{slice_get, slice_set}
use Rattle.std.proofs.lemmas.Option.{slice_get_read}
use Rattle.flow_send.specs.Flow.{with_sender}
use Rattle.session_flows.specs.Keeping.{FlowsState, sending_at, Abandoned}
use Rattle.session_flows.specs.Chunks.{rejecting, waiting_at, without_messages, numbers_of, finished_at}
use Rattle.session_flows.proofs.Kin.{kin, milder}
use Rattle.flow_send.specs.declared.waiting.Waiting.{Waiting}
use Rattle.session_flows.specs.Bound.{AreMild}
use Rattle.session_flows.proofs.Milds.{mild_finish}
use Rattle.session_flows.proofs.Rejected.{no_message}
use Rattle.session_flows.proofs.Settled.{may_change, whole_set}
use Rattle.session_flows.proofs.Calls.{flow_there}
use Rattle.session_flows.proofs.Hearing.{rejected_flow, rejected_last, rejected_put, rejected_stated, waiting_there}
use Rattle.session_flows.proofs.flows.Flows.apply_exception.Goals as goal

pub settle-requires : goal.settle-requires
settle-requires c =
    let before : FlowsState = record { sending = c.self.inside.sending.items; taking = c.self.inside.taking.items } in
    let within : c.args.flow < length c.self.inside.sending.items = subst (λ (s : FlowsState). c.args.flow < length s.sending) (sym c.self.view_is) c.requires in
    let there : sending_at before c.args.flow ≡ Some c.index_mut-sender.result.now = flow_there before c.args.flow c.args.flow c.index_mut-sender.result.now refl within c.index_mut-sender.ensures.value in
    let at : slice_get before.sending c.args.flow ≡ Some c.index_mut-sender.result.now = slice_get_read before.sending (length before.sending) c.args.flow c.index_mut-sender.result.now refl within c.index_mut-sender.ensures.value in
    let flow : c.finish-last.new.self ≡ with_sender c.index_mut-sender.result.now _ = rejected_flow c.index_mut-sender.result.now c.abandon_all.new.sender c.finish-last.new.self c.abandon_all.ensures.sender c.finish-last.ensures.after in
    may_change before c.self.inside.kept c.args.flow c.flight-before.result c.index_mut-sender.result.now c.finish-last.new.self c.self.invariant at c.flight-before.ensures.bytes (kin flow)

pub invariant_of-self-2 : goal.invariant_of-self-2
invariant_of-self-2 c =
    let before : FlowsState = record { sending = c.self.inside.sending.items; taking = c.self.inside.taking.items } in
    let within : c.args.flow < length c.self.inside.sending.items = subst (λ (s : FlowsState). c.args.flow < length s.sending) (sym c.self.view_is) c.requires in
    let there : sending_at before c.args.flow ≡ Some c.index_mut-sender.result.now = flow_there before c.args.flow c.args.flow c.index_mut-sender.result.now refl within c.index_mut-sender.ensures.value in
    let at : slice_get before.sending c.args.flow ≡ Some c.index_mut-sender.result.now = slice_get_read before.sending (length before.sending) c.args.flow c.index_mut-sender.result.now refl within c.index_mut-sender.ensures.value in
    let flow : c.finish-last.new.self ≡ with_sender c.index_mut-sender.result.now _ = rejected_flow c.index_mut-sender.result.now c.abandon_all.new.sender c.finish-last.new.self c.abandon_all.ensures.sender c.finish-last.ensures.after in
    whole_set before c.self.inside.kept c.settle.new.self c.args.flow c.flight-before.result c.index_mut-sender.result.now c.finish-last.new.self c.self.invariant at c.flight-before.ensures.bytes (kin flow)
    (milder c.index_mut-sender.result.now c.finish-last.new.self _ flow (λ b h. mild_finish b _ (without_messages c.index_mut-sender.result.now.sender) (subst (λ (ws : List Waiting). AreMild b ws) (sym (no_message c.index_mut-sender.result.now.sender)) tt))) c.settle.ensures

pub returns-clause-flows : goal.returns-clause-flows
returns-clause-flows c =
    let before : FlowsState = record { sending = c.self.inside.sending.items; taking = c.self.inside.taking.items } in
    let within : c.args.flow < length c.self.inside.sending.items = subst (λ (s : FlowsState). c.args.flow < length s.sending) (sym c.self.view_is) c.requires in
    let there : sending_at before c.args.flow ≡ Some c.index_mut-sender.result.now = flow_there before c.args.flow c.args.flow c.index_mut-sender.result.now refl within c.index_mut-sender.ensures.value in
    let flow : c.finish-last.new.self ≡ with_sender c.index_mut-sender.result.now _ = rejected_flow c.index_mut-sender.result.now c.abandon_all.new.sender c.finish-last.new.self c.abandon_all.ensures.sender c.finish-last.ensures.after in
    let after : FlowsState = record { sending = slice_set before.sending c.args.flow c.finish-last.new.self; taking = before.taking } in
    subst (λ (s : FlowsState). after ≡ (rejecting s c.args.flow).flows) c.self.view_is
    (rejected_put before c.args.flow c.args.flow c.index_mut-sender.result.now c.finish-last.new.self refl there flow)

pub returns-clause-numbers : goal.returns-clause-numbers
returns-clause-numbers c =
    let before : FlowsState = record { sending = c.self.inside.sending.items; taking = c.self.inside.taking.items } in
    let within : c.args.flow < length c.self.inside.sending.items = subst (λ (s : FlowsState). c.args.flow < length s.sending) (sym c.self.view_is) c.requires in
    let there : sending_at before c.args.flow ≡ Some c.index_mut-sender.result.now = flow_there before c.args.flow c.args.flow c.index_mut-sender.result.now refl within c.index_mut-sender.ensures.value in
    let kept : c.reserve.new.self.items ≡ c.args.abandoned.now.items = c.reserve.ensures.items in
    subst (λ (s : FlowsState). c.abandon_all.new.abandoned.items ≡ c.args.abandoned.now.items ++ waiting_at s c.args.flow) c.self.view_is
    (c.abandon_all.ensures.numbers ∙ ap (λ (ns : List ℕ). ns ++ numbers_of c.index_mut-sender.result.now.sender.waiting) kept
    ∙ ap (λ (ns : List ℕ). c.args.abandoned.now.items ++ ns) (sym (waiting_there before c.args.flow c.index_mut-sender.result.now there)))

pub returns-clause-stated : goal.returns-clause-stated
returns-clause-stated c =
    let before : FlowsState = record { sending = c.self.inside.sending.items; taking = c.self.inside.taking.items } in
    let within : c.args.flow < length c.self.inside.sending.items = subst (λ (s : FlowsState). c.args.flow < length s.sending) (sym c.self.view_is) c.requires in
    let there : sending_at before c.args.flow ≡ Some c.index_mut-sender.result.now = flow_there before c.args.flow c.args.flow c.index_mut-sender.result.now refl within c.index_mut-sender.ensures.value in
    subst (λ (s : FlowsState). (rejecting s c.args.flow).stated ≡ map (Abandoned c.args.flow) (waiting_at s c.args.flow) ++ finished_at c.args.flow c.finish-last.result) c.self.view_is
    (rejected_stated before c.args.flow c.index_mut-sender.result.now c.finish-last.result there
    (rejected_last c.index_mut-sender.result.now c.abandon_all.new.sender c.finish-last.result c.abandon_all.ensures.sender c.finish-last.ensures.last))
