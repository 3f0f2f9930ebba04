use Rattle.std.proofs.Common.{◌≡◌, ℕ, ◌<◌, true, Option, Some, None, length, refl, sym, ap, ◌∙◌, subst, rules}
use Rattle.std.specs.Prelude.{slice_get, slice_set}
use Rattle.std.specs.List.{position}
use Rattle.std.proofs.lemmas.Option.{slice_get_read}
use Rattle.flow_send.specs.Sender.{overdue, abandoned, abandoned_if}
use Rattle.flow_send.specs.Flow.{with_sender}
use Rattle.session_core.specs.Closing.{is_held}
use Rattle.session_flows.specs.Keeping.{FlowsState, Did}
use Rattle.session_flows.specs.Calling.{abandoning, abandon_refused}
use Rattle.session_flows.specs.Timing.{has_overdue, overdue_in, numbered}
use Rattle.session_flows.proofs.Kin.{kin, milder}
use Rattle.session_flows.proofs.Milds.{mild_abandoned_if}
use Rattle.session_flows.proofs.Settled.{may_change, whole_set}
use Rattle.session_flows.proofs.Calls.{abandon_did}
use Rattle.session_flows.proofs.Times.{none_overdue, one_overdue, pos_within, may_abandon}
use Rattle.session_flows.proofs.flows.Flows.abandon_overdue.Goals as goal

pub returns-in_err-at-clause-found : goal.returns-in_err-at-clause-found
returns-in_err-at-clause-found c =
    let before : FlowsState = record { sending = c.self.inside.sending.items; taking = c.self.inside.taking.items } in
    let held : is_held c.args.session.now.stage ≡ true = search rules in
    let none : position (has_overdue c.args.moment) before.sending ≡ None = search rules in
    let answer : c.from_residual.result ≡ None = search rules in
    subst (λ (s : FlowsState). c.from_residual.result ≡ overdue_in c.args.session.now s c.args.moment) c.self.view_is (answer ∙ sym (none_overdue c.args.session.now before c.args.moment held none))

pub returns-in_err-seq-clause-found : goal.returns-in_err-seq-clause-found
returns-in_err-seq-clause-found c =
    let before : FlowsState = record { sending = c.self.inside.sending.items; taking = c.self.inside.taking.items } in
    let held : is_held c.args.session.now.stage ≡ true = search rules in
    let place : position (has_overdue c.args.moment) before.sending ≡ Some c.in_ok-at.at = search rules in
    let within : c.in_ok-at.at < length before.sending = pos_within (has_overdue c.args.moment) before.sending c.in_ok-at.at place in
    let at : slice_get before.sending c.in_ok-at.at ≡ Some c.index_mut-sender.result.now = slice_get_read before.sending (length before.sending) c.in_ok-at.at c.index_mut-sender.result.now refl within c.index_mut-sender.ensures.value in
    let it : overdue_in c.args.session.now before c.args.moment ≡ numbered c.in_ok-at.at (overdue c.args.moment c.index_mut-sender.result.now.sender) =
    one_overdue c.args.session.now before c.args.moment c.in_ok-at.at c.index_mut-sender.result.now held c.self.invariant.sound.numbered place at in
    let none : overdue c.args.moment c.index_mut-sender.result.now.sender ≡ None = search rules in
    let answer : c.from_residual-in_err-seq.result ≡ None = search rules in
    subst (λ (s : FlowsState). c.from_residual-in_err-seq.result ≡ overdue_in c.args.session.now s c.args.moment) c.self.view_is
    (answer ∙ sym (it ∙ ap (λ (o : Option ℕ). numbered c.in_ok-at.at o) none))

pub settle-requires : goal.settle-requires
settle-requires c =
    let before : FlowsState = record { sending = c.self.inside.sending.items; taking = c.self.inside.taking.items } in
    let held : is_held c.args.session.now.stage ≡ true = search rules in
    let place : position (has_overdue c.args.moment) before.sending ≡ Some c.in_ok-at.at = search rules in
    let within : c.in_ok-at.at < length before.sending = pos_within (has_overdue c.args.moment) before.sending c.in_ok-at.at place in
    let at : slice_get before.sending c.in_ok-at.at ≡ Some c.index_mut-sender.result.now = slice_get_read before.sending (length before.sending) c.in_ok-at.at c.index_mut-sender.result.now refl within c.index_mut-sender.ensures.value in
    let it : overdue_in c.args.session.now before c.args.moment ≡ numbered c.in_ok-at.at (overdue c.args.moment c.index_mut-sender.result.now.sender) =
    one_overdue c.args.session.now before c.args.moment c.in_ok-at.at c.index_mut-sender.result.now held c.self.invariant.sound.numbered place at in
    may_change before c.self.inside.kept c.in_ok-at.at c.flight-before.result c.index_mut-sender.result.now c.overdue.new.self c.self.invariant at c.flight-before.ensures.bytes (kin c.overdue.ensures.after)

pub invariant_of-self-2 : goal.invariant_of-self-2
invariant_of-self-2 c =
    let before : FlowsState = record { sending = c.self.inside.sending.items; taking = c.self.inside.taking.items } in
    let held : is_held c.args.session.now.stage ≡ true = search rules in
    let place : position (has_overdue c.args.moment) before.sending ≡ Some c.in_ok-at.at = search rules in
    let within : c.in_ok-at.at < length before.sending = pos_within (has_overdue c.args.moment) before.sending c.in_ok-at.at place in
    let at : slice_get before.sending c.in_ok-at.at ≡ Some c.index_mut-sender.result.now = slice_get_read before.sending (length before.sending) c.in_ok-at.at c.index_mut-sender.result.now refl within c.index_mut-sender.ensures.value in
    let it : overdue_in c.args.session.now before c.args.moment ≡ numbered c.in_ok-at.at (overdue c.args.moment c.index_mut-sender.result.now.sender) =
    one_overdue c.args.session.now before c.args.moment c.in_ok-at.at c.index_mut-sender.result.now held c.self.invariant.sound.numbered place at in
    whole_set before c.self.inside.kept c.settle.new.self c.in_ok-at.at c.flight-before.result c.index_mut-sender.result.now c.overdue.new.self c.self.invariant at c.flight-before.ensures.bytes (kin c.overdue.ensures.after)
    (milder c.index_mut-sender.result.now c.overdue.new.self _ c.overdue.ensures.after (λ b. mild_abandoned_if b _ c.index_mut-sender.result.now.sender)) c.settle.ensures

pub returns-clause-found : goal.returns-clause-found
returns-clause-found c =
    let before : FlowsState = record { sending = c.self.inside.sending.items; taking = c.self.inside.taking.items } in
    let held : is_held c.args.session.now.stage ≡ true = search rules in
    let place : position (has_overdue c.args.moment) before.sending ≡ Some c.in_ok-at.at = search rules in
    let within : c.in_ok-at.at < length before.sending = pos_within (has_overdue c.args.moment) before.sending c.in_ok-at.at place in
    let at : slice_get before.sending c.in_ok-at.at ≡ Some c.index_mut-sender.result.now = slice_get_read before.sending (length before.sending) c.in_ok-at.at c.index_mut-sender.result.now refl within c.index_mut-sender.ensures.value in
    let it : overdue_in c.args.session.now before c.args.moment ≡ numbered c.in_ok-at.at (overdue c.args.moment c.index_mut-sender.result.now.sender) =
    one_overdue c.args.session.now before c.args.moment c.in_ok-at.at c.index_mut-sender.result.now held c.self.invariant.sound.numbered place at in
    let some : overdue c.args.moment c.index_mut-sender.result.now.sender ≡ Some c.in_ok-seq.seq = search rules in
    subst (λ (s : FlowsState). ◌≡◌ {A = Option (ℕ × ℕ)} (Some (c.in_ok-at.at, c.in_ok-seq.seq)) (overdue_in c.args.session.now s c.args.moment)) c.self.view_is
    (sym (it ∙ ap (λ (o : Option ℕ). numbered c.in_ok-at.at o) some))

pub returns-clause-flows : goal.returns-clause-flows
returns-clause-flows c =
    let before : FlowsState = record { sending = c.self.inside.sending.items; taking = c.self.inside.taking.items } in
    let held : is_held c.args.session.now.stage ≡ true = search rules in
    let place : position (has_overdue c.args.moment) before.sending ≡ Some c.in_ok-at.at = search rules in
    let within : c.in_ok-at.at < length before.sending = pos_within (has_overdue c.args.moment) before.sending c.in_ok-at.at place in
    let at : slice_get before.sending c.in_ok-at.at ≡ Some c.index_mut-sender.result.now = slice_get_read before.sending (length before.sending) c.in_ok-at.at c.index_mut-sender.result.now refl within c.index_mut-sender.ensures.value in
    let it : overdue_in c.args.session.now before c.args.moment ≡ numbered c.in_ok-at.at (overdue c.args.moment c.index_mut-sender.result.now.sender) =
    one_overdue c.args.session.now before c.args.moment c.in_ok-at.at c.index_mut-sender.result.now held c.self.invariant.sound.numbered place at in
    let some : overdue c.args.moment c.index_mut-sender.result.now.sender ≡ Some c.in_ok-seq.seq = search rules in
    let after : FlowsState = record { sending = slice_set before.sending c.in_ok-at.at c.overdue.new.self; taking = before.taking } in
    let done : c.overdue.new.self ≡ with_sender c.index_mut-sender.result.now (abandoned c.in_ok-seq.seq c.index_mut-sender.result.now.sender) =
    c.overdue.ensures.after ∙ ap (λ (o : Option ℕ). with_sender c.index_mut-sender.result.now (abandoned_if o c.index_mut-sender.result.now.sender)) some in
    subst (λ (s : FlowsState). after ≡ (abandoning s c.in_ok-at.at c.in_ok-seq.seq).flows) c.self.view_is
    (sym (ap (λ (d : Did). d.flows) (abandon_did before c.in_ok-at.at c.in_ok-at.at c.in_ok-seq.seq c.index_mut-sender.result.now c.overdue.new.self refl at done)))

pub returns-clause-waits : goal.returns-clause-waits
returns-clause-waits c =
    let before : FlowsState = record { sending = c.self.inside.sending.items; taking = c.self.inside.taking.items } in
    let place : position (has_overdue c.args.moment) before.sending ≡ Some c.in_ok-at.at = search rules in
    let within : c.in_ok-at.at < length before.sending = pos_within (has_overdue c.args.moment) before.sending c.in_ok-at.at place in
    let at : slice_get before.sending c.in_ok-at.at ≡ Some c.index_mut-sender.result.now = slice_get_read before.sending (length before.sending) c.in_ok-at.at c.index_mut-sender.result.now refl within c.index_mut-sender.ensures.value in
    let some : overdue c.args.moment c.index_mut-sender.result.now.sender ≡ Some c.in_ok-seq.seq = search rules in
    subst (λ (s : FlowsState). abandon_refused s c.in_ok-at.at c.in_ok-seq.seq ≡ None) c.self.view_is
    (may_abandon before c.in_ok-at.at c.args.moment c.in_ok-seq.seq c.index_mut-sender.result.now at some)
