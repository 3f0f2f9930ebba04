use Rattle.std.proofs.Common.{◌≡◌, ℕ, ◌<◌, true, Option, Some, None, length, refl, sym, ap, ◌∙◌, subst, rules}
use Rattle.std.specs.Prelude.{slice_get}
use Rattle.std.specs.List.{position}
use Rattle.std.proofs.lemmas.Option.{slice_get_read}
use Rattle.flow_send.specs.Sender.{overdue}
use Rattle.session_core.specs.Closing.{is_held}
use Rattle.session_flows.specs.Keeping.{FlowsState}
use Rattle.session_flows.specs.Timing.{has_overdue, overdue_in, numbered}
use Rattle.session_flows.proofs.Times.{none_overdue, one_overdue, pos_within}
use Rattle.session_flows.proofs.flows.Flows.first_overdue.Goals as goal

pub returns-in_err-at : goal.returns-in_err-at
returns-in_err-at c =
    let before : FlowsState = record { sending = c.self.inside.sending.items; taking = c.self.inside.taking.items } in
    let held : is_held c.args.session.now.stage ≡ true = search rules in
    let none : position (has_overdue c.args.moment) before.sending ≡ None = search rules in
    let answer : c.from_residual.result ≡ None = search rules in
    subst (λ (s : FlowsState). c.from_residual.result ≡ overdue_in c.args.session.now s c.args.moment) c.self.view_is (answer ∙ sym (none_overdue c.args.session.now before c.args.moment held none))

pub returns-in_err-seq : goal.returns-in_err-seq
returns-in_err-seq c =
    let before : FlowsState = record { sending = c.self.inside.sending.items; taking = c.self.inside.taking.items } in
    let held : is_held c.args.session.now.stage ≡ true = search rules in
    let place : position (has_overdue c.args.moment) before.sending ≡ Some c.in_ok-at.at = search rules in
    let within : c.in_ok-at.at < length before.sending = pos_within (has_overdue c.args.moment) before.sending c.in_ok-at.at place in
    let at : slice_get before.sending c.in_ok-at.at ≡ Some c.index-sender.result.now = slice_get_read before.sending (length before.sending) c.in_ok-at.at c.index-sender.result.now refl within c.index-sender.ensures in
    let it : overdue_in c.args.session.now before c.args.moment ≡ numbered c.in_ok-at.at (overdue c.args.moment c.index-sender.result.now.sender) =
    one_overdue c.args.session.now before c.args.moment c.in_ok-at.at c.index-sender.result.now held c.self.invariant.sound.numbered place at in
    let none : overdue c.args.moment c.index-sender.result.now.sender ≡ None = search rules in
    let answer : c.from_residual-in_err-seq.result ≡ None = search rules in
    subst (λ (s : FlowsState). c.from_residual-in_err-seq.result ≡ overdue_in c.args.session.now s c.args.moment) c.self.view_is
    (answer ∙ sym (it ∙ ap (λ (o : Option ℕ). numbered c.in_ok-at.at o) none))

pub returns : goal.returns
returns c =
    let before : FlowsState = record { sending = c.self.inside.sending.items; taking = c.self.inside.taking.items } in
    let held : is_held c.args.session.now.stage ≡ true = search rules in
    let place : position (has_overdue c.args.moment) before.sending ≡ Some c.in_ok-at.at = search rules in
    let within : c.in_ok-at.at < length before.sending = pos_within (has_overdue c.args.moment) before.sending c.in_ok-at.at place in
    let at : slice_get before.sending c.in_ok-at.at ≡ Some c.index-sender.result.now = slice_get_read before.sending (length before.sending) c.in_ok-at.at c.index-sender.result.now refl within c.index-sender.ensures in
    let it : overdue_in c.args.session.now before c.args.moment ≡ numbered c.in_ok-at.at (overdue c.args.moment c.index-sender.result.now.sender) =
    one_overdue c.args.session.now before c.args.moment c.in_ok-at.at c.index-sender.result.now held c.self.invariant.sound.numbered place at in
    let some : overdue c.args.moment c.index-sender.result.now.sender ≡ Some c.in_ok-seq.seq = search rules in
    subst (λ (s : FlowsState). ◌≡◌ {A = Option (ℕ × ℕ)} (Some (c.in_ok-at.at, c.in_ok-seq.seq)) (overdue_in c.args.session.now s c.args.moment)) c.self.view_is
    (sym (it ∙ ap (λ (o : Option ℕ). numbered c.in_ok-at.at o) some))
