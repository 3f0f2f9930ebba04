use Rattle.std.proofs.Common.{◌∙◌, ◌++◌, List, ℕ, length, ap}
use Rattle.rtmfp_audit.specs.Texts.{agreed_text}
use Rattle.rtmfp_audit.proofs.Judging.{AreRead, judged_yes}
use Rattle.rtmfp_audit.proofs.telling.judge.Goals as goal

pub returns-in_ok-push_agreed-in-Yes : goal.returns-in_ok-push_agreed-in-Yes
returns-in_ok-push_agreed-in-Yes c =
    let logs = c.logs-logs.result.now in
    let order = c.order.result.now in
    let are : AreRead logs order c.args.gathered.now = record { setups = c.logs-logs.ensures.setups; logs_are = c.logs-logs.ensures.logs; order_is = c.order.ensures.value } in
    let e = rw c.in-Yes.is at c.in_ok-events.ensures in
    judged_yes logs order c.args.gathered.now c.in-Yes.events c.in-Yes.kept c.push_agreed.new.text are e.verdict (e.audited.0 tt) (e.agreed tt)
    (c.in_ok-push_agreed-in-Yes.ensures ∙ ap (λ (xs : List ℕ). xs ++ agreed_text (length logs) c.in-Yes.events c.in-Yes.kept) c.requires.empty)
