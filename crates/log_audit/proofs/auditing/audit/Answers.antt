use Rattle.std.proofs.Common.{ℕ, List, [], ◌≡◌, ◌∙◌, ap, length, refl, subst, sym, Option, None}
use Rattle.log_values.specs.Told.{history_of}
use Rattle.log_verdict.specs.declared.verdict.Finding.{Finding}
use Rattle.log_verdict.specs.Checks.{kept_in}
use Rattle.log_verdict.specs.Told.{end_of, setups_of}
use Rattle.log_audit.specs.declared.ends.KeptEnd.{KeptEnd}
use Rattle.log_audit.specs.Ends.{AreEndsOf}
use Rattle.log_audit.specs.Found.{AreEntered, AreJudged}
use Rattle.log_audit.proofs.Going.{none_left}
use Rattle.log_audit.proofs.Histories.{length_setups}
use Rattle.log_audit.proofs.Verdicts.{all_pass, events_fail, failed_audited, headers_fail, passed_agreed, passed_audited}
use Rattle.log_audit.proofs.auditing.audit.Goals as goal

pub returns-in-Some-clause-audited : goal.returns-in-Some-clause-audited
returns-in-Some-clause-audited c =
    let secrets = c.in_ok-secrets.secrets in
    failed_audited c.args.logs.now c.args.order.now c.requires c.in-Some.found
    (headers_fail c.args.logs.now c.args.order.now secrets c.in_ok-secrets.ensures c.in-Some.found
    (subst (λ (o : Option Finding). AreEntered secrets [] 0 (setups_of c.args.logs.now) o) c.in-Some.is c.in_ok-found.ensures.found))

pub returns-in-Some-2-clause-audited : goal.returns-in-Some-2-clause-audited
returns-in-Some-2-clause-audited c =
    let secrets = c.in_ok-secrets.secrets in
    let logs = c.args.logs.now in
    let order = c.args.order.now in
    let first : c.in_ok-found.field-0 ≡ None = none_left c.in_ok-found.field-0 (λ x e. c.in_default.not-Some x e) in
    failed_audited logs order c.requires c.in-Some-2.found
    (events_fail logs order secrets c.in_ok-secrets.ensures c.in-Some-2.found (subst (λ (o : Option Finding). AreEntered secrets [] 0 (setups_of logs) o) first c.in_ok-found.ensures.found)
    (subst (λ (o : Option Finding). AreJudged secrets (end_of (setups_of logs)) (history_of logs order) o) c.in-Some-2.is c.in_ok-found-2.ensures.judged))

pub returns-clause-verdict : goal.returns-clause-verdict
returns-clause-verdict c =
    let secrets = c.in_ok-secrets.secrets in
    let logs = c.args.logs.now in
    let order = c.args.order.now in
    let first : c.in_ok-found.field-0 ≡ None = none_left c.in_ok-found.field-0 (λ x e. c.in_default.not-Some x e) in
    let second : c.in_ok-found-2.field-0 ≡ None = none_left c.in_ok-found-2.field-0 (λ x e. c.in_default-2.not-Some x e) in
    let are = c.in_ok-found-2.ensures.ends second in
    let items : List KeptEnd = c.as_slice.result.now in
    let those = subst (λ (l : List KeptEnd). AreEndsOf secrets (setups_of logs) (history_of logs order) l) (sym c.as_slice.ensures.value) are in
    let many : length items ≡ length logs = those.count ∙ length_setups logs in (
      all_pass logs order secrets c.in_ok-secrets.ensures (subst (λ (o : Option Finding). AreEntered secrets [] 0 (setups_of logs) o) first c.in_ok-found.ensures.found)
          (subst (λ (o : Option Finding). AreJudged secrets (end_of (setups_of logs)) (history_of logs order) o) second c.in_ok-found-2.ensures.judged),
      refl,
      c.in_ok-kept_by.ensures secrets (setups_of logs) (history_of logs order) those ∙ ap (λ (n : ℕ). kept_in n (history_of logs order)) many,
    )

pub returns-clause-audited : goal.returns-clause-audited
returns-clause-audited c =
    let secrets = c.in_ok-secrets.secrets in
    let logs = c.args.logs.now in
    let order = c.args.order.now in
    let first : c.in_ok-found.field-0 ≡ None = none_left c.in_ok-found.field-0 (λ x e. c.in_default.not-Some x e) in
    let second : c.in_ok-found-2.field-0 ≡ None = none_left c.in_ok-found-2.field-0 (λ x e. c.in_default-2.not-Some x e) in
    passed_audited logs order c.requires
    (all_pass logs order secrets c.in_ok-secrets.ensures (subst (λ (o : Option Finding). AreEntered secrets [] 0 (setups_of logs) o) first c.in_ok-found.ensures.found)
    (subst (λ (o : Option Finding). AreJudged secrets (end_of (setups_of logs)) (history_of logs order) o) second c.in_ok-found-2.ensures.judged))

pub returns-clause-agreed : goal.returns-clause-agreed
returns-clause-agreed c = λ yes.
    let secrets = c.in_ok-secrets.secrets in
    let logs = c.args.logs.now in
    let order = c.args.order.now in
    let first : c.in_ok-found.field-0 ≡ None = none_left c.in_ok-found.field-0 (λ x e. c.in_default.not-Some x e) in
    let second : c.in_ok-found-2.field-0 ≡ None = none_left c.in_ok-found-2.field-0 (λ x e. c.in_default-2.not-Some x e) in
    passed_agreed logs order c.requires (c.in_ok-found-2.ensures.calls second)
    (all_pass logs order secrets c.in_ok-secrets.ensures (subst (λ (o : Option Finding). AreEntered secrets [] 0 (setups_of logs) o) first c.in_ok-found.ensures.found)
    (subst (λ (o : Option Finding). AreJudged secrets (end_of (setups_of logs)) (history_of logs order) o) second c.in_ok-found-2.ensures.judged))
