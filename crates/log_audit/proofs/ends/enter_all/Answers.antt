use Rattle.std.proofs.Common.{List, [], ◌∷◌, ◌+◌, ◌-◌, ◌≡◌, length, take, drop, sym, subst, Option, None, arith}
use Rattle.std.proofs.lemmas.List.{nil_from_length}
use Rattle.log_values.specs.declared.log.EndLog.{EndLog}
use Rattle.log_values.specs.Events.{setup_of}
use Rattle.log_verdict.specs.declared.verdict.Finding.{Finding}
use Rattle.log_verdict.specs.Told.{setups_of}
use Rattle.log_audit.specs.declared.ends.KeptEnd.{KeptEnd}
use Rattle.log_audit.specs.Found.{AreEntered}
use Rattle.log_audit.proofs.Entering.{IsEntering, end_place, entering_found, entering_last, entering_more}
use Rattle.log_audit.proofs.Going.{item_and_rest, none_left}
use Rattle.log_audit.proofs.ends.enter_all.Goals as goal

pub returns-in-Some-clause-found : goal.returns-in-Some-clause-found
returns-in-Some-clause-found c =
    let secrets = c.args.secrets.now in
    let logs = c.args.logs.now in
    let l = c.loop-rest in
    let log = c.log-item.result in
    let more : List EndLog = take (length l.rest.now - 1) (drop 1 l.rest.now) in
    entering_found secrets logs log more l.before l.prints l.ends.items
    (subst (λ (r : List EndLog). IsEntering secrets logs r l.before l.prints l.ends.items) (item_and_rest l.rest.now log c.in-len1-up.len_at_least c.log-item.is) l.invariant) c.in-Some.found
    (λ earlier prints. subst (λ (o : Option Finding). AreEntered secrets earlier l.before (setup_of log ∷ []) o) c.in-Some.is (c.in_ok-found.ensures.found earlier prints))

pub loop-rest-preserved : goal.loop-rest-preserved
loop-rest-preserved c =
    let secrets = c.args.secrets.now in
    let logs = c.args.logs.now in
    let l = c.loop-rest in
    let log = c.log-item.result in
    let more : List EndLog = take (length l.rest.now - 1) (drop 1 l.rest.now) in
    let is = subst (λ (r : List EndLog). IsEntering secrets logs r l.before l.prints l.ends.items) (item_and_rest l.rest.now log c.in-len1-up.len_at_least c.log-item.is) l.invariant in
    let none : c.in_ok-found.field-0 ≡ None = none_left c.in_ok-found.field-0 (λ x e. c.in_default-2.not-Some x e) in
    subst (λ (items : List KeptEnd). IsEntering secrets logs more (l.before + 1) c.look.new.prints items) (sym c.in_ok-push.ensures)
    (entering_more secrets logs log more l.before l.prints l.ends.items c.look.new.prints c.new_end.result is
    (λ earlier prints. subst (λ (o : Option Finding). AreEntered secrets earlier l.before (setup_of log ∷ []) o) none (c.in_ok-found.ensures.found earlier prints))
    (λ earlier prints. c.in_ok-found.ensures.prints earlier prints none) (c.new_end.ensures secrets (setups_of logs) l.before (end_place secrets logs log more l.before l.prints l.ends.items is)))

pub returns-clause-ends : goal.returns-clause-ends
returns-clause-ends c = λ none.
    let secrets = c.args.secrets.now in
    let logs = c.args.logs.now in
    let l = c.loop-rest in
    let short : length l.rest.now ≡ 0 = omega (arith, c.in_default.len_below) in
    (entering_last secrets logs l.before l.prints l.ends.items
    (subst (λ (r : List EndLog). IsEntering secrets logs r l.before l.prints l.ends.items) (nil_from_length l.rest.now short) l.invariant)).1
