use Rattle.std.proofs.Common.{ℕ, ◌≡◌, length, get_or, subst, Option, None, arith}
use Rattle.std.proofs.lemmas.List.{nil_from_length}
use Rattle.log_judging.specs.Judged.{IsJudged}
use Rattle.log_values.specs.Events.{event_of}
use Rattle.log_values.specs.Told.{logs_of, told}
use Rattle.log_verdict.specs.declared.verdict.Finding.{Finding}
use Rattle.log_verdict.specs.Told.{end_of, setups_of}
use Rattle.log_audit.proofs.Going.{none_left}
use Rattle.log_audit.proofs.Judging.{end_there, judging_first, judging_found, judging_last, judging_more, judging_next, judging_number}
use Rattle.log_audit.proofs.auditing.judge_all.Goals as goal

pub loop-rest-init : goal.loop-rest-init
loop-rest-init c = judging_first c.args.secrets.now c.args.logs.now c.args.order.now c.in_ok-seen.seen.items _ c.args.ends.now.items c.in_ok-seen.ensures c.new-all.ensures c.requires.ends

pub next_event-event-requires-clause-end : goal.next_event-event-requires-clause-end
next_event-event-requires-clause-end c =
    let l = c.loop-rest in
    (judging_next c.args.secrets.now c.args.logs.now c.args.order.now c.requires.order l.rest.now c.in-len1-up.len_at_least l.number l.seen.items l.all l.ends.items l.invariant).end

pub next_event-event-requires-clause-there : goal.next_event-event-requires-clause-there
next_event-event-requires-clause-there c =
    let l = c.loop-rest in
    (judging_next c.args.secrets.now c.args.logs.now c.args.order.now c.requires.order l.rest.now c.in-len1-up.len_at_least l.number l.seen.items l.all l.ends.items l.invariant).there

pub next_event-event-requires-clause-room : goal.next_event-event-requires-clause-room
next_event-event-requires-clause-room c =
    let l = c.loop-rest in
    let next = judging_next c.args.secrets.now c.args.logs.now c.args.order.now c.requires.order l.rest.now c.in-len1-up.len_at_least l.number l.seen.items l.all l.ends.items l.invariant in
    omega (arith, next.few)

pub overflow_add-number : goal.overflow_add-number
overflow_add-number c =
    let l = c.loop-rest in
    let next = judging_next c.args.secrets.now c.args.logs.now c.args.order.now c.requires.order l.rest.now c.in-len1-up.len_at_least l.number l.seen.items l.all l.ends.items l.invariant in
    omega (arith, next.number, l.invariant.count)

pub judge_next-requires-clause-log : goal.judge_next-requires-clause-log
judge_next-requires-clause-log c =
    let l = c.loop-rest in
    (judging_next c.args.secrets.now c.args.logs.now c.args.order.now c.requires.order l.rest.now c.in-len1-up.len_at_least l.number l.seen.items l.all l.ends.items l.invariant).log

pub judge_next-requires-clause-end : goal.judge_next-requires-clause-end
judge_next-requires-clause-end c =
    let l = c.loop-rest in
    end_there c.args.secrets.now c.args.logs.now c.args.order.now c.requires.order l.rest.now c.in-len1-up.len_at_least l.number l.seen.items l.all l.ends.items l.invariant

pub returns-in-Some-clause-judged : goal.returns-in-Some-clause-judged
returns-in-Some-clause-judged c =
    let secrets = c.args.secrets.now in
    let logs = c.args.logs.now in
    let l = c.loop-rest in
    let some = c.in-len1-up.len_at_least in
    let event = event_of c.next_event-event.result.now in
    let before = told (logs_of logs) l.invariant.earlier in
    judging_found secrets logs c.args.order.now c.requires.order l.rest.now some l.number l.seen.items l.all l.ends.items l.invariant event c.next_event-event.ensures.event c.in-Some.found
    (subst (λ (o : Option Finding). IsJudged secrets (end_of (setups_of logs)) (record { who = get_or l.rest.now 0 0; event = event }) before o) c.in-Some.is
    (c.in_ok-found.ensures.judged before l.invariant.passed.kept l.invariant.together
    (judging_number secrets logs c.args.order.now c.requires.order l.rest.now some l.number l.seen.items l.all l.ends.items l.invariant)))

pub loop-rest-preserved : goal.loop-rest-preserved
loop-rest-preserved c =
    let secrets = c.args.secrets.now in
    let logs = c.args.logs.now in
    let l = c.loop-rest in
    let some = c.in-len1-up.len_at_least in
    let who : ℕ = get_or l.rest.now 0 0 in
    let event = event_of c.next_event-event.result.now in
    let before = told (logs_of logs) l.invariant.earlier in
    let none : c.in_ok-found.field-0 ≡ None = none_left c.in_ok-found.field-0 (λ x e. c.in_default-2.not-Some x e) in
    let number = judging_number secrets logs c.args.order.now c.requires.order l.rest.now some l.number l.seen.items l.all l.ends.items l.invariant in
    let goes = c.in_ok-found.ensures.goes_on before l.invariant.passed.kept l.invariant.together number none in
    judging_more secrets logs c.args.order.now c.requires.order l.rest.now some l.number l.seen.items l.all l.ends.items l.invariant event c.next_event-event.ensures.event c.next_event-event.new.seen.items _ c.judge_next.new.ends.items
    c.next_event-event.ensures.seen
    (subst (λ (o : Option Finding). IsJudged secrets (end_of (setups_of logs)) (record { who = who; event = event }) before o) none
    (c.in_ok-found.ensures.judged before l.invariant.passed.kept l.invariant.together number)) c.is_call.ensures goes.0 (record { sent = c.in_ok-add.ensures.log who before goes.1.sent; nonces = goes.1.nonces })

pub returns-clause-judged : goal.returns-clause-judged
returns-clause-judged c =
    let l = c.loop-rest in
    let short : length l.rest.now ≡ 0 = omega (arith, c.in_default.len_below) in
    (judging_last c.args.secrets.now c.args.logs.now c.args.order.now l.rest.now l.number l.seen.items l.all l.ends.items (nil_from_length l.rest.now short) l.invariant).pass

pub returns-clause-ends : goal.returns-clause-ends
returns-clause-ends c = λ none.
    let l = c.loop-rest in
    let short : length l.rest.now ≡ 0 = omega (arith, c.in_default.len_below) in
    (judging_last c.args.secrets.now c.args.logs.now c.args.order.now l.rest.now l.number l.seen.items l.all l.ends.items (nil_from_length l.rest.now short) l.invariant).kept

pub returns-clause-calls : goal.returns-clause-calls
returns-clause-calls c = λ none who.
    let l = c.loop-rest in
    let short : length l.rest.now ≡ 0 = omega (arith, c.in_default.len_below) in
    (judging_last c.args.secrets.now c.args.logs.now c.args.order.now l.rest.now l.number l.seen.items l.all l.ends.items (nil_from_length l.rest.now short) l.invariant).calls who
