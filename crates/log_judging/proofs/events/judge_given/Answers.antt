use Rattle.std.proofs.Common.{◌≡◌, ◌∷◌, ℕ, Option, None}
use Rattle.endpoint_laws.specs.Past.{last_moment, with_begun}
use Rattle.endpoint_laws.specs.History.{Happened, log_of, past_at, nonces_in}
use Rattle.log_digest.specs.Nonces.{AreNonces}
use Rattle.log_values.specs.Events.{event_of}
use Rattle.log_verdict.specs.Checks.{now_of}
use Rattle.log_verdict.specs.declared.verdict.Finding.{Finding}
use Rattle.log_judging.specs.Entries.{AreJudged}
use Rattle.log_judging.specs.Judged.{IsJudged, IsWatchIn}
use Rattle.log_judging.proofs.Histories.{so_if_ok, was_true, by_entries, goes_on, not_honest}
use Rattle.log_judging.proofs.events.judge_given.Goals as goal

pub returns-then-not-is_honest_call-clause-judged : goal.returns-then-not-is_honest_call-clause-judged
returns-then-not-is_honest_call-clause-judged c = λ ends who earlier party watch sent nonces numbered learns.
    let event = c.args.event.now in
    let found = c.in-Ok.ensures.log (ends who) (last_moment 0 (log_of who earlier)) (past_at who earlier) event.nonce party.own_is watch.digest watch.generations watch.contexts watch.zero in
    let tells = c.is_honest_call.ensures c.args.secrets.now (ends who) (past_at who earlier) c.arrive_call.new.opener earlier event.nonce found sent in
    not_honest c.args.secrets.now ends (record { who = who; event = event_of event }) earlier c.args.number numbered learns
    (λ honest. was_true c.is_honest_call.result c.if-not-is_honest_call.true (tells.no honest))

pub returns-clause-judged : goal.returns-clause-judged
returns-clause-judged c = λ ends who earlier party watch sent nonces numbered learns.
    let event = c.args.event.now in
    let h : Happened = record { who = who; event = event_of event } in
    let last : ℕ = last_moment 0 (log_of who earlier) in
    let found = c.in-Ok.ensures.log (ends who) last (past_at who earlier) event.nonce party.own_is watch.digest watch.generations watch.contexts watch.zero in
    let tells = c.is_honest_call.ensures c.args.secrets.now (ends who) (past_at who earlier) c.arrive_call.new.opener earlier event.nonce found sent in
    so_if_ok c.judge_begun.result
    (AreJudged c.args.secrets.now c.args.number (ends who) (now_of h earlier) h.event.call (with_begun (now_of h earlier) h.event (past_at who earlier)) (nonces_in earlier) 0 h.event.entries
    c.judge_begun.new.watch c.judge_begun.new.nonces)
    (IsJudged c.args.secrets.now ends h earlier)
    (by_entries c.args.secrets.now ends h earlier c.args.number numbered learns (tells.yes c.if-not-is_honest_call.false) c.judge_begun.new.watch c.judge_begun.new.nonces)
    (c.judge_begun.ensures (ends who) last (past_at who earlier) (nonces_in earlier) party watch nonces found)

pub returns-clause-goes_on : goal.returns-clause-goes_on
returns-clause-goes_on c = λ ends who earlier party watch sent nonces.
    let event = c.args.event.now in
    let h : Happened = record { who = who; event = event_of event } in
    let last : ℕ = last_moment 0 (log_of who earlier) in
    let found = c.in-Ok.ensures.log (ends who) last (past_at who earlier) event.nonce party.own_is watch.digest watch.generations watch.contexts watch.zero in
    so_if_ok c.judge_begun.result
    (AreJudged c.args.secrets.now c.args.number (ends who) (now_of h earlier) h.event.call (with_begun (now_of h earlier) h.event (past_at who earlier)) (nonces_in earlier) 0 h.event.entries
    c.judge_begun.new.watch c.judge_begun.new.nonces)
    (λ (f : Option Finding). f ≡ None → IsWatchIn c.args.secrets.now ends who (h ∷ earlier) c.judge_begun.new.watch × AreNonces (nonces_in (h ∷ earlier)) c.judge_begun.new.nonces)
    (goes_on c.args.secrets.now ends h earlier c.args.number c.judge_begun.new.watch c.judge_begun.new.nonces)
    (c.judge_begun.ensures (ends who) last (past_at who earlier) (nonces_in earlier) party watch nonces found)
