-- All checks pass exactly where the history is audited; then it is agreed.
use Rattle.std.proofs.Common.{ℕ, List, [], ◌∷◌, refl, sym, subst, inl, inr}
use Rattle.glare_core.specs.Told.{AllDifferent}
use Rattle.endpoint_model.specs.Event.{Setup, moment_at}
use Rattle.endpoint_model.proofs.Members.{tested}
use Rattle.endpoint_laws.specs.Past.{facts_of, past_of_log, with_begun, WasLearnt}
use Rattle.endpoint_laws.specs.Contexts.{Secrets}
use Rattle.endpoint_laws.specs.Lawful.{nonces_of}
use Rattle.endpoint_laws.specs.History.{Happened, History, past_at, AreLawful, IsHonest, nonces_in, TakesPart}
use Rattle.endpoint_laws.proofs.DrawnOnce.{different_right}
use Rattle.endpoint_laws.proofs.AgreedLaw.{every_history_is_agreed}
use Rattle.log_verdict.specs.Told.{end_of, secrets_in}
use Rattle.log_verdict.specs.Checks.{AllPass, EventsPass, now_of}
use Rattle.log_verdict.specs.Audited.{IsAudited}
use Rattle.log_verdict.specs.Laws.{AreOfTheEnds, WhatPassesIsAudited, EachPassedAuditIsAgreed}
use Rattle.log_verdict.proofs.Passing.{lawful_before, passed_lawful, passed_honest, event_lawful}
use Rattle.log_verdict.proofs.Nonces.{entries_different, entries_new}
use Rattle.log_verdict.proofs.Learning.{LearntSo, learns_count, was_onto, passed_learnt, past_same, past_other}
use Rattle.log_verdict.proofs.Ends.{header_counts, headers_differ, headers_pass}

module _ (secrets : Secrets) (ends : ℕ → Setup) where
  passed_fresh : (history : History) → EventsPass secrets ends history → AllDifferent (nonces_in history)
  passed_fresh [] pass = tt
  passed_fresh (h ∷ earlier) pass =
      entries_different secrets (ends h.who) (now_of h earlier) h.event.call (moment_at 0 h.event) (nonces_in earlier)
      (with_begun (now_of h earlier) h.event (past_at h.who earlier)) (nonces_in earlier) h.event.entries pass.1.2
      (with_begun (moment_at 0 h.event) h.event []) refl (passed_fresh earlier pass.0)

  abbrev AllLearntSo : History → Type 0
  AllLearntSo history = (who : ℕ) → TakesPart who history → LearntSo secrets (past_at who history)

  -- what was learnt in the end was learnt by then
  learnt_before : (h : Happened) (earlier : History) → AllLearntSo (h ∷ earlier) → AllLearntSo earlier
  learnt_before h earlier so who part = elim (tested h.who who) [
    | inl is ↦ subst (λ (w : ℕ). LearntSo secrets (past_at w earlier)) is.0 mine
    | inr is ↦ subst (LearntSo secrets) (past_other secrets ends h earlier who is.1) (so who (inr part))
  ]
    where
      mine : LearntSo secrets (past_at h.who earlier)
      mine generation secret was = so h.who (inl refl) generation secret
          (subst (λ past. WasLearnt generation secret past) (sym (past_same secrets ends h earlier))
          (was_onto secrets (now_of h earlier) h.event.entries (with_begun (now_of h earlier) h.event (past_at h.who earlier)) generation secret (inr was)))

  events_pass : (history : History) → AllLearntSo history → AreLawful secrets ends history → IsHonest secrets ends history → AllDifferent (nonces_in history) → EventsPass secrets ends history
  events_pass [] so lawful honest different = tt
  events_pass (h ∷ earlier) so lawful honest different = (
    events_pass earlier (learnt_before h earlier so) (λ who. lawful_before secrets (ends who) who h earlier (lawful who)) honest.1
        (different_right (nonces_of (facts_of (past_of_log (h.event ∷ [])))) (nonces_in earlier) different),
    (
      learns_count secrets (now_of h earlier) h.event.entries (with_begun (now_of h earlier) h.event (past_at h.who earlier))
          (subst (LearntSo secrets) (past_same secrets ends h earlier) (so h.who (inl refl))),
      honest.0,
      entries_new secrets (ends h.who) (now_of h earlier) h.event.call (moment_at 0 h.event) (nonces_in earlier)
          (with_begun (now_of h earlier) h.event (past_at h.who earlier)) (nonces_in earlier) h.event.entries
          (event_lawful secrets ends h earlier lawful) (with_begun (moment_at 0 h.event) h.event []) refl different,
    ),
  )

audited : (setups : List Setup) (history : History) → AreOfTheEnds setups history → AllPass setups history → IsAudited setups history
audited setups history of pass = record {
  one_map = λ who lt. record {
    first = header_counts (secrets_in setups history) [] setups pass.0 who lt;
    learnt = passed_learnt (secrets_in setups history) (end_of setups) history pass.1 who;
  };
  lawful = passed_lawful (secrets_in setups history) (end_of setups) history pass.1;
  honest = passed_honest (secrets_in setups history) (end_of setups) history pass.1;
  nonces = passed_fresh (secrets_in setups history) (end_of setups) history pass.1;
  prints = headers_differ (secrets_in setups history) [] setups pass.0;
}

passes : (setups : List Setup) (history : History) → AreOfTheEnds setups history → IsAudited setups history → AllPass setups history
passes setups history of is = (
  headers_pass (secrets_in setups history) [] setups (λ who lt. (is.one_map who lt).first) (λ who lt among. among) is.prints,
  events_pass (secrets_in setups history) (end_of setups) history (λ who part. (is.one_map who (of who part)).learnt) is.lawful is.honest is.nonces,
)

pub what_passes_is_audited : WhatPassesIsAudited
what_passes_is_audited = record { audited = audited; passes = passes }

pub each_passed_audit_is_agreed : EachPassedAuditIsAgreed
each_passed_audit_is_agreed setups history of calls pass =
    let is : IsAudited setups history = audited setups history of pass in
    every_history_is_agreed (secrets_in setups history) (end_of setups) history calls is.lawful is.honest
    (record { nonces = is.nonces; prints = λ a b x y e. is.prints a b (of a x) (of b y) e })
