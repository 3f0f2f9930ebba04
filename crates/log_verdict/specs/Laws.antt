-- The laws of audits.
use Rattle.std.specs.Prelude.{ℕ, ◌≡◌, ◌<◌, List, length}
use Rattle.endpoint_model.specs.Event.{Setup}
use Rattle.endpoint_laws.specs.Laws.{AreCalls}
use Rattle.endpoint_laws.specs.History.{History, log_of, TakesPart}
use Rattle.endpoint_laws.specs.Agreed.{IsAgreed}
use Rattle.log_verdict.specs.declared.verdict.Finding.{Finding}
use Rattle.log_verdict.specs.Told.{end_of, secrets_in}
use Rattle.log_verdict.specs.Checks.{AllPass, FailsFirst}
use Rattle.log_verdict.specs.Audited.{IsAudited}

-- Each event is one of these ends.
abbrev pub AreOfTheEnds : List Setup → History → Type 0
AreOfTheEnds setups history = (who : ℕ) → TakesPart who history → who < length setups

-- All checks pass exactly where the history is audited.
pub record WhatPassesIsAudited : Type 0 where
  pub audited : (setups : List Setup) (history : History) → AreOfTheEnds setups history →
      AllPass setups history → IsAudited setups history
  pub passes : (setups : List Setup) (history : History) → AreOfTheEnds setups history →
      IsAudited setups history → AllPass setups history

-- So what passes is agreed.
abbrev pub EachPassedAuditIsAgreed : Type 0
EachPassedAuditIsAgreed = (setups : List Setup) (history : History) →
    AreOfTheEnds setups history → ((who : ℕ) → AreCalls (log_of who history)) →
    AllPass setups history → IsAgreed (secrets_in setups history) (end_of setups) history

-- One check at most is the first that fails, and none where all pass.
pub record OneCheckFailsFirst : Type 0 where
  pub one : (setups : List Setup) (history : History) (f g : Finding) →
      FailsFirst setups history f → FailsFirst setups history g → f ≡ g
  pub none : (setups : List Setup) (history : History) (f : Finding) →
      FailsFirst setups history f → AllPass setups history → ⊥
