-- What is judged of what was read.
use Rattle.std.proofs.Common.{◌≡◌, ℕ, suc, List, [], ◌∷◌, length, refl, sym, ap, ◌∙◌, subst}
use Rattle.std.specs.Prelude.{Result, Ok, Err, OnOk}
use Rattle.endpoint_model.specs.Event.{Setup}
use Rattle.endpoint_laws.specs.Agreed.{IsAgreed}
use Rattle.log_values.specs.declared.log.EndLog.{EndLog}
use Rattle.log_values.specs.Told.{Logs, history_in, history_of, logs_of}
use Rattle.log_verdict.specs.declared.verdict.Verdict.TheVariants.{Yes}
use Rattle.log_verdict.specs.Told.{end_of, secrets_in, setups_of}
use Rattle.log_verdict.specs.Checks.{AllPass, IsVerdict, kept_in}
use Rattle.log_verdict.specs.Audited.{IsAudited}
use Rattle.log_reading.specs.Gathered.{Read}
use Rattle.log_reading.proofs.Grown.{length_logs}
use Rattle.rtmfp_lines.specs.declared.status.Status.TheVariants as status
use Rattle.rtmfp_audit.specs.Texts.{agreed_text}
use Rattle.rtmfp_audit.specs.Audits.{Judged}

-- the last of several pushes
pub on_ok : {X E P Q : Type 0} (result : Result X E) → (P → Q) → OnOk result P → OnOk result Q
on_ok (Ok x) f p = f p
on_ok (Err e) f p = tt

length_setups : (logs : List EndLog) → length (setups_of logs) ≡ length logs
length_setups [] = refl
length_setups (log ∷ logs) = ap suc (length_setups logs)

-- the logs and the order are those that were read
pub record AreRead (logs : List EndLog) (order : List ℕ) (read : Read) : Type 0 where
  pub setups : setups_of logs ≡ read.setups
  pub logs_are : logs_of logs ≡ read.logs
  pub order_is : order ≡ read.order

abbrev pub OfHistory : (List Setup → Logs → List ℕ → Type 0) → Type 0
OfHistory P = (logs : List EndLog) (order : List ℕ) (read : Read) → AreRead logs order read → P (setups_of logs) (logs_of logs) order → P read.setups read.logs read.order

carried : (P : List Setup → Logs → List ℕ → Type 0) → OfHistory P
carried P logs order read are p =
    subst (λ (s : List Setup). P s read.logs read.order) are.setups
    (subst (λ (l : Logs). P (setups_of logs) l read.order) are.logs_are
    (subst (λ (o : List ℕ). P (setups_of logs) (logs_of logs) o) are.order_is p))

pub judged_yes : (logs : List EndLog) (order : List ℕ) (read : Read) (events kept : ℕ) (text : List ℕ) → AreRead logs order read → IsVerdict logs order (Yes events kept) → IsAudited (setups_of logs) (history_of logs order) →
    IsAgreed (secrets_in (setups_of logs) (history_of logs order)) (end_of (setups_of logs)) (history_of logs order) → text ≡ agreed_text (length logs) events kept → Judged status.Done read text
judged_yes logs order read events kept text are verdict audited agreed e = (
  record {
    passes = carried (λ s l o. AllPass s (history_in l o)) logs order read are verdict.0;
    audited = carried (λ s l o. IsAudited s (history_in l o)) logs order read are audited;
    agreed = carried (λ s l o. IsAgreed (secrets_in s (history_in l o)) (end_of s) (history_in l o)) logs order read are agreed;
  },
  e
      ∙ ap (λ (n : ℕ). agreed_text n events kept) (sym (length_setups logs) ∙ ap (λ (s : List Setup). length s) are.setups)
      ∙ ap (λ (n : ℕ). agreed_text (length read.setups) n kept) (verdict.1 ∙ ap (λ (o : List ℕ). length o) are.order_is)
      ∙ ap (λ (n : ℕ). agreed_text (length read.setups) (length read.order) n) (verdict.2 ∙ ap (λ (n : ℕ). kept_in n (history_of logs order)) (sym (length_logs logs))
      ∙ carried (λ s l o. kept_in (length (logs_of logs)) (history_of logs order) ≡ kept_in (length l) (history_in l o)) logs order read are refl),
)
