-- What ends were given first, one end after another.
use Rattle.std.proofs.Common.{ℕ, suc, List, [], ◌∷◌, ◌++◌, ◌≡◌, ◌+◌, inl, inr, sym, ap, subst, ◌∙◌, length, Some, None, arith}
use Rattle.endpoint_model.specs.Event.{own_of}
use Rattle.endpoint_laws.specs.Contexts.{Secrets}
use Rattle.log_sent.specs.Prints.{ArePrints}
use Rattle.log_values.specs.declared.log.EndLog.{EndLog}
use Rattle.log_values.specs.Events.{setup_of}
use Rattle.log_verdict.specs.declared.verdict.Finding.{Finding}
use Rattle.log_verdict.specs.Told.{end_of, setups_of}
use Rattle.log_verdict.specs.Checks.{HeadersFail, HeadersPass}
use Rattle.log_audit.specs.declared.ends.KeptEnd.{KeptEnd}
use Rattle.log_audit.specs.Ends.{AreEndsOf, IsEndOf}
use Rattle.log_audit.specs.Found.{AreEntered}
use Rattle.log_audit.proofs.Histories.{length_setups}
use Rattle.log_audit.proofs.Keeping.{AreFirstEnds, end_more}

module _ (secrets : Secrets) (logs : List EndLog) where
  -- So many ends passed, and these come.
  pub record IsEntering (rest : List EndLog) (before : ℕ) (each : List (List ℕ)) (ends : List KeptEnd) : Type 0 where
    pub entered : List (List ℕ)
    pub prints : ArePrints entered each
    pub pass : HeadersPass secrets entered (setups_of rest) → HeadersPass secrets [] (setups_of logs)
    pub fail : (f : Finding) → HeadersFail secrets entered before (setups_of rest) f → HeadersFail secrets [] 0 (setups_of logs) f
    pub place : (who : ℕ) → end_of (setups_of rest) who ≡ end_of (setups_of logs) (before + who)
    pub many : before + length rest ≡ length logs
    pub kept : AreFirstEnds secrets (setups_of logs) before ends

  module _ (log : EndLog) (more : List EndLog) (before : ℕ) (each : List (List ℕ)) (ends : List KeptEnd) where
    pub end_place : IsEntering (log ∷ more) before each ends → end_of (setups_of logs) before ≡ setup_of log
    end_place is = let same : before ≡ before + 0 = omega arith in ap (end_of (setups_of logs)) same ∙ sym (is.place 0)

    pub entering_found : IsEntering (log ∷ more) before each ends → (f : Finding) → ((earlier : List (List ℕ)) → ArePrints earlier each → AreEntered secrets earlier before (setup_of log ∷ []) (Some f)) →
        AreEntered secrets [] 0 (setups_of logs) (Some f)
    entering_found is f found = is.fail f (of_all (found is.entered is.prints))
      where
        of_all : HeadersFail secrets is.entered before (setup_of log ∷ []) f → HeadersFail secrets is.entered before (setups_of (log ∷ more)) f
        of_all (inl other) = inl other
        of_all (inr (counts, inl old)) = inr (counts, inl old)
        of_all (inr (counts, inr none)) = absurd none.1

    pub entering_more : (new : List (List ℕ)) (e : KeptEnd) → IsEntering (log ∷ more) before each ends → ((earlier : List (List ℕ)) → ArePrints earlier each → AreEntered secrets earlier before (setup_of log ∷ []) None) →
        ((earlier : List (List ℕ)) → ArePrints earlier each → ArePrints (own_of (setup_of log) ∷ earlier) new) → IsEndOf secrets (setups_of logs) [] before e → IsEntering more (before + 1) new (ends ++ e ∷ [])
    entering_more new e is passes prints new_is =
        let p : HeadersPass secrets is.entered (setup_of log ∷ []) = passes is.entered is.prints in
        record {
          entered = own_of (setup_of log) ∷ is.entered;
          prints = prints is.entered is.prints;
          pass = λ later. is.pass (p.0, p.1, later);
          fail = λ f later. is.fail f (inr (p.0, inr (p.1, later)));
          place = λ who. is.place (suc who) ∙ (let same : before + suc who ≡ (before + 1) + who = omega arith in ap (end_of (setups_of logs)) same);
          many = omega (arith, is.many);
          kept = end_more secrets (setups_of logs) before ends e is.kept new_is;
        }

  pub entering_last : (before : ℕ) (each : List (List ℕ)) (ends : List KeptEnd) → IsEntering [] before each ends → AreEntered secrets [] 0 (setups_of logs) None × AreEndsOf secrets (setups_of logs) [] ends
  entering_last before each ends is = (
    is.pass tt,
    record {
      count = is.kept.many ∙ omega (arith, is.many) ∙ sym (length_setups logs);
      each = is.kept.each;
    },
  )
