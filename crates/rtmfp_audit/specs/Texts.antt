-- The lines that an audit writes.
use Rattle.std.specs.Prelude.{ℕ, List, [], ◌∷◌, codes, decimal}
use Rattle.rtmfp_text.specs.Words.{text_of}
use Rattle.log_verdict.specs.declared.verdict.AuditFault.{AuditFault}
use Rattle.log_verdict.specs.declared.verdict.AuditFault.TheVariants.{Secrets, Unlawful, NotHonest, NotFresh}

-- how many ends and events there are, and how many pairs of an end and a peer keep a session
unfoldable pub agreed_text : ℕ → ℕ → ℕ → List ℕ
agreed_text ends events kept = text_of (codes "agreed ends=" ∷ decimal ends ∷ codes " events=" ∷
    decimal events ∷ codes " kept=" ∷ decimal kept ∷ codes "\n" ∷ [])

abbrev pub cause_word : AuditFault → List ℕ
cause_word Secrets = codes "secrets"
cause_word Unlawful = codes "unlawful"
cause_word NotHonest = codes "not-honest"
cause_word NotFresh = codes "not-fresh"

-- the line of what is found first, and what is wrong there
unfoldable pub refused_text : ℕ → AuditFault → List ℕ
refused_text line cause = text_of
    (codes "refused line=" ∷ decimal line ∷ codes " " ∷ cause_word cause ∷ codes "\n" ∷ [])
