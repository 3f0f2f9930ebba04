-- Parts that are added to a text, one after another, and nothing behind the last.
use Rattle.std.proofs.Common.{◌≡◌, ℕ, List, [], ◌++◌, codes, ap, ◌∙◌}
use Rattle.rtmfp_text.proofs.Pushes.{Pushed}

-- the last part
pub push_only : {old new : List ℕ} (part : List ℕ) → new ≡ old ++ part → Pushed old new part
push_only {old} {new} part e = record { joined = e }

-- a text that was empty has a line, and its LF
pub line_written : (empty mid all bytes message line : List ℕ) → empty ≡ [] → mid ≡ empty ++ line → all ≡ mid ++ codes "\n" → bytes ≡ all → message ≡ bytes → message ≡ line ++ codes "\n"
line_written empty mid all bytes message line none pushed ended copied is = is ∙ copied ∙ ended ∙ ap (λ (xs : List ℕ). xs ++ codes "\n") (pushed ∙ ap (λ (xs : List ℕ). xs ++ line) none)
