-- What is said of a line is one thing.
use Rattle.std.proofs.Common.{◌≡◌, ℕ, Bool, true, false, List, [], ◌∷◌, length, Option, Some, None, sym, ap, ◌∙◌, refl, subst}
use Rattle.std.specs.Prelude.{nat_le, if◌then◌else◌}
use Rattle.rtmfp_script.specs.declared.line.ScriptLine.{ScriptLine}
use Rattle.rtmfp_script.specs.declared.line.Said.{Said}
use Rattle.rtmfp_script.specs.declared.line.Said.TheVariants.{Nothing, Step, Outside}
use Rattle.rtmfp_script.specs.Grammar.{IsLineOf, IsSkipped, TakesMemory, line_limit}
use Rattle.rtmfp_script.specs.Fields.{split_of, behind, ◌>>=◌}
use Rattle.rtmfp_script.specs.Lines.{step_of, word_of, StepTakesMemory, Says}
use Rattle.rtmfp_script.proofs.Splits.{some_some}
use Rattle.rtmfp_script.proofs.Sound.{step_sound}
use Rattle.rtmfp_script.proofs.Complete.{step_complete}

-- what is skipped is no step
hash_word : (o : Option (List ℕ × List ℕ)) → (behind 35 o >>= λ a. word_of a.0 a.1) ≡ None
unfolding word_of
hash_word None = refl
hash_word (Some parts) = refl

hash_cut : (bytes : List ℕ) → (split_of 32 (35 ∷ bytes) >>= λ a. word_of a.0 a.1) ≡ None
unfolding split_of
hash_cut bytes = hash_word (split_of 32 bytes)

skipped_cut : (line : List ℕ) → IsSkipped line → (split_of 32 line >>= λ a. word_of a.0 a.1) ≡ None
unfolding split_of
skipped_cut [] e = refl
skipped_cut (b ∷ bytes) e = subst (λ (x : ℕ). (split_of 32 (x ∷ bytes) >>= λ a. word_of a.0 a.1) ≡ None) (sym e) (hash_cut bytes)

either_none : (fits : Bool) (o : Option ScriptLine) → o ≡ None → (if fits then o else None) ≡ None
either_none true o e = e
either_none false o e = refl

skipped_none : (line : List ℕ) → IsSkipped line → step_of line ≡ None
unfolding step_of
skipped_none line e = either_none (nat_le (length line) line_limit) _ (skipped_cut line e)

not_skipped : (line : List ℕ) (said : ScriptLine) → IsSkipped line → IsLineOf line said → ⊥
not_skipped line said skipped is = let both : None ≡ Some said = sym (skipped_none line skipped) ∙ step_complete line said is in cc both

one_step : (line : List ℕ) (a b : ScriptLine) → IsLineOf line a → IsLineOf line b → a ≡ b
one_step line a b p q = some_some a b (sym (step_complete line a p) ∙ step_complete line b q)

-- of one line one thing is said
pub one_saying : (line : List ℕ) (a b : Said) → Says line a → Says line b → a ≡ b
one_saying line Nothing Nothing p q = refl
one_saying line Nothing (Step b) p q = absurd (not_skipped line b p q)
one_saying line Nothing Outside p q = absurd (q.0 p)
one_saying line (Step a) Nothing p q = absurd (not_skipped line a q p)
one_saying line (Step a) (Step b) p q = ap Step (one_step line a b p q)
one_saying line (Step a) Outside p q = absurd (q.1 a p)
one_saying line Outside Nothing p q = absurd (p.0 q)
one_saying line Outside (Step b) p q = absurd (p.1 b q)
one_saying line Outside Outside p q = refl

outside : (line : List ℕ) → (IsSkipped line → ⊥) → step_of line ≡ None → Says line Outside
outside line not none = (not, λ said is. let both : None ≡ Some said = sym none ∙ step_complete line said is in cc both)

-- the reader's two answers behind a line that isn't skipped
pub step_says : (line : List ℕ) (read : Option ScriptLine) (said : ScriptLine) → read ≡ step_of line → read ≡ Some said → Says line (Step said)
step_says line read said e is = step_sound line said (sym e ∙ is)

pub outside_says : (line : List ℕ) (read : Option ScriptLine) (skipped : Bool) → (IsSkipped line → skipped ≡ true) → skipped ≡ false → read ≡ step_of line → read ≡ None → Says line Outside
outside_says line read skipped told plain e none =
    let not : IsSkipped line → ⊥ = λ s. (let both : true ≡ false = sym (told s) ∙ plain in cc both) in
    outside line not (sym e ∙ none)

-- memory is wanting for a step alone
takes_by : (line : List ℕ) (o : Option ScriptLine) → step_of line ≡ o → StepTakesMemory o → (said : ScriptLine) × (IsLineOf line said × TakesMemory said)
takes_by line None e h = absurd h
takes_by line (Some said) e h = (said, (step_sound line said e, h))

pub takes_memory : (line : List ℕ) → StepTakesMemory (step_of line) → (said : ScriptLine) × (IsLineOf line said × TakesMemory said)
takes_memory line h = takes_by line (step_of line) refl h
