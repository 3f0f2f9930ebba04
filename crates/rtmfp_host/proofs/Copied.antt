-- A list that is copied element by element.
use Rattle.std.proofs.Common.{◌≡◌, ℕ, suc, ◌+◌, ◌<◌, List, [], ◌∷◌, ◌++◌, length, map, take, get_or, sym, ap, ◌∙◌, add-one}
use Rattle.std.proofs.lemmas.List.{map-append, take-map}
use Rattle.std.proofs.Math.Seq.{take-suc}

-- one element more
pub copied : {W X : Type 0} (f : W → X) (ws copy : List W) (i : ℕ) (d new : W) → i < length ws → map f copy ≡ take i (map f ws) → f new ≡ f (get_or ws i d) → map f (copy ++ new ∷ []) ≡ take (i + 1) (map f ws)
copied f ws copy i d new within before same = rw add-one (
    map-append f copy (new ∷ [])
    ∙ ap (λ xs. xs ++ f new ∷ []) (before ∙ take-map f i ws)
    ∙ ap (λ x. map f (take i ws) ++ x ∷ []) same
    ∙ sym (map-append f (take i ws) (get_or ws i d ∷ []))
    ∙ ap (map f) (sym (take-suc ws i d within))
    ∙ sym (take-map f (suc i) ws))
