-- Words that are added to a list, one after another.
use Rattle.std.proofs.Common.{◌≡◌, ℕ, List, ◌++◌, ap, ◌∙◌, append_assoc}

-- the words were added
pub record Pushed (old new words : List (List ℕ)) : Type 0 where
  pub joined : new ≡ old ++ words

-- some, and then the rest
pub push_then : {old mid new rest : List (List ℕ)} (words : List (List ℕ)) → mid ≡ old ++ words → Pushed mid new rest → Pushed old new (words ++ rest)
push_then {old} {mid} {new} {rest} words e q = record { joined = q.joined ∙ ap (λ xs. xs ++ rest) e ∙ append_assoc old words rest }

-- the last
pub push_end : {old new : List (List ℕ)} (words : List (List ℕ)) → new ≡ old ++ words → Pushed old new words
push_end {old} {new} words e = record { joined = e }
