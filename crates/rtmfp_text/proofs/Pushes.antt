-- Parts that are added to a text, one after another.
use Rattle.std.proofs.Common.{◌≡◌, ℕ, List, [], ◌++◌, sym, ap, ◌∙◌, append_assoc, append-nil}

-- the part was added
pub record Pushed (old new part : List ℕ) : Type 0 where
  pub joined : new ≡ old ++ part

-- a part, and then the rest
pub pushed : {old mid new part rest : List ℕ} → Pushed old mid part → Pushed mid new rest → Pushed old new (part ++ rest)
pushed {old} {mid} {new} {part} {rest} p q =
    record { joined = q.joined ∙ ap (λ xs. xs ++ rest) p.joined ∙ append_assoc old part rest }

-- the last part
pub pushed_last : {old new part : List ℕ} → Pushed old new part → Pushed old new (part ++ [])
pushed_last {old} {new} {part} p = record { joined = p.joined ∙ ap (λ xs. old ++ xs) (sym (append-nil part)) }

-- the same of what was added
pub push_then : {old mid new rest : List ℕ} (part : List ℕ) → mid ≡ old ++ part → Pushed mid new rest → Pushed old new (part ++ rest)
push_then {old} {mid} {new} {rest} part e q = let p : Pushed old mid part = record { joined = e } in pushed p q

pub push_end : {old new : List ℕ} (part : List ℕ) → new ≡ old ++ part → Pushed old new (part ++ [])
push_end {old} {new} part e = let p : Pushed old new part = record { joined = e } in pushed_last p
