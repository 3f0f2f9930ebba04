-- What follows from there being no refusal, and what a ledger's call gives of a fact.
use Rattle.std.proofs.Common.{◌≡◌, ℕ, ◌+◌, List, [], ◌∷◌, Bool, true, false, Option, Some, None, refl, subst, arith}
use Rattle.glare_core.specs.declared.facts.Fact.{Fact}
use Rattle.glare_core.specs.Standing.{count}
use Rattle.glare_core.specs.Stands.{Stands}
use Rattle.glare_core.specs.Ledger.{Ledger}
use Rattle.rtmfp_base.specs.Reasons.{where_true, first_that_stands}
use Rattle.glare_core.specs.Account.{StandsFor}

pub first_none : {A : Type 0} (x : Option A) (rest : List (Option A)) → first_that_stands (x ∷ rest) ≡ None → (x ≡ None) × (first_that_stands rest ≡ None)
first_none None rest e = (refl, e)
first_none (Some a) rest e = absurd (cc)

-- none of these stands
abbrev pub AllNone : {A : Type 0} → List (Option A) → Type 0
AllNone [] = Unit {0}
AllNone (x ∷ rest) = (x ≡ None) × AllNone rest

pub all_none : {A : Type 0} (l : List (Option A)) → first_that_stands l ≡ None → AllNone l
all_none [] e = tt
all_none (x ∷ rest) e = let both = first_none x rest e in (both.0, all_none rest both.1)

pub test_fails : {A : Type 0} (b : Bool) (a : A) → where_true b a ≡ None → b ≡ false
test_fails true a e = absurd (cc)
test_fails false a e = refl

-- the last fact of an account meets its line, at an end with this fingerprint
pub stands_of : (own : List ℕ) (l : Ledger) (fact : Fact) (facts : List Fact) → l.own ≡ own → StandsFor 0 l (fact ∷ facts) → Stands own (count facts) facts fact
stands_of own l fact facts is s =
    let zero : 0 + count facts ≡ count facts = omega arith in
    subst (λ n. Stands own n facts fact) zero (subst (λ o. Stands o (0 + count facts) facts fact) is s.lawful.0)
