-- The facts that a ledger stands for, and which lists of facts an end may state.
use Rattle.std.specs.Prelude.{ℕ, List, [], ◌∷◌, ◌++◌, ◌≡◌, ◌+◌}
use Rattle.glare_core.specs.declared.facts.Fact.{Fact}
use Rattle.glare_core.specs.Standing.{peer_of, count}
use Rattle.glare_core.specs.Stands.{Stands, MakesWay, IsBornOf}
use Rattle.glare_core.specs.Ledger.{Ledger, new_ledger, left_by}

-- The facts are listed with the newest first. A fact that comes after one that makes way for a Born
-- is that Born.
abbrev pub Fulfils : Fact → List Fact → Type 0
Fulfils fact [] = Unit {0}
Fulfils fact (last ∷ earlier) = MakesWay last → IsBornOf (peer_of last) fact

-- Each fact meets what the table asks of what is held and counted, by the facts before it, at an
-- end that counts its attempts from this number on.
abbrev pub AreLawful : List ℕ → ℕ → List Fact → Type 0
AreLawful own from [] = Unit {0}
AreLawful own from (fact ∷ earlier) = Stands own (from + count earlier) earlier fact ×
    Fulfils fact earlier × AreLawful own from earlier

-- The last fact doesn't wait for a Born.
abbrev pub IsSettled : List Fact → Type 0
IsSettled [] = Unit {0}
IsSettled (last ∷ earlier) = ¬ (MakesWay last)

-- The ledger is what these facts leave of one that was begun with this number of attempts, and they
-- are lawful.
pub record StandsFor (from : ℕ) (ledger : Ledger) (facts : List Fact) : Type 0 where
  pub lawful : AreLawful ledger.own from facts
  pub settled : IsSettled facts
  pub is : ledger ≡ left_by facts (new_ledger ledger.own ledger.max_peers from)

-- A call gave these facts, the newest first: whatever the ledger stood for, it now stands for that
-- and these.
abbrev pub Gave : Ledger → List Fact → Ledger → Type 0
Gave old given new = (from : ℕ) (facts : List Fact) → StandsFor from old facts →
    StandsFor from new (given ++ facts)
