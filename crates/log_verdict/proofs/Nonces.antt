-- The nonces that the entries of events state, one after another.
use Rattle.std.proofs.Common.{ℕ, List, [], ◌∷◌, ◌++◌, ◌≡◌, refl, sym, ap, subst, ◌∙◌, Option, Some, None, append_assoc}
use Rattle.glare_core.specs.declared.facts.Fact.{Fact}
use Rattle.glare_core.specs.declared.facts.Fact.TheVariants.{Started, Born, Opened, Confirmed, Ended}
use Rattle.glare_core.specs.Told.{AllDifferent}
use Rattle.endpoint_model.specs.declared.entry.Entry.{Entry}
use Rattle.endpoint_model.specs.Event.{Setup, Call}
use Rattle.endpoint_model.specs.Views.{fact_in}
use Rattle.endpoint_laws.specs.Past.{Past, fact_and, facts_of, onto, with_entry}
use Rattle.endpoint_laws.specs.Contexts.{Secrets}
use Rattle.endpoint_laws.specs.Lawful.{nonces_of, EntriesLawful}
use Rattle.endpoint_laws.proofs.DrawnOnce.{different_both, different_right, apart, nonces_onto}
use Rattle.log_verdict.specs.Checks.{nonces_at, EntriesPass}

-- one fact's on top of those before
nonces_on : (o : Option Fact) (facts : List Fact) (nonces older : List (List ℕ)) → nonces ≡ nonces_of facts ++ older → nonces_of (fact_and o []) ++ nonces ≡ nonces_of (fact_and o facts) ++ older
nonces_on None facts nonces older e = e
nonces_on (Some (Started peer n near ni)) facts nonces older e = ap (λ (l : List (List ℕ)). ni ∷ l) e
nonces_on (Some (Born j)) facts nonces older e = ap (λ (l : List (List ℕ)). j.nr ∷ l) e
nonces_on (Some (Opened j)) facts nonces older e = e
nonces_on (Some (Confirmed peer near)) facts nonces older e = e
nonces_on (Some (Ended peer near why)) facts nonces older e = e

-- one fact's are all different
alone_different : (o : Option Fact) → AllDifferent (nonces_of (fact_and o []))
alone_different None = tt
alone_different (Some (Started peer n near ni)) = ((λ a. a), tt)
alone_different (Some (Born j)) = ((λ a. a), tt)
alone_different (Some (Opened j)) = tt
alone_different (Some (Confirmed peer near)) = tt
alone_different (Some (Ended peer near why)) = tt

module _ (secrets : Secrets) (setup : Setup) (now : ℕ) (call : Call) (m : ℕ) (older : List (List ℕ)) where
  -- Where each is new, all are different.
  pub entries_different : (past : Past) (nonces : List (List ℕ)) (entries : List Entry) → EntriesPass secrets setup now call past nonces entries →
      (alone : Past) → nonces ≡ nonces_of (facts_of alone) ++ older → AllDifferent nonces → AllDifferent (nonces_of (facts_of (onto m entries alone)) ++ older)
  entries_different past nonces [] pass alone e different = subst AllDifferent e different
  entries_different past nonces (entry ∷ rest) pass alone e different =
      entries_different (with_entry now entry past) (nonces_at entry ++ nonces) rest pass.2 (with_entry m entry alone)
      (nonces_on (fact_in entry) (facts_of alone) nonces older e)
      (different_both (nonces_at entry) nonces (alone_different (fact_in entry)) different pass.1)

  -- Where all are different in the end, each was new.
  pub entries_new : (past : Past) (nonces : List (List ℕ)) (entries : List Entry) → EntriesLawful secrets setup now call past entries →
      (alone : Past) → nonces ≡ nonces_of (facts_of alone) ++ older → AllDifferent (nonces_of (facts_of (onto m entries alone)) ++ older) → EntriesPass secrets setup now call past nonces entries
  entries_new past nonces [] lawful alone e different = tt
  entries_new past nonces (entry ∷ rest) lawful alone e different =
      let next : nonces_at entry ++ nonces ≡ nonces_of (facts_of (with_entry m entry alone)) ++ older = nonces_on (fact_in entry) (facts_of alone) nonces older e in
      let front : List (List ℕ) = nonces_of (facts_of (onto m rest [])) in
      let split : nonces_of (facts_of (onto m rest (with_entry m entry alone))) ++ older ≡ front ++ (nonces_at entry ++ nonces) =
      ap (λ (l : List (List ℕ)). l ++ older) (nonces_onto m m rest (with_entry m entry alone) [] (nonces_of (facts_of (with_entry m entry alone))) refl)
      ∙ append_assoc front (nonces_of (facts_of (with_entry m entry alone))) older ∙ ap (λ (l : List (List ℕ)). front ++ l) (sym next) in
      let here : AllDifferent (nonces_at entry ++ nonces) = different_right front (nonces_at entry ++ nonces) (subst AllDifferent split different) in (
        lawful.0,
        (λ one a b. apart one (nonces_at entry) nonces here a b),
        entries_new (with_entry now entry past) (nonces_at entry ++ nonces) rest lawful.1 (with_entry m entry alone) next different,
      )
