-- What is chosen of the attempts.
use Rattle.std.proofs.Common.{ℕ, ◌≡◌, true, false, Option, Some, None, is_some, refl}
use Rattle.glare_core.specs.declared.facts.Why.{Why}
use Rattle.startup.specs.declared.aim.Aim.{Aim}
use Rattle.startup.specs.declared.aim.Aim.TheVariants.{AtPeer, ByName}
use Rattle.startup.specs.Aims.{end_of_aim, is_numbered}
use Rattle.startup.specs.State.{AttemptState, Attempts}
use Rattle.startup.specs.Attempts.{end_of, has_number, lowest}
use Rattle.startup.proofs.Keeping.{lowest_passes}

-- what has a number ends with a fact
ends_by_aim : (near number : ℕ) (why : Why) (aim : Aim) → is_numbered number aim ≡ true → true ≡ is_some (end_of_aim near why aim)
ends_by_aim near number why (AtPeer peer n) numbered = refl
ends_by_aim near number why (ByName name) numbered = absurd (let clash : false ≡ true = numbered in cc)

-- what is chosen by its number ends, and nothing else
pub ends_what_is : (number : ℕ) (attempts : Attempts) (why : Why) → is_some (lowest (has_number number) attempts) ≡ is_some (end_of (lowest (has_number number) attempts) why)
ends_what_is number attempts why = go (lowest (has_number number) attempts) refl
  where
    go : (chosen : Option (ℕ × AttemptState)) → lowest (has_number number) attempts ≡ chosen → is_some chosen ≡ is_some (end_of chosen why)
    go None is = refl
    go (Some e) is = ends_by_aim e.0 number why e.1.aim (lowest_passes (has_number number) attempts e is)
