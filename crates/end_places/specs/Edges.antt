-- Values for the rows.
use Rattle.std.specs.Prelude.{ℕ, false, List, [], ◌∷◌, Option, Some, None}
use Rattle.rtmfp_forms.specs.Address.{AddressParts}
use Rattle.translators.specs.declared.rule.Rule.{Rule}
use Rattle.translators.specs.declared.rule.Rule.TheVariants.{Independent, Dependent}
use Rattle.translators.specs.Edges.{public_host, inside, outside}
use Rattle.translators.specs.Translator.{v4, new_translator}
use Rattle.end_places.specs.declared.standing.Standing.{Standing}
use Rattle.end_places.specs.declared.standing.NamedTranslator.{NamedTranslator}
use Rattle.end_places.specs.Seen.{PlacesSeen}
use Rattle.end_places.specs.Carrying.{after_carry}

abbrev pub named : ℕ → List ℕ → Rule → ℕ → NamedTranslator
named name host mapping first = record {
  name = name ∷ [];
  translator = new_translator mapping Dependent host first;
}

abbrev pub stands : ℕ → AddressParts → Option ℕ → Standing
stands end at behind = record { end = end; at = at; behind = behind }

-- the public hosts of two translators
abbrev pub other_host : List ℕ
other_host = 10 ∷ 2 ∷ 0 ∷ 1 ∷ []

-- End 0 stands without a translator, end 1 behind the first, and end 2 behind the other.
abbrev pub town : PlacesSeen
town = record {
  translators = named 115 public_host Independent 40000 ∷ named 116 other_host Dependent 65535 ∷ [];
  ends = stands 0 (outside 9 1935) None ∷ stands 1 (inside 2 1935) (Some 0)
      ∷ stands 2 (inside 3 1935) (Some 1) ∷ [];
}

-- end 2 has sent something to end 0
abbrev pub called : PlacesSeen
called = after_carry town 2 (outside 9 1935)
