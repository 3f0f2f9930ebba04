-- What an outward step leaves.
use Rattle.std.proofs.Common.{◌≡◌, ℕ, List, slice_set, slice_get, Option, Some, None, sym, ap}
use Rattle.translators.specs.Mappings.{Call}
use Rattle.end_places.specs.declared.standing.NamedTranslator.{NamedTranslator}
use Rattle.end_places.specs.declared.carried.Lost.{Lost}
use Rattle.end_places.specs.Seen.{PlacesSeen}
use Rattle.end_places.specs.Carrying.{with_used, taken_by, after_or}
use Rattle.end_places.proofs.Numbered.{set_same}

pub after_taken : (p : PlacesSeen) (number : ℕ) (named : NamedTranslator) (call : Call) (lost : Option Lost) → slice_get p.translators number ≡ Some named
    → record { translators = slice_set p.translators number (taken_by named call lost); ends = p.ends } ≡ after_or p (Some number) call lost
after_taken p number named call (Some lost) is = (λ i. record { translators = set_same p.translators number named is i; ends = p.ends })
after_taken p number named call None is =
    (λ i. record { translators = with_used p.translators number (sym is i) call; ends = p.ends })
