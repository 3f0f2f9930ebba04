-- A world and the places of its ends.
use Rattle.std.specs.Prelude.{refl}
use Rattle.std.specs.Coded.{Coded, code_by, coded×}
use Rattle.rendezvous_world.specs.Seen.{Seen}
use Rattle.end_places.specs.Seen.{PlacesSeen}

pub record PlacedSeen : Type 0 where
  pub world : Seen
  pub places : PlacesSeen

abbrev pub placed_code : Coded Seen → Coded PlacesSeen → Coded PlacedSeen
placed_code world places =
    code_by (Seen × PlacesSeen) (coded× world places) (λ p. (p.world, p.places))
    (λ p. record { world = p.0; places = p.1 }) (λ _. refl)
