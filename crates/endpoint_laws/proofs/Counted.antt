-- The count of the attempts stays one of 64 bits.
use Rattle.std.proofs.Common.{ℕ, ◌<◌, ◌^◌, List, ◌∷◌, arith}
use Rattle.glare_core.specs.declared.facts.Fact.{Fact}
use Rattle.glare_core.specs.declared.facts.Fact.TheVariants.{Started, Born, Opened, Confirmed, Ended}
use Rattle.glare_core.specs.Standing.{count}
use Rattle.glare_core.specs.Stands.{Stands}
use Rattle.endpoint_laws.specs.Lawful.{IsCounted}

pub count_more : (own : List ℕ) (facts : List Fact) (fact : Fact) → count facts < 2 ^ 64 → Stands own (count facts) facts fact → IsCounted fact → count (fact ∷ facts) < 2 ^ 64
count_more own facts (Started peer n near ni) few stands fits = omega (arith, stands.next, fits)
count_more own facts (Born j) few stands fits = omega (arith, few)
count_more own facts (Opened j) few stands fits = omega (arith, few)
count_more own facts (Confirmed peer near) few stands fits = omega (arith, few)
count_more own facts (Ended peer near why) few stands fits = omega (arith, few)
