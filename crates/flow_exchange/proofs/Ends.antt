-- The whole runs, number by number: another form of the runs, for proofs.
use Prim.Native.Nat.{zero, suc}
use Rattle.std.proofs.Common.{ℕ, List, [], ◌++◌, Option, Some, None}
use Rattle.std.specs.Option.{option_map, option_to_list}
use Rattle.rtmfp_data_chunks.specs.declared.user_data.Part.TheVariants.{Whole, Begin, End, Middle}
use Rattle.rtmfp_data_chunks.specs.Fragments.{Message}
use Rattle.rtmfp_data_chunks.specs.Runs.{Number, Missing, Held, GivenUp}

-- the message that these numbers hold from a begin on to number n, which is a begin or a middle
abbrev pub open_with : Number → ℕ → Option Message → Option Message
open_with Missing n before = None
open_with GivenUp n before = None
open_with (Held Whole b) n before = None
open_with (Held End b) n before = None
open_with (Held Begin b) n before = Some (record { number = n; bytes = b })
open_with (Held Middle b) n before = option_map (λ m. record { number = m.number; bytes = m.bytes ++ b }) before

unfoldable pub open_at : (ℕ → Number) → ℕ → Option Message
open_at s zero = None
open_at s (suc n) = open_with (s (suc n)) (suc n) (open_at s n)

-- the whole run that ends at number n: one whole fragment, or a begin, middles and an end
abbrev pub whole_with : Number → ℕ → Option Message → Option Message
whole_with Missing n before = None
whole_with GivenUp n before = None
whole_with (Held Whole b) n before = Some (record { number = n; bytes = b })
whole_with (Held Begin b) n before = None
whole_with (Held Middle b) n before = None
whole_with (Held End b) n before = option_map (λ m. record { number = m.number; bytes = m.bytes ++ b }) before

unfoldable pub whole_at : (ℕ → Number) → ℕ → Option Message
whole_at s zero = None
whole_at s (suc n) = whole_with (s (suc n)) (suc n) (open_at s n)

-- the whole runs that end at or below n, by rising number, each with its bytes joined
unfoldable pub wholes_to : (ℕ → Number) → ℕ → List Message
wholes_to s zero = []
wholes_to s (suc n) = wholes_to s n ++ option_to_list (whole_at s (suc n))
