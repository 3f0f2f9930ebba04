-- The spans that a walk over an ack has left.
use Rattle.std.specs.Prelude.{ℕ, ◌+◌, ◌≤◌, List}
use Rattle.rtmfp_data_chunks.specs.declared.acked.Bits.{Bits}
use Rattle.rtmfp_data_chunks.specs.declared.acked.Source.{Source}
use Rattle.rtmfp_data_chunks.specs.declared.acked.Source.TheVariants as source
use Rattle.rtmfp_data_chunks.specs.Acked.{spans_of_pairs, is_set, spans_where, bits_told}

abbrev pub bits_left : Bits → List (ℕ × ℕ)
bits_left b = spans_where (is_set b.upto b.bits.now) (b.upto + 2 + b.at) b.left

-- the bits that are left are there, and speak of numbers of 64 bits
abbrev pub AreThere : Bits → Type 0
AreThere b = b.at + b.left ≤ bits_told b.upto b.bits.now

abbrev pub source_left : Source → List (ℕ × ℕ)
source_left (source.Pairs last rest) = spans_of_pairs last rest.now
source_left (source.Bits bits) = bits_left bits

abbrev pub IsSource : Source → Type 0
IsSource (source.Pairs last rest) = Unit {0}
IsSource (source.Bits bits) = AreThere bits
