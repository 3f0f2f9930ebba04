-- What a decoder found, and why it found nothing.
use Rattle.std.specs.Prelude.{ℕ, ◌≤◌, List, length, take, Result, Ok, Err}
use Rattle.rtmfp_vlu.specs.declared.reading.VluFault.{VluFault}
use Rattle.rtmfp_vlu.specs.declared.reading.VluFault.TheVariants.{Short, Large}
use Rattle.rtmfp_vlu.specs.Vlu.{VluSpells, IsCut, IsLarge}

abbrev pub Decodes : List ℕ → Result (ℕ × ℕ) VluFault → Type 0
Decodes b (Ok found) = (found.1 ≤ length b) × VluSpells found.0 (take found.1 b)
Decodes b (Err Short) = IsCut b
Decodes b (Err Large) = IsLarge b
