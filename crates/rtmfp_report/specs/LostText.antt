-- The lines of datagrams that were carried and don't arrive.
use Rattle.std.specs.Prelude.{ℕ, List, [], ◌∷◌, codes}
use Rattle.end_places.specs.declared.carried.Lost.{Lost}
use Rattle.end_places.specs.declared.carried.Lost.TheVariants.{Family, PortsFull, Unmapped, Filtered, Nobody}
use Rattle.rtmfp_text.specs.Words.{number_field_text, text_of}
use Rattle.rtmfp_report.specs.LineText.{line_text}

-- why; how many mappings a translator has that is full isn't told
abbrev pub why_text : Lost → List ℕ
why_text Family = codes "family"
why_text (PortsFull count) = codes "ports-full"
why_text Unmapped = codes "unmapped"
why_text Filtered = codes "filtered"
why_text Nobody = codes "nobody"

-- the number of the datagram, and why
unfoldable pub lost_text : ℕ → Lost → List ℕ
lost_text number why =
    text_of (number_field_text (codes "lost ") number ∷ codes " " ∷ why_text why ∷ [])

-- the line of a datagram that the end with this name sent
abbrev pub lost_line : ℕ → List ℕ → ℕ → Lost → List ℕ
lost_line line name number why = line_text line name (lost_text number why)
