-- The spans above the first one, as a map has them: from their first numbers to their last ones.
use Rattle.std.specs.Prelude.{ℕ, ◌≡◌, ◌+◌, ◌^◌, ◌<◌, ◌≤◌, ◌==◌, nat_le, nat_lt, if◌then◌else◌, List}
use Rattle.std.specs.Prelude.{[], ◌∷◌, Option, Some, None}
use Rattle.std.specs.Option.{unwrap_or}
use Rattle.flow_recv.specs.declared.spans.Span.{Span}
use Rattle.flow_recv.specs.declared.spans.Spot.{Spot}
use Rattle.flow_recv.specs.declared.spans.Spot.TheVariants.{First, Behind, Alone}
use Rattle.flow_recv.specs.Receiver.{span}

-- the spans of a map's entries
abbrev pub spans_of : List (ℕ × ℕ) → List Span
spans_of [] = []
spans_of (e ∷ es) = span e.0 e.1 ∷ spans_of es

-- each begins with a number of 64 bits
abbrev pub AllBegin : List Span → Type 0
AllBegin [] = Unit {0}
AllBegin (s ∷ later) = (s.first < 2 ^ 64) × AllBegin later

-- the last one of the spans that begin at or below a number
abbrev pub last_from : ℕ → List Span → Option Span
last_from n [] = None
last_from n (s ∷ later) = if nat_le s.first n then Some (unwrap_or (last_from n later) s)
    else last_from n later

-- the end of the span that begins with a number
abbrev pub end_of : ℕ → List Span → Option ℕ
end_of n [] = None
end_of n (s ∷ later) = if n == s.first then Some s.last else end_of n later

-- without the span that begins with a number
abbrev pub without : ℕ → List Span → List Span
without n [] = []
without n (s ∷ later) = if n == s.first then later else s ∷ without n later

-- the span that begins with a number ends with another
abbrev pub with_end : ℕ → ℕ → List Span → List Span
with_end n last [] = []
with_end n last (s ∷ later) = if n == s.first then span s.first last ∷ later
    else s ∷ with_end n last later

-- with a number as a span of its own, in its order
abbrev pub with_number : ℕ → List Span → List Span
with_number n [] = span n n ∷ []
with_number n (s ∷ later) =
    if nat_lt n s.first then span n n ∷ s ∷ later
    else if n == s.first then span s.first n ∷ later
    else s ∷ with_number n later

-- the span that begins with one number reaches to another, and the span that begins directly after
-- that one is joined to it
abbrev pub closed : ℕ → ℕ → List Span → List Span
closed first n spans = with_end first (unwrap_or (end_of (n + 1) spans) n) (without (n + 1) spans)

-- what a number that is missing touches, where none through `end` will be missing
abbrev pub IsSpot : ℕ → ℕ → List Span → Spot → Type 0
IsSpot end n spans First = n ≤ end + 1
IsSpot end n spans (Behind first) = (end + 1 < n) × (h : Span) × (last_from n spans ≡ Some h) ×
    (h.first ≡ first) × (n ≤ h.last + 1)
IsSpot end n spans Alone = (end + 1 < n) × ((h : Span) → last_from n spans ≡ Some h →
    h.last + 1 < n)
