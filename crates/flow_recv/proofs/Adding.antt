-- Adding to spans, one step at a time.
use Rattle.std.proofs.Common.{◌≡◌, ℕ, ◌+◌, ◌<◌, ◌≤◌, min, max, List, ◌∷◌, refl}
use Rattle.std.proofs.lemmas.Bool.{lt-ltb, le-ltb}
use Rattle.flow_recv.specs.declared.spans.Span.{Span}
use Rattle.flow_recv.specs.Receiver.{add_span, span}

-- a span that lies before stays
pub add_over : (first last : ℕ) (s : Span) (later : List Span) → s.last + 1 < first → add_span first last (s ∷ later) ≡ s ∷ add_span first last later
add_over first last s later h = rw (lt-ltb (s.last + 1) first h) refl

-- one that lies after stays, with all that follow
pub add_stop : (first last : ℕ) (s : Span) (later : List Span) → first ≤ s.last + 1 → last + 1 < s.first → add_span first last (s ∷ later) ≡ span first last ∷ s ∷ later
add_stop first last s later g h = rw (le-ltb (s.last + 1) first g, lt-ltb (last + 1) s.first h) refl

-- one that touches is joined
pub add_join : (first last : ℕ) (s : Span) (later : List Span) → first ≤ s.last + 1 → s.first ≤ last + 1 → add_span first last (s ∷ later) ≡ add_span (min first s.first) (max last s.last) later
add_join first last s later g h = rw (le-ltb (s.last + 1) first g, le-ltb (last + 1) s.first h) refl
