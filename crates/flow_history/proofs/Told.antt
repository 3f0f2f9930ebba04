-- As many stretches as fit are the first so many.
use Rattle.std.proofs.Common.{◌≡◌, ℕ, ◌-◌, nat_lt, cond, map, take, length, Bool, true, false}
use Rattle.std.proofs.Common.{List, [], ◌∷◌, refl, ap}
use Rattle.flow_recv.specs.declared.spans.Span.{Span}
use Rattle.flow_recv.specs.Receiver.{Receiver, through_in}
use Rattle.flow_recv.specs.Acking.{pair_bytes, spans_in, later_spans}
use Rattle.flow_exchange.specs.Pair.{span_pair, ack_by}
use Rattle.flow_history.specs.Told.{written_in, pairs_in}

fits_if : (t : Bool) (s : Span) (rest : List (ℕ × ℕ)) (later : List Span) →
    rest ≡ map span_pair (take (length rest) later) →
    cond t [] ((s.first, s.last) ∷ rest)
    ≡ map span_pair (take (length (cond t [] ((s.first, s.last) ∷ rest))) (s ∷ later))
fits_if true s rest later e = refl
fits_if false s rest later e = ap (λ (xs : List (ℕ × ℕ)). (s.first, s.last) ∷ xs) e

fits : (room last : ℕ) (spans : List Span) →
    spans_in room last spans ≡ map span_pair (take (length (spans_in room last spans)) spans)
fits room last [] = refl
fits room last (s ∷ later) =
    fits_if (nat_lt room (length (pair_bytes last s))) s
    (spans_in (room - length (pair_bytes last s)) s.last later) later
    (fits (room - length (pair_bytes last s)) s.last later)

pub written_is_told : (r : Receiver) (room : ℕ) → written_in room r ≡ ack_by r (pairs_in room r)
written_is_told r room =
    ap (λ (xs : List (ℕ × ℕ)). record { upto = through_in r; spans = xs })
    (fits room (through_in r) (later_spans r.spans))
