-- A row in which a piece of a packet was taken.
use Rattle.std.proofs.Common.{ℕ, List, ◌≡◌, Option, Some, None, Result, Ok, refl, sym, ap, ◌∙◌}
use Rattle.std.specs.Option.{option_map}
use Rattle.rtmfp_fragments.specs.declared.outcome.Gathered.{Gathered}
use Rattle.rtmfp_fragments.specs.declared.outcome.PieceRefusal.{PieceRefusal}
use Rattle.rtmfp_fragments.specs.Pieces.{PieceParts}
use Rattle.rtmfp_fragments.specs.Held.{PacketParts}
use Rattle.rtmfp_fragments.specs.Answers.{Gathers, taken, refusal_at}
use Rattle.endpoint_model.specs.declared.row.Row.{Row}
use Rattle.endpoint_model.specs.Gathering.{given, piece_cause, refused_piece}

-- what isn't discarded isn't refused
none_mapped : (o : Option PieceRefusal) → option_map refused_piece o ≡ None → o ≡ None
none_mapped None e = refl
none_mapped (Some refusal) e = absurd cc

pub not_refused : (moment id : ℕ) (x : PieceParts) (row : Row) (o : Option Row) → o ≡ Some row → piece_cause moment o id x ≡ None → refusal_at moment id x row.gathering ≡ None
not_refused moment id x row o is e = none_mapped _ (sym (ap (λ (p : Option Row). piece_cause moment p id x) is) ∙ e)

-- what is held then, and what was given
module _ (held after : List PacketParts) (id moment : ℕ) (x : PieceParts) where
  pub held_is : (g : Gathered) → Gathers held after id x moment g → after ≡ (taken held id x moment).0
  held_is g e = ap (λ (p : List PacketParts × Result Gathered PieceRefusal). p.0) e

  pub given_is : (g : Gathered) → Gathers held after id x moment g → given (Ok g) ≡ given (taken held id x moment).1
  given_is g e = ap (λ (p : List PacketParts × Result Gathered PieceRefusal). given p.1) e
