-- A refusal is what is answered, and nothing else is answered by a refusal.
use Rattle.std.proofs.Common.{◌≡◌, Bool, true, false, if◌then◌else◌, ℕ, List, Option, Some, None, Result, Ok, Err, refl}
use Rattle.std.specs.Option.{is_none}
use Rattle.std.specs.Result.{is_ok}
use Rattle.rtmfp_fragments.specs.declared.outcome.PieceRefusal.{PieceRefusal}
use Rattle.rtmfp_fragments.specs.declared.outcome.Gathered.{Gathered}
use Rattle.rtmfp_fragments.specs.declared.outcome.Gathered.TheVariants.{Again}
use Rattle.rtmfp_fragments.specs.Pieces.{PieceParts}
use Rattle.rtmfp_fragments.specs.Held.{PacketParts, is_again, kept_at, pieces_under}
use Rattle.rtmfp_fragments.specs.Answers.{unless, piece_refusal, accepted, held_after}
use Rattle.rtmfp_fragments.specs.Happenings.{RefusesNoneThatIsTaken, AnswersTheRefusal}

none_by : (again : Bool) (r : Option PieceRefusal) (g : Gathered)
    → is_none (if again then None else r) ≡ is_ok (if again then Ok Again else unless r g)
none_by true r g = refl
none_by false None g = refl
none_by false (Some refusal) g = refl

pub none_that_is_taken : RefusesNoneThatIsTaken
none_that_is_taken held id x moment =
    let now = kept_at moment held in
    none_by (is_again x (pieces_under id now)) (piece_refusal id x now) (accepted id x now)

abbrev after_by : ℕ → ℕ → PieceParts → List PacketParts → Result Gathered PieceRefusal → List PacketParts × Result Gathered PieceRefusal
after_by id moment x now answer = (held_after id moment x now answer, answer)

some_by : (again : Bool) (r : Option PieceRefusal) (g : Gathered) (id moment : ℕ) (x : PieceParts) (now : List PacketParts) (refusal : PieceRefusal)
    → (if again then None else r) ≡ Some refusal
    → after_by id moment x now (if again then Ok Again else unless r g) ≡ after_by id moment x now (Err refusal)
some_by true r g id moment x now refusal e = absurd cc
some_by false None g id moment x now refusal e = absurd cc
some_by false (Some other) g id moment x now refusal e = cc

pub the_refusal : AnswersTheRefusal
the_refusal held id x moment refusal e =
    let now = kept_at moment held in
    some_by (is_again x (pieces_under id now)) (piece_refusal id x now) (accepted id x now) id moment x now refusal e
