-- The spans of pairs are those that they tell of.
use Rattle.std.proofs.Common.{◌≡◌, ℕ, ◌+◌, ◌-◌, ◌^◌, List, [], ◌∷◌, ◌++◌, length, drop, Ok, ap, ◌∙◌, append_assoc, arith}
use Rattle.std.proofs.lemmas.Bool.{lt-ltb}
use Rattle.rtmfp_vlu.specs.declared.reading.VluFault.TheVariants.{Short}
use Rattle.rtmfp_vlu.specs.Vlu.{VluSpells}
use Rattle.rtmfp_vlu.specs.Reading.{number_at}
use Rattle.rtmfp_vlu.proofs.Fields.{behind, stands}
use Rattle.rtmfp_vlu.proofs.Decoded.{reads_number, reads_cut}
use Rattle.rtmfp_data_chunks.specs.Acks.{PairsTell}
use Rattle.rtmfp_data_chunks.specs.Acked.{spans_of_pairs}
use Rattle.rtmfp_data_chunks.proofs.Spanning.{none_holes, some_span}

number_there : (v : ℕ) (b s rest : List ℕ) → b ≡ s ++ rest → VluSpells v s → number_at b ≡ Ok (v, length s)
number_there v b s rest e h = let at = stands v b s rest e h in reads_number b v (length s) at.0 at.1

pub nothing_told : (above : ℕ) → spans_of_pairs above [] ≡ []
nothing_told above = none_holes above [] Short (reads_cut [] (omega arith, tt))

pub pairs_told : (above : ℕ) (told : List (ℕ × ℕ)) (b : List ℕ) → PairsTell above told b → spans_of_pairs above b ≡ told
pairs_told above [] b h = ap (spans_of_pairs above) h ∙ nothing_told above
pairs_told above (s ∷ ss) b (pair, rest, e, low, high, fits, (first, others, holes, first_is, (second, none, received, second_is, none_is)), later) =
    let v = s.0 - (above + 2) in
    let w = s.1 - s.0 in
    let after = others ++ rest in
    let whole : b ≡ first ++ after = e ∙ ap (λ (t : List ℕ). t ++ rest) first_is ∙ append_assoc first others rest in
    let next : after ≡ second ++ (none ++ rest) = ap (λ (t : List ℕ). t ++ rest) second_is ∙ append_assoc second none rest in
    let left : drop (length second) (drop (length first) b) ≡ rest =
    ap (drop (length second)) (behind b first after whole) ∙ (behind after second (none ++ rest) next ∙ ap (λ (t : List ℕ). t ++ rest) none_is) in
    let begin : above + v + 2 ≡ s.0 = omega (arith, low) in
    let end : above + v + 2 + w ≡ s.1 = omega (arith, low, high) in
    some_span above b v (length first) w (length second) (number_there v b first after whole holes)
    (ap number_at (behind b first after whole) ∙ number_there w after second (none ++ rest) next received)
    (lt-ltb (above + v + 2 + w) (2 ^ 64) (omega (arith, end, fits)))
    ∙ (ap (λ (i : ℕ). (i, above + v + 2 + w) ∷ spans_of_pairs (above + v + 2 + w) (drop (length second) (drop (length first) b))) begin
    ∙ (ap (λ (i : ℕ). (s.0, i) ∷ spans_of_pairs i (drop (length second) (drop (length first) b))) end
    ∙ (ap (λ (t : List ℕ). (s.0, s.1) ∷ spans_of_pairs s.1 t) left ∙ ap (λ (t : List (ℕ × ℕ)). (s.0, s.1) ∷ t) (pairs_told s.1 ss rest later))))
