-- What is written spells the same options, and is no longer than what was read.
use Rattle.std.proofs.Common.{refl, ◌<◌, ◌^◌, ◌≡◌, ℕ, ◌+◌, ◌≤◌, List, [], ◌∷◌, ◌++◌, length, ap, ◌∙◌, arith}
use Rattle.std.specs.List.{flat_map}
use Rattle.std.proofs.lemmas.List.{length-append}
use Rattle.rtmfp_vlu.specs.Vlu.{vlu}
use Rattle.rtmfp_vlu.proofs.Shortest.{length-vlu_le}
use Rattle.rtmfp_vlu.proofs.Fields.{vlu-small, vlu-spells}
use Rattle.rtmfp_forms.specs.Options.{OptionParts, PieceSpells, PiecesSpell, OptionsSpell, counted_bytes, option_bytes, options_bytes}

length-option_bytes_le : (o : OptionParts) (piece : List ℕ) → PieceSpells o piece → length (option_bytes o) ≤ length piece
length-option_bytes_le o piece h =
    let kind : length (vlu o.kind) ≤ length h.kind_bytes = length-vlu_le o.kind o.kind h.kind_bytes (omega arith) h.kind in
    let counted : length (counted_bytes o) ≤ length (h.kind_bytes ++ o.value) = omega (arith, kind, length-append (vlu o.kind) o.value, length-append h.kind_bytes o.value) in
    let size : length (vlu (length (counted_bytes o))) ≤ length h.size_bytes = length-vlu_le (length (counted_bytes o)) (length (h.kind_bytes ++ o.value)) h.size_bytes counted h.size in
    omega (arith, counted, size, ap length h.whole, length-append h.size_bytes (h.kind_bytes ++ o.value), length-append (vlu (length (counted_bytes o))) (counted_bytes o))

length-pieces_le : (os : List OptionParts) (bytes : List ℕ) → PiecesSpell os bytes → length (flat_map option_bytes os) ≤ length bytes
length-pieces_le [] bytes h = omega arith
length-pieces_le (o ∷ os) bytes (piece, rest, e, first, others) =
    omega (arith, ap length e, length-append piece rest, length-option_bytes_le o piece first, length-pieces_le os rest others, length-append (option_bytes o) (flat_map option_bytes os))

-- the pieces and a byte for the marker
pub length-options_bytes : (os : List OptionParts) → length (options_bytes os) ≡ length (flat_map option_bytes os) + 1
length-options_bytes os = omega (arith, length-append (flat_map option_bytes os) (vlu 0), ap length (vlu-small 0 (omega arith)))

pub length-options_bytes_le : (os : List OptionParts) (bytes : List ℕ) → OptionsSpell os bytes → length (options_bytes os) ≤ length bytes
length-options_bytes_le os bytes h =
    omega (arith, ap length h.whole, length-append h.pieces h.marker, length-append (flat_map option_bytes os) (vlu 0), length-pieces_le os h.pieces h.each, length-vlu_le 0 0 h.marker (omega arith) h.is_marker)

-- ---- it spells the same

PieceSpells-shortest : (o : OptionParts) (piece : List ℕ) → PieceSpells o piece → PieceSpells o (option_bytes o)
PieceSpells-shortest o piece h =
    let kind : length (vlu o.kind) ≤ length h.kind_bytes = length-vlu_le o.kind o.kind h.kind_bytes (omega arith) h.kind in
    let fits : length (counted_bytes o) < 2 ^ 64 = omega (arith, kind, h.size.fits, length-append (vlu o.kind) o.value, length-append h.kind_bytes o.value) in
    record {
      size_bytes = vlu (length (counted_bytes o));
      kind_bytes = vlu o.kind;
      size = vlu-spells (length (counted_bytes o)) fits;
      kind = vlu-spells o.kind h.kind.fits;
      whole = refl;
    }

PiecesSpell-shortest : (os : List OptionParts) (bytes : List ℕ) → PiecesSpell os bytes → PiecesSpell os (flat_map option_bytes os)
PiecesSpell-shortest [] bytes h = refl
PiecesSpell-shortest (o ∷ os) bytes (piece, rest, e, first, others) =
    (option_bytes o, flat_map option_bytes os, refl, PieceSpells-shortest o piece first, PiecesSpell-shortest os rest others)

pub OptionsSpell-shortest : (os : List OptionParts) (bytes : List ℕ) → OptionsSpell os bytes → OptionsSpell os (options_bytes os)
OptionsSpell-shortest os bytes h = record {
  pieces = flat_map option_bytes os;
  marker = vlu 0;
  whole = refl;
  each = PiecesSpell-shortest os h.pieces h.each;
  is_marker = vlu-spells 0 (omega arith);
}

-- ---- a turn of a loop over the options

pub length-first : (os : List OptionParts) (o : OptionParts) (others : List OptionParts) → os ≡ o ∷ others → length (flat_map option_bytes os) ≡ length (option_bytes o) + length (flat_map option_bytes others)
length-first os o others e = ap (λ (l : List OptionParts). length (flat_map option_bytes l)) e ∙ length-append (option_bytes o) (flat_map option_bytes others)

pub length-start : (os items : List OptionParts) → items ≡ os → 1 + length (flat_map option_bytes items) ≡ length (options_bytes os)
length-start os items e = omega (arith, length-options_bytes os, ap (λ (l : List OptionParts). length (flat_map option_bytes l)) e)
