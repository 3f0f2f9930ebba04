-- Keys of the set, and what they stand for.
use Rattle.std.proofs.Common.{List, [], ◌∷◌, ◌≡◌, map, refl, sym, ap, Bool, true, cond, ◌||◌, ◌∙◌}
use Rattle.std.specs.List.{list_any}
use Rattle.std.specs.List.Sorted.{IsPermutation}
use Rattle.std.proofs.lemmas.List.Sorted.{list_any-IsPermutation}
use Rattle.log_sent.specs.declared.piece.Piece.{Piece}
use Rattle.log_sent.specs.Piece.{sealed_of}
use Rattle.log_sent.specs.Pieces.{Sealed, is_same_sealed, AreTheSame, HasOneMore}

pub any_mapped : (test : Sealed → Bool) (keys : List Piece) → list_any test (map sealed_of keys) ≡ list_any (λ p. test (sealed_of p)) keys
any_mapped test [] = refl
any_mapped test (p ∷ keys) = ap (λ (b : Bool). test (sealed_of p) || b) (any_mapped test keys)

-- a key for anything
abbrev pub key_for : Piece → Sealed → Piece
key_for k q = record {
  datagram = record k.datagram { now = q.datagram };
  context = record k.context { now = q.context };
}

pub one_more_key : (k : Piece) (old new : List Piece) →
    ((q : Piece) → list_any (λ p. is_same_sealed (sealed_of q) (sealed_of p)) new ≡ cond (is_same_sealed (sealed_of k) (sealed_of q)) true (list_any (λ p. is_same_sealed (sealed_of q) (sealed_of p)) old)) →
    HasOneMore (sealed_of k) (map sealed_of old) (map sealed_of new)
one_more_key k old new more = record {
  has = λ q.
      any_mapped (is_same_sealed q) new ∙ more (key_for k q)
      ∙ ap (λ (b : Bool). cond (is_same_sealed (sealed_of k) q) true b) (sym (any_mapped (is_same_sealed q) old));
}

-- The same keys in another order are the same.
pub reordered : (old new : List Piece) → IsPermutation old new → AreTheSame (map sealed_of old) (map sealed_of new)
reordered old new same = record {
  has = λ q. any_mapped (is_same_sealed q) new ∙ sym (list_any-IsPermutation (λ p. is_same_sealed q (sealed_of p)) old new same) ∙ sym (any_mapped (is_same_sealed q) old);
}
