-- Bytes that are read in pieces.
use Rattle.std.proofs.Common.{◌≡◌, ℕ, ◌+◌, ◌<◌, ◌≤◌, List, ◌++◌, length, take, drop, Some, sym, ap, ◌∙◌, arith, refl}
use Rattle.std.proofs.lemmas.List.{take-append-drop, take_at, length-append, length-take-le, drop-drop}
use Rattle.rtmfp_host.specs.declared.source.Taken.TheVariants.{Done}
use Rattle.rtmfp_host.specs.Taking.{Takes}

-- a buffer whose front is written over has room for what was written
room : (got buf : List ℕ) (count : ℕ) → length got ≡ count → count ≤ length (got ++ drop count buf)
room got buf count whole = simp length-append (omega (arith, whole))

-- a piece that lies at the front of a buffer was the first of what was left
pub takes_piece : (bytes buf got : List ℕ) (at count : ℕ) → 0 < count → got ≡ take count (drop at bytes) → count ≤ length (drop at bytes) → count ≤ length buf → Takes (Some (drop at bytes)) (Some (drop (at + count) bytes)) (Done count) (got ++ drop count buf)
takes_piece bytes buf got at count some e le fits =
    let whole : length got ≡ count = ap length e ∙ length-take-le count (drop at bytes) le in
    let front : take count (got ++ drop count buf) ≡ take count (drop at bytes) = take_at got (drop count buf) count whole ∙ e in
    let joined : drop at bytes ≡ take count (got ++ drop count buf) ++ drop (at + count) bytes =
    sym (take-append-drop count (drop at bytes))
    ∙ ap (λ xs. xs ++ drop count (drop at bytes)) (sym front)
    ∙ ap (λ xs. take count (got ++ drop count buf) ++ xs) (drop-drop count at bytes) in
    (some, room got buf count whole, (drop (at + count) bytes, joined, refl))
