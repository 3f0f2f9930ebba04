-- Finite maps from fingerprints: what is found after an insert, by the test of equal bytes.
use Rattle.std.proofs.Common.{inl, inr, ℕ, List, ◌≡◌, ◌+◌, sym, ap, refl, true, cond, Some, ◌∙◌}
use Rattle.std.specs.Str.{bytes_eq}
use Rattle.std.specs.Cmp.Lexicographic.{nat_list_cmp_total}
use Rattle.std.specs.FinMap.{get, insert, contains_key, len, get-insert, len-insert, nat_cmp-IsAntisymmetric, slice_cmp-IsAntisymmetric, same_map}
use Rattle.std.proofs.lemmas.Map.Text.{is_eq-slice_cmp}
use Rattle.glare_core.specs.Ledger.{PeerRow, PeerRows, row_or_blank, row_in}
use Rattle.glare_core.proofs.Tails.{same_end}

pub bytes_eq_sym : (p q : List ℕ) → bytes_eq p q ≡ bytes_eq q p
bytes_eq_sym p q =
    elim (same_end p q) [
      | inl d ↦ elim (same_end q p) [ inl e ↦ d.1 ∙ sym e.1 | inr e ↦ absurd (e.0 (sym d.0)) ]
      | inr d ↦ elim (same_end q p) [ inl e ↦ absurd (d.0 (sym e.0)) | inr e ↦ d.1 ∙ sym e.1 ]
    ]

pub get_inserted : (rows : PeerRows) (p : List ℕ) (row : PeerRow) (q : List ℕ) → get (insert rows p row) q ≡ cond (bytes_eq p q) (Some row) (get rows q)
get_inserted rows p row q =
    get-insert nat_list_cmp_total rows p row q ∙ ap (λ b. cond b (Some row) (get rows q)) (is_eq-slice_cmp q p ∙ bytes_eq_sym q p)

pub row_inserted : (rows : PeerRows) (p : List ℕ) (row : PeerRow) (q : List ℕ) → row_in (insert rows p row) q ≡ cond (bytes_eq p q) row (row_in rows q)
row_inserted rows p row q = ap row_or_blank (get_inserted rows p row q) ∙ elim (same_end p q) [ inl d ↦ rw d.1 refl | inr d ↦ rw d.1 refl ]

pub known_inserted : (rows : PeerRows) (p : List ℕ) (row : PeerRow) (q : List ℕ) → contains_key (insert rows p row) q ≡ cond (bytes_eq p q) true (contains_key rows q)
known_inserted rows p row q = rw (get_inserted rows p row q) (elim (same_end p q) [ inl d ↦ rw d.1 refl | inr d ↦ rw d.1 refl ])

pub len_inserted : (rows : PeerRows) (p : List ℕ) (row : PeerRow) → len (insert rows p row) ≡ cond (contains_key rows p) (len rows) (len rows + 1)
len_inserted rows p row = len-insert nat_list_cmp_total rows p row

pub same_rows : (a b : PeerRows) → ((q : List ℕ) → get a q ≡ get b q) → a ≡ b
same_rows a b same = same_map nat_list_cmp_total (slice_cmp-IsAntisymmetric nat_cmp-IsAntisymmetric) a b same
