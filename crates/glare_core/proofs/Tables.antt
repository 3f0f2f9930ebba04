-- A hashed map of rows as the finite map that contracts see.
use Rattle.std.proofs.Common.{◌≡◌, ℕ, suc, ◌+◌, Bool, true, false, cond, List, [], ◌∷◌, length, is_some, Option, Some, None, refl, sym, ap, ◌∙◌, arith}
use Rattle.std.specs.Str.{bytes_eq}
use Rattle.std.specs.Ordering.{nat_cmp}
use Rattle.std.specs.Cmp.Lexicographic.{slice_cmp, nat_list_cmp_total, nat_list_eq_equiv}
use Rattle.std.specs.List.{IsDistinct}
use Rattle.std.specs.Map.{lookup, keys_of}
use Rattle.std.specs.HashMap.{HashMap, Updates}
use Rattle.std.specs.FinMap.{get, insert, len, contains_key, from_entries, get-from_entries, len-empty}
use Rattle.std.specs.FinMap as fin
use Rattle.std.proofs.lemmas.Map.{lookup-none}
use Rattle.std.proofs.lemmas.Map.Entries.{none_past_head}
use Rattle.std.proofs.lemmas.Map.Keys.{IsDistinct-tail}
use Rattle.std.proofs.lemmas.Map.Text.{is_eq-slice_cmp}
use Rattle.glare_core.specs.declared.facts.Fact.{Fact}
use Rattle.glare_core.specs.Standing.{peer_of}
use Rattle.glare_core.specs.Ledger.{PeerRow, PeerRows, row_in, row_or_blank, row_after, rows_after}
use Rattle.glare_core.proofs.Maps.{get_inserted, known_inserted, len_inserted, same_rows}

abbrev pub Entries : Type 0
Entries = List (List ℕ × PeerRow)

-- the rows of a list of entries
abbrev pub rows_of : Entries → PeerRows
rows_of es = from_entries es

found : (q : List ℕ) (es : Entries) → fin.find (slice_cmp nat_cmp) q es ≡ lookup (bytes_eq q) es
found q [] = refl
found q (e ∷ es) =
    ap (λ b. cond b (Some e.1) (fin.find (slice_cmp nat_cmp) q es)) (is_eq-slice_cmp q e.0) ∙ ap (cond (bytes_eq q e.0) (Some e.1)) (found q es)

pub get_rows : (es : Entries) (q : List ℕ) → get (rows_of es) q ≡ lookup (bytes_eq q) es
get_rows es q = get-from_entries nat_list_cmp_total es q ∙ found q es

one_more : (b : Bool) (n : ℕ) → b ≡ false → cond b n (n + 1) ≡ suc n
one_more true n e = absurd cc
one_more false n e = omega arith

-- There are as many rows as entries.
pub len_rows : (es : Entries) → IsDistinct bytes_eq (keys_of es) → len (rows_of es) ≡ length es
len_rows [] distinct = len-empty (slice_cmp nat_cmp) PeerRow
len_rows (e ∷ es) distinct =
    let none : get (rows_of es) e.0 ≡ None =
    get_rows es e.0 ∙ lookup-none (bytes_eq e.0) es (none_past_head nat_list_eq_equiv e.0 e es distinct (nat_list_eq_equiv.refl e.0)) in
    len_inserted (rows_of es) e.0 e.1
    ∙ one_more (contains_key (rows_of es) e.0) (len (rows_of es)) (ap is_some none)
    ∙ ap suc (len_rows es (IsDistinct-tail bytes_eq e.0 (keys_of es) distinct))

-- what is found among the entries is what the rows have
pub found_row : (es : Entries) (rows : PeerRows) (p : List ℕ) (row : Option PeerRow) → rows_of es ≡ rows → row ≡ lookup (bytes_eq p) es → row ≡ get rows p
found_row es rows p row is e = e ∙ sym (get_rows es p) ∙ ap (λ r. get r p) is

blank_of : (o : Option PeerRow) → is_some o ≡ false → row_or_blank None ≡ row_or_blank o
blank_of None e = refl
blank_of (Some row) e = absurd cc

pub blank_row : (rows : PeerRows) (p : List ℕ) → contains_key rows p ≡ false → row_or_blank None ≡ row_in rows p
blank_row rows p = blank_of (get rows p)

-- A row is put in, or written to.
module _ {S : Type 0} (m n : HashMap (List ℕ) PeerRow S) where
  rows_put : (k : List ℕ) (row : PeerRow) → Updates bytes_eq m n k (Some row) → rows_of n.entries ≡ insert (rows_of m.entries) k row
  rows_put k row updates = same_rows (rows_of n.entries) (insert (rows_of m.entries) k row) (λ q.
      get_rows n.entries q ∙ updates.0 q ∙ ap (cond (bytes_eq k q) (Some row)) (sym (get_rows m.entries q)) ∙ sym (get_inserted (rows_of m.entries) k row q))

  pub rows_noted : (fact : Fact) (rows : PeerRows) (k : List ℕ) (row before : PeerRow) → Updates bytes_eq m n k (Some row) → rows_of m.entries ≡ rows → k ≡ peer_of fact →
      row ≡ row_after fact before → before ≡ row_in rows (peer_of fact) → rows_of n.entries ≡ rows_after fact rows
  rows_noted fact rows k row before updates is peer left here =
      rows_put k row updates ∙ (λ i. insert (is i) (peer i) ((left ∙ ap (row_after fact) here) i))

-- What a fact leaves, where its peer has a row and where it has none.
module _ (fact : Fact) (rows : PeerRows) where
  pub known_after : contains_key (rows_after fact rows) (peer_of fact) ≡ true
  known_after =
      known_inserted rows (peer_of fact) (row_after fact (row_in rows (peer_of fact))) (peer_of fact)
      ∙ ap (λ b. cond b true (contains_key rows (peer_of fact))) (nat_list_eq_equiv.refl (peer_of fact))

  len_after : (known : Bool) → contains_key rows (peer_of fact) ≡ known → len (rows_after fact rows) ≡ cond known (len rows) (len rows + 1)
  len_after known is =
      len_inserted rows (peer_of fact) (row_after fact (row_in rows (peer_of fact))) ∙ ap (λ b. cond b (len rows) (len rows + 1)) is

  pub len_noted : contains_key rows (peer_of fact) ≡ true → len (rows_after fact rows) ≡ len rows
  len_noted = len_after true

  pub len_added : contains_key rows (peer_of fact) ≡ false → len (rows_after fact rows) ≡ len rows + 1
  len_added = len_after false
