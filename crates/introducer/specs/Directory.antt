-- What a directory knows: rows of addresses, and which sessions are kept, both by the fingerprint
-- of an end.
use Rattle.std.specs.Prelude.{ℕ, ◌-◌, ◌==◌, ◌&&◌, ◌||◌, Bool, nat_lt, not, if◌then◌else◌, List, [], ◌∷◌, ◌++◌, length, filter, slice_get, unwrap_or, Option, Some, None, refl}
use Rattle.std.specs.Ordering.{nat_cmp}
use Rattle.std.specs.Cmp.Lexicographic.{slice_cmp}
use Rattle.std.specs.FinMap.{FinMap, get, insert, empty, contains_key, len, entries, from_entries, code}
use Rattle.std.specs.Coded.{Coded, code_by, coded×, coded_ℕ, coded_list}
use Rattle.rtmfp_forms.specs.Address.{AddressParts}
use Rattle.introducer.specs.declared.refusal.RowRefusal.{RowRefusal}
use Rattle.introducer.specs.declared.refusal.RowRefusal.TheVariants.{Candidates, RowsFull}

-- the candidates of each end that has a row
abbrev pub AddressRows : Type 0
AddressRows = FinMap (slice_cmp nat_cmp) (List AddressParts)

-- of each end the session IDs of its sessions that were kept and aren't gone, in the order of their
-- keeping
abbrev pub KeptIds : Type 0
KeptIds = FinMap (slice_cmp nat_cmp) (List ℕ)

pub record DirectoryState : Type 0 where
  pub rows : AddressRows
  pub kept : KeptIds

abbrev pub rows_code : Coded AddressParts → Coded AddressRows
rows_code address = code (coded_list coded_ℕ) (coded_list address)

abbrev pub kept_code : Coded KeptIds
kept_code = code (coded_list coded_ℕ) (coded_list coded_ℕ)

abbrev pub directory_code : Coded AddressParts → Coded DirectoryState
directory_code address =
    code_by (AddressRows × KeptIds) (coded× (rows_code address) kept_code) (λ d. (d.rows, d.kept))
    (λ p. record { rows = p.0; kept = p.1 }) (λ _. refl)

abbrev pub new_directory : DirectoryState
new_directory = record { rows = empty; kept = empty }

-- ---- rows

-- there are 1,024 rows, and none of this print
abbrev pub is_full_for : AddressRows → List ℕ → Bool
is_full_for rows print = (len rows == 1024) && not (contains_key rows print)

-- why so many addresses make no row of this print, but for want of memory
abbrev pub row_refusal : AddressRows → List ℕ → ℕ → Option RowRefusal
row_refusal rows print count =
    if (count == 0) || nat_lt 16 count then Some (Candidates count)
    else if is_full_for rows print then Some (RowsFull (len rows))
    else None

-- a row of the same print is replaced
abbrev pub with_row : DirectoryState → List ℕ → List AddressParts → DirectoryState
with_row d print addresses = record { rows = insert d.rows print addresses; kept = d.kept }

-- ---- kept sessions

abbrev pub ids_of : KeptIds → List ℕ → List ℕ
ids_of kept print = unwrap_or (get kept print) []

-- the near id that was kept last for a print and isn't gone
abbrev pub last_kept : KeptIds → List ℕ → Option ℕ
last_kept kept print = slice_get (ids_of kept print) (length (ids_of kept print) - 1)

-- a session is kept
abbrev pub with_id : KeptIds → List ℕ → ℕ → KeptIds
with_id kept print near = insert kept print (ids_of kept print ++ near ∷ [])

-- the others of some near ids
abbrev pub others : ℕ → List ℕ → List ℕ
others near ids = filter (λ id. not (id == near)) ids

-- an entry that has any near ids
abbrev pub put_before : List ℕ → List ℕ → List (List ℕ × List ℕ) → List (List ℕ × List ℕ)
put_before print [] later = later
put_before print (id ∷ ids) later = (print, id ∷ ids) ∷ later

abbrev pub entries_without : ℕ → List (List ℕ × List ℕ) → List (List ℕ × List ℕ)
entries_without near [] = []
entries_without near (e ∷ later) = put_before e.0 (others near e.1) (entries_without near later)

-- a session is gone
abbrev pub without_id : KeptIds → ℕ → KeptIds
without_id kept near = from_entries (entries_without near (entries kept))

abbrev pub with_kept : DirectoryState → List ℕ → ℕ → DirectoryState
with_kept d print near = record { rows = d.rows; kept = with_id d.kept print near }

abbrev pub without_kept : DirectoryState → ℕ → DirectoryState
without_kept d near = record { rows = d.rows; kept = without_id d.kept near }
