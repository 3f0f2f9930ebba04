-- Payloads: the fields that are read are those that are spelled, and the first fault is where they break.
use Rattle.std.proofs.Common.{◌≡◌, ℕ, ◌-◌, ◌≤◌, List, ◌++◌, length, Result, Ok, Err, refl, sym, ap, subst, ◌∙◌, inl, inr, arith}
use Rattle.std.proofs.lemmas.List.{length-append}
use Rattle.rtmfp_vlu.proofs.Bytes.{IsBytes, IsBytes-drop}
use Rattle.rtmfp_vlu.proofs.Fields.{behind}
use Rattle.rtmfp_forms.specs.Address.{AddressParts}
use Rattle.rtmfp_forms.specs.OptionReading.{◌>>=◌}
use Rattle.rtmfp_chunks.specs.Fields.{Field, Parts, Then, Rest, AddressList, Ignored, Form, Row, ThenRow, RestRow, AddressesRow, IgnoredRow, FieldSpells, PartsSpell, RowBreaks, form_of}
use Rattle.rtmfp_chunks.specs.FieldReading.{field_then, addresses_at, list_at, row_at}
use Rattle.rtmfp_chunks.proofs.FieldLaws.{FieldIs, field_is, field_again, field_broken, breaks_within}
use Rattle.rtmfp_chunks.proofs.AddressLists.{ListIs, list_is, list_again, list_broken, addresses_within_length}

abbrev pub row_of_parts : Parts → Row
row_of_parts (Then first others) = ThenRow (form_of first) (row_of_parts others)
row_of_parts (Rest bytes) = RestRow
row_of_parts (AddressList list) = AddressesRow
row_of_parts Ignored = IgnoredRow

abbrev pub RowIs : Row → List ℕ → Result Parts ℕ → Type 0
RowIs row b (Ok parts) = PartsSpell parts b
RowIs row b (Err left) = (left ≤ length b) × RowBreaks row b (length b - left)

then_is : (first : Form) (others : Row) (b : List ℕ) (field : Field) (front rest : List ℕ) (r : Result Parts ℕ) → form_of field ≡ first → b ≡ front ++ rest → FieldSpells field front → RowIs others rest r
    → RowIs (ThenRow first others) b (r >>= λ parts. Ok (Then field parts))
then_is first others b field front rest (Ok parts) f e spells h = (front, rest, e, spells, h)
then_is first others b field front rest (Err left) f e spells h =
    (omega (arith, ap length e, length-append front rest, h.0), inr (field, front, rest, length rest - left, f, e, spells, h.1, omega (arith, ap length e, length-append front rest, h.0)))

step_is : (first : Form) (others : Row) (b : List ℕ) (r : Result (Field × List ℕ) ℕ) → FieldIs first b r → ((rest : List ℕ) → IsBytes rest → RowIs others rest (row_at others rest)) → IsBytes b
    → RowIs (ThenRow first others) b (r >>= λ field. (row_at others field.1 >>= λ parts. Ok (Then field.0 parts)))
step_is first others b (Ok found) h later fits =
    let bytes : IsBytes found.1 = subst IsBytes (behind b h.0 found.1 h.2) (IsBytes-drop (length h.0) b fits) in
    then_is first others b found.0 h.0 found.1 (row_at others found.1) h.1 h.2 h.3 (later found.1 bytes)
step_is first others b (Err left) h later fits = (h.0, inl h.1)

addresses_are : (b : List ℕ) (r : Result (List AddressParts) ℕ) → ListIs b r → RowIs AddressesRow b ((r >>= λ addresses. Ok b) >>= λ list. Ok (AddressList list))
addresses_are b (Ok addresses) h = (refl, (addresses, h))
addresses_are b (Err left) h = h

-- what is read is spelled, and what can't be read breaks there
pub row_is : (row : Row) (b : List ℕ) → IsBytes b → RowIs row b (row_at row b)
unfolding row_at list_at
row_is (ThenRow first others) b fits = step_is first others b (field_then first b) (field_is first b fits) (λ rest bytes. row_is others rest bytes) fits
row_is RestRow b fits = refl
row_is AddressesRow b fits = addresses_are b (addresses_at b) (list_is b fits)
row_is IgnoredRow b fits = tt

-- what is spelled is read
pub row_again : (parts : Parts) (b : List ℕ) → PartsSpell parts b → row_at (row_of_parts parts) b ≡ Ok parts
unfolding row_at
row_again (Then first others) b (front, rest, e, one, more) = rw (e, field_again first front rest one, row_again others rest more) refl
row_again (Rest bytes) b h = ap (λ (xs : List ℕ). Ok (Rest xs)) h
row_again (AddressList list) b h = rw (list_again b h.1) (ap (λ (xs : List ℕ). Ok (AddressList xs)) h.0)
row_again Ignored b h = refl

-- what breaks isn't read
pub row_broken : (row : Row) (b : List ℕ) (at : ℕ) → RowBreaks row b at → row_at row b ≡ Err (length b - at)
unfolding row_at
row_broken (ThenRow first others) b at (inl h) = rw (field_broken first b at h) refl
row_broken (ThenRow first others) b at (inr (field, front, rest, later, f, e, one, more, begins)) =
    let read : field_then first b ≡ Ok (field, rest) = ap (λ (x : Form). field_then x b) (sym f) ∙ ap (field_then (form_of field)) e ∙ field_again field front rest one in
    let left : length rest - later ≡ length b - at = omega (arith, ap length e, length-append front rest, begins) in
    rw (read, row_broken others rest later more) (ap (λ (n : ℕ). Err n) left)
row_broken RestRow b at h = absurd h
row_broken AddressesRow b at h = rw (list_broken b at h) refl
row_broken IgnoredRow b at h = absurd h

pub row_within : (row : Row) (b : List ℕ) (at : ℕ) → RowBreaks row b at → at ≤ length b
row_within (ThenRow first others) b at (inl h) = breaks_within first b at h
row_within (ThenRow first others) b at (inr (field, front, rest, later, f, e, one, more, begins)) =
    omega (arith, row_within others rest later more, ap length e, length-append front rest, begins)
row_within RestRow b at h = absurd h
row_within AddressesRow b at h = addresses_within_length b at h
row_within IgnoredRow b at h = absurd h
