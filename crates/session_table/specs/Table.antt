-- The rows of an end's sessions: as a list, and by their session IDs; and what is done to the row
-- under one.
use Rattle.std.specs.Prelude.{ℕ, ◌≡◌, ◌≤◌, ◌+◌, nat_lt, List, length, map, true, false, if◌then◌else◌, Option, Some, None, refl}
use Rattle.std.specs.List.{find}
use Rattle.std.specs.Coded.{Coded, code_by, coded×, coded_ℕ}
use Rattle.std.specs.FinMap.{from_entries, entries, get, insert, code}
use Rattle.rtmfp_forms.specs.Address.{AddressParts}
use Rattle.packet_scramble.specs.Datagram.{datagram}
use Rattle.session_core.specs.Session.{SessionState, context_of, moved_to}
use Rattle.session_core.specs.Sealed.{after_seal, is_spent, sealed_part}
use Rattle.mobility.specs.Tests.{after_seen, after_reply}
use Rattle.endpoint_model.specs.declared.row.Row.{Row}
use Rattle.endpoint_model.specs.declared.row_due.RowDue.{RowDue}
use Rattle.endpoint_model.specs.State.{Sessions}
use Rattle.endpoint_model.specs.Sending.{has_counts, session_packet}
use Rattle.endpoint_model.specs.FlowTimes.{is_row_due, row_due}
use Rattle.session_table.specs.declared.sealing.Sealed.{Sealed}
use Rattle.session_table.specs.declared.sealing.Packed.{Packed}
use Rattle.session_table.specs.declared.sealing.Packed.TheVariants.{Nothing, Whole, Long}

-- the session ID of the session in a row
abbrev pub near_of : Row → ℕ
near_of row = row.session.joined.near

abbrev pub entry_of : Row → ℕ × Row
entry_of row = (near_of row, row)

-- the rows by their session IDs
abbrev pub table_of : List Row → Sessions
table_of rows = from_entries (map entry_of rows)

-- the rows, and how many more can be kept without memory
pub record Table : Type 0 where
  pub rows : Sessions
  pub free : ℕ

-- ---- a change of one row

abbrev pub with_changed : (Row → Row) → Sessions → ℕ → Option Row → Sessions
with_changed change rows near None = rows
with_changed change rows near (Some row) = insert rows near (change row)

-- The row under this session ID is changed so, where there is one.
abbrev pub in_row : (Row → Row) → Sessions → ℕ → Sessions
in_row change rows near = with_changed change rows near (get rows near)

-- the same of the session in it
abbrev pub of_session : (SessionState → SessionState) → Row → Row
of_session change row = record row { session = change row.session }

abbrev pub in_session : (SessionState → SessionState) → Sessions → ℕ → Sessions
in_session change = in_row (of_session change)

-- a datagram came from an address, which is tested where that asks for it
abbrev pub tested : AddressParts → List ℕ → ℕ → Row → Row
tested from token moment row = record row {
  moves = after_seen row.moves row.session.address from token moment;
}

-- the session goes to where the answer to its test came from
abbrev pub moved : AddressParts → List ℕ → Row → Row
moved from bytes row = record row {
  session = moved_to from row.session;
  moves = after_reply row.moves from bytes;
}

-- ---- what a session seals

-- a packet: none where all counts are used
abbrev pub packet_sealed : List ℕ → SessionState → Option Sealed
packet_sealed packet session =
    if is_spent session then None
    else Some (record {
      datagram = datagram session.joined.far (sealed_part session packet);
      context = context_of session true;
    })

-- that of a body, behind the session's head
abbrev pub sealed_of : ℕ → List ℕ → SessionState → Option Sealed
sealed_of moment body session = packet_sealed (session_packet session moment body) session

abbrev pub sealed_by : ℕ → List ℕ → Option Row → Option Sealed
sealed_by moment body None = None
sealed_by moment body (Some row) = sealed_of moment body row.session

-- ---- packets that may be too long

-- What became of a packet: one of more bytes than the limit isn't sealed, and is left to go out in
-- pieces.
abbrev pub IsPacked : ℕ → List ℕ → SessionState → Packed → Type 0
IsPacked limit packet session Nothing =
    (nat_lt limit (length packet) ≡ false) × (packet_sealed packet session ≡ None)
IsPacked limit packet session (Whole x) =
    (nat_lt limit (length packet) ≡ false) × (packet_sealed packet session ≡ Some x) ×
    (length x.datagram ≤ 1200)
IsPacked limit packet session (Long long blank) = (nat_lt limit (length packet) ≡ true) ×
    (long ≡ packet) × (length packet ≤ 1164) × (length blank.items ≡ 1200)

-- that of a body, behind the head of the session
abbrev pub IsPackedBy : ℕ → ℕ → (Row → List ℕ) → Option Row → Packed → Type 0
IsPackedBy limit moment body None packed = packed ≡ Nothing
IsPackedBy limit moment body (Some row) packed =
    IsPacked limit (session_packet row.session moment (body row)) row.session packed

-- the session then: a packet that isn't sealed isn't counted
abbrev pub after_packed : ℕ → List ℕ → SessionState → SessionState
after_packed limit packet session =
    if nat_lt limit (length packet) then session else after_seal session

abbrev pub packed_in : ℕ → ℕ → (Row → List ℕ) → Row → Row
packed_in limit moment body row = record row {
  session = after_packed limit (session_packet row.session moment (body row)) row.session;
}

-- ---- IDs of packets that go out in pieces

-- the next one, where it is left, and counts for so many pieces
abbrev pub next_packet : ℕ → Option Row → Option ℕ
next_packet pieces None = None
next_packet pieces (Some row) =
    if has_counts row pieces then Some (row.packets + 1) else None

abbrev pub packet_counted : ℕ → Row → Row
packet_counted pieces row =
    if has_counts row pieces then record row { packets = row.packets + 1 } else row

-- ---- what is due

-- a session ID, and what is due of its session
abbrev pub under : ℕ → Option RowDue → Option (ℕ × RowDue)
under near None = None
under near (Some due) = Some (near, due)

abbrev pub due_of : ℕ → Option (ℕ × Row) → Option (ℕ × RowDue)
due_of moment None = None
due_of moment (Some e) = under e.0 (row_due moment e.1)

-- the first by rising session IDs
abbrev pub due_in : ℕ → Sessions → Option (ℕ × RowDue)
due_in moment rows = due_of moment (find (λ e. is_row_due moment e.1) (entries rows))

-- ---- how a table is stored: as the pair of its fields

abbrev pub table_code : Coded Row → Coded Table
table_code row =
    code_by (Sessions × ℕ) (coded× (code coded_ℕ row) coded_ℕ) (λ t. (t.rows, t.free))
    (λ p. record { rows = p.0; free = p.1 }) (λ _. refl)
