-- What a step gives, and the steps of a session, by the row that is kept under its session ID.
use Rattle.std.specs.Prelude.{ℕ, ◌≡◌, ◌<◌, ◌≤◌, ◌+◌, ◌-◌, ◌/◌, nat_le, if◌then◌else◌, List, [], ◌∷◌, length, Option, Some, None, IfSome, option_to_list}
use Rattle.glare_core.specs.declared.facts.Why.{Why}
use Rattle.startup.specs.Attempts.{end_fact, after_end}
use Rattle.session_core.specs.Session.{SessionState}
use Rattle.endpoint_model.specs.declared.row.Row.{Row}
use Rattle.endpoint_model.specs.declared.entry.Entry.{Entry}
use Rattle.endpoint_model.specs.declared.entry.Entry.TheVariants.{Out}
use Rattle.rtmfp_forms.specs.Address.{AddressParts}
use Rattle.rtmfp_fragments.specs.Pieces.{PieceParts, pieces_of}
use Rattle.std.specs.FinMap.{get}
use Rattle.endpoint_model.specs.Sending.{piece_body, pieces_for, sent_in_pieces, sent_whole}
use Rattle.session_table.specs.declared.sealing.Packed.{Packed}
use Rattle.session_table.specs.declared.sealing.Packed.TheVariants.{Nothing, Whole, Long}
use Rattle.endpoint_model.specs.Added.{IsShort}
use Rattle.endpoint_model.specs.State.{State, Did, nothing, fact_entries, with_startup}
use Rattle.endpoint_model.specs.State.{with_session, with_row}
use Rattle.endpoint_model.specs.FlowTimes.{data_sent}

-- ---- what a step gives

-- The state is what a thing left, and the entry, where there is one, all that it adds.
pub record Gives (d : Did) (new : State) (entry : Option Entry) : Type 0 where
  pub state : new ≡ d.state
  pub entries : d.entries ≡ option_to_list entry
  pub short : IfSome entry (λ entry. IsShort entry)

-- ---- datagrams in which a packet goes out

-- At least so many as a packet with a body of this length needs where packets up to this limit go
-- out whole. A head has at most 5 bytes.
abbrev pub datagrams_for : ℕ → ℕ → ℕ
datagrams_for limit body = if nat_le (5 + body) limit then 1 else (5 + body) / (limit - 32) + 1

-- A packet goes out in its pieces.
abbrev pub long_sent : State → ℕ → AddressParts → List ℕ → Option Row → Did
long_sent s near to packet None = nothing s
long_sent s near to packet (Some row) = sent_in_pieces s near to row (pieces_for s packet)

-- A piece of the packet that has this ID goes out.
abbrev pub piece_sent : State → ℕ → AddressParts → ℕ → PieceParts → Did
piece_sent s near to id x = sent_whole s near to (piece_body id x) (get s.sessions near)

-- What became of a packet goes out.
abbrev pub packed_sent : State → ℕ → AddressParts → Packed → Did
packed_sent s near to Nothing = nothing s
packed_sent s near to (Whole x) =
    record { state = s; entries = Out to x.datagram x.context ∷ [] }
packed_sent s near to (Long packet blank) = long_sent s near to packet (get s.sessions near)

-- A datagram that was sealed is short, and there are enough buffers of a datagram for the pieces of
-- what wasn't.
abbrev pub MayGo : ℕ → ℕ → Packed → Type 0
MayGo limit blanks Nothing = Unit {0}
MayGo limit blanks (Whole x) = length x.datagram ≤ 1200
MayGo limit blanks (Long packet blank) = (length blank.items ≡ 1200) ×
    (limit < length packet) × (length packet ≤ 1164) ×
    (length (pieces_of packet (limit - 32)) ≤ blanks)

-- ---- steps of a session

-- the session in a row changes so from a moment on
abbrev pub session_changed : (ℕ → SessionState → SessionState) → State → ℕ → Option Row → State
session_changed change s near None = s
session_changed change s near (Some row) = with_session s near row (change s.moment row.session)

-- the row itself changes so
abbrev pub row_changed : (ℕ → Row → Row) → State → ℕ → Option Row → State
row_changed change s near None = s
row_changed change s near (Some row) = with_row s near (change s.moment row)

-- flow data goes out in it
abbrev pub data_sent_by : State → ℕ → Option Row → Did
data_sent_by s near None = nothing s
data_sent_by s near (Some row) = data_sent s near row

-- The end of a session is told, and what is held with its peer ends. Its row stays.
abbrev pub end_told : State → Why → Option Row → Did
end_told s why None = nothing s
end_told s why (Some row) = record {
  state = with_startup s (after_end s.startup row.session.joined.peer why);
  entries = fact_entries (end_fact s.startup row.session.joined.peer why);
}
