-- The rows in which a ledger is kept.
use Rattle.std.specs.Prelude.{ℕ, ◌<◌, Bool, true, false}
use Rattle.std.specs.FinMap.{code}
use Rattle.std.specs.Coded.{Coded, coded_ℕ, coded_list}
use Rattle.glare_core.specs.declared.facts.Held.{Held}
use Rattle.glare_core.specs.Ledger.{PeerRows, row_code}

-- rows are stored as the list of their entries
abbrev pub rows_code : Coded Held → Coded PeerRows
rows_code held = code (coded_list coded_ℕ) (row_code held)

-- There is room for the row of a peer, where it has none yet.
abbrev pub IsRoom : Bool → ℕ → ℕ → Type 0
IsRoom true rows max_peers = Unit {0}
IsRoom false rows max_peers = rows < max_peers
