-- What an end keeps of its peers, and what a fact of it changes.
use Rattle.std.specs.Prelude.{ℕ, List, [], ◌∷◌, ◌+◌, Bool, Option, None, Some, max, refl}
use Rattle.std.specs.Ordering.{nat_cmp}
use Rattle.std.specs.Cmp.Lexicographic.{slice_cmp}
use Rattle.std.specs.FinMap.{FinMap, get, insert, empty, contains_key, len, code}
use Rattle.std.specs.Coded.{Coded, code_by, coded×, coded_ℕ, coded_list, coded_option}
use Rattle.glare_core.specs.declared.facts.Fact.{Fact}
use Rattle.glare_core.specs.declared.facts.Held.{Held}
use Rattle.glare_core.specs.Standing.{peer_of, after, seen_in, starts_in}

-- what is kept of a peer: what is held with it, and the greatest number seen of it
pub record PeerRow : Type 0 where
  pub held : Option Held
  pub floor : ℕ

-- the rows, by the fingerprints of their peers
abbrev pub PeerRows : Type 0
PeerRows = FinMap (slice_cmp nat_cmp) PeerRow

pub record Ledger : Type 0 where
  -- the own fingerprint
  pub own : List ℕ
  -- the most rows that are kept
  pub max_peers : ℕ
  -- how many attempts were started, with the number that the ledger was begun with
  pub started : ℕ
  pub rows : PeerRows

abbrev pub new_ledger : List ℕ → ℕ → ℕ → Ledger
new_ledger own max_peers started = record {
  own = own;
  max_peers = max_peers;
  started = started;
  rows = empty;
}

-- With a peer that has no row nothing is held, and nothing was seen of it.
abbrev pub row_or_blank : Option PeerRow → PeerRow
row_or_blank None = record { held = None; floor = 0 }
row_or_blank (Some row) = row

abbrev pub row_in : PeerRows → List ℕ → PeerRow
row_in rows peer = row_or_blank (get rows peer)

-- what is held with a peer
abbrev pub held_with : Ledger → List ℕ → Option Held
held_with l peer = (row_in l.rows peer).held

-- the greatest number seen of a peer
abbrev pub floor_of : Ledger → List ℕ → ℕ
floor_of l peer = (row_in l.rows peer).floor

-- whether a peer has a row
abbrev pub knows : Ledger → List ℕ → Bool
knows l peer = contains_key l.rows peer

-- how many rows there are
abbrev pub row_count : Ledger → ℕ
row_count l = len l.rows

-- what a fact leaves of the row of its peer
abbrev pub row_after : Fact → PeerRow → PeerRow
row_after fact row = record { held = after fact row.held; floor = max (seen_in fact) row.floor }

abbrev pub rows_after : Fact → PeerRows → PeerRows
rows_after fact rows = insert rows (peer_of fact) (row_after fact (row_in rows (peer_of fact)))

-- the ledger after a fact
abbrev pub noted : Ledger → Fact → Ledger
noted l fact = record {
  own = l.own;
  max_peers = l.max_peers;
  started = l.started + starts_in fact;
  rows = rows_after fact l.rows;
}

-- the rows, and the ledger, after a fact, where there is one
abbrev pub rows_after_if : Option Fact → PeerRows → PeerRows
rows_after_if None rows = rows
rows_after_if (Some fact) rows = rows_after fact rows

abbrev pub noted_if : Ledger → Option Fact → Ledger
noted_if l None = l
noted_if l (Some fact) = noted l fact

-- the ledger after the facts, of which the newest is the first
abbrev pub left_by : List Fact → Ledger → Ledger
left_by [] l = l
left_by (fact ∷ earlier) l = noted (left_by earlier l) fact

-- a ledger is stored as the tuple of its fields
abbrev pub row_code : Coded Held → Coded PeerRow
row_code held = code_by (Option Held × ℕ) (coded× (coded_option held) coded_ℕ)
    (λ r. (r.held, r.floor)) (λ p. record { held = p.0; floor = p.1 }) (λ _. refl)

abbrev pub ledger_code : Coded Held → Coded Ledger
ledger_code held =
    code_by (List ℕ ×
    (ℕ × (ℕ × PeerRows))) (coded× (coded_list coded_ℕ)
    (coded× coded_ℕ (coded× coded_ℕ (code (coded_list coded_ℕ) (row_code held)))))
    (λ l. (l.own, (l.max_peers, (l.started, l.rows))))
    (λ p. record { own = p.0; max_peers = p.1.0; started = p.1.1.0; rows = p.1.1.1 })
    (λ _. refl)
