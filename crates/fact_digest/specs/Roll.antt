-- What is kept of the facts of one end, and when it is what they say.
use Rattle.std.specs.Prelude.{ℕ, List, length, ◌≡◌, refl}
use Rattle.std.specs.List.{list_any}
use Rattle.std.specs.Str.{bytes_eq}
use Rattle.std.specs.FinMap.{empty, contains_key, len, code}
use Rattle.std.specs.Coded.{Coded, code_by, coded×, coded_ℕ, coded_list}
use Rattle.glare_core.specs.declared.facts.Fact.{Fact}
use Rattle.glare_core.specs.declared.facts.Fact.TheVariants.{Started, Born, Opened, Confirmed, Ended}
use Rattle.glare_core.specs.declared.facts.Held.{Held}
use Rattle.glare_core.specs.Standing.{held, seen, count, peers_in}
use Rattle.glare_core.specs.Ledger.{PeerRows, row_code, row_in, rows_after}

-- how many attempts were started, and a row for each peer
pub record Rolled : Type 0 where
  pub started : ℕ
  pub rows : PeerRows

abbrev pub no_facts : Rolled
no_facts = record { started = 0; rows = empty }

-- An attempt that starts has the number of those that were started until then and itself.
abbrev pub started_after : Fact → ℕ → ℕ
started_after (Started peer n near ni) before = n
started_after (Born j) before = before
started_after (Opened j) before = before
started_after (Confirmed peer near) before = before
started_after (Ended peer near why) before = before

abbrev pub with_fact : Fact → Rolled → Rolled
with_fact fact r = record {
  started = started_after fact r.started;
  rows = rows_after fact r.rows;
}

-- It is what these facts say, the newest of which is the first.
pub record IsOfFacts (facts : List Fact) (r : Rolled) : Type 0 where
  pub held_is : (peer : List ℕ) → (row_in r.rows peer).held ≡ held peer facts
  pub seen_is : (peer : List ℕ) → (row_in r.rows peer).floor ≡ seen peer facts
  pub row_is : (peer : List ℕ) → contains_key r.rows peer
      ≡ list_any (bytes_eq peer) (peers_in facts)
  pub rows_are : len r.rows ≡ length (peers_in facts)
  pub count_is : r.started ≡ count facts

abbrev pub rolled_code : Coded Held → Coded Rolled
rolled_code held =
    code_by (ℕ × PeerRows) (coded× coded_ℕ (code (coded_list coded_ℕ) (row_code held)))
    (λ r. (r.started, r.rows)) (λ p. record { started = p.0; rows = p.1 }) (λ _. refl)
