-- How many things of each kind ends did, and the line that tells it.
use Rattle.std.specs.Prelude.{ℕ, ◌+◌, List, [], ◌∷◌, codes}
use Rattle.glare_core.specs.declared.facts.Fact.{Fact}
use Rattle.glare_core.specs.declared.facts.Fact.TheVariants.{Started, Born, Opened, Confirmed, Ended}
use Rattle.endpoint_model.specs.declared.entry.Entry.{Entry}
use Rattle.endpoint_model.specs.declared.entry.Entry.TheVariants.{Fact as FactEntry, Discard, Out}
use Rattle.rtmfp_text.specs.Words.{number_field_text, text_of}
use Rattle.rtmfp_report.specs.declared.tally.Tally.{Tally}

abbrev pub nothing_counted : Tally
nothing_counted = record {
  sent = 0;
  started = 0;
  born = 0;
  opened = 0;
  confirmed = 0;
  ended = 0;
  dropped = 0;
}

-- a fact counts one among those of its kind
abbrev pub with_fact : Tally → Fact → Tally
with_fact t (Started peer n near ni) = record t { started = t.started + 1 }
with_fact t (Born joined) = record t { born = t.born + 1 }
with_fact t (Opened joined) = record t { opened = t.opened + 1 }
with_fact t (Confirmed peer near) = record t { confirmed = t.confirmed + 1 }
with_fact t (Ended peer near why) = record t { ended = t.ended + 1 }

-- an entry counts one among those of its kind; only facts, discards and datagrams are counted
abbrev pub with_entry : Tally → Entry → Tally
with_entry t (FactEntry fact) = with_fact t fact
with_entry t (Discard place cause) = record t { dropped = t.dropped + 1 }
with_entry t (Out to datagram context) = record t { sent = t.sent + 1 }
with_entry t entry = t

abbrev pub with_entries : Tally → List Entry → Tally
with_entries t [] = t
with_entries t (entry ∷ entries) = with_entries (with_entry t entry) entries

-- what entries count
abbrev pub tally_of : List Entry → Tally
tally_of entries = with_entries nothing_counted entries

-- the line of a run: its ends, its steps, what the ends did, and how many pairs of an end and a
-- peer keep a session when it is over
unfoldable pub summary_text : ℕ → ℕ → Tally → ℕ → List ℕ
summary_text ends steps tally kept = text_of (
    number_field_text (codes "ends=") ends
    ∷ number_field_text (codes " steps=") steps
    ∷ number_field_text (codes " sent=") tally.sent
    ∷ number_field_text (codes " started=") tally.started
    ∷ number_field_text (codes " born=") tally.born
    ∷ number_field_text (codes " opened=") tally.opened
    ∷ number_field_text (codes " confirmed=") tally.confirmed
    ∷ number_field_text (codes " ended=") tally.ended
    ∷ number_field_text (codes " dropped=") tally.dropped
    ∷ number_field_text (codes " kept=") kept
    ∷ codes "\n" ∷ [])
