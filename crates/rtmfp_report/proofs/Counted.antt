-- Entries that are counted behind others.
use Rattle.std.proofs.Common.{◌≡◌, List, [], ◌∷◌, ◌++◌, refl}
use Rattle.endpoint_model.specs.declared.entry.Entry.{Entry}
use Rattle.rtmfp_report.specs.declared.tally.Tally.{Tally}
use Rattle.rtmfp_report.specs.Tally.{with_entry, with_entries}

pub with_entries-append : (t : Tally) (before entries : List Entry) → with_entries t (before ++ entries) ≡ with_entries (with_entries t before) entries
with_entries-append t [] entries = refl
with_entries-append t (entry ∷ before) entries = with_entries-append (with_entry t entry) before entries
