-- What is written of events and of ends is read again.
use Rattle.std.proofs.Common.{◌≡◌, ℕ, List, [], ◌∷◌, map, replicate, false, Option, Some, None, filter_map, refl}
use Rattle.std.specs.List.{AllByRecursion, cons_option}
use Rattle.endpoint_model.specs.declared.entry.Entry.{Entry}
use Rattle.endpoint_model.specs.Event.{Setup, Event, Call, Open, Seek, Unseek, Cancel, Close, AddRow, Introduce, Narrow, Learn, Advance, OnFlows, Receive, Tick}
use Rattle.rtmfp_script.specs.Grammar.{IsName}
use Rattle.audit_text.specs.declared.line.LogEntry.{LogEntry}
use Rattle.audit_text.specs.declared.line.LogLine.TheVariants.{Entry as EntryIs}
use Rattle.audit_text.specs.Grammar.{IsWithin, draws}
use Rattle.audit_text.proofs.LinesRead.{read_back}
use Rattle.log_writing.specs.Written.{entry_lines, event_lines, head_line, written_call, written_entry, written_nonce}
use Rattle.log_writing.specs.Told.{IsEntryTold, IsReadBack, IsTold}
use Rattle.log_writing.proofs.Lengths.{entry_writable, event_writable, head_writable}

-- The nonce of a call that draws none is 0.
none_drawn : (call : Call) → draws (written_call call) ≡ false → written_nonce call ≡ replicate 16 0
none_drawn (Open peer candidates d) h = cc
none_drawn (Seek name candidates d) h = cc
none_drawn (Unseek near) h = refl
none_drawn (Cancel n) h = refl
none_drawn (Close near) h = refl
none_drawn (AddRow print addresses) h = refl
none_drawn Introduce h = refl
none_drawn (Narrow limit) h = refl
none_drawn (Learn secret) h = refl
none_drawn Advance h = refl
none_drawn (OnFlows near call) h = refl
none_drawn (Receive from datagram d) h = cc
none_drawn (Tick d) h = cc

-- an entry, where it is written, before others
entry_back : (w : Option LogEntry) (rest : List LogEntry) → IsEntryTold w → AllByRecursion IsReadBack (map EntryIs rest) → AllByRecursion IsReadBack (map EntryIs (cons_option w rest))
entry_back None rest is h = h
entry_back (Some entry) rest is h = (read_back (EntryIs entry) (entry_writable entry is.0 is.1), h)

entries_back : (entries : List Entry) → AllByRecursion (λ entry. IsEntryTold (written_entry entry)) entries → AllByRecursion IsReadBack (entry_lines entries)
entries_back [] h = tt
entries_back (entry ∷ rest) h = entry_back (written_entry entry) (filter_map written_entry rest) h.0 (entries_back rest h.1)

pub event_back : (name : List ℕ) (moment : ℕ) (e : Event) → IsName name → IsTold moment e → AllByRecursion IsReadBack (event_lines name moment e)
event_back name moment e named is =
    (read_back _ (event_writable name _ named (record { moment = is.in_time; nonce = is.nonce; call = is.call; drawn = none_drawn e.call }) is.short), entries_back e.entries is.entries)

pub head_back : (name : List ℕ) (setup : Setup) → IsWithin (head_line name setup) → IsReadBack (head_line name setup)
head_back name setup is = read_back (head_line name setup) (head_writable name _ is.0 is.1)
