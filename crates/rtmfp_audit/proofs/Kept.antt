-- What a line that is taken adds to what was read.
use Rattle.std.proofs.Common.{◌≡◌, ℕ, ◌+◌, ◌<◌, ◌⊎◌, inl, inr, Bool, true, false, if◌then◌else◌, List, length, refl, sym, ap, arith, Option, Some, None}
use Rattle.std.specs.Prelude.{◌&&◌, nat_lt, is_none, IfSome, []}
use Rattle.std.proofs.lemmas.Bool.{ltb-true, and_parts}
use Rattle.endpoint_model.specs.Event.{Event, Setup}
use Rattle.endpoint_model.specs.declared.entry.Entry.{Entry}
use Rattle.audit_text.specs.declared.line.LogLine.{LogLine}
use Rattle.audit_text.specs.declared.line.LogLine.TheVariants.{Skip, Log as LogOf, Event as EventOf, Entry as EntryOf}
use Rattle.log_reading.specs.Said.{event_said, entry_said, setup_said}
use Rattle.log_reading.specs.Gathered.{Read, event_of, entry_of, may_stand, most_ends, most_lines, place_of, read_with, taken, with_entry, with_event, with_log, with_skip}
use Rattle.log_reading.proofs.Sound.{place_within}

-- a log, an event or an entry, where it may stand
pub record AddsLog (before after : Read) : Type 0 where
  pub name : List ℕ
  pub setup : Setup
  pub few : length before.names < 1024
  pub is : after ≡ with_log name setup before

pub record AddsEvent (before after : Read) : Type 0 where
  pub who : ℕ
  pub event : Event
  pub none : event.entries ≡ []
  pub there : who < length before.names
  pub is : after ≡ with_event who event before

pub record AddsEntry (before after : Read) : Type 0 where
  pub who : ℕ
  pub entry : Entry
  pub last : before.last ≡ Some who
  pub is : after ≡ with_entry who entry before

abbrev pub Adds : Read → Read → Type 0
Adds before after = (after ≡ with_skip before) ⊎ (AddsLog before after ⊎ (AddsEvent before after ⊎ AddsEntry before after))

adds_log : (b : Bool) (name : List ℕ) (setup : Setup) (before after : Read) → may_stand name before ≡ b → (if b then Some (with_log name setup before) else None) ≡ Some after → AddsLog before after
adds_log true name setup before after may e =
    let parts = and_parts (is_none before.last) (is_none (place_of name before.names) && nat_lt (length before.names) most_ends) may in
    let few = and_parts (is_none (place_of name before.names)) (nat_lt (length before.names) most_ends) parts.1 in
    let same : with_log name setup before ≡ after = cc in
    record { name = name; setup = setup; few = ltb-true (length before.names) most_ends few.1; is = sym same }
adds_log false name setup before after may e = absurd (cc)

adds_event : (o : Option ℕ) (event : Event) (before after : Read) → event.entries ≡ [] → IfSome o (λ who. who < length before.names) → event_of o event before ≡ Some after → AddsEvent before after
adds_event None event before after none there e = absurd (cc)
adds_event (Some who) event before after none there e =
    let same : with_event who event before ≡ after = cc in
    record { who = who; event = event; none = none; there = there; is = sym same }

adds_entry : (o : Option ℕ) (entry : Entry) (before after : Read) → before.last ≡ o → entry_of o entry before ≡ Some after → AddsEntry before after
adds_entry None entry before after last e = absurd (cc)
adds_entry (Some who) entry before after last e =
    let same : with_entry who entry before ≡ after = cc in
    record { who = who; entry = entry; last = last; is = sym same }

within : (before : Read) (name : List ℕ) → IfSome (place_of name before.names) (λ who. who < length before.names)
within before name = from_zero (place_of name before.names) (length before.names) (place_within 0 name before.names)
  where
    from_zero : (o : Option ℕ) (n : ℕ) → IfSome o (λ who. who < 0 + n) → IfSome o (λ who. who < n)
    from_zero None n there = tt
    from_zero (Some who) n there = omega (arith, there)

adds_by : (said : LogLine) (before after : Read) → read_with said before ≡ Some after → Adds before after
adds_by Skip before after e = let same : with_skip before ≡ after = cc in inl (sym same)
adds_by (LogOf name head) before after e = inr (inl (adds_log (may_stand name before) name (setup_said head) before after refl e))
adds_by (EventOf name event) before after e = inr (inr (inl (adds_event (place_of name before.names) (event_said event) before after refl (within before name) e)))
adds_by (EntryOf entry) before after e = inr (inr (inr (adds_entry before.last (entry_said entry) before after refl e)))

-- what is taken stands among the lines that may be, and adds something
pub record Takes (before after : Read) : Type 0 where
  pub few : before.count < 100000
  pub adds : Adds before after

takes_by : (b : Bool) (said : LogLine) (before after : Read) → nat_lt before.count most_lines ≡ b → (if b then read_with said before else None) ≡ Some after → Takes before after
takes_by true said before after few e = record { few = ltb-true before.count most_lines few; adds = adds_by said before after e }
takes_by false said before after few e = absurd (cc)

pub takes_of : (said : LogLine) (before after : Read) → taken said before ≡ Some after → Takes before after
takes_of said before after e = takes_by (nat_lt before.count most_lines) said before after refl e

added_count : (before after : Read) → Adds before after → after.count ≡ before.count + 1
added_count before after adds = elim adds [
  | inl skip ↦ ap (λ r. r.count) skip
  | inr other ↦ (elim other [
    | inl log ↦ ap (λ r. r.count) log.is
    | inr rest ↦ (elim rest [ inl event ↦ ap (λ r. r.count) event.is | inr entry ↦ ap (λ r. r.count) entry.is ])
  ])
]

-- a line more was read
pub taken_count : (said : LogLine) (before after : Read) → taken said before ≡ Some after → after.count ≡ before.count + 1
taken_count said before after e = added_count before after (takes_of said before after e).adds
