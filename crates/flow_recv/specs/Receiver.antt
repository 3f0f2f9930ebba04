-- What a receiving flow keeps, and how each call changes it.
use Rattle.std.specs.Prelude.{ℕ, ◌≡◌, ◌<◌, ◌≤◌, ◌+◌, ◌-◌, ◌==◌, if◌then◌else◌, nat_le, nat_lt, min}
use Rattle.std.specs.Prelude.{max, not, Bool, true, ◌&&◌, List, [], ◌∷◌, Option, Some, None, length}
use Rattle.std.specs.List.{filter, sum_by, list_any}
use Rattle.rtmfp_data_chunks.specs.HandsOver.{IsIn}
use Rattle.flow_recv.specs.declared.spans.Span.{Span}
use Rattle.rtmfp_data_chunks.specs.Runs.{Chunk, Run, single, fits, joined, is_whole, is_dead}
use Rattle.rtmfp_data_chunks.specs.Runs.{is_ready}

-- the spans, by rising number and apart, are the numbers that aren't missing. The runs are those
-- that are neither dead nor handed over
pub record Receiver : Type 0 where
  pub arriving : Bool
  pub spans : List Span
  pub runs : List Run
  pub last : Option ℕ
  pub highest : ℕ

abbrev pub span : ℕ → ℕ → Span
span first last = record { first = first; last = last }

-- number 0 is never missing
abbrev pub fresh : Bool → Receiver
fresh arriving = record {
  arriving = arriving;
  spans = span 0 0 ∷ [];
  runs = [];
  last = None;
  highest = 0;
}

abbrev pub covers : ℕ → Span → Bool
covers n s = nat_le s.first n && nat_le n s.last

abbrev pub knows : List Span → ℕ → Bool
knows spans n = list_any (covers n) spans

-- is number n missing
abbrev pub lacks : List Span → ℕ → Bool
lacks spans n = not (knows spans n)

-- the spans with the numbers from first through last, where those that touch are joined
abbrev pub add_span : ℕ → ℕ → List Span → List Span
add_span first last [] = span first last ∷ []
add_span first last (s ∷ later) =
    if nat_lt (s.last + 1) first then s ∷ add_span first last later
    else if nat_lt (last + 1) s.first then span first last ∷ s ∷ later
    else add_span (min first s.first) (max last s.last) later

-- the spans go upward and don't touch
abbrev pub Apart : List Span → Type 0
Apart [] = Unit {0}
Apart (s ∷ later) = (s.first ≤ s.last) × ((t : Span) → IsIn t later → s.last + 1 < t.first) ×
    Apart later

-- the first one begins with 0
abbrev pub FromZero : List Span → Type 0
FromZero [] = ⊥
FromZero (s ∷ later) = s.first ≡ 0

-- the greatest number at or below which none is missing
abbrev pub end_of_first : List Span → ℕ
end_of_first [] = 0
end_of_first (s ∷ later) = s.last

abbrev pub through_in : Receiver → ℕ
through_in r = end_of_first r.spans

-- the runs with one more fragment, joined to the run before it and to the run after it where they
-- fit
abbrev pub join_next : Run → List Run → List Run
join_next x [] = x ∷ []
join_next x (y ∷ later) = if fits x y then joined x y ∷ later else x ∷ y ∷ later

abbrev pub join_before : Run → List Run → List Run
join_before x [] = x ∷ []
join_before x (y ∷ later) = if fits y x then join_next (joined y x) later
    else join_next x (y ∷ later)

abbrev pub add_run : Run → List Run → List Run
add_run x [] = x ∷ []
add_run x (y ∷ later) = if not (fits y x) && nat_lt y.last x.first then y ∷ add_run x later
    else join_before x (y ∷ later)

abbrev pub is_alive : List Span → Run → Bool
is_alive spans y = not (is_dead (lacks spans) y)

-- it has a number, or lies directly before or after it
abbrev pub is_beside : ℕ → Run → Bool
is_beside n y = nat_le (y.first - 1) n && nat_le n (y.last + 1)

-- the dead runs are dropped
abbrev pub living : List Span → List Run → List Run
living spans runs = filter (is_alive spans) runs

abbrev pub held_in : List Run → ℕ
held_in runs = sum_by (λ y. length y.bytes) runs

-- after a forward number: nothing at or below it is missing
abbrev pub spans_forward : Receiver → Chunk → List Span
spans_forward r c = add_span 0 c.forward r.spans

abbrev pub runs_forward : Receiver → Chunk → List Run
runs_forward r c = living (spans_forward r c) r.runs

-- after a whole chunk: its number isn't missing any more
abbrev pub spans_after : Receiver → Chunk → List Span
spans_after r c = add_span c.seq c.seq (spans_forward r c)

-- it is held where the chunk has no abandon and the number was missing
abbrev pub holds : Receiver → Chunk → Bool
holds r c = not c.abandon && lacks r.spans c.seq

abbrev pub runs_after : Receiver → Chunk → List Run
runs_after r c = living (spans_after r c) (if holds r c then
    add_run (single c.seq c.part c.bytes) r.runs else r.runs)

abbrev pub taken : Receiver → Chunk → Receiver
taken r c =
    record {
      arriving = r.arriving;
      spans = spans_after r c;
      runs = runs_after r c;
      last = if c.last then Some c.seq else r.last;
      highest = max c.seq r.highest;
    }

-- where the chunk is after the final one: the known last number, or the highest taken
abbrev pub after_last : Option ℕ → ℕ → Chunk → Option ℕ
after_last None highest c = if c.last && nat_lt c.seq highest then Some highest else None
after_last (Some n) highest c = if nat_lt n c.seq then Some n
    else if c.last && nat_lt c.seq n then Some n else None

abbrev pub after_final : Receiver → Chunk → Option ℕ
after_final r c = after_last r.last r.highest c

-- the bytes of a chunk that count for the buffer
abbrev pub counted : Chunk → ℕ
counted c = if c.abandon then 0 else length c.bytes

-- the buffer's limits, by the lowest missing number and the bytes held as if the forward number
-- were taken already
abbrev pub passes_buffer : ℕ → ℕ → Chunk → Bool
passes_buffer lowest held c =
    if c.seq == lowest then nat_lt 3145728 (held + counted c)
    else if nat_lt 2097152 (held + counted c) then true else nat_lt (lowest + 65536) c.seq

-- the bytes held, where the chunk is refused for them
abbrev pub beyond_buffer : Receiver → Chunk → Option ℕ
beyond_buffer r c =
    if lacks r.spans c.seq && nat_lt c.forward c.seq
    && passes_buffer (end_of_first (spans_forward r c) + 1) (held_in (runs_forward r c)) c
    then Some (held_in (runs_forward r c)) else None

-- whether a run may be handed over: it is whole, and in queueing order nothing below it is missing
abbrev pub hands : Bool → ℕ → Run → Bool
hands arriving through y = if arriving then is_whole y else is_ready through y

abbrev pub may_hand : Receiver → Run → Bool
may_hand r y = hands r.arriving (through_in r) y

-- the first run that may be handed over
abbrev pub first_of : (Run → Bool) → List Run → Option Run
first_of test [] = None
first_of test (y ∷ later) = if test y then Some y else first_of test later

abbrev pub without_first : (Run → Bool) → List Run → List Run
without_first test [] = []
without_first test (y ∷ later) = if test y then later else y ∷ without_first test later

abbrev pub next_run : Receiver → Option Run
next_run r = first_of (may_hand r) r.runs

abbrev pub handed_next : Receiver → Receiver
handed_next r = record {
  arriving = r.arriving;
  spans = r.spans;
  runs = without_first (may_hand r) r.runs;
  last = r.last;
  highest = r.highest;
}
