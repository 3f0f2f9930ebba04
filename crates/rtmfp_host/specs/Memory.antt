-- What the sources and sinks in memory hold.
use Rattle.std.specs.Prelude.{ℕ, List, drop, take, Option, Some, None, if◌then◌else◌}
use Rattle.rtmfp_host.specs.Plan.{Planned}
use Rattle.rtmfp_host.specs.Seen.{SinkSeen, SourceSeen}
use Rattle.rtmfp_host.specs.declared.memory_source.MemorySource.{MemorySource}
use Rattle.rtmfp_host.specs.declared.memory_source.FaultySource.{FaultySource}
use Rattle.rtmfp_host.specs.declared.memory_sink.MemorySink.{MemorySink}
use Rattle.rtmfp_host.specs.declared.memory_sink.FaultySink.{FaultySink}

-- the bytes that are left
abbrev pub source_left : MemorySource → List ℕ
source_left s = drop s.at s.bytes.items

-- the bytes that were left before the last read
abbrev pub source_asked : MemorySource → List ℕ
source_asked s = drop s.asked_at s.bytes.items

abbrev pub faulty_source_left : FaultySource → List ℕ
faulty_source_left s = source_left s.source

abbrev pub faulty_source_asked : FaultySource → List ℕ
faulty_source_asked s = source_asked s.source

-- the bytes that were taken, as long as they were all kept
abbrev pub sink_written : MemorySink → Option (List ℕ)
sink_written s = if s.whole then Some s.bytes.items else None

abbrev pub faulty_sink_written : FaultySink → Option (List ℕ)
faulty_sink_written s = sink_written s.sink

-- how many of the first of them were passed on, and these
abbrev pub passed_count : FaultySink → ℕ
passed_count s = s.passed

abbrev pub faulty_sink_passed : FaultySink → Option (List ℕ)
faulty_sink_passed s = if s.sink.whole then Some (take s.passed s.sink.bytes.items) else None

abbrev pub source_plan : FaultySource → Planned
source_plan s = s.plan

abbrev pub source_faults : FaultySource → ℕ
source_faults s = s.faults

abbrev pub write_plan : FaultySink → Planned
write_plan s = s.writes

abbrev pub flush_plan : FaultySink → Planned
flush_plan s = s.flushes

-- how many of its first bytes a write that fails takes
abbrev pub front_count : FaultySink → ℕ
front_count s = s.front

abbrev pub sink_faults : FaultySink → ℕ
sink_faults s = s.faults

-- ---- what is seen of each

abbrev pub source_seen : MemorySource → SourceSeen
source_seen s = record { left = Some (source_left s); asked = Some (source_asked s); faults = 0 }

abbrev pub faulty_source_seen : FaultySource → SourceSeen
faulty_source_seen s = record {
  left = Some (faulty_source_left s);
  asked = Some (faulty_source_asked s);
  faults = source_faults s;
}

abbrev pub sink_seen : MemorySink → SinkSeen
sink_seen s = record { written = sink_written s; passed = sink_written s; faults = 0 }

abbrev pub faulty_sink_seen : FaultySink → SinkSeen
faulty_sink_seen s = record {
  written = faulty_sink_written s;
  passed = faulty_sink_passed s;
  faults = sink_faults s;
}
