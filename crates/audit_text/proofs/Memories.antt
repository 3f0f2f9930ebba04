-- Where memory can be wanting, behind what was read.
use Rattle.std.proofs.Common.{ℕ, List, Option, Some, None}
use Rattle.rtmfp_script.specs.Fields.{◌>>=◌}
use Rattle.audit_text.specs.declared.line.LogCall.{LogCall}
use Rattle.audit_text.specs.declared.line.LogCall.TheVariants.{Open, Seek, Cancel, Unseek, Close, Learn, Advance, Receive, Tick, Other}
use Rattle.audit_text.specs.declared.line.LogEntry.{LogEntry}
use Rattle.audit_text.specs.declared.line.LogLine.TheVariants.{Entry}
use Rattle.audit_text.specs.Readings.{CallTakesMemory, EntryTakesMemory, LineTakesMemory, event_said}

pub event_takes : (name : List ℕ) (moment : ℕ) (nonce : List ℕ) (o : Option LogCall) → CallTakesMemory o → LineTakesMemory (o >>= λ call. event_said name moment nonce call)
unfolding event_said
event_takes name moment nonce None h = absurd h
event_takes name moment nonce (Some (Open peer tag)) h = absurd h
event_takes name moment nonce (Some (Seek service tag)) h = absurd h
event_takes name moment nonce (Some (Cancel n)) h = absurd h
event_takes name moment nonce (Some (Unseek near)) h = absurd h
event_takes name moment nonce (Some (Close near)) h = absurd h
event_takes name moment nonce (Some (Learn secret)) h = absurd h
event_takes name moment nonce (Some Advance) h = absurd h
event_takes name moment nonce (Some (Receive from datagram)) h = tt
event_takes name moment nonce (Some Tick) h = absurd h
event_takes name moment nonce (Some Other) h = absurd h
