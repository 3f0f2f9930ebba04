-- What the lines of logs say, as values of logs.
use Rattle.std.specs.Prelude.{[], false}
use Rattle.endpoint_model.specs.Event.{Setup, Event, Done}
use Rattle.endpoint_model.specs.declared.entry.Entry.{Entry}
use Rattle.endpoint_model.specs.declared.entry.Entry.TheVariants.{Fact as IsFact, Closed as IsClosed, Sought as IsSought, Unsought as IsUnsought, Learnt as IsLearnt, Advanced as IsAdvanced, Out as IsOut}
use Rattle.log_values.specs.declared.log.LoggedCall.{LoggedCall}
use Rattle.log_values.specs.declared.log.LoggedCall.TheVariants.{Open as IsOpen, Seek as IsSeek, Cancel as IsCancel, Unseek as IsUnseek, Close as IsClose, Learn as IsLearn, Advance as IsAdvance, Receive as IsReceive, Tick as IsTick, Other as IsOther}
use Rattle.log_values.specs.Events.{call_of, moment_of}
use Rattle.audit_text.specs.declared.line.LogCall.{LogCall}
use Rattle.audit_text.specs.declared.line.LogCall.TheVariants.{Open, Seek, Cancel, Unseek, Close, Learn, Advance, Receive, Tick, Other}
use Rattle.audit_text.specs.declared.line.LogEntry.{LogEntry}
use Rattle.audit_text.specs.declared.line.LogEntry.TheVariants.{Fact, Closed, Sought, Unsought, Learnt, Advanced, Out}
use Rattle.audit_text.specs.declared.line.LogEvent.{LogEvent}
use Rattle.audit_text.specs.declared.line.LogHead.{LogHead}

abbrev pub call_said : LogCall → LoggedCall
call_said (Open peer tag) = IsOpen peer tag
call_said (Seek name tag) = IsSeek name tag
call_said (Cancel n) = IsCancel n
call_said (Unseek near) = IsUnseek near
call_said (Close near) = IsClose near
call_said (Learn secret) = IsLearn secret
call_said Advance = IsAdvance
call_said (Receive from datagram) = IsReceive from datagram
call_said Tick = IsTick
call_said Other = IsOther

-- an event, so far without entries
abbrev pub event_said : LogEvent → Event
event_said e = record {
  moment = moment_of (call_said e.call) e.moment;
  call = call_of e.nonce (call_said e.call);
  answer = Done;
  entries = [];
}

abbrev pub entry_said : LogEntry → Entry
entry_said (Fact fact) = IsFact fact
entry_said (Closed near) = IsClosed near
entry_said (Sought near name) = IsSought near name
entry_said (Unsought near why) = IsUnsought near why
entry_said (Learnt generation) = IsLearnt generation
entry_said (Advanced generation) = IsAdvanced generation
entry_said (Out to datagram context) = IsOut to datagram context

-- what an end was given first
abbrev pub setup_said : LogHead → Setup
setup_said head = record {
  config = record {
    max_peers = head.max_peers;
    max_sessions = head.max_sessions;
    introduces = false;
  };
  cert = head.cert;
  generation = head.generation;
  secret = head.secret;
  cookie_secret = head.cookie_secret;
}
