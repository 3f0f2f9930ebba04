-- Logs as contracts see them: what an end was given, and its events.
use Rattle.std.specs.Prelude.{ℕ, List, [], map, false, replicate}
use Rattle.endpoint_model.specs.declared.config.Draws.{Draws}
use Rattle.endpoint_model.specs.Event.{Setup, Call, Open, Seek, Cancel, Unseek, Close, Learn, Advance, Receive, Tick, Introduce, Done, Event}
use Rattle.log_values.specs.declared.log.LoggedCall.{LoggedCall}
use Rattle.log_values.specs.declared.log.LoggedCall.TheVariants.{Open as OpenCall, Seek as SeekCall, Cancel as CancelCall, Unseek as UnseekCall, Close as CloseCall, Learn as LearnCall, Advance as AdvanceCall, Receive as ReceiveCall, Tick as TickCall, Other as OtherCall}
use Rattle.log_values.specs.declared.log.Logged.{Logged}
use Rattle.log_values.specs.declared.log.EndLog.{EndLog}

-- what a call drew, as far as logs tell it: the table of lawful logs asks of nothing else
abbrev pub draws_of : List ℕ → List ℕ → Draws
draws_of nonce tag = record { nonce = nonce; tag = tag; token = replicate 16 0; word = 0 }

-- no tag is told of calls that begin neither an attempt nor a search
abbrev pub no_tag : List ℕ
no_tag = replicate 16 0

-- The call, where to nothing was said; a call of another kind is one of which nothing is asked.
abbrev pub call_of : List ℕ → LoggedCall → Call
call_of nonce (OpenCall peer tag) = Open peer [] (draws_of nonce tag)
call_of nonce (SeekCall name tag) = Seek name [] (draws_of nonce tag)
call_of nonce (CancelCall n) = Cancel n
call_of nonce (UnseekCall near) = Unseek near
call_of nonce (CloseCall near) = Close near
call_of nonce (LearnCall secret) = Learn secret
call_of nonce AdvanceCall = Advance
call_of nonce (ReceiveCall from datagram) = Receive from datagram (draws_of nonce no_tag)
call_of nonce TickCall = Tick (draws_of nonce no_tag)
call_of nonce OtherCall = Introduce

-- the moment that a call is given, 0 for one that is given none
abbrev pub moment_of : LoggedCall → ℕ → ℕ
moment_of (OpenCall peer tag) moment = moment
moment_of (SeekCall name tag) moment = moment
moment_of (CancelCall n) moment = 0
moment_of (UnseekCall near) moment = 0
moment_of (CloseCall near) moment = moment
moment_of (LearnCall secret) moment = 0
moment_of AdvanceCall moment = 0
moment_of (ReceiveCall from datagram) moment = moment
moment_of TickCall moment = moment
moment_of OtherCall moment = 0

-- the event, gone through to its end
abbrev pub event_of : Logged → Event
event_of l = record {
  moment = moment_of l.call l.moment;
  call = call_of l.nonce l.call;
  answer = Done;
  entries = l.entries.items;
}

-- the events of a log, the oldest first
abbrev pub events_of : EndLog → List Event
events_of log = map event_of log.events.items

-- what the end was given
abbrev pub setup_of : EndLog → Setup
setup_of log = record {
  config = record {
    max_peers = log.max_peers;
    max_sessions = log.max_sessions;
    introduces = false;
  };
  cert = log.cert;
  generation = log.generation;
  secret = log.secret;
  cookie_secret = log.cookie_secret;
}
