-- What a session keeps, as flows by their IDs.
use Rattle.std.specs.Prelude.{ℕ, ◌≡◌, ◌^◌, ◌<◌, List, [], ◌∷◌}
use Rattle.std.specs.List.{AllByRecursion}
use Rattle.std.specs.Option.{option_map}
use Rattle.rtmfp_forms.specs.Options.{OptionsSpell, options_bytes}
use Rattle.rtmfp_data_chunks.specs.FlowOptions.{metadata_in}
use Rattle.flow_recv.specs.declared.spans.Span.{Span}
use Rattle.flow_recv.specs.Receiver.{Receiver, Apart}
use Rattle.flow_send.specs.Flow.{Flow}
use Rattle.flow_send.specs.Steady.{Steady}
use Rattle.flow_history.specs.Flow.{Opened}
use Rattle.flow_history.specs.Keeping.{Flows}
use Rattle.session_flows.specs.declared.taking.TakingFlow.{TakingFlow}
use Rattle.session_flows.specs.Keeping.{FlowsState, sending_at, taking_at}
use Rattle.session_flows.specs.Causes.{order_of}
use Rattle.session_flows.specs.Laws.{IsSound}

-- a sending flow: the order that its metadata tells, and its sender
abbrev pub opened_of : Flow → Opened
opened_of f = record { arriving = order_of (metadata_in f.options); sender = f.sender }

abbrev pub receiver_of : TakingFlow → Receiver
receiver_of t = t.receiver

-- What a sending flow gives can be written: its numbers are of 64 bits, and its options have a
-- spelling.
pub record IsWritable (f : Flow) : Type 0 where
  pub steady : Steady f.sender
  pub options : OptionsSpell f.options (options_bytes f.options)

-- they end with numbers of 64 bits
abbrev pub AreNarrow : List Span → Type 0
AreNarrow [] = Unit {0}
AreNarrow (x ∷ later) = (x.last < 2 ^ 64) × AreNarrow later

-- What a receiving flow tells can be written: its numbers are of 64 bits, and its spans rise.
pub record IsTellable (t : TakingFlow) : Type 0 where
  pub id : t.id < 2 ^ 64
  pub apart : Apart t.receiver.spans
  pub narrow : AreNarrow t.receiver.spans

-- The session keeps just these flows, those that it opened and those that it made, and what they
-- give and tell can be written.
pub record Shows (s : FlowsState) (fl : Flows) : Type 0 where
  pub opened : (id : ℕ) → fl.opened id ≡ option_map opened_of (sending_at s id)
  pub made : (id : ℕ) → fl.made id ≡ option_map receiver_of (taking_at s id)
  pub sound : IsSound s
  pub writable : AllByRecursion IsWritable s.sending
  pub tellable : AllByRecursion IsTellable s.taking
