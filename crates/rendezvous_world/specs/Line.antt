-- What a line of the journal tells, and how it is kept.
use Rattle.std.specs.Prelude.{ℕ, ◌≡◌, List, [], Option, Some, None}
use Rattle.rtmfp_forms.specs.Address.{AddressParts}
use Rattle.endpoint_model.specs.Added.{Added}
use Rattle.endpoint_model.specs.declared.answers.Stopped.{Stopped as Stop}
use Rattle.rendezvous_world.specs.declared.journal.Refused.{Refused}
use Rattle.rendezvous_world.specs.declared.journal.LineAnswer.{LineAnswer}
use Rattle.rendezvous_world.specs.declared.journal.LineAnswer.TheVariants.{Refused as IsRefused, Stopped as IsStopped}
use Rattle.rendezvous_world.specs.declared.kept.KeptStep.{KeptStep}
use Rattle.rendezvous_world.specs.declared.kept.KeptStep.TheVariants.{Deliver as KeptDeliver, Inject as KeptInject, Tick as KeptTick, Other as KeptOther}
use Rattle.rendezvous_world.specs.declared.step.Step.{Step}
use Rattle.rendezvous_world.specs.declared.step.Step.TheVariants.{Deliver, Inject, Tick}

-- A step that called an end.
pub record LineSeen : Type 0 where
  -- the number of its line in the script
  pub line : ℕ
  -- the end that was called
  pub end : ℕ
  -- the moment of the world
  pub moment : ℕ
  -- the current generation of the group's secret at the end, before the call
  pub generation : ℕ
  pub step : Step
  -- the datagram that reached the end, as it was before the call
  pub datagram : Option (List ℕ)
  -- why the end refused the call
  pub refused : Option Refused
  -- how far a datagram was gone through that found no memory; of a tick that found none it has
  -- false and 0
  pub stopped : Option Stop
  -- what the call added
  pub out : Added

-- ---- as it is kept

-- bytes that were injected stand in the line once, as its datagram
abbrev pub inject_kept : ℕ → AddressParts → Option (List ℕ) → Step
inject_kept end from None = Inject end from []
inject_kept end from (Some bytes) = Inject end from bytes

-- the step that called this end, on a line with this datagram
abbrev pub step_kept : ℕ → Option (List ℕ) → KeptStep → Step
step_kept end datagram (KeptDeliver from number) = Deliver number end from
step_kept end datagram (KeptInject from) = inject_kept end from datagram
step_kept end datagram KeptTick = Tick end
step_kept end datagram (KeptOther step) = step.value

-- The datagram is the one that the step injects; of other steps it says nothing.
abbrev pub IsWith : Option (List ℕ) → Step → Type 0
IsWith datagram (Inject end from bytes) = datagram ≡ Some bytes
IsWith datagram step = Unit {0}

-- The step that called this end is kept so, on a line with its datagram.
abbrev pub IsKeptAs : ℕ → Step → KeptStep → Type 0
IsKeptAs end step kept = (datagram : Option (List ℕ)) → IsWith datagram step →
    step_kept end datagram kept ≡ step

-- why a call was refused, by what is kept of its answer
abbrev pub refused_kept : LineAnswer → Option Refused
refused_kept (IsRefused refusal) = Some refusal
refused_kept answer = None

-- how far it came, if it was stopped
abbrev pub stopped_kept : LineAnswer → Option Stop
stopped_kept (IsStopped stop) = Some stop
stopped_kept answer = None
