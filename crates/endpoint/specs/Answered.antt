-- What each call answers, as what a call answers that is handed over as one value.
use Rattle.std.specs.Prelude.{ℕ, Result, Ok, Err}
use Rattle.rtmfp_base.specs.declared.memory.Memory.{Memory}
use Rattle.introducer.specs.declared.refusal.RowRefusal.{RowRefusal}
use Rattle.session_flows.specs.declared.refusal.CallRefusal.{CallRefusal}
use Rattle.endpoint_model.specs.declared.answers.OpenRefusal.{OpenRefusal}
use Rattle.endpoint_model.specs.declared.answers.SeekRefusal.{SeekRefusal}
use Rattle.endpoint.specs.declared.call.Answered.{Answered}
use Rattle.endpoint.specs.declared.call.Answered.TheVariants as told

abbrev pub began : Result ℕ OpenRefusal → Answered
began (Ok n) = told.Began n
began (Err refusal) = told.NotOpened refusal

abbrev pub sought : Result ℕ SeekRefusal → Answered
sought (Ok near) = told.Searching near
sought (Err refusal) = told.NotSought refusal

-- a call with the refusals of calls, by what it answers where it is done
abbrev pub done_as : {A : Type 0} → (A → Answered) → Result A CallRefusal → Answered
done_as answer (Ok x) = answer x
done_as answer (Err refusal) = told.Refused refusal

abbrev pub done : Result (Unit {0}) CallRefusal → Answered
done = done_as (λ _. told.Done)

abbrev pub flow_opened : Result ℕ CallRefusal → Answered
flow_opened = done_as (λ flow. told.FlowOpened flow)

abbrev pub queued : Result ℕ CallRefusal → Answered
queued = done_as (λ seq. told.Queued seq)

abbrev pub succeeded : Result ℕ CallRefusal → Answered
succeeded = done_as (λ generation. told.Succeeds generation)

abbrev pub added_row : Result (Unit {0}) RowRefusal → Answered
added_row (Ok unit) = told.Done
added_row (Err refusal) = told.NotAdded refusal

abbrev pub ticked : Result (Unit {0}) Memory → Answered
ticked (Ok unit) = told.Done
ticked (Err memory) = told.OutOfMemory
