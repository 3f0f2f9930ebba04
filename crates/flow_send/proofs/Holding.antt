-- What holds of a sender after any calls.
use Rattle.std.proofs.Common.{◌≡◌, ℕ, ◌+◌, ◌^◌, ◌<◌, ◌≤◌, List, [], ◌∷◌}
use Rattle.flow_send.specs.Calls.{Call, Sending, begun, calls, all_calls, sendings}
use Rattle.flow_send.specs.Counted.{all_open, AllCount}
use Rattle.flow_send.proofs.Calling.{Goes, begun_goes, call_goes}
use Rattle.flow_send.proofs.Waitings.{Queues, begun_queues, call_queues}
use Rattle.flow_send.proofs.Countings.{Numbers, all_count, begun_numbers, call_numbers}

record Holds (first : ℕ) (w : Sending) : Type 0 where
  pub goes : Goes first w
  pub queues : Queues first w
  pub numbers : Numbers first w

call_holds : (first : ℕ) (w : Sending) (c : Call) → Holds first w → Holds first (calls w c)
call_holds first w c h = record { goes = call_goes first w c h.goes; queues = call_queues first w c h.goes h.queues; numbers = call_numbers first w c h.goes h.numbers }

calls_hold : (first : ℕ) (w : Sending) (cs : List Call) → Holds first w → Holds first (all_calls w cs)
calls_hold first w [] h = h
calls_hold first w (c ∷ cs) h = calls_hold first (calls w c) cs (call_holds first w c h)

all_hold : (first : ℕ) (cs : List Call) → 1 ≤ first → first < 2 ^ 64 → Holds first (all_calls (begun first) cs)
all_hold first cs one fits = calls_hold first (begun first) cs (record { goes = begun_goes first one fits; queues = begun_queues first one; numbers = begun_numbers first })

pub open_wait : (first : ℕ) (cs : List Call) → 1 ≤ first → first < 2 ^ 64 → (all_calls (begun first) cs).sender.waiting ≡ all_open (all_calls (begun first) cs).done
open_wait first cs one fits = (all_hold first cs one fits).queues.waits

pub rows_count : (first : ℕ) (cs : List Call) → 1 ≤ first → first < 2 ^ 64 → sendings (all_calls (begun first) cs).done < 2 ^ 64
    → AllCount first (all_calls (begun first) cs).done ((all_calls (begun first) cs).sender.forward + 1) (all_calls (begun first) cs).sender.rows
rows_count first cs one fits lt = let w = all_calls (begun first) cs in all_count first w.done (w.sender.forward + 1) w.sender.rows ((all_hold first cs one fits).numbers lt)
