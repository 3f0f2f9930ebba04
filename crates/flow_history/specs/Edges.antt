-- Messages and histories for rows: what a flow owes, and what is of which flow.
use Rattle.std.specs.Prelude.{ℕ, ◌≡◌, false, [], ◌∷◌, None}
use Rattle.rtmfp_data_chunks.specs.Fragments.{Message}
use Rattle.rtmfp_data_chunks.specs.HandsOver.{HandsOver, HandsOnce}
use Rattle.flow_exchange.specs.Sending.{Queues}
use Rattle.flow_history.specs.Deeds.{Context, Name, name, Deed, Begins, OpensFlow, ActsOn}
use Rattle.flow_history.specs.Deeds.{done, History}
use Rattle.flow_history.specs.Log.{log_of, queued_of}
use Rattle.flow_history.specs.Lively.{there}
use Rattle.flow_history.specs.Broken.{said}

-- a message of two bytes, of which said 1 7 is the front
abbrev pub longer : Message
longer = record { number = 1; bytes = 7 ∷ 8 ∷ [] }

-- messages 1 and 2 were queued
pub record InQueueingOrder : Type 0 where
  -- both are handed over, or the second alone, where the first is abandoned
  pub both : HandsOver (said 2 8 ∷ said 1 7 ∷ []) [] (said 1 7 ∷ said 2 8 ∷ [])
  pub skips : HandsOver (said 2 8 ∷ said 1 7 ∷ []) (1 ∷ []) (said 2 8 ∷ [])
  -- the first isn't passed over else
  pub passes : HandsOver (said 2 8 ∷ said 1 7 ∷ []) [] (said 2 8 ∷ []) → ⊥
  pub wrong_one : HandsOver (said 2 8 ∷ said 1 7 ∷ []) (2 ∷ []) (said 2 8 ∷ []) → ⊥
  -- neither the first after the second, nor one twice
  pub falls : HandsOver (said 2 8 ∷ said 1 7 ∷ []) [] (said 2 8 ∷ said 1 7 ∷ []) → ⊥
  pub twice : HandsOver (said 2 8 ∷ said 1 7 ∷ []) [] (said 1 7 ∷ said 1 7 ∷ []) → ⊥
  -- no part of a message, and none with other bytes
  pub part : HandsOver (longer ∷ []) [] (said 1 7 ∷ []) → ⊥
  pub other : HandsOver (said 1 7 ∷ []) [] (said 1 8 ∷ []) → ⊥

pub record InArrivalOrder : Type 0 where
  pub later_first : HandsOnce (said 2 8 ∷ said 1 7 ∷ []) (said 2 8 ∷ said 1 7 ∷ [])
  pub alone : HandsOnce (said 2 8 ∷ said 1 7 ∷ []) (said 2 8 ∷ [])
  pub twice : HandsOnce (said 2 8 ∷ said 1 7 ∷ []) (said 1 7 ∷ said 1 7 ∷ []) → ⊥
  pub part : HandsOnce (longer ∷ []) (said 1 7 ∷ []) → ⊥

-- a session after that of `there`, between the same ends
abbrev pub next_there : Context
next_there = record {
  session = record there.session { nr = 9 ∷ [] };
  to_responder = there.to_responder;
}

abbrev pub queue_on : Name → ℕ → Deed
queue_on n b = ActsOn n (Queues (b ∷ []) (record { deadline = None; resends = None }))

-- An end queues 7 on flow 0 of the one and 8 on flow 0 of the other.
abbrev pub two_sessions : History
two_sessions =
    done 1 (queue_on (name next_there 0) 8) ∷ done 1 (queue_on (name there 0) 7)
    ∷ done 1 (OpensFlow (name next_there 0) false) ∷ done 1 (Begins next_there)
    ∷ done 1 (OpensFlow (name there 0) false) ∷ done 1 (Begins there) ∷ []

-- Each flow has its own.
pub record FlowsAreApart : Type 0 where
  pub first : queued_of (name there 0) (log_of two_sessions) ≡ said 1 7 ∷ []
  pub second : queued_of (name next_there 0) (log_of two_sessions) ≡ said 1 8 ∷ []
  pub another : queued_of (name there 1) (log_of two_sessions) ≡ []
