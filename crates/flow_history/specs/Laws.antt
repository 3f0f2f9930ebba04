-- The laws of flows between many ends.
use Rattle.std.specs.Prelude.{◌⊎◌, true, false, ◌++◌}
use Rattle.rtmfp_data_chunks.specs.HandsOver.{HandsOver, HandsOnce}
use Rattle.flow_history.specs.Flow.{Steps}
use Rattle.flow_history.specs.Run.{IsRun, IsOrdered, queued_in, abandoned_in, handed_in}
use Rattle.flow_history.specs.Deeds.{Name, History}
use Rattle.flow_history.specs.Lawful.{IsLawful, IsHonest}
use Rattle.flow_history.specs.Log.{HasOrder, log_of, queued_of, abandoned_of, handed_of}

-- ---- one flow

-- in queueing order
abbrev pub EachFlowHandsOver : Type 0
EachFlowHandsOver = (steps : Steps) → IsRun steps → IsOrdered false steps →
    HandsOver (queued_in steps) (abandoned_in steps) (handed_in steps)

-- in arrival order
abbrev pub EachFlowHandsOnce : Type 0
EachFlowHandsOnce = (steps : Steps) → IsRun steps → IsOrdered true steps →
    HandsOnce (queued_in steps) (handed_in steps)

-- ---- each flow of each lawful and honest history, at each moment of it

abbrev pub EachHistoryHandsOver : Type 0
EachHistoryHandsOver =
    (later early : History) → IsLawful (later ++ early) → IsHonest (later ++ early) →
    (n : Name) → HasOrder false n early →
    HandsOver (queued_of n (log_of early)) (abandoned_of n (log_of early))
    (handed_of n (log_of early))

abbrev pub EachHistoryHandsOnce : Type 0
EachHistoryHandsOnce =
    (later early : History) → IsLawful (later ++ early) → IsHonest (later ++ early) →
    (n : Name) → HasOrder true n early →
    HandsOnce (queued_of n (log_of early)) (handed_of n (log_of early))

-- A flow is opened once at most, so it has one of the two orders.
abbrev pub EachFlowHasAnOrder : Type 0
EachFlowHasAnOrder = (h : History) → IsLawful h → IsHonest h → (n : Name) →
    HasOrder false n h ⊎ HasOrder true n h
