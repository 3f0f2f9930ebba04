-- What a flow between many ends hands over.
use Rattle.std.proofs.Common.{ℕ, true, false, List, sym, subst}
use Rattle.rtmfp_data_chunks.specs.Fragments.{Message}
use Rattle.rtmfp_data_chunks.specs.HandsOver.{HandsOver, HandsOnce}
use Rattle.flow_exchange.specs.Exchange.{World}
use Rattle.flow_exchange.proofs.Handing.{in_order_owes, Arriving}
use Rattle.flow_history.specs.Flow.{Steps}
use Rattle.flow_history.specs.Run.{IsRun, IsOrdered, queued_in, abandoned_in, handed_in}
use Rattle.flow_history.proofs.Tied.{Noted, Tied, tied}

over_noted : (w : World) (h : Steps) → Noted w h → HandsOver w.queued w.abandoned w.handed →
    HandsOver (queued_in h) (abandoned_in h) (handed_in h)
over_noted w h n k =
    subst (λ (q : List Message). HandsOver q (abandoned_in h) (handed_in h)) (sym n.queued)
    (subst (λ (a : List ℕ). HandsOver w.queued a (handed_in h)) (sym n.abandoned)
    (subst (λ (m : List Message). HandsOver w.queued w.abandoned m) (sym n.handed) k))

once_noted : (w : World) (h : Steps) → Noted w h → HandsOnce w.queued w.handed →
    HandsOnce (queued_in h) (handed_in h)
once_noted w h n k =
    subst (λ (q : List Message). HandsOnce q (handed_in h)) (sym n.queued)
    (subst (λ (m : List Message). HandsOnce w.queued m) (sym n.handed) k)

pub hands_over : (h : Steps) → IsRun h → IsOrdered false h →
    HandsOver (queued_in h) (abandoned_in h) (handed_in h)
hands_over h run order = let k : Tied false h = tied false h run order in
    over_noted k.0.world h k.1.noted (in_order_owes k.0.world k.1.linked.owed)

pub hands_once : (h : Steps) → IsRun h → IsOrdered true h → HandsOnce (queued_in h) (handed_in h)
hands_once h run order =
    let k : Tied true h = tied true h run order in
    let a : Arriving k.0.world = k.1.linked.owed in
    once_noted k.0.world h k.1.noted (record { differ = a.differ; were_queued = a.handed })
