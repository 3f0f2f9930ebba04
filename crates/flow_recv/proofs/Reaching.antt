-- Each call of a receiver that calls lead to leads on to another.
use Rattle.std.proofs.Common.{◌≡◌, ◌<◌, ◌≤◌, false, List, [], ◌∷◌, ◌++◌, Option, Some, None, refl, ap, sym, ◌∙◌}
use Rattle.rtmfp_data_chunks.specs.Runs.{Chunk, Run}
use Rattle.flow_recv.specs.Receiver.{Receiver, fresh, taken, next_run, handed_next}
use Rattle.flow_recv.specs.Reached.{Call, Takes, Hands, Receiving, at_first, hands_over, calls, all_calls, IsProper, AllProper, IsReached}

-- one more call at the end
all_more : (w : Receiving) (es : List Call) (e : Call) → all_calls w (es ++ e ∷ []) ≡ calls (all_calls w es) e
all_more w [] e = refl
all_more w (first ∷ es) e = all_more (calls w first) es e

proper_more : (es : List Call) (e : Call) → AllProper es → IsProper e → AllProper (es ++ e ∷ [])
proper_more [] e are is = (is, tt)
proper_more (first ∷ es) e are is = (are.0, proper_more es e are.1 is)

hands_to : (w : Receiving) (o : Option Run) (y : Run) → o ≡ Some y → (hands_over w o).receiver ≡ handed_next w.receiver
hands_to w None y e = absurd cc
hands_to w (Some x) y e = refl

-- a new receiver
pub reached_new : (r : Receiver) → r ≡ fresh r.arriving → IsReached r
reached_new r e = record { events = []; proper = tt; leads = sym e }

-- a chunk more
pub reached_taken : (r : Receiver) (c : Chunk) → IsReached r → c.forward ≤ c.seq → (c.abandon ≡ false → c.forward < c.seq) → IsReached (taken r c)
reached_taken r c is low below = record {
  events = is.events ++ Takes c ∷ [];
  proper = proper_more is.events (Takes c) is.proper (low, below);
  leads = ap (λ (w : Receiving). w.receiver) (all_more (at_first r.arriving) is.events (Takes c)) ∙ ap (λ (s : Receiver). taken s c) is.leads;
}

-- a message more that is handed over
pub reached_handed : (r : Receiver) (y : Run) → IsReached r → next_run r ≡ Some y → IsReached (handed_next r)
reached_handed r y is next =
    let w = all_calls (at_first r.arriving) is.events in
    record {
      events = is.events ++ Hands ∷ [];
      proper = proper_more is.events Hands is.proper tt;
      leads = ap (λ (v : Receiving). v.receiver) (all_more (at_first r.arriving) is.events Hands)
          ∙ (hands_to w (next_run w.receiver) y (ap next_run is.leads ∙ next) ∙ ap handed_next is.leads);
    }
