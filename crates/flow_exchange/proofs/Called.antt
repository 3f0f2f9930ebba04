-- The laws over lists of calls hold of each receiver that calls lead to.
use Rattle.std.proofs.Common.{Bool, refl, sym, subst}
use Rattle.flow_recv.specs.Receiver.{Receiver}
use Rattle.flow_recv.specs.Reached.{at_first, all_calls, IsReached}
use Rattle.flow_exchange.specs.Stands.{StandsFor}
use Rattle.flow_exchange.specs.Receiving.{HandsInOrder, AllHanded, HandsLowest}
use Rattle.flow_exchange.specs.Receivers.{IsOfItsCalls}
use Rattle.flow_exchange.proofs.Following.{stands, in_order, all_handed}
use Rattle.flow_exchange.proofs.Refusing.{lowest, counts, refuses}

pub of_its_calls : (r : Receiver) → IsReached r → IsOfItsCalls r
of_its_calls r is =
    let es = is.events in
    let w = all_calls (at_first r.arriving) es in
    record {
      events = es;
      proper = is.proper;
      whole = w;
      called = refl;
      kept = is.leads;
      stands = subst (λ (s : Receiver). StandsFor s w.chunks w.handed) is.leads (stands r.arriving es is.proper);
      in_order = λ e. subst (λ (b : Bool). HandsInOrder (all_calls (at_first b) es)) (sym e) (in_order es is.proper);
      arriving = λ e. subst (λ (b : Bool). AllHanded (all_calls (at_first b) es)) (sym e) (all_handed es is.proper);
      lowest = λ e. subst (λ (b : Bool). HandsLowest (all_calls (at_first b) es)) (sym e) (lowest es is.proper);
      counts = counts r.arriving es is.proper;
      refuses = refuses r.arriving es is.proper;
    }
