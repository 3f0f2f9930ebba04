-- The exchange step by step.
use Rattle.std.proofs.Common.{◌≡◌, ℕ, zero, suc, ◌≤◌, Bool, true, false, List, [], ◌∷◌, ◌++◌, slice_get, Option, Some, refl, ap, sym, ◌∙◌, subst, inl, inr}
use Rattle.rtmfp_data_chunks.specs.Runs.{Chunk}
use Rattle.rtmfp_data_chunks.specs.HandsOver.{IsIn, HandsOver, HandsOnce}
use Rattle.flow_exchange.specs.Exchange.{Ack}
use Rattle.flow_exchange.specs.Pair.{Happening, Takes, Hears, Pair, pair, takes, hears, happens, exchanged}
use Rattle.flow_exchange.specs.Related.{IsExchange}
use Rattle.flow_exchange.proofs.Pairing.{exchanged_in_order, exchanged_arriving}

-- where a member of a list is
place : {A : Type 0} → (x : A) (xs : List A) → IsIn x xs → (k : ℕ) × (slice_get xs k ≡ Some x)
place x [] h = absurd h
place x (y ∷ ys) (inl e) = (zero, ap (λ z. Some z) (sym e))
place x (y ∷ ys) (inr h) = let r = place x ys h in (suc r.0, r.1)

one_more : (p : Pair) (es : List Happening) (e : Happening) → exchanged p (es ++ e ∷ []) ≡ happens (exchanged p es) e
one_more p [] e = refl
one_more p (x ∷ es) e = one_more (happens p x) es e

pub begun : (arriving : Bool) (first : ℕ) → 1 ≤ first → IsExchange arriving (pair first arriving)
begun arriving first one = record { first = first; begins = one; events = []; leads = refl }

pub step : (arriving : Bool) (p : Pair) (e : Happening) → IsExchange arriving p → IsExchange arriving (happens p e)
step arriving p e x = record {
  first = x.first;
  begins = x.begins;
  events = x.events ++ e ∷ [];
  leads = one_more (pair x.first arriving) x.events e ∙ ap (λ (q : Pair). happens q e) x.leads;
}

pub taking : (arriving : Bool) (p : Pair) (c : Chunk) → IsIn c p.world.sent → IsExchange arriving p → IsExchange arriving (takes p (Some c))
taking arriving p c h x =
    let k = place c p.world.sent h in
    subst (λ (o : Option Chunk). IsExchange arriving (takes p o)) k.1 (step arriving p (Takes k.0) x)

pub hearing : (arriving : Bool) (p : Pair) (blocks : ℕ) (a : Ack) → IsIn a p.world.told → IsExchange arriving p → IsExchange arriving (hears p blocks (Some a))
hearing arriving p blocks a h x =
    let k = place a p.world.told h in
    subst (λ (o : Option Ack). IsExchange arriving (hears p blocks o)) k.1 (step arriving p (Hears k.0 blocks) x)

pub hands_in_order : (p : Pair) → IsExchange false p → HandsOver p.world.queued p.world.abandoned p.world.handed
hands_in_order p x = subst (λ (q : Pair). HandsOver q.world.queued q.world.abandoned q.world.handed) x.leads (exchanged_in_order x.first x.events x.begins)

pub hands_arriving : (p : Pair) → IsExchange true p → HandsOnce p.world.queued p.world.handed
hands_arriving p x = subst (λ (q : Pair). HandsOnce q.world.queued q.world.handed) x.leads (exchanged_arriving x.first x.events x.begins)
