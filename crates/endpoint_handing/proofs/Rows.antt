-- Rows of what entries tell, and of the calls that open flows.
use Rattle.std.proofs.Common.{◌≡◌, ℕ, Bool, true, false, Option, Some, None, refl, ap, ◌∙◌}
use Rattle.flow_history.specs.Deeds.{Context}
use Rattle.endpoint_handing.specs.Told.{sending_context}
use Rattle.endpoint_handing.specs.Edges.{own, to_here, born, HasItsContext, TellsOfFlows}
use Rattle.endpoint_handing.specs.Edges.{OpensFlows}

pub has_its_context : HasItsContext
has_its_context = record {
  of_born = refl;
  of_opened = refl;
  of_last = refl;
  of_ended = refl;
  of_started = refl;
  of_none = refl;
  of_other = refl;
}

nothing_is : {A : Type 0} (x : A) → ◌≡◌ {A = Option A} None (Some x) → ⊥
nothing_is x e = cc

pub tells_of_flows : TellsOfFlows
tells_of_flows = record {
  queued = refl;
  abandoned = refl;
  handed = refl;
  newest = refl;
  begun = refl;
  early = refl;
  untold = λ all. nothing_is all.0.0 all.0.1;
  no_message = refl;
}

abbrev direction : Option Context → Bool
direction None = false
direction (Some c) = c.to_responder

other_way : (near : ℕ) → 5 ≡ near → sending_context own near born ≡ Some (to_here 3 4) → ⊥
other_way near is e =
    let clash : false ≡ true =
    ap direction (ap (λ (n : ℕ). sending_context own n born) is ∙ e) in cc

pub opens_flows : OpensFlows
opens_flows = record {
  opens = record { near = 5; priority = 2; answers = None; call = refl; opened = refl; context = refl };
  other_flow = λ o. (let e = o.opened in cc);
  way_back = λ o. (let is : 5 ≡ o.near = (let e = o.opened in cc) in other_way o.near is o.context);
  other_metadata = λ o. (let e = o.call in cc);
  not_opened = λ o. (let e = o.opened in cc);
  arriving = refl;
  below = refl;
  above = refl;
  empty = refl;
}
