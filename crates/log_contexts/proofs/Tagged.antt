-- Attempts and searches that stand with a tag, by what is kept.
use Rattle.std.proofs.Common.{ℕ, List, ◌≡◌, ◌⊎◌, inl, inr, refl, sym, ap, true, Option, Some, None, ◌∙◌}
use Rattle.std.specs.FinMap.{get}
use Rattle.glare_core.specs.declared.facts.Held.{Held}
use Rattle.glare_core.specs.declared.facts.Held.TheVariants.{Opening, HalfOpen, KeptAsResponder, KeptAsInitiator}
use Rattle.glare_core.specs.Things.{near_of}
use Rattle.glare_core.specs.Standing.{held}
use Rattle.endpoint_laws.specs.Past.{Past, Search, facts_of}
use Rattle.endpoint_laws.specs.Contexts.{AttemptUnder, HeldUnder, SearchUnder}
use Rattle.log_digest.specs.declared.spot.Spot.{Spot}
use Rattle.log_digest.specs.declared.spot.Spot.TheVariants.{Searching, Holding, Closing}
use Rattle.log_digest.specs.Kept.{Digested}
use Rattle.log_digest.specs.Digest.{IsDigestOf}
use Rattle.log_contexts.specs.Lowest.{is_attempt, is_underway, underway_in}
use Rattle.log_contexts.specs.Laws.{TaggedTell}
use Rattle.log_contexts.proofs.Standing.{held_spot}

module _ (last : ℕ) (past : Past) (d : Digested) (is : IsDigestOf last past d) (near : ℕ) where
  underway : SearchUnder past near ⊎ AttemptUnder past near → is_underway d near ≡ true
  underway (inl s) = ap (underway_in d.roll) ((is.spots_are.spot near).search_there s.which s.at s.stands)
  underway (inr a) =
      let h : HeldUnder (facts_of past) near (Opening a.n near a.ni) = record { peer = a.peer; is_held = a.is_held; id = refl } in
      ap (underway_in d.roll) (held_spot last past d is near (Opening a.n near a.ni) h).1
      ∙ ap is_attempt (is.roll_is.held_is a.peer ∙ a.is_held)

  an_attempt : (peer : List ℕ) (thing : Held) → held peer (facts_of past) ≡ Some thing → near_of thing ≡ near → is_attempt (Some thing) ≡ true → AttemptUnder past near
  an_attempt peer (Opening n id ni) is_held same test = record { peer = peer; n = n; ni = ni; is_held = is_held ∙ ap (λ (q : ℕ). Some (Opening n q ni)) same }
  an_attempt peer (HalfOpen j) is_held same test = absurd cc
  an_attempt peer (KeptAsResponder j) is_held same test = absurd cc
  an_attempt peer (KeptAsInitiator j) is_held same test = absurd cc

  stands : is_underway d near ≡ true → SearchUnder past near ⊎ AttemptUnder past near
  stands test = by_spot (get d.spots near) refl test
    where
      by_spot : (o : Option Spot) → get d.spots near ≡ o → underway_in d.roll o ≡ true → SearchUnder past near ⊎ AttemptUnder past near
      by_spot None e t = absurd cc
      by_spot (Some (Searching name tag ni at)) e t =
          let which : Search = record { name = name; tag = tag; ni = ni } in
          inl (record { which = which; at = at; stands = (is.spots_are.spot near).search_is which at e })
      by_spot (Some (Holding peer at)) e t =
          let h = (is.spots_are.spot near).held_is peer at e in
          inr (an_attempt peer h.thing h.is_held h.id (ap is_attempt (sym h.is_held) ∙ ap is_attempt (sym (is.roll_is.held_is peer)) ∙ t))
      by_spot (Some (Closing thing at)) e t = absurd cc

pub tagged_tell : TaggedTell
tagged_tell = record {
  kept = λ secrets setup last past d c tag near are is tagged. (underway last past d is near tagged.0, sym (are.tag near) ∙ tagged.1);
  stands = λ secrets setup last past d c tag near are is under tagged. (stands last past d is near under, are.tag near ∙ tagged);
}
