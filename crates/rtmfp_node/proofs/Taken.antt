-- What runs take, and what is told of them.
use Rattle.std.proofs.Common.{◌≡◌, ℕ, zero, suc, ◌+◌, List, drop, length, refl, sym, ap, ◌∙◌, add-one}
use Rattle.std.proofs.lemmas.List.{drop-drop}
use Rattle.rtmfp_host.specs.Ticking.{Clock, after_moment}
use Rattle.endpoint_model.specs.Event.{Event}
use Rattle.rtmfp_words.specs.Node.{Serving}
use Rattle.rtmfp_node.specs.Outside.{Told}
use Rattle.rtmfp_node.specs.Reached.{Reached}
use Rattle.rtmfp_node.specs.Turn.{Turns}
use Rattle.rtmfp_node.specs.Laws.{EachDoneRunIsWhole, EachOtherRunIsCut, EachRunTakesItsPlaces, after_turns}

record TurnsTake (n : ℕ) (x y : Told) : Type 0 where
  left : y.line.left ≡ drop n x.line.left
  blocks : y.blocks ≡ drop n x.blocks
  clock : y.clock ≡ after_turns n x.clock

turns_take : (v : Serving) (n : ℕ) (far : Reached) (x y : Told) (log : List Event) → Turns v n far x y log → TurnsTake n x y
turns_take v zero far x y log h = record {
  left = ap (λ (z : Told). z.line.left) h.0;
  blocks = ap (λ (z : Told). z.blocks) h.0;
  clock = ap (λ (z : Told). z.clock) h.0;
}
turns_take v (suc n) far x y log h =
    let before = turns_take v n far x h.0 h.1 h.3 in
    let turn = h.4 in record {
      left = turn.left ∙ ap (drop 1) before.left ∙ drop-drop 1 n x.line.left ∙ ap (λ k. drop k x.line.left) (add-one n);
      blocks = turn.blocks ∙ ap (drop 1) before.blocks ∙ drop-drop 1 n x.blocks ∙ ap (λ k. drop k x.blocks) (add-one n);
      clock = turn.clock ∙ ap (λ (c : Clock). after_moment (after_moment c)) before.clock;
    }

pub each_run_takes_its_places : EachRunTakesItsPlaces
each_run_takes_its_places v turns x y ran =
    let run = ran.run in
    let zero_turn = run.turn_zero in
    let others = turns_take v turns _ run.opened y run.later run.others in record {
      left = others.left ∙ ap (drop turns) zero_turn.left;
      blocks = others.blocks ∙ ap (drop turns) zero_turn.blocks;
      clock = others.clock ∙ ap (after_turns turns) zero_turn.clock;
    }

pub each_done_run_is_whole : EachDoneRunIsWhole
each_done_run_is_whole v before after now ends tells = ends.back now tells

pub each_other_run_is_cut : EachOtherRunIsCut
each_other_run_is_cut = record {
  memory = λ v before after now ends tells. ends.back now tells;
  link = λ v before after now ends tells. ends.back now tells;
  entropy = λ v before after now ends tells. ends.back now tells;
  sink = λ v before after now ends tells. ends.back now tells;
}
