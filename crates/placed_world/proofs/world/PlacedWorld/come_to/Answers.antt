use Rattle.std.proofs.Common.{◌≡◌, ℕ, Some, sym, subst, ap, ◌∙◌}
use Rattle.rtmfp_forms.specs.Address.{AddressParts}
use Rattle.translators.specs.declared.news.News.{News}
use Rattle.end_places.specs.declared.carried.Carried.{Carried}
use Rattle.end_places.specs.declared.carried.Carried.TheVariants.{Arrives}
use Rattle.end_places.specs.Seen.{PlacesSeen}
use Rattle.end_places.specs.Carrying.{carried_of, after_carry, WasCarried}
use Rattle.rendezvous_world.specs.declared.step.Step.TheVariants.{Deliver}
use Rattle.placed_world.specs.Stepping.{Brings, placed}
use Rattle.placed_world.specs.Taking.{CameTo, IsTaken}
use Rattle.placed_world.proofs.Carriage.{is_lost, arrived}
use Rattle.placed_world.proofs.world.PlacedWorld.come_to.Goals as goal

was : (before after : PlacesSeen) (sender : ℕ) (to : AddressParts) (news : News) (carried : Carried) (end : ℕ) (from : AddressParts) → carried ≡ Arrives end from → CameTo before sender to news carried after → WasCarried before sender to news after
was before after sender to news carried end from is came = record {
  end = end;
  from = from;
  arrives = came.answer ∙ ap (λ (x : Carried). Some x) is;
  made = came.made;
  left = came.left;
}

pub deliver-requires-clause-carried : goal.deliver-requires-clause-carried
deliver-requires-clause-carried c =
    (c.requires.came.0, was c.requires.came.0 c.args.self.now.places c.args.sender c.args.to.now c.args.news c.args.carried.now c.in-Arrives.end c.in-Arrives.from c.in-Arrives.is c.requires.came.1)

pub returns-in-Lost : goal.returns-in-Lost
returns-in-Lost c = λ before came.
    let w = c.args.self.now.world in
    is_lost (placed w before) c.args.self.now c.args.line c.args.number c.args.sender (after_carry before c.args.sender c.args.to.now) (carried_of before c.args.sender c.args.to.now) c.in-Lost.lost
    (sym (came.answer ∙ ap (λ (x : Carried). Some x) c.in-Lost.is)) (ap (placed w) came.left)

pub returns-in-Arrives : goal.returns-in-Arrives
returns-in-Arrives c = λ before came.
    let w = c.args.self.now.world in
    let end = c.in-Arrives.end in
    let from = c.in-Arrives.from in
    let after = after_carry before c.args.sender c.args.to.now in
    arrived (placed w before) c.deliver.new.self c.args.line c.args.number c.args.sender after (carried_of before c.args.sender c.args.to.now) end from c.deliver.result
    (sym (came.answer ∙ ap (λ (x : Carried). Some x) c.in-Arrives.is))
    (subst (λ (q : PlacesSeen). IsTaken (placed w before) c.args.line (Brings q (Deliver c.args.number end from)) c.deliver.result c.deliver.new.self) came.left
    (c.deliver.ensures before (was before c.args.self.now.places c.args.sender c.args.to.now c.args.news c.args.carried.now end from c.in-Arrives.is came)))
