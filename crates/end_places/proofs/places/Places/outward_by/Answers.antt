use Rattle.std.proofs.Common.{◌≡◌, ◌<◌, ℕ, List, length, Option, Some, slice_get, slice_set, refl, sym, ap, ◌∙◌, arith}
use Rattle.translators.specs.Mappings.{Call, from_to}
use Rattle.translators.specs.Translator.{out_refusal}
use Rattle.translators.proofs.Choices.{on_ok}
use Rattle.end_places.specs.declared.standing.NamedTranslator.{NamedTranslator}
use Rattle.end_places.specs.declared.carried.Lost.{Lost}
use Rattle.end_places.specs.Seen.{PlacesSeen}
use Rattle.end_places.specs.Carrying.{lost_by, lost_outward, translator_in, after_or}
use Rattle.end_places.proofs.Numbered.{there}
use Rattle.end_places.proofs.Outgoing.{after_taken}
use Rattle.end_places.proofs.places.Places.outward_by.Goals as goal

pub returns-clause-ok : goal.returns-clause-ok
returns-clause-ok c =
    let call : Call = from_to c.args.at.now c.args.to.now in
    let s = c.self.inside in
    let ts : List NamedTranslator = s.translators.items in
    let p : PlacesSeen = record { translators = ts; ends = s.ends.items } in
    let number = c.args.number in
    let named = c.in-Some.named.now in
    let at : slice_get ts number ≡ Some named = there ts number named (omega (arith, c.in-Some.ensures.variant.0 refl)) c.in-Some.ensures.value in
    let there_now : slice_get c.args.self.now.translators number ≡ Some named = ap (λ (q : PlacesSeen). slice_get q.translators number) (sym c.self.view_is) ∙ at in
    let lost : Option Lost = lost_by (out_refusal named.translator call) in
    on_ok c.through.result
    (λ e.
    ap (λ (n : NamedTranslator). record { translators = slice_set ts number n; ends = s.ends.items }) e
    ∙ (after_taken p number named call lost at
    ∙ (ap (λ (q : PlacesSeen). after_or q (Some number) call lost) c.self.view_is
    ∙ ap (λ (o : Option NamedTranslator). after_or c.args.self.now (Some number) call (lost_outward (translator_in o) call)) (sym there_now))))
    c.through.ensures.ok
