use Rattle.std.proofs.Common.{rules, Result, IfOk, ◌≡◌, ◌≤◌, ◌<◌, ℕ, ◌+◌, length, sym, subst, ap, ◌∙◌, arith}
use Rattle.rtmfp_forms.specs.Address.{AddressParts}
use Rattle.translators.specs.declared.refusal.OutRefusal.{OutRefusal}
use Rattle.translators.specs.Mappings.{Call, from_to, with_use, place_of}
use Rattle.translators.specs.Places.{MappingList}
use Rattle.translators.specs.Translator.{TranslatorState, public_of, v4}
use Rattle.translators.proofs.Choices.{on_both}
use Rattle.translators.proofs.Using.{len_used, len_most}
use Rattle.translators.proofs.translator.Translator.outward.Goals as goal
use Rattle.translators.proofs.translator.Translator.outward.Goals.{else-place-count-via-then-place-count+else-self-count-gt-LAST_PORT, else-place-count-via-else-place-count, in-Ok, in-Err}

pub invariant_of-self : goal.invariant_of-self
invariant_of-self c =
    let call : Call = from_to c.args.inner.now c.args.to.now in
    let t = c.self.inside in
    let ms = t.mappings.list in
    let place_is : c.place_of-place.result ≡ place_of t.mappings.rule ms call = c.place_of-place.ensures.place in
    let few : t.first + length (with_use t.mappings.rule ms call) ≤ 65536 =
    elim c.else-place-count.branch [
      | else-place-count-via-then-place-count+else-self-count-gt-LAST_PORT w ↦ omega (arith, len_most t.mappings.rule ms call, w.if-self-count-gt-LAST_PORT, c.len-count.ensures)
      | else-place-count-via-else-place-count w ↦
          let below : place_of t.mappings.rule ms call < length ms = omega (arith, w.if-place-count, c.len-count.ensures, c.place_of-place.ensures.most, place_is) in
          omega (arith, len_used t.mappings.rule ms call below, c.self.invariant)
    ] in
    on_both c.take_call.result c.take_call.ensures.ok c.take_call.ensures.err
    (λ e. subst (λ (m : MappingList). t.first + length m.list ≤ 65536) (sym e) few)
    (λ e. subst (λ (m : MappingList). t.first + length m.list ≤ 65536) (sym e) c.self.invariant)

pub returns-clause-answer : goal.returns-clause-answer
returns-clause-answer c =
    let call : Call = from_to c.args.inner.now c.args.to.now in
    let t = c.self.inside in
    elim c.match-take_call.branch [
      | in-Ok w ↦ subst (λ (r : Result AddressParts OutRefusal). IfOk r (λ a. a ≡ public_of c.args.self.now call)) (sym w.result-is)
          (w.v4.ensures ∙ ap (λ (p : ℕ). v4 t.host (t.first + p)) c.place_of-place.ensures.place ∙ ap (λ (s : TranslatorState). public_of s call) c.self.view_is)
      | in-Err w ↦ search (rules, w.result-is)
    ]
