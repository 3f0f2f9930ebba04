use Rattle.std.proofs.Common.{◌≡◌, ◌<◌, ℕ, List, length, slice_index_or, slice_set, sym, subst, ap, ◌∙◌, refl, arith}
use Rattle.translators.specs.Mappings.{Mapped, Call, from_to, place_of, with_use}
use Rattle.translators.specs.Places.{MappingList, after_call, IsIndex}
use Rattle.translators.proofs.Choices.{on_ok, on_both}
use Rattle.translators.proofs.Using.{used}
use Rattle.translators.proofs.Index.{used_finds, set_same}
use Rattle.translators.proofs.mappings.Mappings.take_call.Goals as goal

pub invariant_of-self : goal.invariant_of-self
invariant_of-self c =
    let call : Call = from_to c.args.inner.now c.args.to.now in
    let s = c.self.inside in
    let ms = s.list.items in
    let m = c.in-Some.mapping.now in
    let at : c.args.place ≡ place_of s.rule ms call = c.requires.there ∙ ap (λ (l : MappingList). place_of l.rule l.list call) (sym c.self.view_is) in
    let below : place_of s.rule ms call < length ms = subst (λ (p : ℕ). p < length ms) at (omega (arith, c.in-Some.ensures.variant.0 refl)) in
    let there = subst (λ (p : ℕ). m ≡ slice_index_or ms p m) at c.in-Some.ensures.value in
    on_both c.use_towards.result c.use_towards.ensures.ok c.use_towards.ensures.err
    (λ e. subst (λ (xs : List Mapped). IsIndex s.rule s.places xs)
    (sym (ap (λ (p : ℕ). slice_set ms p c.use_towards.new.self) at ∙ ap (λ (x : Mapped). slice_set ms (place_of s.rule ms call) x) e ∙ used s.rule ms call m below there))
    (used_finds s.rule s.places ms call below c.self.invariant))
    (λ e. subst (λ (xs : List Mapped). IsIndex s.rule s.places xs)
    (sym (ap (slice_set ms c.args.place) e ∙ set_same ms c.args.place m c.in-Some.ensures.value)) c.self.invariant)

pub returns-in-Some-clause-ok : goal.returns-in-Some-clause-ok
returns-in-Some-clause-ok c =
    let call : Call = from_to c.args.inner.now c.args.to.now in
    let s = c.self.inside in
    let ms = s.list.items in
    let m = c.in-Some.mapping.now in
    let at : c.args.place ≡ place_of s.rule ms call = c.requires.there ∙ ap (λ (l : MappingList). place_of l.rule l.list call) (sym c.self.view_is) in
    let below : place_of s.rule ms call < length ms = subst (λ (p : ℕ). p < length ms) at (omega (arith, c.in-Some.ensures.variant.0 refl)) in
    let there = subst (λ (p : ℕ). m ≡ slice_index_or ms p m) at c.in-Some.ensures.value in
    on_ok c.use_towards.result
    (λ e.
    let items : slice_set ms c.args.place c.use_towards.new.self ≡ with_use s.rule ms call =
    ap (λ (p : ℕ). slice_set ms p c.use_towards.new.self) at ∙ ap (λ (x : Mapped). slice_set ms (place_of s.rule ms call) x) e ∙ used s.rule ms call m below there in
    (λ i. record { rule = s.rule; list = items i }) ∙ ap (λ (l : MappingList). after_call l call) c.self.view_is)
    c.use_towards.ensures.ok
