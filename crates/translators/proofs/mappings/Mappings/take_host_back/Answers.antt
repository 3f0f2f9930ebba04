use Rattle.std.proofs.Common.{◌≡◌, ◌<◌, ℕ, List, length, sym, subst, ap, ◌∙◌, arith}
use Rattle.translators.specs.Mappings.{Mapped, Call, from_to, place_of}
use Rattle.translators.specs.Places.{MappingList, MadeHost, IsIndex}
use Rattle.translators.proofs.Choices.{clash}
use Rattle.translators.proofs.Undo.{place_within, mapped_is, items_back, back_finds}
use Rattle.translators.proofs.mappings.Mappings.take_host_back.Goals as goal

pub invariant_of-self : goal.invariant_of-self
invariant_of-self c = c.self.invariant

pub returns-in_default : goal.returns-in_default
returns-in_default c = λ before is.
    let call : Call = from_to c.args.inner.now c.args.to.now in
    let s = c.self.inside in
    let here : MadeHost before call (record { rule = s.rule; list = s.list.items }) = subst (λ (m : MappingList). MadeHost before call m) (sym c.self.view_is) is in
    let at : c.place_of-place.result ≡ place_of s.rule s.list.items call = c.place_of-place.ensures.place ∙ ap (λ (l : MappingList). place_of l.rule l.list call) (sym c.self.view_is) in
    let below = place_within before s.rule s.list.items call here c.place_of-place.result at in
    absurd (clash (c.in_default.ensures.variant.1 (omega (arith, below))))

pub invariant_of-self-2 : goal.invariant_of-self-2
invariant_of-self-2 c =
    let call : Call = from_to c.args.inner.now c.args.to.now in
    let s = c.self.inside in
    let b = c.requires.0 in
    let here : MadeHost b call (record { rule = s.rule; list = s.list.items }) = subst (λ (m : MappingList). MadeHost b call m) (sym c.self.view_is) c.requires.1 in
    let at : c.place_of-place.result ≡ place_of s.rule s.list.items call = c.place_of-place.ensures.place ∙ ap (λ (l : MappingList). place_of l.rule l.list call) (sym c.self.view_is) in
    let m = c.in-Some.mapping.now in
    let new = c.take_back.ensures here.mapped call here.unused (mapped_is b s.rule s.list.items call here c.place_of-place.result at m c.in-Some.ensures.value) in
    subst (λ (xs : List Mapped). IsIndex s.rule s.places xs) (sym (items_back b s.rule s.list.items call here c.place_of-place.result at c.take_back.new.self new))
    (back_finds b s.rule s.list.items call here c.place_of-place.result at s.places c.self.invariant)

pub returns : goal.returns
returns c = λ before is.
    let call : Call = from_to c.args.inner.now c.args.to.now in
    let s = c.self.inside in
    let here : MadeHost before call (record { rule = s.rule; list = s.list.items }) = subst (λ (m : MappingList). MadeHost before call m) (sym c.self.view_is) is in
    let at : c.place_of-place.result ≡ place_of s.rule s.list.items call = c.place_of-place.ensures.place ∙ ap (λ (l : MappingList). place_of l.rule l.list call) (sym c.self.view_is) in
    let m = c.in-Some.mapping.now in
    let new = c.take_back.ensures here.mapped call here.unused (mapped_is before s.rule s.list.items call here c.place_of-place.result at m c.in-Some.ensures.value) in
    let items = items_back before s.rule s.list.items call here c.place_of-place.result at c.take_back.new.self new in
    let rule = ap (λ (l : MappingList). l.rule) here.used in
    (λ i. record { rule = rule i; list = items i })
