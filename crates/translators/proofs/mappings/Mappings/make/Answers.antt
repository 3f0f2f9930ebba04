use Rattle.std.proofs.Common.{rules, ◌≡◌, ◌<◌, ℕ, List, Some, length, sym, subst, ap, ◌∙◌, arith}
use Rattle.std.specs.HashMap.{Updates}
use Rattle.translators.specs.declared.places.Key.{Key}
use Rattle.translators.specs.Mappings.{Mapped, Call, from_to, place_of, with_use}
use Rattle.translators.specs.Places.{MappingList, after_call, is_same_key, IsIndex}
use Rattle.translators.proofs.Using.{made}
use Rattle.translators.proofs.Index.{made_finds}
use Rattle.translators.proofs.mappings.Mappings.make.Goals as goal

pub invariant_of-self-2 : goal.invariant_of-self-2
invariant_of-self-2 c =
    let call : Call = from_to c.args.inner.now c.args.to.now in
    let m = c.self.inside in
    let ms = m.list.items in
    let none : place_of m.rule ms call < length ms → ⊥ = λ below.
    let there = subst (λ (s : MappingList). place_of s.rule s.list call < length s.list) c.self.view_is below in
    omega (arith, there, c.requires.none) in
    let count : c.len.result ≡ length ms = omega (arith, c.len.ensures, c.reserve.ensures.len) in
    let updates = subst (λ (k : Key). Updates is_same_key m.places c.insert.new.self k (Some (length ms))) c.of-key.ensures
    (subst (λ (n : ℕ). Updates is_same_key m.places c.insert.new.self c.of-key.result (Some n)) count c.in-Ok.ensures.updates) in
    let items : c.push_reserved.new.self.items ≡ with_use m.rule ms call = search (rules, made m.rule ms call none) in
    subst (λ (xs : List Mapped). IsIndex m.rule c.insert.new.self xs) (sym items)
    (made_finds m.rule m.places c.insert.new.self ms call c.requires.family none c.self.invariant updates)

pub returns-clause-ok : goal.returns-clause-ok
returns-clause-ok c =
    let call : Call = from_to c.args.inner.now c.args.to.now in
    let m = c.self.inside in
    let ms = m.list.items in
    let none : place_of m.rule ms call < length ms → ⊥ = λ below.
    let there = subst (λ (s : MappingList). place_of s.rule s.list call < length s.list) c.self.view_is below in
    omega (arith, there, c.requires.none) in
    let items : c.push_reserved.new.self.items ≡ with_use m.rule ms call = search (rules, made m.rule ms call none) in
    (λ i. record { rule = m.rule; list = items i }) ∙ ap (λ (s : MappingList). after_call s call) c.self.view_is
