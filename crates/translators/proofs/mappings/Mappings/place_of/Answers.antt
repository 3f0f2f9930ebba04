use Rattle.std.proofs.Common.{◌≡◌, ◌≤◌, ℕ, length, Option, unwrap_or, sym, subst, ap, ◌∙◌, arith}
use Rattle.std.specs.HashMap.{get}
use Rattle.translators.specs.declared.places.Key.{Key}
use Rattle.translators.specs.Mappings.{Call, from_to, place_of}
use Rattle.translators.specs.Places.{MappingList, is_same_key}
use Rattle.translators.proofs.Index.{found, most}
use Rattle.translators.proofs.mappings.Mappings.place_of.Goals as goal

pub returns-clause-place : goal.returns-clause-place
returns-clause-place c =
    let call : Call = from_to c.args.inner.now c.args.to.now in
    let m = c.self.inside in
    let ms = m.list.items in
    let count : c.len.result ≡ length ms = omega (arith, c.len.ensures) in
    c.place_or.ensures
    ∙ ap (λ (n : ℕ). unwrap_or (get is_same_key m.places c.of-key.result) n) count
    ∙ ap (λ (k : Key). unwrap_or (get is_same_key m.places k) (length ms)) c.of-key.ensures
    ∙ ap (λ (o : Option ℕ). unwrap_or o (length ms)) (c.self.invariant.finds call c.requires)
    ∙ found m.rule ms call
    ∙ ap (λ (s : MappingList). place_of s.rule s.list call) c.self.view_is

pub returns-clause-most : goal.returns-clause-most
returns-clause-most c =
    let call : Call = from_to c.args.inner.now c.args.to.now in
    subst (λ (p : ℕ). p ≤ length c.args.self.now.list) (sym (returns-clause-place c)) (most c.args.self.now.rule c.args.self.now.list call)
