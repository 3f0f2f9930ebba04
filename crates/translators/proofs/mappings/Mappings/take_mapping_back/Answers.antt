use Rattle.std.proofs.Common.{◌≡◌, ◌<◌, ℕ, List, [], ◌∷◌, ◌++◌, None, length, cond, sym, subst, ap, ◌∙◌, arith}
use Rattle.std.specs.HashMap.{get}
use Rattle.translators.specs.declared.places.Key.{Key}
use Rattle.translators.specs.declared.rule.Rule.{Rule}
use Rattle.translators.specs.Mappings.{Mapped, Call, from_to, new_for, place_of, key_of}
use Rattle.translators.specs.Places.{MappingList, MadeMapping, is_same_key, IsIndex}
use Rattle.translators.proofs.Using.{made}
use Rattle.translators.proofs.Undo.{not_there, left_finds}
use Rattle.translators.proofs.mappings.Mappings.take_mapping_back.Goals as goal

-- the list after the call
list_after : (before : MappingList) (rule : Rule) (ms : List Mapped) (call : Call) → MadeMapping before call (record { rule = rule; list = ms }) → ms ≡ before.list ++ new_for call ∷ []
list_after before rule ms call is =
    ap (λ (l : MappingList). l.list) is.used ∙ sym (made before.rule before.list call (not_there before.list (place_of before.rule before.list call) is.none))

pub invariant_of-self : goal.invariant_of-self
invariant_of-self c =
    let call : Call = from_to c.args.inner.now c.args.to.now in
    let s = c.self.inside in
    let b = c.requires.0 in
    let is : MadeMapping b call (record { rule = s.rule; list = s.list.items }) = subst (λ (m : MappingList). MadeMapping b call m) (sym c.self.view_is) c.requires.1 in
    let items = list_after b s.rule s.list.items call is in
    let left = c.take_last.ensures b.list (new_for call) items in
    let rule : s.rule ≡ b.rule = ap (λ (m : MappingList). m.rule) is.used in
    let index : IsIndex b.rule s.places (b.list ++ new_for call ∷ []) =
    subst (λ (xs : List Mapped). IsIndex b.rule s.places xs) items (subst (λ (r : Rule). IsIndex r s.places s.list.items) rule c.self.invariant) in
    let key = c.of-key.ensures ∙ ap (λ (r : Rule). key_of r call) rule in
    subst (λ (xs : List Mapped). IsIndex s.rule c.remove-place.new.self xs) (sym left)
    (subst (λ (r : Rule). IsIndex r c.remove-place.new.self b.list) (sym rule)
    (left_finds b.rule s.places c.remove-place.new.self b.list call is.v4 (not_there b.list (place_of b.rule b.list call) is.none) index
    (λ q. subst (λ (k : Key). get is_same_key c.remove-place.new.self q ≡ cond (is_same_key k q) None (get is_same_key s.places q)) key (c.remove-place.ensures.updates.0 q))))

pub returns : goal.returns
returns c = λ before is.
    let call : Call = from_to c.args.inner.now c.args.to.now in
    let s = c.self.inside in
    let here : MadeMapping before call (record { rule = s.rule; list = s.list.items }) = subst (λ (m : MappingList). MadeMapping before call m) (sym c.self.view_is) is in
    let items = c.take_last.ensures before.list (new_for call) (list_after before s.rule s.list.items call here) in
    let rule = ap (λ (m : MappingList). m.rule) here.used in
    (λ i. record { rule = rule i; list = items i })
