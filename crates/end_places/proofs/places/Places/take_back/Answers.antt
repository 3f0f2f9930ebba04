use Rattle.std.proofs.Common.{rules, ◌≡◌, ◌<◌, ℕ, List, length, Option, Some, None, slice_index_or, slice_set, refl, sym, subst, ap, ◌∙◌, arith}
use Rattle.rtmfp_forms.specs.Address.{AddressParts}
use Rattle.translators.specs.declared.news.News.{News}
use Rattle.translators.specs.Translator.{TranslatorState}
use Rattle.translators.specs.Undoing.{WentOut}
use Rattle.translators.proofs.Choices.{clash}
use Rattle.end_places.specs.declared.standing.Standing.{Standing}
use Rattle.end_places.specs.declared.standing.NamedTranslator.{NamedTranslator}
use Rattle.end_places.specs.Seen.{PlacesSeen}
use Rattle.end_places.specs.Carrying.{WasCarried, standing_of, after_outward, call_from}
use Rattle.end_places.proofs.Returning.{Went, went, stands_after, same_without, same_beyond, AtIt, at_it, took, all_back}
use Rattle.end_places.proofs.places.Places.take_back.Goals as goal

-- the sender's place
same : (s : Standing) (o : Option Standing) → o ≡ Some s → o ≡ None → ⊥
same s None e f = absurd cc
same s (Some x) e f = absurd cc

is_it : (s x : Standing) (o : Option Standing) → o ≡ Some s → o ≡ Some x → s ≡ x
is_it s x None e f = absurd cc
is_it s x (Some y) e f = either (sym e ∙ f)
  where
    or : Option Standing → Standing
    or None = s
    or (Some z) = z

    either : Some s ≡ Some x → s ≡ x
    either g = ap or g

pub returns-in_default : goal.returns-in_default
returns-in_default c = λ before was.
    let w = went before c.args.self.now c.args.sender c.args.to.now c.args.news was in
    let found : standing_of c.args.self.now c.args.sender ≡ c.find_end.result = search rules in
    absurd (same w.s c.find_end.result (sym found ∙ stands_after before c.args.self.now c.args.sender c.args.to.now c.args.news w) c.in_default.is)

pub returns-in_default-behind : goal.returns-in_default-behind
returns-in_default-behind c = λ before was.
    let w = went before c.args.self.now c.args.sender c.args.to.now c.args.news was in
    let found : standing_of c.args.self.now c.args.sender ≡ c.find_end.result = search rules in
    let it : w.s ≡ c.in-Some.standing = is_it w.s c.in-Some.standing c.find_end.result (sym found ∙ stands_after before c.args.self.now c.args.sender c.args.to.now c.args.news w) c.in-Some.is in
    same_without before c.args.self.now w.s.behind (call_from w.s c.args.to.now) (ap (λ (s : Standing). s.behind) it ∙ c.in_default-behind.is) w.left

-- the translator behind which the sender stands, and what it took
module _ (before p : PlacesSeen) (sender : ℕ) (to : AddressParts) (news : News) (was : WasCarried before sender to news p) (standing : Standing) (found : standing_of p sender ≡ Some standing) where
  w : Went before sender to news p
  w = went before p sender to news was

  it : w.s ≡ standing
  it = is_it w.s standing (standing_of p sender) (stands_after before p sender to news w) found

  left : (number : ℕ) → standing.behind ≡ Some number → p ≡ after_outward before (Some number) (call_from w.s to)
  left number behind = subst (λ (b : Option ℕ). p ≡ after_outward before b (call_from w.s to)) (ap (λ (s : Standing). s.behind) it ∙ behind) w.left

  at : (number : ℕ) → standing.behind ≡ Some number → number < length p.translators → AtIt before p number (call_from w.s to) news
  at number behind below = at_it before p w.s.behind number (call_from w.s to) news (ap (λ (s : Standing). s.behind) it ∙ behind) below w.goes w.made w.left

  beyond : (number : ℕ) → standing.behind ≡ Some number → (number < length p.translators → ⊥) → p ≡ before
  beyond number behind none = same_beyond before p number (call_from w.s to) none (left number behind)

  taken : (number : ℕ) (behind : standing.behind ≡ Some number) (below : number < length p.translators) (m : NamedTranslator) → m ≡ slice_index_or p.translators number m
      → WentOut (at number behind below).named.translator (call_from standing to) news m.translator
  taken number behind below m is =
      subst (λ (s : Standing). WentOut (at number behind below).named.translator (call_from s to) news m.translator) it
      (took before p number (call_from w.s to) news (at number behind below) m is)

  back : (number : ℕ) (behind : standing.behind ≡ Some number) (below : number < length p.translators) (m : NamedTranslator) (t : TranslatorState) → m ≡ slice_index_or p.translators number m
      → t ≡ (at number behind below).named.translator
      → record { translators = slice_set p.translators number (record { name = m.name; translator = t }); ends = p.ends } ≡ before
  back number behind below m t is same = all_back before p number (call_from w.s to) news (at number behind below) m t is same

pub returns-in_default-get_mut : goal.returns-in_default-get_mut
returns-in_default-get_mut c = λ before was.
    let s = c.self.inside in
    let p : PlacesSeen = record { translators = s.translators.items; ends = s.ends.items } in
    let here = subst (λ (q : PlacesSeen). WasCarried before c.args.sender c.args.to.now c.args.news q) (sym c.self.view_is) was in
    let number = c.in-Some-behind.number in
    let found : standing_of p c.args.sender ≡ c.find_end.result = search rules in
    let none : number < length p.translators → ⊥ = λ below. clash (c.in_default-get_mut.ensures.variant.1 (omega (arith, below))) in
    beyond before p c.args.sender c.args.to.now c.args.news here c.in-Some.standing (found ∙ c.in-Some.is) number c.in-Some-behind.is none

pub take_back-requires : goal.take_back-requires
take_back-requires c =
    let s = c.self.inside in
    let p : PlacesSeen = record { translators = s.translators.items; ends = s.ends.items } in
    let before = c.requires.0 in
    let here = subst (λ (q : PlacesSeen). WasCarried before c.args.sender c.args.to.now c.args.news q) (sym c.self.view_is) c.requires.1 in
    let number = c.in-Some-behind.number in
    let found : standing_of p c.args.sender ≡ c.find_end.result = search rules in
    let below : number < length p.translators = omega (arith, c.in-Some-get_mut.ensures.variant.0 refl) in
    let m = c.in-Some-get_mut.named.now in
    let a = at before p c.args.sender c.args.to.now c.args.news here c.in-Some.standing (found ∙ c.in-Some.is) number c.in-Some-behind.is below in
    (a.named.translator, taken before p c.args.sender c.args.to.now c.args.news here c.in-Some.standing (found ∙ c.in-Some.is) number c.in-Some-behind.is below m c.in-Some-get_mut.ensures.value)

pub returns : goal.returns
returns c = λ before was.
    let s = c.self.inside in
    let p : PlacesSeen = record { translators = s.translators.items; ends = s.ends.items } in
    let here = subst (λ (q : PlacesSeen). WasCarried before c.args.sender c.args.to.now c.args.news q) (sym c.self.view_is) was in
    let number = c.in-Some-behind.number in
    let found : standing_of p c.args.sender ≡ c.find_end.result = search rules in
    let below : number < length p.translators = omega (arith, c.in-Some-get_mut.ensures.variant.0 refl) in
    let m = c.in-Some-get_mut.named.now in
    let a = at before p c.args.sender c.args.to.now c.args.news here c.in-Some.standing (found ∙ c.in-Some.is) number c.in-Some-behind.is below in
    let same = c.take_back.ensures a.named.translator (taken before p c.args.sender c.args.to.now c.args.news here c.in-Some.standing (found ∙ c.in-Some.is) number c.in-Some-behind.is below m c.in-Some-get_mut.ensures.value) in
    back before p c.args.sender c.args.to.now c.args.news here c.in-Some.standing (found ∙ c.in-Some.is) number c.in-Some-behind.is below m c.take_back.new.self c.in-Some-get_mut.ensures.value same
