-- What was carried and is taken back.
use Rattle.std.proofs.Common.{◌≡◌, ◌<◌, ◌≤◌, ℕ, Bool, true, false, ◌||◌, if◌then◌else◌, List, length, slice_index_or, slice_set, slice_get, Option, Some, None, refl, sym, subst, ap, ◌∙◌, arith}
use Rattle.std.specs.List.{find}
use Rattle.rtmfp_forms.specs.Address.{AddressParts}
use Rattle.translators.specs.declared.news.News.{News}
use Rattle.translators.specs.declared.refusal.OutRefusal.{OutRefusal}
use Rattle.translators.specs.declared.refusal.OutRefusal.TheVariants.{Family as AnyFamily, PortsFull as AllPorts}
use Rattle.translators.specs.Mappings.{Call}
use Rattle.translators.specs.Translator.{TranslatorState, out_refusal, after_use, is_full_for}
use Rattle.translators.specs.Undoing.{WentOut}
use Rattle.end_places.specs.declared.standing.Standing.{Standing}
use Rattle.end_places.specs.declared.standing.NamedTranslator.{NamedTranslator}
use Rattle.end_places.specs.declared.carried.Carried.{Carried}
use Rattle.end_places.specs.declared.carried.Carried.TheVariants.{Arrives}
use Rattle.end_places.specs.declared.carried.Lost.{Lost}
use Rattle.end_places.specs.Seen.{PlacesSeen, has_number}
use Rattle.end_places.specs.Carrying.{standing_of, translator_in, translator_of, lost_by, lost_from, lost_outward, used_by, with_used, after_outward, after_or, call_from, carried_or, carried_from, after_from, news_by, news_from, WasCarried}
use Rattle.end_places.proofs.Numbered.{is_below, not_there, len_set, get_set, set_back}

-- ---- what was sent went out from its sender's place

pub record Went (before : PlacesSeen) (sender : ℕ) (to : AddressParts) (news : News) (after : PlacesSeen) : Type 0 where
  pub s : Standing
  pub stands : standing_of before sender ≡ Some s
  pub goes : lost_outward (translator_of before s.behind) (call_from s to) ≡ None
  pub made : news ≡ news_by (translator_of before s.behind) (call_from s to)
  pub left : after ≡ after_outward before s.behind (call_from s to)

goes_by : (p : PlacesSeen) (s : Standing) (to : AddressParts) (end : ℕ) (from : AddressParts) (l : Option Lost) → Some (carried_or p s to l) ≡ Some (Arrives end from) → l ≡ None
goes_by p s to end from None e = refl
goes_by p s to end from (Some lost) e = absurd cc

went_by : (before after : PlacesSeen) (sender : ℕ) (to : AddressParts) (news : News) (end : ℕ) (from : AddressParts) (o : Option Standing) → standing_of before sender ≡ o → carried_from before to o ≡ Some (Arrives end from) → news ≡ news_from before to o → after ≡ after_from before to o → Went before sender to news after
went_by before after sender to news end from None is arrives made left = absurd cc
went_by before after sender to news end from (Some s) is arrives made left =
    let goes = goes_by before s to end from (lost_from before s to) arrives in
    record { s = s; stands = is; goes = goes; made = made; left = left ∙ ap (after_or before s.behind (call_from s to)) goes }

pub went : (before after : PlacesSeen) (sender : ℕ) (to : AddressParts) (news : News) → WasCarried before sender to news after → Went before sender to news after
went before after sender to news was =
    went_by before after sender to news was.end was.from (standing_of before sender) refl was.arrives was.made was.left

-- it stands there still
pub stands_after : (before after : PlacesSeen) (sender : ℕ) (to : AddressParts) (news : News) (w : Went before sender to news after) → standing_of after sender ≡ Some w.s
stands_after before after sender to news w =
    ap (λ (p : PlacesSeen). find (has_number sender) p.ends) w.left ∙ w.stands

-- ---- without a translator nothing has changed

pub same_without : (before after : PlacesSeen) (behind : Option ℕ) (call : Call) → behind ≡ None → after ≡ after_outward before behind call → after ≡ before
same_without before after None call e left = left
same_without before after (Some number) call e left = absurd cc

same_by : (before after : PlacesSeen) (number : ℕ) (call : Call) (o : Option NamedTranslator) → slice_get before.translators number ≡ o → (number < length after.translators → ⊥)
    → after ≡ record { translators = with_used before.translators number o call; ends = before.ends } → after ≡ before
same_by before after number call None is none left = left
same_by before after number call (Some named) is none left =
    let long = ap (λ (p : PlacesSeen). length p.translators) left ∙ len_set before.translators number (used_by named call) in
    let below = is_below before.translators number named is in
    absurd (none (omega (arith, long, below)))

pub same_beyond : (before after : PlacesSeen) (number : ℕ) (call : Call) → (number < length after.translators → ⊥) → after ≡ after_outward before (Some number) call → after ≡ before
same_beyond before after number call none left = same_by before after number call (slice_get before.translators number) refl none left

-- ---- its translator

refused_not : (a b : Bool) (n : ℕ) → lost_by (if a then Some AnyFamily else if b then Some (AllPorts n) else None) ≡ None → (if a then Some AnyFamily else if b then Some (AllPorts n) else None) ≡ None
refused_not true b n e = absurd cc
refused_not false true n e = absurd cc
refused_not false false n e = refl

pub goes_out : (t : TranslatorState) (call : Call) → lost_by (out_refusal t call) ≡ None → out_refusal t call ≡ None
goes_out t call e = refused_not (call.inner.v6 || call.to.v6) (is_full_for t call) (length t.mappings) e

-- the translator as it was
pub record AtIt (before after : PlacesSeen) (number : ℕ) (call : Call) (news : News) : Type 0 where
  pub named : NamedTranslator
  pub there : slice_get before.translators number ≡ Some named
  pub goes : out_refusal named.translator call ≡ None
  pub made : news ≡ news_by (Some named.translator) call
  pub left : after ≡ record { translators = slice_set before.translators number (used_by named call); ends = before.ends }

at_by : (before after : PlacesSeen) (number : ℕ) (call : Call) (news : News) (o : Option NamedTranslator) → slice_get before.translators number ≡ o → number < length after.translators
    → lost_outward (translator_in o) call ≡ None → news ≡ news_by (translator_in o) call
    → after ≡ record { translators = with_used before.translators number o call; ends = before.ends } → AtIt before after number call news
at_by before after number call news None is below goes made left =
    absurd (not_there before.translators number is (subst (λ (p : PlacesSeen). number < length p.translators) left below))
at_by before after number call news (Some named) is below goes made left =
    record { named = named; there = is; goes = goes_out named.translator call goes; made = made; left = left }

pub at_it : (before after : PlacesSeen) (behind : Option ℕ) (number : ℕ) (call : Call) (news : News) → behind ≡ Some number → number < length after.translators
    → lost_outward (translator_of before behind) call ≡ None → news ≡ news_by (translator_of before behind) call → after ≡ after_outward before behind call → AtIt before after number call news
at_it before after behind number call news e below goes made left =
    at_by before after number call news (slice_get before.translators number) refl below
    (subst (λ (b : Option ℕ). lost_outward (translator_of before b) call ≡ None) e goes)
    (subst (λ (b : Option ℕ). news ≡ news_by (translator_of before b) call) e made)
    (subst (λ (b : Option ℕ). after ≡ after_outward before b call) e left)

-- it took the call
pub took : (before after : PlacesSeen) (number : ℕ) (call : Call) (news : News) (at : AtIt before after number call news) (m : NamedTranslator) → m ≡ slice_index_or after.translators number m → WentOut at.named.translator call news m.translator
took before after number call news at m is =
    let same : m ≡ used_by at.named call =
    is ∙ (ap (λ (p : PlacesSeen). slice_index_or p.translators number m) at.left ∙ get_set before.translators number at.named (used_by at.named call) m at.there) in
    record { goes = at.goes; made = at.made; used = ap (λ (n : NamedTranslator). n.translator) same }

-- and with it as it was all is as it was
pub all_back : (before after : PlacesSeen) (number : ℕ) (call : Call) (news : News) (at : AtIt before after number call news) (m : NamedTranslator) (t : TranslatorState) → m ≡ slice_index_or after.translators number m → t ≡ at.named.translator
    → record { translators = slice_set after.translators number (record { name = m.name; translator = t }); ends = after.ends } ≡ before
all_back before after number call news at m t is same =
    let here : m ≡ used_by at.named call =
    is ∙ (ap (λ (p : PlacesSeen). slice_index_or p.translators number m) at.left ∙ get_set before.translators number at.named (used_by at.named call) m at.there) in
    let back : slice_set after.translators number (record { name = m.name; translator = t }) ≡ before.translators =
    ap (λ (n : NamedTranslator). slice_set after.translators number n) (λ i. record { name = (here i).name; translator = same i })
    ∙ (ap (λ (p : PlacesSeen). slice_set p.translators number at.named) at.left ∙ set_back before.translators number at.named (used_by at.named call) at.there) in
    (λ i. record { translators = back i; ends = (at.left i).ends })
