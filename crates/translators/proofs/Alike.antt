-- Which calls have one mapping, and how many mappings calls make.
use Rattle.std.proofs.Common.{◌≡◌, ◌<◌, ℕ, suc, Bool, true, false, ◌&&◌, ◌||◌, ◌==◌, not, if◌then◌else◌, List, [], ◌∷◌, length, refl, sym, ap, ◌∙◌, arith}
use Rattle.std.specs.List.{list_any}
use Rattle.std.specs.Str.{bytes_eq}
use Rattle.std.proofs.lemmas.Bool.{eqb-true}
use Rattle.std.proofs.lemmas.Bool.Decides.{nat_tests}
use Rattle.std.proofs.lemmas.Slice.Eq.{bytes_eq-Decides}
use Rattle.rtmfp_forms.specs.Address.{AddressParts, SamePlace, is_same_family, is_same_place}
use Rattle.rtmfp_forms.proofs.Places.{first_true, second_true, both_true, place_same}
use Rattle.translators.specs.declared.rule.Rule.{Rule}
use Rattle.translators.specs.declared.rule.Rule.TheVariants.{Independent, Dependent}
use Rattle.translators.specs.Mappings.{Mapped, Call, has_host, is_of, plain, new_for, used_by, with_use, place_of, map_of}
use Rattle.translators.specs.Happenings.{AreAlike, are_alike, had_alike, count_new}
use Rattle.translators.proofs.Choices.{clash}
use Rattle.translators.proofs.Using.{nothing_below}
use Rattle.translators.proofs.Stems.{same_plain, noted_last}
use Rattle.translators.proofs.Index.{of_used, or_none, bytes_swap}

-- ---- calls that are alike

pub alike_is : (rule : Rule) (one other : Call) → are_alike rule one other ≡ true → AreAlike rule one other
alike_is Independent one other e = record { inner = place_same one.inner other.inner e; towards = λ is. absurd cc }
alike_is Dependent one other e = record {
  inner = place_same one.inner other.inner (first_true (is_same_place one.inner other.inner) (bytes_eq one.to.host other.to.host) e);
  towards = λ is. (bytes_eq-Decides one.to.host other.to.host).0 (second_true (is_same_place one.inner other.inner) (bytes_eq one.to.host other.to.host) e);
}

same_at : (a b c : AddressParts) → SamePlace b c → is_same_place a b ≡ is_same_place a c
same_at a b c s = λ i. is_same_family a.v6 (s.family i) && (bytes_eq a.host (s.host i) && (a.port == s.port i))

of_alike : (rule : Rule) (k : Mapped) (one other : Call) → AreAlike rule one other → is_of rule k one ≡ is_of rule k other
of_alike Independent k one other a = same_at k.inner one.inner other.inner a.inner
of_alike Dependent k one other a = λ i. same_at k.inner one.inner other.inner a.inner i && has_host (a.towards refl i) k.towards

pub place_alike : (rule : Rule) (ms : List Mapped) (one other : Call) → AreAlike rule one other → place_of rule ms one ≡ place_of rule ms other
place_alike rule [] one other a = refl
place_alike rule (k ∷ ms) one other a = λ i. if of_alike rule k one other a i then 0 else suc (place_alike rule ms one other a i)

-- ---- the place of a call stays

kept_by : (c : Bool) (q p n : ℕ) → (p < n → q ≡ p) → (if c then 0 else suc p) < suc n → (if c then 0 else suc q) ≡ (if c then 0 else suc p)
kept_by true q p n later below = refl
kept_by false q p n later below = ap suc (later (omega (arith, below)))

kept_step : (rule : Rule) (b : Bool) (k : Mapped) (ms ns : List Mapped) (call other : Call) → is_of rule k call ≡ b
    → (place_of rule ms other < length ms → place_of rule ns other ≡ place_of rule ms other)
    → (if is_of rule k other then 0 else suc (place_of rule ms other)) < suc (length ms)
    → place_of rule (if b then used_by k call ∷ ms else k ∷ ns) other ≡ place_of rule (k ∷ ms) other
kept_step rule true k ms ns call other is later below = ap (λ (b : Bool). if b then 0 else suc (place_of rule ms other)) (of_used rule k call other is)
kept_step rule false k ms ns call other is later below = kept_by (is_of rule k other) (place_of rule ns other) (place_of rule ms other) (length ms) later below

pub place_kept : (rule : Rule) (ms : List Mapped) (call other : Call) → place_of rule ms other < length ms → place_of rule (with_use rule ms call) other ≡ place_of rule ms other
place_kept rule [] call other below = absurd (nothing_below _ below)
place_kept rule (k ∷ ms) call other below =
    kept_step rule (is_of rule k call) k ms (with_use rule ms call) call other refl (place_kept rule ms call other) below

own_of : (rule : Rule) (call : Call) → call.inner.v6 ≡ false → is_of rule (new_for call) call ≡ true
own_of Independent call v = same_plain call.inner v
own_of Dependent call v =
    both_true (is_same_place (plain call.inner) call.inner) (has_host call.to.host (call.to.host ∷ [])) (same_plain call.inner v) (noted_last [] call.to.host)

own_step : (rule : Rule) (b : Bool) (k : Mapped) (ms ns : List Mapped) (call : Call) → is_of rule k call ≡ b
    → place_of rule ns call ≡ place_of rule ms call
    → place_of rule (if b then used_by k call ∷ ms else k ∷ ns) call ≡ (if b then 0 else suc (place_of rule ms call))
own_step rule true k ms ns call is later = ap (λ (b : Bool). if b then 0 else suc (place_of rule ms call)) (of_used rule k call call is ∙ is)
own_step rule false k ms ns call is later = ap (λ (b : Bool). if b then 0 else suc (place_of rule ns call)) is ∙ ap suc later

pub own_place : (rule : Rule) (ms : List Mapped) (call : Call) → call.inner.v6 ≡ false → place_of rule (with_use rule ms call) call ≡ place_of rule ms call
own_place rule [] call v = ap (λ (b : Bool). if b then 0 else suc 0) (own_of rule call v)
own_place rule (k ∷ ms) call v = own_step rule (is_of rule k call) k ms (with_use rule ms call) call refl (own_place rule ms call v)

-- ---- whether a call has a mapping

abbrev pub has_mapping : Rule → List Mapped → Call → Bool
has_mapping rule ms call = list_any (λ m. is_of rule m call) ms

zero_is : (n : ℕ) → (0 == suc n) ≡ false
zero_is n = grind (arith, nat_tests)

suc_is : (p n : ℕ) → (suc p == suc n) ≡ (p == n)
suc_is p n = grind (arith, nat_tests)

end_step : (b o : Bool) (p n : ℕ) → (p == n) ≡ not o → ((if b then 0 else suc p) == suc n) ≡ not (b || o)
end_step true o p n later = zero_is n
end_step false o p n later = suc_is p n ∙ later

-- It stands at the end where it has none.
pub at_end : (rule : Rule) (ms : List Mapped) (call : Call) → (place_of rule ms call == length ms) ≡ not (has_mapping rule ms call)
at_end rule [] call = refl
at_end rule (k ∷ ms) call = end_step (is_of rule k call) (has_mapping rule ms call) (place_of rule ms call) (length ms) (at_end rule ms call)

plain_at : (a b : AddressParts) → a.v6 ≡ false → is_same_place (plain a) b ≡ is_same_place a b
plain_at a b v = λ i. is_same_family (sym v i) b.v6 && (bytes_eq a.host b.host && (a.port == b.port))

new_of : (rule : Rule) (call other : Call) → call.inner.v6 ≡ false → is_of rule (new_for call) other ≡ are_alike rule call other
new_of Independent call other v = plain_at call.inner other.inner v
new_of Dependent call other v =
    λ i. plain_at call.inner other.inner v i && (or_none (bytes_eq other.to.host call.to.host) ∙ bytes_swap other.to.host call.to.host) i

used_by_step : (x y z : Bool) → (z ≡ true → x ≡ true) → (x || y) ≡ (z || (x || y))
used_by_step true y true later = refl
used_by_step true y false later = refl
used_by_step false y true later = absurd (clash (later refl))
used_by_step false y false later = refl

made_step : (x y z w : Bool) → w ≡ (z || y) → (x || w) ≡ (z || (x || y))
made_step true y true w e = refl
made_step true y false w e = refl
made_step false y z w e = e

any_step : (rule : Rule) (b : Bool) (k : Mapped) (ms ns : List Mapped) (call other : Call) → is_of rule k call ≡ b
    → has_mapping rule ns other ≡ (are_alike rule call other || has_mapping rule ms other)
    → has_mapping rule (if b then used_by k call ∷ ms else k ∷ ns) other ≡ (are_alike rule call other || has_mapping rule (k ∷ ms) other)
any_step rule true k ms ns call other is later =
    ap (λ (b : Bool). b || has_mapping rule ms other) (of_used rule k call other is)
    ∙ used_by_step (is_of rule k other) (has_mapping rule ms other) (are_alike rule call other)
    (λ e. sym (of_alike rule k call other (alike_is rule call other e)) ∙ is)
any_step rule false k ms ns call other is later =
    made_step (is_of rule k other) (has_mapping rule ms other) (are_alike rule call other) (has_mapping rule ns other) later

any_used : (rule : Rule) (ms : List Mapped) (call other : Call) → call.inner.v6 ≡ false
    → has_mapping rule (with_use rule ms call) other ≡ (are_alike rule call other || has_mapping rule ms other)
any_used rule [] call other v = ap (λ (b : Bool). b || false) (new_of rule call other v)
any_used rule (k ∷ ms) call other v = any_step rule (is_of rule k call) k ms (with_use rule ms call) call other refl (any_used rule ms call other v)

abbrev pub AreFromV4 : List Call → Type 0
AreFromV4 [] = Unit {0}
AreFromV4 (call ∷ before) = (call.inner.v6 ≡ false) × AreFromV4 before

pub any_map : (rule : Rule) (calls : List Call) → AreFromV4 calls → (call : Call) → has_mapping rule (map_of rule calls) call ≡ had_alike rule calls call
any_map rule [] v call = refl
any_map rule (newest ∷ before) v call =
    any_used rule (map_of rule before) newest call v.0 ∙ ap (λ (b : Bool). are_alike rule newest call || b) (any_map rule before v.1 call)

-- ---- how many mappings there are

len_by : (o : Bool) (n : ℕ) → suc (if o then n else suc n) ≡ (if o then suc n else suc (suc n))
len_by true n = refl
len_by false n = refl

len_step : (b o : Bool) (k : Mapped) (ms ns : List Mapped) (call : Call)
    → length ns ≡ (if o then length ms else suc (length ms))
    → length (if b then used_by k call ∷ ms else k ∷ ns) ≡ (if b || o then suc (length ms) else suc (suc (length ms)))
len_step true o k ms ns call later = refl
len_step false o k ms ns call later = ap suc later ∙ len_by o (length ms)

len_any : (rule : Rule) (ms : List Mapped) (call : Call) → length (with_use rule ms call) ≡ (if has_mapping rule ms call then length ms else suc (length ms))
len_any rule [] call = refl
len_any rule (k ∷ ms) call = len_step (is_of rule k call) (has_mapping rule ms call) k ms (with_use rule ms call) call (len_any rule ms call)

pub count_is : (rule : Rule) (calls : List Call) → AreFromV4 calls → length (map_of rule calls) ≡ count_new rule calls
count_is rule [] v = refl
count_is rule (newest ∷ before) v =
    len_any rule (map_of rule before) newest
    ∙ (λ i. if any_map rule before v.1 newest i then count_is rule before v.1 i else suc (count_is rule before v.1 i))

pub place_at_end : (rule : Rule) (calls : List Call) → AreFromV4 calls → (call : Call) → had_alike rule calls call ≡ false
    → place_of rule (map_of rule calls) call ≡ count_new rule calls
place_at_end rule calls v call none =
    eqb-true (place_of rule (map_of rule calls) call) (length (map_of rule calls))
    (at_end rule (map_of rule calls) call ∙ ap not (any_map rule calls v call ∙ none))
    ∙ count_is rule calls v
