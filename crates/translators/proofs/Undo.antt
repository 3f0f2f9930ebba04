-- What is left where a use is taken back.
use Rattle.std.proofs.Common.{◌≡◌, ◌<◌, ◌≤◌, ℕ, suc, ◌+◌, Bool, true, false, cond, ◌||◌, nat_lt, if◌then◌else◌, List, [], ◌∷◌, ◌++◌, length, slice_index_or, slice_set, slice_get, zero, Option, Some, None, unwrap_or, refl, sym, ap, ◌∙◌, subst, arith}
use Rattle.std.specs.Prelude.{is_some}
use Rattle.std.proofs.lemmas.List.{same_from_push}
use Rattle.std.proofs.lemmas.Bool.{ltb-true}
use Rattle.std.specs.HashMap.{HashMap, get}
use Rattle.translators.specs.declared.news.News.{News}
use Rattle.translators.specs.declared.news.News.TheVariants.{Nothing, NewHost, NewMapping}
use Rattle.translators.specs.declared.places.Key.{Key}
use Rattle.translators.specs.declared.refusal.OutRefusal.{OutRefusal}
use Rattle.translators.specs.declared.refusal.OutRefusal.TheVariants.{Family}
use Rattle.translators.specs.declared.rule.Rule.{Rule}
use Rattle.translators.specs.Mappings.{Mapped, Call, has_host, is_of, new_for, used_by, with_use, place_of, key_of}
use Rattle.translators.specs.Places.{MappingList, is_same_key, place_if, IsIndex, MadeMapping, MadeHost, after_call}
use Rattle.translators.specs.Translator.{TranslatorState, place_for, is_full_for, after_use}
use Rattle.translators.specs.Undoing.{news_by, news_of, WentOut}
use Rattle.translators.proofs.Choices.{clash}
use Rattle.translators.proofs.Using.{has_it, made, len_used, len_least}
use Rattle.translators.proofs.Index.{of_new, same_key, place_more, len_more, place_stays, within, beyond, below_more, after_more, if_below}

-- ---- lists

pub not_there : {X : Type 0} (xs : List X) (p : ℕ) → slice_get xs p ≡ None → p < length xs → ⊥
not_there [] p e below = omega (arith, below)
not_there (x ∷ xs) zero e below = absurd cc
not_there (x ∷ xs) (suc p) e below = not_there xs p e (omega (arith, below))

pub is_there : {X : Type 0} (xs : List X) (p : ℕ) (x : X) → slice_get xs p ≡ Some x → p < length xs
is_there [] p x e = absurd cc
is_there (y ∷ xs) zero x e = omega arith
is_there (y ∷ xs) (suc p) x e = omega (arith, is_there xs p x e)

some_is : {X : Type 0} (x y : X) → Some x ≡ Some y → y ≡ x
some_is x y e = sym (ap (λ (o : Option _). unwrap_or o x) e)

-- ---- a mapping that was made is taken back

clear : (c : Bool) (p q n : ℕ) → nat_lt p n ≡ true → after_more true true p n ≡ after_more false c q n → ⊥
clear true p q n below e =
    let here : Some p ≡ Some (n + 0) =
    sym (ap (λ (b : Bool). if b then Some p else None) (below_more p n below)) ∙ (e ∙ ap (λ (b : Bool). if b then Some (n + 0) else None) (within n)) in
    let same : n + 0 ≡ p = some_is p (n + 0) here in
    omega (arith, same, ltb-true p n below)
clear false p q n below e =
    let here : Some p ≡ None =
    sym (ap (λ (b : Bool). if b then Some p else None) (below_more p n below)) ∙ (e ∙ ap (λ (b : Bool). if b then Some (n + 1) else None) (beyond n)) in
    clash (sym (ap (λ (o : Option ℕ). is_some o) here))

left_by : (c d : Bool) (p n : ℕ) → nat_lt p n ≡ d → (c ≡ true → d ≡ true → ⊥) → cond c None (after_more d c p n) ≡ (if d then Some p else None)
left_by true true p n e bars = absurd (bars refl refl)
left_by true false p n e bars = refl
left_by false true p n e bars = ap (λ (b : Bool). if b then Some p else None) (below_more p n e)
left_by false false p n e bars = ap (λ (b : Bool). if b then Some (n + 1) else None) (beyond n)

-- where a mapping stands among these and a new one
among : (rule : Rule) (ms : List Mapped) (new : Mapped) (other : Call) → place_if rule (ms ++ new ∷ []) other ≡ after_more (nat_lt (place_of rule ms other) (length ms)) (is_of rule new other) (place_of rule ms other) (length ms)
among rule ms new other =
    let p = place_of rule ms other in
    let n = length ms in
    ap (λ (q : ℕ). if_below q (length (ms ++ new ∷ []))) (place_more rule ms new other)
    ∙ ap (if_below (if nat_lt p n then p else n + (if is_of rule new other then 0 else 1))) (len_more ms new)

pub left_finds : {S : Type 0} (rule : Rule) (places left : HashMap Key ℕ S) (ms : List Mapped) (call : Call) → call.inner.v6 ≡ false
    → (place_of rule ms call < length ms → ⊥)
    → IsIndex rule places (ms ++ new_for call ∷ [])
    → ((q : Key) → get is_same_key left q ≡ cond (is_same_key (key_of rule call) q) None (get is_same_key places q))
    → IsIndex rule left ms
left_finds rule places left ms call is_v4 none index updates = record {
  finds = λ other v4.
      let n = length ms in
      let p = place_of rule ms other in
      let c = is_of rule (new_for call) other in
      let d = nat_lt p n in
      let own = is_of rule (new_for call) call in
      let q = place_of rule ms call in
      let absent : nat_lt q n ≡ false = grind (arith, none) in
      let bars : c ≡ true → d ≡ true → ⊥ = λ same below.
      let keys = same_key (key_of rule call) (key_of rule other) (of_new rule call other v4 ∙ same) in
      let both : after_more d c p n ≡ after_more (nat_lt q n) own q n =
      sym (index.finds other v4 ∙ among rule ms (new_for call) other) ∙ (ap (get is_same_key places) (sym keys) ∙ (index.finds call is_v4 ∙ among rule ms (new_for call) call)) in
      let at_this : after_more true true p n ≡ after_more d c p n = ap (λ (b : Bool). after_more b true p n) (sym below) ∙ ap (λ (b : Bool). after_more d b p n) (sym same) in
      let at_that : after_more (nat_lt q n) own q n ≡ after_more false own q n = ap (λ (b : Bool). after_more b own q n) absent in
      clear own p q n below (at_this ∙ (both ∙ at_that)) in
      updates (key_of rule other)
      ∙ (ap (λ (b : Bool). cond b None (get is_same_key places (key_of rule other))) (of_new rule call other v4)
      ∙ (ap (cond c None) (index.finds other v4 ∙ among rule ms (new_for call) other)
      ∙ left_by c d p n refl bars));
}

-- ---- a host that was added is taken back

set_step : (b : Bool) (p : ℕ) (k mapped : Mapped) (ms ns : List Mapped) (call : Call)
    → (slice_get ms p ≡ Some mapped → slice_set ns p mapped ≡ ms)
    → slice_get (k ∷ ms) (if b then 0 else suc p) ≡ Some mapped
    → slice_set (if b then used_by k call ∷ ms else k ∷ ns) (if b then 0 else suc p) mapped ≡ k ∷ ms
set_step true p k mapped ms ns call later e = ap (λ (x : Mapped). x ∷ ms) (some_is k mapped e)
set_step false p k mapped ms ns call later e = ap (λ (xs : List Mapped). k ∷ xs) (later e)

-- the mapping there as it was
pub host_back : (rule : Rule) (ms : List Mapped) (call : Call) (mapped : Mapped) → slice_get ms (place_of rule ms call) ≡ Some mapped → slice_set (with_use rule ms call) (place_of rule ms call) mapped ≡ ms
host_back rule [] call mapped e = absurd cc
host_back rule (k ∷ ms) call mapped e =
    set_step (is_of rule k call) (place_of rule ms call) k mapped ms (with_use rule ms call) call (host_back rule ms call mapped) e

index_step : (b : Bool) (p : ℕ) (k mapped d : Mapped) (ms ns : List Mapped) (call : Call)
    → (slice_get ms p ≡ Some mapped → slice_index_or ns p d ≡ used_by mapped call)
    → slice_get (k ∷ ms) (if b then 0 else suc p) ≡ Some mapped
    → slice_index_or (if b then used_by k call ∷ ms else k ∷ ns) (if b then 0 else suc p) d ≡ used_by mapped call
index_step true p k mapped d ms ns call later e = ap (λ (x : Mapped). used_by x call) (sym (some_is k mapped e))
index_step false p k mapped d ms ns call later e = later e

pub host_there : (rule : Rule) (ms : List Mapped) (call : Call) (mapped d : Mapped) → slice_get ms (place_of rule ms call) ≡ Some mapped → slice_index_or (with_use rule ms call) (place_of rule ms call) d ≡ used_by mapped call
host_there rule [] call mapped d e = absurd cc
host_there rule (k ∷ ms) call mapped d e =
    index_step (is_of rule k call) (place_of rule ms call) k mapped d ms (with_use rule ms call) call (host_there rule ms call mapped d) e

pub unused_finds : {S : Type 0} (rule : Rule) (places : HashMap Key ℕ S) (ms : List Mapped) (call : Call) → place_of rule ms call < length ms
    → IsIndex rule places (with_use rule ms call) → IsIndex rule places ms
unused_finds rule places ms call below index = record {
  finds = λ other v4.
      index.finds other v4 ∙ (ap (λ (p : ℕ). if_below p (length (with_use rule ms call))) (place_stays rule ms call other below) ∙ ap (if_below (place_of rule ms other)) (len_used rule ms call below));
}

-- ---- nothing was made

again_step : (b : Bool) (p : ℕ) (k mapped : Mapped) (ms ns : List Mapped) (call : Call)
    → has_host call.to.host mapped.towards ≡ true
    → (slice_get ms p ≡ Some mapped → ns ≡ ms)
    → slice_get (k ∷ ms) (if b then 0 else suc p) ≡ Some mapped
    → (if b then used_by k call ∷ ms else k ∷ ns) ≡ k ∷ ms
again_step true p k mapped ms ns call has later e =
    let here : has_host call.to.host k.towards ≡ true = ap (λ (m : Mapped). has_host call.to.host m.towards) (sym (some_is k mapped e)) ∙ has in
    (λ i. record { inner = k.inner; towards = has_it (has_host call.to.host k.towards) call.to.host k.towards here i } ∷ ms)
again_step false p k mapped ms ns call has later e = ap (λ (xs : List Mapped). k ∷ xs) (later e)

pub again : (rule : Rule) (ms : List Mapped) (call : Call) (mapped : Mapped) → slice_get ms (place_of rule ms call) ≡ Some mapped → has_host call.to.host mapped.towards ≡ true → with_use rule ms call ≡ ms
again rule [] call mapped e has = absurd cc
again rule (k ∷ ms) call mapped e has =
    again_step (is_of rule k call) (place_of rule ms call) k mapped ms (with_use rule ms call) call has (λ e. again rule ms call mapped e has) e

-- ---- what a translator's call made

if_made : (b : Bool) → NewMapping ≡ (if b then Nothing else NewHost) → ⊥
if_made true e = absurd cc
if_made false e = absurd cc

made_none : (o : Option Mapped) (call : Call) → NewMapping ≡ news_by o call → o ≡ None
made_none None call e = refl
made_none (Some m) call e = absurd (if_made (has_host call.to.host m.towards) e)

if_new : (b : Bool) → NewHost ≡ (if b then Nothing else NewHost) → b ≡ false
if_new true e = absurd cc
if_new false e = refl

if_same : (b : Bool) → Nothing ≡ (if b then Nothing else NewHost) → b ≡ true
if_same true e = refl
if_same false e = absurd cc

-- a mapping is there, and this tells whether it was used towards the host
record IsThere (o : Option Mapped) (call : Call) (used : Bool) : Type 0 where
  pub mapped : Mapped
  pub there : o ≡ Some mapped
  pub host : has_host call.to.host mapped.towards ≡ used

new_there : (o : Option Mapped) (call : Call) → NewHost ≡ news_by o call → IsThere o call false
new_there None call e = absurd cc
new_there (Some m) call e = record { mapped = m; there = refl; host = if_new (has_host call.to.host m.towards) e }

same_there : (o : Option Mapped) (call : Call) → Nothing ≡ news_by o call → IsThere o call true
same_there None call e = absurd cc
same_there (Some m) call e = record { mapped = m; there = refl; host = if_same (has_host call.to.host m.towards) e }

v4_of : (v w : Bool) (rest : Option OutRefusal) → (if v || w then Some Family else rest) ≡ None → v ≡ false
v4_of true w rest e = absurd cc
v4_of false w rest e = refl

abbrev pub list_of : TranslatorState → MappingList
list_of t = record { rule = t.mapping; list = t.mappings }

module _ (before after : TranslatorState) (call : Call) (news : News) (went : WentOut before call news after) where
  v4 : call.inner.v6 ≡ false
  v4 = v4_of call.inner.v6 call.to.v6 (if is_full_for before call then _ else None) went.goes

  news_is : news ≡ news_by (slice_get before.mappings (place_for before call)) call
  news_is = went.made ∙ ap (λ (b : Bool). if b then Nothing else news_by (slice_get before.mappings (place_for before call)) call) v4

  used : list_of after ≡ after_call (list_of before) call
  used = ap list_of went.used

  pub mapping_made : news ≡ NewMapping → MadeMapping (list_of before) call (list_of after)
  mapping_made e = record {
    v4 = v4;
    none = made_none (slice_get before.mappings (place_for before call)) call (sym e ∙ news_is);
    used = used;
  }

  pub host_made : news ≡ NewHost → MadeHost (list_of before) call (list_of after)
  host_made e =
      let is = new_there (slice_get before.mappings (place_for before call)) call (sym e ∙ news_is) in
      record { v4 = v4; mapped = is.mapped; there = is.there; unused = is.host; used = used }

  pub nothing_made : news ≡ Nothing → after ≡ before
  nothing_made e =
      let is = same_there (slice_get before.mappings (place_for before call)) call (sym e ∙ news_is) in
      let same = again before.mapping before.mappings call is.mapped is.there is.host in
      went.used ∙ (λ i. record { mapping = before.mapping; filter = before.filter; host = before.host; first = before.first; mappings = same i })

  -- with the mappings as they were, all is as it was
  pub all_back : (m : MappingList) → m ≡ list_of before → record { mapping = m.rule; filter = after.filter; host = after.host; first = after.first; mappings = m.list } ≡ before
  all_back m e =
      (λ i. record { mapping = (e i).rule; filter = (went.used i).filter; host = (went.used i).host; first = (went.used i).first; mappings = (e i).list })

  pub fits_back : (m : MappingList) → m ≡ list_of before → after.first + length after.mappings ≤ 65536 → after.first + length m.list ≤ 65536
  fits_back m e fits =
      let more = len_least before.mapping before.mappings call in
      omega (arith, fits, more, ap (λ (t : TranslatorState). length t.mappings) went.used, ap (λ (l : MappingList). length l.list) e)

-- ---- a call used its mapping towards one more host: what was there before

module _ (before : MappingList) (rule : Rule) (ms : List Mapped) (call : Call) (is : MadeHost before call (record { rule = rule; list = ms })) (place : ℕ) (at : place ≡ place_of rule ms call) where
  rule_is : rule ≡ before.rule
  rule_is = ap (λ (l : MappingList). l.rule) is.used

  list_is : ms ≡ with_use before.rule before.list call
  list_is = ap (λ (l : MappingList). l.list) is.used

  below : place_of before.rule before.list call < length before.list
  below = is_there before.list (place_of before.rule before.list call) is.mapped is.there

  at_before : place ≡ place_of before.rule before.list call
  at_before = at ∙ (ap (λ (r : Rule). place_of r ms call) rule_is ∙ (ap (λ (xs : List Mapped). place_of before.rule xs call) list_is ∙ place_stays before.rule before.list call call below))

  pub place_within : place < length ms
  place_within =
      omega (arith, at_before, below, len_used before.rule before.list call below, ap (λ (xs : List Mapped). length xs) list_is)

  pub mapped_is : (m : Mapped) → m ≡ slice_index_or ms place m → m ≡ used_by is.mapped call
  mapped_is m e =
      e ∙ (ap (λ (p : ℕ). slice_index_or ms p m) at_before
      ∙ (ap (λ (xs : List Mapped). slice_index_or xs (place_of before.rule before.list call) m) list_is
      ∙ host_there before.rule before.list call is.mapped m is.there))

  pub items_back : (new : Mapped) → new ≡ is.mapped → slice_set ms place new ≡ before.list
  items_back new e =
      ap (slice_set ms place) e ∙ (ap (λ (p : ℕ). slice_set ms p is.mapped) at_before
      ∙ (ap (λ (xs : List Mapped). slice_set xs (place_of before.rule before.list call) is.mapped) list_is
      ∙ host_back before.rule before.list call is.mapped is.there))

  pub back_finds : {S : Type 0} (places : HashMap Key ℕ S) → IsIndex rule places ms → IsIndex rule places before.list
  back_finds places index =
      subst (λ (r : Rule). IsIndex r places before.list) (sym rule_is)
      (unused_finds before.rule places before.list call below
      (subst (λ (xs : List Mapped). IsIndex before.rule places xs) list_is (subst (λ (r : Rule). IsIndex r places ms) rule_is index)))
