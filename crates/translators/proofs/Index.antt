-- Each call finds its mapping, after a use as before it.
use Rattle.std.proofs.Common.{◌≡◌, ◌<◌, ◌≤◌, ℕ, suc, ◌+◌, Bool, true, false, cond, ◌&&◌, ◌||◌, ◌==◌, nat_lt, if◌then◌else◌, List, [], ◌∷◌, ◌++◌, length, slice_index_or, slice_set, zero, Option, Some, None, unwrap_or, refl, sym, ap, ◌∙◌, arith}
use Rattle.std.specs.Str.{bytes_eq}
use Rattle.std.specs.HashMap.{HashMap, get, Updates}
use Rattle.std.proofs.lemmas.Bool.{ltb-true, eqb-true}
use Rattle.std.proofs.lemmas.Bool.Decides.{nat_tests}
use Rattle.std.proofs.lemmas.Slice.Eq.{bytes_eq-Decides}
use Rattle.rtmfp_forms.specs.Address.{is_same_place}
use Rattle.rtmfp_forms.proofs.Places.{first_true, second_true}
use Rattle.translators.specs.declared.places.Key.{Key}
use Rattle.translators.specs.declared.rule.Rule.{Rule}
use Rattle.translators.specs.declared.rule.Rule.TheVariants.{Independent, Dependent}
use Rattle.translators.specs.Mappings.{Mapped, Call, has_host, is_of, new_for, used_by, with_use, place_of, key_of}
use Rattle.translators.specs.Places.{is_same_key, place_if, IsIndex}
use Rattle.translators.proofs.Choices.{clash}
use Rattle.translators.proofs.Using.{has_it, made, len_used}

most_step : (b : Bool) (p n : ℕ) → p ≤ n → (if b then 0 else suc p) ≤ suc n
most_step true p n e = omega arith
most_step false p n e = omega (arith, e)

pub most : (rule : Rule) (ms : List Mapped) (call : Call) → place_of rule ms call ≤ length ms
most rule [] call = omega arith
most rule (k ∷ ms) call = most_step (is_of rule k call) (place_of rule ms call) (length ms) (most rule ms call)

found_by : (b : Bool) (p n : ℕ) → nat_lt p n ≡ b → p ≤ n → unwrap_or (if b then Some p else None) n ≡ p
found_by true p n e below = refl
found_by false p n e below = grind (arith, e, below)

-- the place that is found, or else the next one
pub found : (rule : Rule) (ms : List Mapped) (call : Call) → unwrap_or (place_if rule ms call) (length ms) ≡ place_of rule ms call
found rule ms call = found_by (nat_lt (place_of rule ms call) (length ms)) (place_of rule ms call) (length ms) refl (most rule ms call)

-- ---- a mapping is used

pub of_used : (rule : Rule) (k : Mapped) (call other : Call) → is_of rule k call ≡ true → is_of rule (used_by k call) other ≡ is_of rule k other
of_used Independent k call other e = refl
of_used Dependent k call other e =
    ap (λ (hs : List (List ℕ)). is_same_place k.inner other.inner && has_host other.to.host hs)
    (has_it (has_host call.to.host k.towards) call.to.host k.towards (second_true (is_same_place k.inner call.inner) (has_host call.to.host k.towards) e))

stays_step : (rule : Rule) (b : Bool) (k : Mapped) (ms ns : List Mapped) (call other : Call) → is_of rule k call ≡ b
    → (place_of rule ms call < length ms → place_of rule ns other ≡ place_of rule ms other)
    → (if b then 0 else suc (place_of rule ms call)) < suc (length ms)
    → place_of rule (if b then used_by k call ∷ ms else k ∷ ns) other ≡ place_of rule (k ∷ ms) other
stays_step rule true k ms ns call other is later below = ap (λ (b : Bool). if b then 0 else suc (place_of rule ms other)) (of_used rule k call other is)
stays_step rule false k ms ns call other is later below = ap (λ (p : ℕ). if is_of rule k other then 0 else suc p) (later (omega (arith, below)))

none_below : (p : ℕ) → p < 0 → ⊥
none_below p e = omega (arith, e)

pub place_stays : (rule : Rule) (ms : List Mapped) (call other : Call) → place_of rule ms call < length ms → place_of rule (with_use rule ms call) other ≡ place_of rule ms other
place_stays rule [] call other below = absurd (none_below _ below)
place_stays rule (k ∷ ms) call other below =
    stays_step rule (is_of rule k call) k ms (with_use rule ms call) call other refl (place_stays rule ms call other) below

abbrev pub if_below : ℕ → ℕ → Option ℕ
if_below p n = if nat_lt p n then Some p else None

pub used_finds : {S : Type 0} (rule : Rule) (places : HashMap Key ℕ S) (ms : List Mapped) (call : Call) → place_of rule ms call < length ms
    → IsIndex rule places ms → IsIndex rule places (with_use rule ms call)
used_finds rule places ms call below index = record {
  finds = λ other v4.
      index.finds other v4 ∙ sym (ap (λ (p : ℕ). if_below p (length (with_use rule ms call))) (place_stays rule ms call other below) ∙ ap (if_below (place_of rule ms other)) (len_used rule ms call below));
}

-- ---- a mapping is made

zero_lt : (n : ℕ) → nat_lt 0 (suc n) ≡ true
zero_lt n = grind (arith, nat_tests)

lt_suc : (p n : ℕ) → nat_lt (suc p) (suc n) ≡ nat_lt p n
lt_suc p n = grind (arith, nat_tests)

more_step : (b c : Bool) (p q n : ℕ) → q ≡ (if nat_lt p n then p else n + (if c then 0 else 1))
    → (if b then 0 else suc q) ≡ (if nat_lt (if b then 0 else suc p) (suc n) then (if b then 0 else suc p) else suc n + (if c then 0 else 1))
more_step true c p q n e = sym (ap (λ (b : Bool). if b then 0 else suc n + (if c then 0 else 1)) (zero_lt n))
more_step false c p q n e = ap suc e ∙ by (nat_lt p n) c ∙ ap (λ (b : Bool). if b then suc p else suc n + (if c then 0 else 1)) (sym (lt_suc p n))
  where
    by : (d c : Bool) → suc (if d then p else n + (if c then 0 else 1)) ≡ (if d then suc p else suc n + (if c then 0 else 1))
    by true c = refl
    by false true = omega arith
    by false false = omega arith

pub place_more : (rule : Rule) (ms : List Mapped) (n : Mapped) (other : Call) → place_of rule (ms ++ n ∷ []) other ≡ (if nat_lt (place_of rule ms other) (length ms) then place_of rule ms other else length ms + (if is_of rule n other then 0 else 1))
place_more rule [] n other = by (is_of rule n other)
  where
    by : (c : Bool) → (if c then 0 else suc 0) ≡ 0 + (if c then 0 else 1)
    by true = refl
    by false = refl
place_more rule (k ∷ ms) n other =
    more_step (is_of rule k other) (is_of rule n other) (place_of rule ms other) (place_of rule (ms ++ n ∷ []) other) (length ms) (place_more rule ms n other)

pub len_more : (ms : List Mapped) (n : Mapped) → length (ms ++ n ∷ []) ≡ suc (length ms)
len_more [] n = refl
len_more (k ∷ ms) n = ap suc (len_more ms n)

pub or_none : (b : Bool) → (b || false) ≡ b
or_none true = refl
or_none false = refl

both_or : (a b c : Bool) → (a && (b && true)) ≡ (a && b)
both_or true true c = refl
both_or true false c = refl
both_or false b c = refl

same_bytes : (h : List ℕ) → bytes_eq h h ≡ true
same_bytes h = (bytes_eq-Decides h h).1 refl

family : (v : Bool) → v ≡ false → (b : Bool) → (Rattle.rtmfp_forms.specs.Address.is_same_family false v && b) ≡ b
family true e b = absurd (clash (sym e))
family false e b = refl

last_and : (a b c : Bool) → ((a && b) && c) ≡ (a && (b && c))
last_and true b c = refl
last_and false b c = refl

pub bytes_swap : (a b : List ℕ) → bytes_eq a b ≡ bytes_eq b a
bytes_swap a b = by (bytes_eq a b) (bytes_eq b a) (λ e. (bytes_eq-Decides b a).1 (sym ((bytes_eq-Decides a b).0 e))) (λ e. (bytes_eq-Decides a b).1 (sym ((bytes_eq-Decides b a).0 e)))
  where
    by : (x y : Bool) → (x ≡ true → y ≡ true) → (y ≡ true → x ≡ true) → x ≡ y
    by true y there back = sym (there refl)
    by false true there back = back refl
    by false false there back = refl

-- the new mapping is that of the calls that have its key
pub of_new : (rule : Rule) (call other : Call) → other.inner.v6 ≡ false → is_same_key (key_of rule call) (key_of rule other) ≡ is_of rule (new_for call) other
of_new Independent call other v4 =
    ap (λ (b : Bool). bytes_eq call.inner.host other.inner.host && ((call.inner.port == other.inner.port) && b)) (same_bytes (key_of Independent call).to)
    ∙ both_or (bytes_eq call.inner.host other.inner.host) (call.inner.port == other.inner.port) true
    ∙ sym (family other.inner.v6 v4 (bytes_eq call.inner.host other.inner.host && (call.inner.port == other.inner.port)))
of_new Dependent call other v4 =
    sym (ap (λ (b : Bool). is_same_place (new_for call).inner other.inner && b) (or_none (bytes_eq other.to.host call.to.host) ∙ bytes_swap other.to.host call.to.host)
    ∙ ap (λ (b : Bool). b && bytes_eq call.to.host other.to.host) (family other.inner.v6 v4 (bytes_eq call.inner.host other.inner.host && (call.inner.port == other.inner.port)))
    ∙ last_and (bytes_eq call.inner.host other.inner.host) (call.inner.port == other.inner.port) (bytes_eq call.to.host other.to.host))

pub same_key : (a b : Key) → is_same_key a b ≡ true → a ≡ b
same_key a b e =
    let host = (bytes_eq-Decides a.host b.host).0 (first_true (bytes_eq a.host b.host) ((a.port == b.port) && bytes_eq a.to b.to) e) in
    let rest = second_true (bytes_eq a.host b.host) ((a.port == b.port) && bytes_eq a.to b.to) e in
    let port = eqb-true a.port b.port (first_true (a.port == b.port) (bytes_eq a.to b.to) rest) in
    let to = (bytes_eq-Decides a.to b.to).0 (second_true (a.port == b.port) (bytes_eq a.to b.to) rest) in
    (λ i. record { host = host i; port = port i; to = to i })

abbrev pub after_more : Bool → Bool → ℕ → ℕ → Option ℕ
after_more d c p n = if nat_lt (if d then p else n + (if c then 0 else 1)) (suc n) then Some (if d then p else n + (if c then 0 else 1)) else None

not_below : (p n : ℕ) → (if nat_lt p n then Some p else None) ≡ None → nat_lt p n ≡ false
not_below p n e = by (nat_lt p n) e
  where
    by : (d : Bool) → (if d then Some p else None) ≡ None → d ≡ false
    by true e = absurd cc
    by false e = refl

pub within : (n : ℕ) → nat_lt (n + 0) (suc n) ≡ true
within n = grind (arith)

pub beyond : (n : ℕ) → nat_lt (n + 1) (suc n) ≡ false
beyond n = grind (arith)

pub below_more : (p n : ℕ) → nat_lt p n ≡ true → nat_lt p (suc n) ≡ true
below_more p n e = grind (arith, ltb-true p n e)

made_by : (c d : Bool) (p n : ℕ) → nat_lt p n ≡ d → (c ≡ true → d ≡ false) → cond c (Some n) (if d then Some p else None) ≡ after_more d c p n
made_by true true p n e bars = absurd (clash (sym (bars refl)))
made_by true false p n e bars = sym (ap (λ (b : Bool). if b then Some (n + 0) else None) (within n) ∙ ap (λ (m : ℕ). Some m) (omega arith))
made_by false true p n e bars = sym (ap (λ (b : Bool). if b then Some p else None) (below_more p n e))
made_by false false p n e bars = sym (ap (λ (b : Bool). if b then Some (n + 1) else None) (beyond n))

pub made_finds : {S : Type 0} (rule : Rule) (places news : HashMap Key ℕ S) (ms : List Mapped) (call : Call) → call.inner.v6 ≡ false
    → (place_of rule ms call < length ms → ⊥)
    → IsIndex rule places ms → Updates is_same_key places news (key_of rule call) (Some (length ms)) → IsIndex rule news (with_use rule ms call)
made_finds rule places news ms call is_v4 none index updates = record {
  finds = λ other v4.
      let n = length ms in
      let p = place_of rule ms other in
      let c = is_of rule (new_for call) other in
      let absent : nat_lt (place_of rule ms call) n ≡ false = grind (arith, none) in
      let bars : c ≡ true → nat_lt p n ≡ false = λ e.
      let keys = same_key (key_of rule call) (key_of rule other) (of_new rule call other v4 ∙ e) in
      not_below p n (sym (index.finds other v4) ∙ ap (get is_same_key places) (sym keys) ∙ index.finds call is_v4 ∙ ap (λ (b : Bool). if b then Some (place_of rule ms call) else None) absent) in
      updates.0 (key_of rule other)
      ∙ ap (λ (b : Bool). cond b (Some n) (get is_same_key places (key_of rule other))) (of_new rule call other v4)
      ∙ ap (cond c (Some n)) (index.finds other v4)
      ∙ made_by c (nat_lt p n) p n refl bars
      ∙ sym (ap (λ (xs : List Mapped). place_if rule xs other) (sym (made rule ms call none))
      ∙ ap (λ (q : ℕ). if_below q (length (ms ++ new_for call ∷ []))) (place_more rule ms (new_for call) other)
      ∙ ap (if_below (if nat_lt p n then p else n + (if c then 0 else 1))) (len_more ms (new_for call)));
}

pub set_same : (ms : List Mapped) (p : ℕ) (m : Mapped) → m ≡ slice_index_or ms p m → slice_set ms p m ≡ ms
set_same [] p m e = refl
set_same (k ∷ ms) zero m e = ap (λ (x : Mapped). x ∷ ms) e
set_same (k ∷ ms) (suc p) m e = ap (λ (xs : List Mapped). k ∷ xs) (set_same ms p m e)
