-- Which mappings there are after a call, and which call each of them stems from.
use Rattle.std.proofs.Common.{◌≡◌, ◌⊎◌, inl, inr, ℕ, zero, suc, Bool, true, false, ◌||◌, if◌then◌else◌, List, [], ◌∷◌, ◌++◌, Some, refl, sym, ap, ◌∙◌, subst}
use Rattle.std.specs.List.{slice_get}
use Rattle.std.specs.Str.{bytes_eq}
use Rattle.std.proofs.lemmas.Slice.Eq.{bytes_eq-Decides}
use Rattle.rtmfp_forms.specs.Address.{AddressParts, is_same_place}
use Rattle.rtmfp_forms.proofs.Places.{first_true, second_true, same_place}
use Rattle.translators.specs.declared.rule.Rule.{Rule}
use Rattle.translators.specs.declared.rule.Rule.TheVariants.{Independent, Dependent}
use Rattle.translators.proofs.Choices.{clash}
use Rattle.translators.proofs.Using.{has_it}
use Rattle.translators.specs.Mappings.{Mapped, Call, has_host, is_of, plain, new_for, used_by, with_use, place_of, map_of}

-- ---- hosts that were noted stay

more_any : (hosts : List (List ℕ)) (h host : List ℕ) → has_host host hosts ≡ true → has_host host (hosts ++ h ∷ []) ≡ true
more_any [] h host e = absurd (clash e)
more_any (g ∷ hosts) h host e = step (bytes_eq host g) (has_host host hosts) (has_host host (hosts ++ h ∷ [])) (more_any hosts h host) e
  where
    step : (b o n : Bool) → (o ≡ true → n ≡ true) → (b || o) ≡ true → (b || n) ≡ true
    step true o n later e = refl
    step false o n later e = later e

keeps_by : (b : Bool) (hosts : List (List ℕ)) (h host : List ℕ) → has_host host hosts ≡ true → has_host host (if b then hosts else hosts ++ h ∷ []) ≡ true
keeps_by true hosts h host e = e
keeps_by false hosts h host e = more_any hosts h host e

pub noted_last : (hosts : List (List ℕ)) (h : List ℕ) → has_host h (hosts ++ h ∷ []) ≡ true
noted_last [] h = ap (λ (b : Bool). b || false) ((bytes_eq-Decides h h).1 refl)
noted_last (g ∷ hosts) h = step (bytes_eq h g) (has_host h (hosts ++ h ∷ [])) (noted_last hosts h)
  where
    step : (b o : Bool) → o ≡ true → (b || o) ≡ true
    step true o e = refl
    step false o e = e

noted_by : (b : Bool) (hosts : List (List ℕ)) (h : List ℕ) → has_host h hosts ≡ b → has_host h (if b then hosts else hosts ++ h ∷ []) ≡ true
noted_by true hosts h e = e
noted_by false hosts h e = noted_last hosts h

-- ---- the inner place of a mapping stays, and its hosts

pub record Stays (ns : List Mapped) (i : ℕ) (m : Mapped) : Type 0 where
  pub mapped : Mapped
  pub there : slice_get ns i ≡ Some mapped
  pub same : mapped.inner ≡ m.inner
  pub keeps : (h : List ℕ) → has_host h m.towards ≡ true → has_host h mapped.towards ≡ true

stays_step : (b : Bool) (k : Mapped) (ms ns : List Mapped) (call : Call) (i : ℕ) (m : Mapped)
    → ((j : ℕ) → slice_get ms j ≡ Some m → Stays ns j m)
    → slice_get (k ∷ ms) i ≡ Some m → Stays (if b then used_by k call ∷ ms else k ∷ ns) i m
stays_step true k ms ns call zero m later e =
    let is : k ≡ m = cc in
    record {
      mapped = used_by k call;
      there = refl;
      same = ap (λ (x : Mapped). x.inner) is;
      keeps = λ h has. keeps_by (has_host call.to.host k.towards) k.towards call.to.host h (subst (λ (x : Mapped). has_host h x.towards ≡ true) (sym is) has);
    }
stays_step true k ms ns call (suc i) m later e = record { mapped = m; there = e; same = refl; keeps = λ h has. has }
stays_step false k ms ns call zero m later e = record { mapped = m; there = e; same = refl; keeps = λ h has. has }
stays_step false k ms ns call (suc i) m later e = let w = later i e in record { mapped = w.mapped; there = w.there; same = w.same; keeps = w.keeps }

pub stays : (rule : Rule) (ms : List Mapped) (call : Call) (i : ℕ) (m : Mapped) → slice_get ms i ≡ Some m → Stays (with_use rule ms call) i m
stays rule [] call i m e = absurd cc
stays rule (k ∷ ms) call i m e = stays_step (is_of rule k call) k ms (with_use rule ms call) call i m (λ j. stays rule ms call j m) e

-- ---- at the place of a call stands a mapping of its inner place that is used towards its host

pub same_of : (rule : Rule) (k : Mapped) (call : Call) → is_of rule k call ≡ true → is_same_place k.inner call.inner ≡ true
same_of Independent k call e = e
same_of Dependent k call e = first_true (is_same_place k.inner call.inner) (has_host call.to.host k.towards) e

pub same_plain : (a : AddressParts) → a.v6 ≡ false → is_same_place (plain a) a ≡ true
same_plain a v4 = same_place (plain a) a (record { family = sym v4; host = refl; port = refl })

pub record Stands (ns : List Mapped) (i : ℕ) (call : Call) : Type 0 where
  pub mapped : Mapped
  pub there : slice_get ns i ≡ Some mapped
  pub same : is_same_place mapped.inner call.inner ≡ true
  pub noted : has_host call.to.host mapped.towards ≡ true

stands_step : (rule : Rule) (b : Bool) (p : ℕ) (k : Mapped) (ms ns : List Mapped) (call : Call) → is_of rule k call ≡ b
    → Stands ns p call → Stands (if b then used_by k call ∷ ms else k ∷ ns) (if b then 0 else suc p) call
stands_step rule true p k ms ns call is later = record {
  mapped = used_by k call;
  there = refl;
  same = same_of rule k call is;
  noted = noted_by (has_host call.to.host k.towards) k.towards call.to.host refl;
}
stands_step rule false p k ms ns call is later = record { mapped = later.mapped; there = later.there; same = later.same; noted = later.noted }

pub stands : (rule : Rule) (ms : List Mapped) (call : Call) → call.inner.v6 ≡ false → Stands (with_use rule ms call) (place_of rule ms call) call
stands rule [] call v4 = record { mapped = new_for call; there = refl; same = same_plain call.inner v4; noted = noted_last [] call.to.host }
stands rule (k ∷ ms) call v4 = stands_step rule (is_of rule k call) (place_of rule ms call) k ms (with_use rule ms call) call refl (stands rule ms call v4)

-- ---- a mapping was there before, or is that of the call

pub data Stem (rule : Rule) (ms : List Mapped) (call : Call) (i : ℕ) (m : Mapped) : Type 0 where
  Before : slice_get ms i ≡ Some m → Stem rule ms call i m
  Used : (k : Mapped) → place_of rule ms call ≡ i → slice_get ms i ≡ Some k → is_of rule k call ≡ true → used_by k call ≡ m → Stem rule ms call i m
  Made : place_of rule ms call ≡ i → new_for call ≡ m → Stem rule ms call i m

lift : (rule : Rule) (k : Mapped) (ms : List Mapped) (call : Call) (i : ℕ) (m : Mapped) → is_of rule k call ≡ false → Stem rule ms call i m → Stem rule (k ∷ ms) call (suc i) m
lift rule k ms call i m is (Before e) = Before e
lift rule k ms call i m is (Used w at e of u) = Used w (ap (λ (b : Bool). if b then 0 else suc (place_of rule ms call)) is ∙ ap suc at) e of u
lift rule k ms call i m is (Made at e) = Made (ap (λ (b : Bool). if b then 0 else suc (place_of rule ms call)) is ∙ ap suc at) e

stem_step : (rule : Rule) (b : Bool) (k : Mapped) (ms : List Mapped) (call : Call) (i : ℕ) (m : Mapped) → is_of rule k call ≡ b
    → ((j : ℕ) → slice_get (with_use rule ms call) j ≡ Some m → Stem rule ms call j m)
    → slice_get (if b then used_by k call ∷ ms else k ∷ with_use rule ms call) i ≡ Some m → Stem rule (k ∷ ms) call i m
stem_step rule true k ms call zero m is later e = Used k (ap (λ (b : Bool). if b then 0 else suc (place_of rule ms call)) is) refl is cc
stem_step rule true k ms call (suc i) m is later e = Before e
stem_step rule false k ms call zero m is later e = Before e
stem_step rule false k ms call (suc i) m is later e = lift rule k ms call i m is (later i e)

pub stem : (rule : Rule) (ms : List Mapped) (call : Call) (i : ℕ) (m : Mapped) → slice_get (with_use rule ms call) i ≡ Some m → Stem rule ms call i m
stem rule [] call zero m e = Made refl cc
stem rule [] call (suc i) m e = absurd cc
stem rule (k ∷ ms) call i m e = stem_step rule (is_of rule k call) k ms call i m refl (λ j. stem rule ms call j m) e

-- ---- a dependent mapping is used towards one host alone

pub record IsAlone (m : Mapped) : Type 0 where
  pub host : List ℕ
  pub is : m.towards ≡ host ∷ []

alone_by : (ms : List Mapped) (call : Call) (i : ℕ) (m : Mapped) → ((j : ℕ) (k : Mapped) → slice_get ms j ≡ Some k → IsAlone k) → Stem Dependent ms call i m → IsAlone m
alone_by ms call i m before (Before e) = before i m e
alone_by ms call i m before (Used k at e of u) =
    let a = before i k e in
    let had = second_true (is_same_place k.inner call.inner) (has_host call.to.host k.towards) of in
    subst (λ (x : Mapped). IsAlone x) u (record { host = a.host; is = has_it (has_host call.to.host k.towards) call.to.host k.towards had ∙ a.is })
alone_by ms call i m before (Made at e) = subst (λ (x : Mapped). IsAlone x) e (record { host = call.to.host; is = refl })

pub alone : (calls : List Call) (i : ℕ) (m : Mapped) → slice_get (map_of Dependent calls) i ≡ Some m → IsAlone m
alone [] i m e = absurd cc
alone (call ∷ before) i m e = alone_by (map_of Dependent before) call i m (alone before) (stem Dependent (map_of Dependent before) call i m e)

-- ---- which hosts a mapping was used towards

pub host_is : (h host : List ℕ) → (bytes_eq host h || false) ≡ true → h ≡ host
host_is h host e = sym ((bytes_eq-Decides host h).0 (or_false (bytes_eq host h) e))
  where
    or_false : (b : Bool) → (b || false) ≡ true → b ≡ true
    or_false true e = e
    or_false false e = e

any_more : (hosts : List (List ℕ)) (h host : List ℕ) → has_host host (hosts ++ h ∷ []) ≡ true → (has_host host hosts ≡ true) ⊎ (h ≡ host)
any_more [] h host e = inr (host_is h host e)
any_more (g ∷ hosts) h host e = step (bytes_eq host g) (has_host host hosts) (has_host host (hosts ++ h ∷ [])) (any_more hosts h host) e
  where
    step : (b o n : Bool) → (n ≡ true → (o ≡ true) ⊎ (h ≡ host)) → (b || n) ≡ true → ((b || o) ≡ true) ⊎ (h ≡ host)
    step true o n later e = inl refl
    step false o n later e = later e

more_by : (b : Bool) (hosts : List (List ℕ)) (h host : List ℕ) → has_host host (if b then hosts else hosts ++ h ∷ []) ≡ true → (has_host host hosts ≡ true) ⊎ (h ≡ host)
more_by true hosts h host e = inl e
more_by false hosts h host e = any_more hosts h host e

pub one_more : (k : Mapped) (call : Call) (host : List ℕ) → has_host host (used_by k call).towards ≡ true → (has_host host k.towards ≡ true) ⊎ (call.to.host ≡ host)
one_more k call host e = more_by (has_host call.to.host k.towards) k.towards call.to.host host e
