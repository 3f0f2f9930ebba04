-- Ends by their numbers: after one more came, and after one changed its state.
use Rattle.std.proofs.Common.{◌≡◌, ◌≢◌, ℕ, zero, suc, ◌+◌, ◌-◌, ◌<◌, ◌≤◌, ◌==◌, List, [], ◌∷◌, ◌++◌, map, length, slice_get, slice_index_or, Bool, true, false, if◌then◌else◌, Option, Some, None, inl, inr, ◌⊎◌, refl, sym, ap, ◌∙◌, arith}
use Rattle.std.proofs.lemmas.Bool.Decides.{nat_tests}
use Rattle.endpoint_model.specs.State.{State}
use Rattle.rendezvous_world.specs.declared.end.End.{End}
use Rattle.rendezvous_world.specs.Seen.{EndSeen, generation_at, setup_at, state_at}
use Rattle.rendezvous_world.specs.Inside.{end_seen}
use Rattle.rendezvous_world.specs.Stepping.{in_state, with_state}
use Rattle.rendezvous_world.specs.Kept.{AreApart}

-- ---- small facts

-- two numbers are equal, and the test says so, or neither
pub tested : (a b : ℕ) → ((a ≡ b) × ((a == b) ≡ true)) ⊎ ((a ≢ b) × ((a == b) ≡ false))
tested a b = decided (a == b) refl
  where
    decided : (t : Bool) → (a == b) ≡ t → ((a ≡ b) × ((a == b) ≡ true)) ⊎ ((a ≢ b) × ((a == b) ≡ false))
    decided true e = inl (grind (arith, nat_tests), e)
    decided false e = inr ((λ is. grind (arith, nat_tests)), e)

pub below_or_not : (a b : ℕ) → (a < b) ⊎ (b ≤ a)
below_or_not a b = grind arith

not_zero : (n : ℕ) → (suc n == 0) ≡ false
not_zero n = grind (arith, nat_tests)

one_less : (n : ℕ) → suc n - 1 ≡ n
one_less n = omega arith

-- a choice by a number that isn't 0, by the number before it
pub at_suc : {A : Type 0} (n : ℕ) (x : A) (f : ℕ → A) → (if suc n == 0 then x else f (suc n - 1)) ≡ f n
at_suc n x f = ap (λ (b : Bool). if b then x else f (suc n - 1)) (not_zero n) ∙ ap f (one_less n)

some_is : {A : Type 0} (x y : A) → ◌≡◌ {A = Option A} (Some x) (Some y) → x ≡ y
some_is x y e = cc

-- ---- an end and its setup

pub setup_is : (ends : List EndSeen) (who : ℕ) (end : EndSeen) → slice_get ends who ≡ Some end → setup_at ends who ≡ end.setup
setup_is [] who end e = absurd (cc)
setup_is (x ∷ ends) zero end e = ap (λ (y : EndSeen). y.setup) (some_is x end e)
setup_is (x ∷ ends) (suc who) end e = setup_is ends who end e

pub generation_is : (ends : List EndSeen) (k : ℕ) (e : EndSeen) → slice_get ends k ≡ Some e → generation_at ends k ≡ e.state.group.generation
generation_is [] k e is = absurd (cc)
generation_is (x ∷ ends) zero e is = let same : x ≡ e = cc in ap (λ (y : EndSeen). y.state.group.generation) same
generation_is (x ∷ ends) (suc k) e is = generation_is ends k e is

pub is_there : (ends : List EndSeen) (who : ℕ) → who < length ends → (end : EndSeen) × (slice_get ends who ≡ Some end)
is_there [] who below = absurd (omega arith)
is_there (x ∷ ends) zero below = (x, refl)
is_there (x ∷ ends) (suc who) below = is_there ends who (omega arith)

pub below_length : (ends : List EndSeen) (who : ℕ) (end : EndSeen) → slice_get ends who ≡ Some end → who < length ends
below_length [] who end e = absurd (cc)
below_length (x ∷ ends) zero end e = omega arith
below_length (x ∷ ends) (suc who) end e = let rest : who < length ends = below_length ends who end e in omega arith

pub state_there : (ends : List End) (who : ℕ) (d : End) → who < length ends → state_at (map end_seen ends) who ≡ Some (slice_index_or ends who d).endpoint
state_there [] who d below = absurd (omega arith)
state_there (x ∷ ends) zero d below = refl
state_there (x ∷ ends) (suc who) d below = state_there ends who d (omega arith)

pub setup_there : (ends : List End) (who : ℕ) (d : End) → who < length ends → setup_at (map end_seen ends) who ≡ (end_seen (slice_index_or ends who d)).setup
setup_there [] who d below = absurd (omega arith)
setup_there (x ∷ ends) zero d below = refl
setup_there (x ∷ ends) (suc who) d below = setup_there ends who d (omega arith)

pub no_state : (ends : List End) (who : ℕ) → length ends ≤ who → state_at (map end_seen ends) who ≡ None
no_state [] who e = refl
no_state (x ∷ ends) zero e = absurd (omega arith)
no_state (x ∷ ends) (suc who) e = no_state ends who (omega arith)

-- ---- one changed its state

with_state-suc : (x : EndSeen) (ends : List EndSeen) (who : ℕ) (s : State) → with_state (x ∷ ends) (suc who) s ≡ x ∷ with_state ends who s
with_state-suc x ends who s = at_suc who (in_state x s ∷ ends) (λ (n : ℕ). x ∷ with_state ends n s)

pub setups_stay : (ends : List EndSeen) (k : ℕ) (s : State) (who : ℕ) → setup_at (with_state ends k s) who ≡ setup_at ends who
setups_stay [] k s who = refl
setups_stay (x ∷ ends) zero s zero = refl
setups_stay (x ∷ ends) zero s (suc who) = refl
setups_stay (x ∷ ends) (suc k) s zero = ap (λ (l : List EndSeen). setup_at l zero) (with_state-suc x ends k s)
setups_stay (x ∷ ends) (suc k) s (suc who) = ap (λ (l : List EndSeen). setup_at l (suc who)) (with_state-suc x ends k s) ∙ setups_stay ends k s who

pub length-with_state : (ends : List EndSeen) (k : ℕ) (s : State) → length (with_state ends k s) ≡ length ends
length-with_state [] k s = refl
length-with_state (x ∷ ends) zero s = refl
length-with_state (x ∷ ends) (suc k) s = ap (λ (l : List EndSeen). length l) (with_state-suc x ends k s) ∙ ap suc (length-with_state ends k s)

pub changed_end : (ends : List EndSeen) (k : ℕ) (s : State) (end : EndSeen) → slice_get ends k ≡ Some end → slice_get (with_state ends k s) k ≡ Some (in_state end s)
changed_end [] k s end e = absurd (cc)
changed_end (x ∷ ends) zero s end e = ap (λ (y : EndSeen). Some (in_state y s)) (some_is x end e)
changed_end (x ∷ ends) (suc k) s end e = ap (λ (l : List EndSeen). slice_get l (suc k)) (with_state-suc x ends k s) ∙ changed_end ends k s end e

pub other_end : (ends : List EndSeen) (k who : ℕ) (s : State) → who ≢ k → slice_get (with_state ends k s) who ≡ slice_get ends who
other_end [] k who s other = refl
other_end (x ∷ ends) zero zero s other = absurd (other refl)
other_end (x ∷ ends) zero (suc who) s other = refl
other_end (x ∷ ends) (suc k) zero s other = ap (λ (l : List EndSeen). slice_get l zero) (with_state-suc x ends k s)
other_end (x ∷ ends) (suc k) (suc who) s other =
    ap (λ (l : List EndSeen). slice_get l (suc who)) (with_state-suc x ends k s) ∙ other_end ends k who s (λ same. other (ap suc same))

-- an end was there before with another state
pub record WasThere (ends : List EndSeen) (who : ℕ) (end : EndSeen) : Type 0 where
  pub before : EndSeen
  pub there : slice_get ends who ≡ Some before
  pub name : before.name ≡ end.name
  pub setup : before.setup ≡ end.setup

pub was_there : (ends : List EndSeen) (k : ℕ) (s : State) (who : ℕ) (end : EndSeen) → slice_get (with_state ends k s) who ≡ Some end → WasThere ends who end
was_there [] k s who end e = absurd (cc)
was_there (x ∷ ends) zero s zero end e =
    let same : in_state x s ≡ end = some_is (in_state x s) end e in
    record { before = x; there = refl; name = ap (λ (y : EndSeen). y.name) same; setup = ap (λ (y : EndSeen). y.setup) same }
was_there (x ∷ ends) zero s (suc who) end e = record { before = end; there = e; name = refl; setup = refl }
was_there (x ∷ ends) (suc k) s zero end e =
    let same : x ≡ end = some_is x end (sym (ap (λ (l : List EndSeen). slice_get l zero) (with_state-suc x ends k s)) ∙ e) in
    record { before = x; there = refl; name = ap (λ (y : EndSeen). y.name) same; setup = ap (λ (y : EndSeen). y.setup) same }
was_there (x ∷ ends) (suc k) s (suc who) end e =
    let rest = was_there ends k s who end (sym (ap (λ (l : List EndSeen). slice_get l (suc who)) (with_state-suc x ends k s)) ∙ e) in
    record { before = rest.before; there = rest.there; name = rest.name; setup = rest.setup }

-- what doesn't speak of states still tells ends apart
pub apart_with_state : (bytes : EndSeen → List ℕ) (ends : List EndSeen) (k : ℕ) (s : State) →
    ((x y : EndSeen) → x.name ≡ y.name → x.setup ≡ y.setup → bytes x ≡ bytes y) → AreApart bytes ends → AreApart bytes (with_state ends k s)
apart_with_state bytes ends k s of apart a b x y ea eb same =
    let p = was_there ends k s a x ea in
    let q = was_there ends k s b y eb in
    apart a b p.before q.before p.there q.there (of p.before x p.name p.setup ∙ same ∙ sym (of q.before y q.name q.setup))

-- ---- one more end

pub setups_stay_before : (ends : List EndSeen) (end : EndSeen) (who : ℕ) → who < length ends → setup_at (ends ++ end ∷ []) who ≡ setup_at ends who
setups_stay_before [] end who below = absurd (omega arith)
setups_stay_before (x ∷ ends) end zero below = refl
setups_stay_before (x ∷ ends) end (suc who) below = setups_stay_before ends end who (omega arith)

pub length-more : (ends : List EndSeen) (end : EndSeen) → length (ends ++ end ∷ []) ≡ length ends + 1
length-more [] end = refl
length-more (x ∷ ends) end = let rest : length (ends ++ end ∷ []) ≡ length ends + 1 = length-more ends end in omega arith

-- each was there before, but for the new one
pub before_or_new : (ends : List EndSeen) (new : EndSeen) (who : ℕ) (end : EndSeen) → slice_get (ends ++ new ∷ []) who ≡ Some end → (slice_get ends who ≡ Some end) ⊎ ((who ≡ length ends) × (end ≡ new))
before_or_new [] new zero end e = inr (refl, sym (some_is new end e))
before_or_new [] new (suc who) end e = absurd (cc)
before_or_new (x ∷ ends) new zero end e = inl e
before_or_new (x ∷ ends) new (suc who) end e = elim (before_or_new ends new who end e) [
  | inl before ↦ inl before
  | inr is ↦ inr (ap suc is.0, is.1)
]

-- none of the ends has these bytes
abbrev pub NoneHas : (EndSeen → List ℕ) → List ℕ → List EndSeen → Type 0
NoneHas bytes of ends = (who : ℕ) (end : EndSeen) → slice_get ends who ≡ Some end → bytes end ≢ of

pub apart_with_end : (bytes : EndSeen → List ℕ) (ends : List EndSeen) (new : EndSeen) → NoneHas bytes (bytes new) ends → AreApart bytes ends → AreApart bytes (ends ++ new ∷ [])
apart_with_end bytes ends new none apart a b x y ea eb same = elim (before_or_new ends new a x ea) [
  | inl p ↦
      (elim (before_or_new ends new b y eb) [
        | inl q ↦ apart a b x y p q same
        | inr q ↦ absurd (none a x p (same ∙ ap bytes q.1))
      ])
  | inr p ↦
      (elim (before_or_new ends new b y eb) [
        | inl q ↦ absurd (none b y q (sym same ∙ ap bytes p.1))
        | inr q ↦ p.0 ∙ sym q.0
      ])
]
