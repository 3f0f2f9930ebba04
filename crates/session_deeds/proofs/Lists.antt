-- Lists of flows in which one is changed.
use Prim.Native.Nat.{zero, suc}
use Rattle.std.proofs.Common.{◌≡◌, ℕ, ◌+◌, ◌≤◌, ◌==◌, Bool, true, false, cond, nat_lt, List, []}
use Rattle.std.proofs.Common.{◌∷◌, ◌++◌, Option, Some, None, option_map, length, refl, sym, ap, ◌∙◌}
use Rattle.std.proofs.Common.{subst}
use Rattle.std.specs.Prelude.{slice_get, slice_set}
use Rattle.std.specs.List.{AllByRecursion}
use Rattle.std.proofs.lemmas.Bool.{eqb-true, eq-eqb, ne_eqb}
use Rattle.flow_send.specs.Flow.{Flow}
use Rattle.flow_recv.specs.Receiver.{Receiver}
use Rattle.session_flows.specs.declared.taking.TakingFlow.{TakingFlow}
use Rattle.session_flows.specs.Keeping.{in_taking, changed, added}
use Rattle.session_flows.specs.Laws.{Rise}
use Rattle.session_deeds.specs.Shows.{receiver_of}

-- ---- sending flows, by their indices

pub set_there : (fs : List Flow) (i : ℕ) (f g : Flow) → slice_get fs i ≡ Some f →
    slice_get (slice_set fs i g) i ≡ Some g
set_there [] i f g e = absurd cc
set_there (x ∷ xs) zero f g e = refl
set_there (x ∷ xs) (suc i) f g e = set_there xs i f g e

pub set_other : (fs : List Flow) (i j : ℕ) (g : Flow) → (i ≡ j → ⊥) →
    slice_get (slice_set fs i g) j ≡ slice_get fs j
set_other [] i j g ne = refl
set_other (x ∷ xs) zero zero g ne = absurd (ne refl)
set_other (x ∷ xs) zero (suc j) g ne = refl
set_other (x ∷ xs) (suc i) zero g ne = refl
set_other (x ∷ xs) (suc i) (suc j) g ne = set_other xs i j g (λ e. ne (ap (λ (n : ℕ). suc n) e))

pub push_there : (fs : List Flow) (g : Flow) → slice_get (fs ++ g ∷ []) (length fs) ≡ Some g
push_there [] g = refl
push_there (x ∷ xs) g = push_there xs g

pub push_other : (fs : List Flow) (j : ℕ) (g : Flow) → (length fs ≡ j → ⊥) →
    slice_get (fs ++ g ∷ []) j ≡ slice_get fs j
push_other [] zero g ne = absurd (ne refl)
push_other [] (suc j) g ne = refl
push_other (x ∷ xs) zero g ne = refl
push_other (x ∷ xs) (suc j) g ne = push_other xs j g (λ e. ne (ap (λ (n : ℕ). suc n) e))

pub none_past : (fs : List Flow) → slice_get fs (length fs) ≡ None
none_past [] = refl
none_past (x ∷ xs) = none_past xs

module _ (P : Flow → Type 0) where
  some_is : {x y : Flow} → ◌≡◌ {A = Option Flow} (Some x) (Some y) → x ≡ y
  some_is e = cc

  pub each_at : (fs : List Flow) (i : ℕ) (f : Flow) → slice_get fs i ≡ Some f →
      AllByRecursion P fs → P f
  each_at [] i f e h = absurd cc
  each_at (x ∷ xs) zero f e h = subst P (some_is e) h.0
  each_at (x ∷ xs) (suc i) f e h = each_at xs i f e h.1

  pub each_set : (fs : List Flow) (i : ℕ) (g : Flow) → P g → AllByRecursion P fs →
      AllByRecursion P (slice_set fs i g)
  each_set [] i g p h = tt
  each_set (x ∷ xs) zero g p h = (p, h.1)
  each_set (x ∷ xs) (suc i) g p h = (h.0, each_set xs i g p h.1)

  pub each_push : (fs : List Flow) (g : Flow) → P g → AllByRecursion P fs →
      AllByRecursion P (fs ++ g ∷ [])
  each_push [] g p h = (p, tt)
  each_push (x ∷ xs) g p h = (h.0, each_push xs g p h.1)

-- ---- receiving flows, by their IDs

differs : (a b c : ℕ) → a ≡ b → (b ≡ c → ⊥) → (a == c) ≡ false
differs a b c e ne = ne_eqb a c (λ s. ne (sym e ∙ s))

other_by : (f : TakingFlow → TakingFlow) (id n : ℕ) (x : TakingFlow) (later : List TakingFlow)
    (b : Bool) → (f x).id ≡ x.id → (x.id == id) ≡ b → (id ≡ n → ⊥) →
    in_taking n (changed f id later) ≡ in_taking n later →
    in_taking n (cond b (f x ∷ later) (x ∷ changed f id later)) ≡ in_taking n (x ∷ later)
other_by f id n x later true keeps e ne ih =
    let here : x.id ≡ id = eqb-true x.id id e in
    ap (λ (b : Bool). cond b (Some (f x)) (in_taking n later))
    (differs (f x).id id n (keeps ∙ here) ne)
    ∙ sym (ap (λ (b : Bool). cond b (Some x) (in_taking n later)) (differs x.id id n here ne))
other_by f id n x later false keeps e ne ih =
    ap (λ (o : Option TakingFlow). cond (x.id == n) (Some x) o) ih

-- another flow stays
pub changed_other : (f : TakingFlow → TakingFlow) → ((x : TakingFlow) → (f x).id ≡ x.id) →
    (id n : ℕ) (ts : List TakingFlow) → (id ≡ n → ⊥) →
    in_taking n (changed f id ts) ≡ in_taking n ts
changed_other f keeps id n [] ne = refl
changed_other f keeps id n (x ∷ later) ne =
    other_by f id n x later (x.id == id) (keeps x) refl ne (changed_other f keeps id n later ne)

rise_by : (f : TakingFlow → TakingFlow) (id low : ℕ) (x : TakingFlow) (later : List TakingFlow)
    (b : Bool) → (f x).id ≡ x.id → Rise low (x ∷ later) → Rise (x.id + 1) (changed f id later) →
    Rise low (cond b (f x ∷ later) (x ∷ changed f id later))
rise_by f id low x later true keeps h ih =
    subst (λ (i : ℕ). (low ≤ i) × Rise (i + 1) later) (sym keeps) h
rise_by f id low x later false keeps h ih = (h.0, ih)

pub rise_changed : (f : TakingFlow → TakingFlow) → ((x : TakingFlow) → (f x).id ≡ x.id) →
    (id low : ℕ) (ts : List TakingFlow) → Rise low ts → Rise low (changed f id ts)
rise_changed f keeps id low [] h = tt
rise_changed f keeps id low (x ∷ later) h =
    rise_by f id low x later (x.id == id) (keeps x) h (rise_changed f keeps id (x.id + 1) later h.1)

long_by : (f : TakingFlow → TakingFlow) (id : ℕ) (x : TakingFlow) (later : List TakingFlow)
    (b : Bool) → length (changed f id later) ≡ length later →
    length (cond b (f x ∷ later) (x ∷ changed f id later)) ≡ length (x ∷ later)
long_by f id x later true ih = refl
long_by f id x later false ih = ap (λ (n : ℕ). suc n) ih

pub long_changed : (f : TakingFlow → TakingFlow) (id : ℕ) (ts : List TakingFlow) →
    length (changed f id ts) ≡ length ts
long_changed f id [] = refl
long_changed f id (x ∷ later) = long_by f id x later (x.id == id) (long_changed f id later)

module _ (P : TakingFlow → Type 0) where
  is_some : {x y : TakingFlow} → ◌≡◌ {A = Option TakingFlow} (Some x) (Some y) → x ≡ y
  is_some e = cc

  in_by : (id : ℕ) (x t : TakingFlow) (later : List TakingFlow) (b : Bool) → P x →
      (in_taking id later ≡ Some t → P t) → cond b (Some x) (in_taking id later) ≡ Some t → P t
  in_by id x t later true p ih h = subst P (is_some h) p
  in_by id x t later false p ih h = ih h

  pub each_in : (id : ℕ) (t : TakingFlow) (ts : List TakingFlow) → in_taking id ts ≡ Some t →
      AllByRecursion P ts → P t
  each_in id t [] e h = absurd cc
  each_in id t (x ∷ later) e h =
      in_by id x t later (x.id == id) h.0 (λ k. each_in id t later k h.1) e

  there_by : (f : TakingFlow → TakingFlow) (id : ℕ) (x t : TakingFlow) (later : List TakingFlow)
      (b : Bool) → P (f t) → cond b (Some x) (in_taking id later) ≡ Some t → b ≡ true → P (f x)
  there_by f id x t later true q h e = subst (λ (u : TakingFlow). P (f u)) (sym (is_some h)) q
  there_by f id x t later false q h e = absurd cc

  back_by : (id : ℕ) (x t : TakingFlow) (later : List TakingFlow) (b : Bool)
      (f : TakingFlow → TakingFlow) → P x → P (f t) → AllByRecursion P later →
      (in_taking id later ≡ Some t → AllByRecursion P (changed f id later)) →
      cond b (Some x) (in_taking id later) ≡ Some t →
      AllByRecursion P (cond b (f x ∷ later) (x ∷ changed f id later))
  back_by id x t later true f p q h ih e =
      (subst (λ (u : TakingFlow). P (f u)) (sym (is_some e)) q, h)
  back_by id x t later false f p q h ih e = (p, ih e)

  pub each_changed : (f : TakingFlow → TakingFlow) (id : ℕ) (t : TakingFlow)
      (ts : List TakingFlow) → in_taking id ts ≡ Some t → P (f t) → AllByRecursion P ts →
      AllByRecursion P (changed f id ts)
  each_changed f id t [] e q h = tt
  each_changed f id t (x ∷ later) e q h =
      back_by id x t later (x.id == id) f h.0 q h.1 (λ k. each_changed f id t later k q h.1) e

  added_by : (t x : TakingFlow) (later : List TakingFlow) (b : Bool) → P t → P x →
      AllByRecursion P later → AllByRecursion P (added t later) →
      AllByRecursion P (cond b (t ∷ (x ∷ later)) (x ∷ added t later))
  added_by t x later true q p h ih = (q, (p, h))
  added_by t x later false q p h ih = (p, ih)

  pub each_added : (t : TakingFlow) (ts : List TakingFlow) → P t → AllByRecursion P ts →
      AllByRecursion P (added t ts)
  each_added t [] q h = (q, tt)
  each_added t (x ∷ later) q h =
      added_by t x later (nat_lt t.id x.id) q h.0 h.1 (each_added t later q h.1)

-- one more

new_by : (t x : TakingFlow) (later : List TakingFlow) (b : Bool) → (x.id == t.id) ≡ false →
    in_taking t.id (added t later) ≡ Some t →
    in_taking t.id (cond b (t ∷ (x ∷ later)) (x ∷ added t later)) ≡ Some t
new_by t x later true e ih =
    ap (λ (b : Bool). cond b (Some t) (in_taking t.id (x ∷ later))) (eq-eqb t.id t.id refl)
new_by t x later false e ih = ap (λ (b : Bool). cond b (Some x) (in_taking t.id (added t later))) e
    ∙ ih

absent_by : (id : ℕ) (x : TakingFlow) (later : List TakingFlow) (b : Bool) → (x.id == id) ≡ b →
    cond b (Some x) (in_taking id later) ≡ None →
    ((x.id == id) ≡ false) × (in_taking id later ≡ None)
absent_by id x later true e h = absurd cc
absent_by id x later false e h = (e, h)

pub added_there : (t : TakingFlow) (ts : List TakingFlow) → in_taking t.id ts ≡ None →
    in_taking t.id (added t ts) ≡ Some t
added_there t [] none = ap (λ (b : Bool). cond b (Some t) None) (eq-eqb t.id t.id refl)
added_there t (x ∷ later) none =
    let k = absent_by t.id x later (x.id == t.id) refl none in
    new_by t x later (nat_lt t.id x.id) k.0 (added_there t later k.1)

past_by : (t x : TakingFlow) (n : ℕ) (later : List TakingFlow) (b : Bool) → (t.id == n) ≡ false →
    in_taking n (added t later) ≡ in_taking n later →
    in_taking n (cond b (t ∷ (x ∷ later)) (x ∷ added t later)) ≡ in_taking n (x ∷ later)
past_by t x n later true e ih = ap (λ (b : Bool). cond b (Some t) (in_taking n (x ∷ later))) e
past_by t x n later false e ih = ap (λ (o : Option TakingFlow). cond (x.id == n) (Some x) o) ih

pub added_other : (t : TakingFlow) (n : ℕ) (ts : List TakingFlow) → (t.id ≡ n → ⊥) →
    in_taking n (added t ts) ≡ in_taking n ts
added_other t n [] ne = ap (λ (b : Bool). cond b (Some t) None) (ne_eqb t.id n ne)
added_other t n (x ∷ later) ne =
    past_by t x n later (nat_lt t.id x.id) (ne_eqb t.id n ne) (added_other t n later ne)

-- ---- flows that tell the same, whatever is owed

abbrev pub Alike : List TakingFlow → List TakingFlow → Type 0
Alike [] [] = Unit {0}
Alike [] (u ∷ us) = ⊥
Alike (t ∷ ts) [] = ⊥
Alike (t ∷ ts) (u ∷ us) = ((u.id ≡ t.id) × (u.receiver ≡ t.receiver)) × Alike ts us

pub alike_same : (ts : List TakingFlow) → Alike ts ts
alike_same [] = tt
alike_same (t ∷ ts) = ((refl, refl), alike_same ts)

alike_by : (n : ℕ) (t u : TakingFlow) (ts us : List TakingFlow) (b : Bool) →
    u.receiver ≡ t.receiver →
    option_map receiver_of (in_taking n us) ≡ option_map receiver_of (in_taking n ts) →
    option_map receiver_of (cond b (Some u) (in_taking n us)) ≡ option_map receiver_of
    (cond b (Some t) (in_taking n ts))
alike_by n t u ts us true same ih = ap (λ (r : Receiver). Some r) same
alike_by n t u ts us false same ih = ih

pub alike_at : (n : ℕ) (ts us : List TakingFlow) → Alike ts us →
    option_map receiver_of (in_taking n us) ≡ option_map receiver_of (in_taking n ts)
alike_at n [] [] h = refl
alike_at n [] (u ∷ us) h = absurd h
alike_at n (t ∷ ts) [] h = absurd h
alike_at n (t ∷ ts) (u ∷ us) h =
    ap (λ (i : ℕ). option_map receiver_of (cond (i == n) (Some u) (in_taking n us))) h.0.0
    ∙ alike_by n t u ts us (t.id == n) h.0.1 (alike_at n ts us h.1)

pub alike_long : (ts us : List TakingFlow) → Alike ts us → length us ≡ length ts
alike_long [] [] h = refl
alike_long [] (u ∷ us) h = absurd h
alike_long (t ∷ ts) [] h = absurd h
alike_long (t ∷ ts) (u ∷ us) h = ap (λ (n : ℕ). suc n) (alike_long ts us h.1)

pub alike_rise : (low : ℕ) (ts us : List TakingFlow) → Alike ts us → Rise low ts → Rise low us
alike_rise low [] [] h r = tt
alike_rise low [] (u ∷ us) h r = absurd h
alike_rise low (t ∷ ts) [] h r = absurd h
alike_rise low (t ∷ ts) (u ∷ us) h r =
    subst (λ (i : ℕ). (low ≤ i) × Rise (i + 1) us) (sym h.0.0)
    (r.0, alike_rise (t.id + 1) ts us h.1 r.1)

changed_alike_by : (f : TakingFlow → TakingFlow) (id : ℕ) (x : TakingFlow) (later : List TakingFlow)
    (b : Bool) → ((f x).id ≡ x.id) × ((f x).receiver ≡ x.receiver) →
    Alike later (changed f id later) →
    Alike (x ∷ later) (cond b (f x ∷ later) (x ∷ changed f id later))
changed_alike_by f id x later true same ih = (same, alike_same later)
changed_alike_by f id x later false same ih = ((refl, refl), ih)

pub changed_alike : (f : TakingFlow → TakingFlow) →
    ((x : TakingFlow) → ((f x).id ≡ x.id) × ((f x).receiver ≡ x.receiver)) →
    (id : ℕ) (ts : List TakingFlow) → Alike ts (changed f id ts)
changed_alike f same id [] = tt
changed_alike f same id (x ∷ later) =
    changed_alike_by f id x later (x.id == id) (same x) (changed_alike f same id later)
