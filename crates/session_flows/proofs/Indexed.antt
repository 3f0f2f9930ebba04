-- Receiving flows by their indices.
use Prim.Native.Nat.{suc}
use Rattle.std.proofs.Common.{◌≡◌, ℕ, ◌+◌, ◌<◌, ◌≤◌, ◌==◌, Bool, true, false, cond, nat_lt, List, [], ◌∷◌, Option, Some, None, length, refl, sym, ap, ◌∙◌, subst, arith}
use Rattle.std.specs.Prelude.{is_some}
use Rattle.std.specs.List.{insert}
use Rattle.std.proofs.lemmas.Bool.{eq-eqb}
use Rattle.std.proofs.lemmas.Bool.Decides.{nat_tests}
use Rattle.session_flows.specs.declared.taking.TakingFlow.{TakingFlow}
use Rattle.session_flows.specs.Keeping.{in_taking, changed, added}
use Rattle.session_flows.specs.Places.{index_from, IsAt, place_of}
use Rattle.session_flows.specs.Laws.{Rise}

some_same : {x t : TakingFlow} → ◌≡◌ {A = Option TakingFlow} (Some x) (Some t) → x ≡ t
some_same e = cc

same_number : {x t : ℕ} → ◌≡◌ {A = Option ℕ} (Some x) (Some t) → x ≡ t
same_number e = cc

same_id : (n : ℕ) → (n == n) ≡ true
same_id n = eq-eqb n n refl

-- ---- where the flow of an ID is

abbrev Found : ℕ → ℕ → List TakingFlow → ℕ → Type 0
Found n id ts at = (k : ℕ) × (at ≡ n + k) × IsAt id ts k

at_by : (n id : ℕ) (t : TakingFlow) (later : List TakingFlow) (at : ℕ) (b : Bool) → (t.id == id) ≡ b → (index_from (n + 1) id later ≡ Some at → Found (n + 1) id later at) →
    cond b (Some n) (index_from (n + 1) id later) ≡ Some at → Found n id (t ∷ later) at
at_by n id t later at true e ih h =
    let found : n ≡ at = same_number h in (
      0,
      omega arith,
      record {
        within = omega arith;
        found = ap (λ (b : Bool). cond b (Some t) (in_taking id later)) e;
        change = λ f u same. ap (λ (b : Bool). cond b (f t ∷ later) (t ∷ changed f id later)) e ∙ ap (λ (x : TakingFlow). f x ∷ later) (some_same same);
      },
    )
at_by n id t later at false e ih h =
    let r = ih h in
    let here : at ≡ (n + 1) + r.0 = r.1 in
    let below : r.0 < length later = r.2.within in (
      suc r.0,
      omega arith,
      record {
        within = omega arith;
        found = ap (λ (b : Bool). cond b (Some t) (in_taking id later)) e ∙ r.2.found;
        change = λ f u same. ap (λ (b : Bool). cond b (f t ∷ later) (t ∷ changed f id later)) e ∙ ap (λ (l : List TakingFlow). t ∷ l) (r.2.change f u same);
      },
    )

at_from : (n id : ℕ) (ts : List TakingFlow) (at : ℕ) → index_from n id ts ≡ Some at → Found n id ts at
at_from n id [] at e = absurd cc
at_from n id (t ∷ later) at e = at_by n id t later at (t.id == id) refl (at_from (n + 1) id later at) e

pub is_at : (id : ℕ) (ts : List TakingFlow) (at : ℕ) → index_from 0 id ts ≡ Some at → IsAt id ts at
is_at id ts at e =
    let r = at_from 0 id ts at e in
    let here : at ≡ 0 + r.0 = r.1 in
    let same : r.0 ≡ at = omega arith in
    subst (λ (k : ℕ). IsAt id ts k) same r.2

none_by : (n id : ℕ) (t : TakingFlow) (later : List TakingFlow) (b : Bool) → (index_from (n + 1) id later ≡ None → in_taking id later ≡ None) →
    cond b (Some n) (index_from (n + 1) id later) ≡ None → cond b (Some t) (in_taking id later) ≡ None
none_by n id t later true ih h = absurd cc
none_by n id t later false ih h = ih h

pub not_there : (n id : ℕ) (ts : List TakingFlow) → index_from n id ts ≡ None → in_taking id ts ≡ None
not_there n id [] e = refl
not_there n id (t ∷ later) e = none_by n id t later (t.id == id) (not_there (n + 1) id later) e

there_by : (n id : ℕ) (t : TakingFlow) (later : List TakingFlow) (b : Bool) → is_some (index_from (n + 1) id later) ≡ is_some (in_taking id later) →
    is_some (cond b (Some n) (index_from (n + 1) id later)) ≡ is_some (cond b (Some t) (in_taking id later))
there_by n id t later true ih = refl
there_by n id t later false ih = ih

-- ---- one more

added_by : (t u : TakingFlow) (later : List TakingFlow) (b : Bool) → added t later ≡ insert later (place_of t.id later) t →
    cond b (t ∷ (u ∷ later)) (u ∷ added t later) ≡ insert (u ∷ later) (cond b 0 (suc (place_of t.id later))) t
added_by t u later true ih = refl
added_by t u later false ih = ap (λ (l : List TakingFlow). u ∷ l) ih

pub added_at : (t : TakingFlow) (ts : List TakingFlow) → added t ts ≡ insert ts (place_of t.id ts) t
added_at t [] = refl
added_at t (u ∷ later) = added_by t u later (nat_lt t.id u.id) (added_at t later)

longer_by : (t u : TakingFlow) (later : List TakingFlow) (b : Bool) → length (added t later) ≡ length later + 1 → length (cond b (t ∷ (u ∷ later)) (u ∷ added t later)) ≡ length (u ∷ later) + 1
longer_by t u later true ih = omega arith
longer_by t u later false ih = omega arith

pub longer : (t : TakingFlow) (ts : List TakingFlow) → length (added t ts) ≡ length ts + 1
longer t [] = omega arith
longer t (u ∷ later) = longer_by t u later (nat_lt t.id u.id) (longer t later)

other_by : (id : ℕ) (u : TakingFlow) (later : List TakingFlow) (b : Bool) → (u.id == id) ≡ b → cond b (Some u) (in_taking id later) ≡ None → ((u.id == id) ≡ false) × (in_taking id later ≡ None)
other_by id u later true e h = absurd cc
other_by id u later false e h = (e, h)

-- none is there, so the first isn't it, and none is there behind it
other : (id : ℕ) (u : TakingFlow) (later : List TakingFlow) → in_taking id (u ∷ later) ≡ None → ((u.id == id) ≡ false) × (in_taking id later ≡ None)
other id u later h = other_by id u later (u.id == id) refl h

rise_by : (low : ℕ) (t u : TakingFlow) (later : List TakingFlow) (b : Bool) → nat_lt t.id u.id ≡ b → (u.id == t.id) ≡ false → low ≤ t.id → Rise low (u ∷ later) →
    (u.id + 1 ≤ t.id → Rise (u.id + 1) (added t later)) → Rise low (cond b (t ∷ (u ∷ later)) (u ∷ added t later))
rise_by low t u later true e not le h ih = (le, (grind (arith, nat_tests), h.1))
rise_by low t u later false e not le h ih = (h.0, ih (grind (arith, nat_tests)))

pub rise_added : (low : ℕ) (t : TakingFlow) (ts : List TakingFlow) → low ≤ t.id → in_taking t.id ts ≡ None → Rise low ts → Rise low (added t ts)
rise_added low t [] le none h = (le, tt)
rise_added low t (u ∷ later) le none h =
    let o = other t.id u later none in
    rise_by low t u later (nat_lt t.id u.id) refl o.0 le h (λ above. rise_added (u.id + 1) t later above o.1 h.1)

changed_by : (f : TakingFlow → TakingFlow) (t u : TakingFlow) (later : List TakingFlow) (b : Bool) → (f t).id ≡ t.id → nat_lt t.id u.id ≡ b → (u.id == t.id) ≡ false →
    changed f t.id (added t later) ≡ added (f t) later → changed f t.id (cond b (t ∷ (u ∷ later)) (u ∷ added t later)) ≡ added (f t) (u ∷ later)
changed_by f t u later true keeps e not ih =
    ap (λ (b : Bool). cond b (f t ∷ (u ∷ later)) (t ∷ changed f t.id (u ∷ later))) (same_id t.id)
    ∙ sym (ap (λ (n : ℕ). cond (nat_lt n u.id) (f t ∷ (u ∷ later)) (u ∷ added (f t) later)) keeps ∙ ap (λ (b : Bool). cond b (f t ∷ (u ∷ later)) (u ∷ added (f t) later)) e)
changed_by f t u later false keeps e not ih =
    ap (λ (b : Bool). cond b (f u ∷ added t later) (u ∷ changed f t.id (added t later))) not ∙ ap (λ (l : List TakingFlow). u ∷ l) ih
    ∙ sym (ap (λ (n : ℕ). cond (nat_lt n u.id) (f t ∷ (u ∷ later)) (u ∷ added (f t) later)) keeps ∙ ap (λ (b : Bool). cond b (f t ∷ (u ∷ later)) (u ∷ added (f t) later)) e)

-- a flow that is added and then changed
pub changed_added : (f : TakingFlow → TakingFlow) (t : TakingFlow) (ts : List TakingFlow) → (f t).id ≡ t.id → in_taking t.id ts ≡ None → changed f t.id (added t ts) ≡ added (f t) ts
changed_added f t [] keeps none = ap (λ (b : Bool). cond b (f t ∷ []) (t ∷ [])) (same_id t.id)
changed_added f t (u ∷ later) keeps none =
    let o = other t.id u later none in
    changed_by f t u later (nat_lt t.id u.id) keeps refl o.0 (changed_added f t later keeps o.1)

-- whether one is there
pub there_is : (n id : ℕ) (ts : List TakingFlow) → is_some (index_from n id ts) ≡ is_some (in_taking id ts)
there_is n id [] = refl
there_is n id (t ∷ later) = there_by n id t later (t.id == id) (there_is (n + 1) id later)
