-- Which flow sends, by its index, and what a packet takes.
use Prim.Native.Nat.{zero, suc}
use Rattle.std.proofs.Common.{◌≡◌, ℕ, ◌+◌, ◌-◌, ◌<◌, ◌≤◌, ◌^◌, Bool, true, false, cond, nat_lt, nat_le, min, List, [], ◌∷◌, Option, Some, None, refl, sym, ap, ◌∙◌, subst, arith, inl, inr}
use Rattle.std.specs.Prelude.{slice_get, slice_set, is_none}
use Rattle.std.proofs.lemmas.Bool.{cases_lt, lt-ltb, le-ltb, lt-leb, le-leb}
use Rattle.rtmfp_data_chunks.specs.Runs.{Chunk}
use Rattle.flow_send.specs.declared.outcome.NoChunk.{NoChunk}
use Rattle.flow_send.specs.declared.outcome.NoChunk.TheVariants as no_chunk
use Rattle.flow_send.specs.Choice.{Choice, choice_bytes, chunk_for}
use Rattle.flow_send.specs.Flow.{Flow, chunk_refusal_of, if_room, data_length, chunk_options}
use Rattle.session_flows.specs.declared.pace.Pace.{Pace}
use Rattle.session_flows.specs.declared.pace.Marks.{Marks}
use Rattle.session_flows.specs.Packing.{may_send, chosen, before_other, first_to_send, session_flight, Packed, Packing, packed_by, flow_packed, put_back, packed, packing_with, packed_of, packed_once, packs, packs_on, Goes}

-- ---- the flow that sends

some_same : {x y : Flow} → ◌≡◌ {A = Option Flow} (Some x) (Some y) → x ≡ y
some_same e = cc

-- ---- refusals with a sum that stands still at its type's end

same_test : (window flight bytes : ℕ) → window ≤ 1048576 → nat_lt window (min flight (2 ^ 64 - 1) + bytes) ≡ nat_lt window (flight + bytes)
same_test window flight bytes few =
    elim (cases_lt window (flight + bytes)) [
      | inl less ↦ lt-ltb window (min flight (2 ^ 64 - 1) + bytes) (omega arith) ∙ sym (lt-ltb window (flight + bytes) less)
      | inr most ↦ le-ltb window (min flight (2 ^ 64 - 1) + bytes) (omega arith) ∙ sym (le-ltb window (flight + bytes) most)
    ]

same_by : (f : Flow) (first : Bool) (room flight window : ℕ) (o : Choice) (c : Option Chunk) → window ≤ 1048576 →
    chunk_refusal_of f first room (min flight (2 ^ 64 - 1)) window o c ≡ chunk_refusal_of f first room flight window o c
same_by f first room flight window o None few = refl
same_by f first room flight window o (Some c) few =
    ap (λ (b : Bool). cond b (Some no_chunk.Window) (if_room room (data_length f.id (chunk_options f first) c))) (same_test window flight (choice_bytes o) few)

pub same_packed : (pace : Pace) (flight : ℕ) (p : Packed) → pace.window ≤ 1048576 → flow_packed pace (min flight (2 ^ 64 - 1)) p ≡ flow_packed pace flight p
same_packed pace flight p few =
    ap (λ (o : Option NoChunk). packed_by pace p o (chunk_for p.flow.sender (chosen pace p.flow)))
    (same_by p.flow _ _ flight pace.window (chosen pace p.flow) (chunk_for p.flow.sender (chosen pace p.flow)) few)

-- ---- the flow that sends may

may_of : (pace : Pace) (x f g : Flow) (b : Bool) → may_send pace x ≡ true → (g ≡ f → may_send pace f ≡ true) → cond b g x ≡ f → may_send pace f ≡ true
may_of pace x f g true e ih h = ih h
may_of pace x f g false e ih h = ap (λ (y : Flow). may_send pace y) (sym h) ∙ e

may_by : (pace : Pace) (x f : Flow) (o : Option Flow) (b : Bool) → may_send pace x ≡ b → (o ≡ Some f → may_send pace f ≡ true) → cond b (Some (before_other x o)) o ≡ Some f → may_send pace f ≡ true
may_by pace x f o false e ih h = ih h
may_by pace x f None true e ih h = ap (λ (g : Flow). may_send pace g) (sym (some_same h)) ∙ e
may_by pace x f (Some g) true e ih h = may_of pace x f g (nat_lt x.priority g.priority) e (λ same. ih (ap (λ (y : Flow). Some y) same)) (some_same h)

pub chosen_may : (pace : Pace) (fs : List Flow) (f : Flow) → first_to_send pace fs ≡ Some f → may_send pace f ≡ true
chosen_may pace [] f h = absurd cc
chosen_may pace (x ∷ later) f h = may_by pace x f (first_to_send pace later) (may_send pace x) refl (chosen_may pace later f) h

pub same_goes : (window flight bytes : ℕ) → window ≤ 1048576 → nat_le (min flight (2 ^ 64 - 1) + bytes) window ≡ nat_le (flight + bytes) window
same_goes window flight bytes few =
    elim (cases_lt window (flight + bytes)) [
      | inl less ↦ lt-leb (min flight (2 ^ 64 - 1) + bytes) window (omega arith) ∙ sym (lt-leb (flight + bytes) window less)
      | inr most ↦ le-leb (min flight (2 ^ 64 - 1) + bytes) window (omega arith) ∙ sym (le-leb (flight + bytes) window most)
    ]

-- ---- one more chunk

pub set_back : (fs : List Flow) (at : ℕ) (x : Flow) → slice_get fs at ≡ Some x → slice_set fs at x ≡ fs
set_back [] at x h = refl
set_back (y ∷ later) zero x h = cc
set_back (y ∷ later) (suc at) x h = ap (λ (l : List Flow). y ∷ l) (set_back later at x h)

goes_by_one : (fs : List Flow) (packet : List ℕ) (marks : Marks) (at : ℕ) (x y : Flow) (result : Bool) (out : List ℕ) (new : Marks) (o : Option Packed) → x.id ≡ 0 + at → slice_get fs at ≡ Some x → y.id ≡ x.id →
    Goes o result (packed x packet marks) (packed y out new) → Goes (put_back fs o) result (packing_with fs packet marks) (packing_with (slice_set fs at y) out new)
goes_by_one fs packet marks at x y result out new None id there same h =
    (h.0, ap (λ (p : Packed). packing_with (slice_set fs at p.flow) p.packet p.marks) h.1 ∙ ap (λ (l : List Flow). packing_with l packet marks) (set_back fs at x there))
goes_by_one fs packet marks at x y result out new (Some q) id there same h =
    let place : at ≡ y.id = omega arith in
    (h.0, ap (λ (n : ℕ). packing_with (slice_set fs n y) out new) place ∙ ap (λ (p : Packed). packing_with (slice_set fs p.flow.id p.flow) p.packet p.marks) h.1)

pub once_goes : (pace : Pace) (fs : List Flow) (packet : List ℕ) (marks : Marks) (at : ℕ) (x : Flow) (flight : ℕ) (result : Bool) (y : Flow) (out : List ℕ) (new : Marks) →
    first_to_send pace fs ≡ Some x → x.id ≡ 0 + at → slice_get fs at ≡ Some x → flight ≡ min (session_flight fs) (2 ^ 64 - 1) → pace.window ≤ 1048576 → y.id ≡ x.id →
    Goes (flow_packed pace flight (packed x packet marks)) result (packed x packet marks) (packed y out new) →
    Goes (packed_once pace (packing_with fs packet marks)) result (packing_with fs packet marks) (packing_with (slice_set fs at y) out new)
once_goes pace fs packet marks at x flight result y out new first id there e few same h =
    let exact : flow_packed pace flight (packed x packet marks) ≡ flow_packed pace (session_flight fs) (packed x packet marks) =
    ap (λ (n : ℕ). flow_packed pace n (packed x packet marks)) e ∙ same_packed pace (session_flight fs) (packed x packet marks) few in
    let went = subst (λ (o : Option Packed). Goes o result (packed x packet marks) (packed y out new)) exact h in
    subst (λ (o : Option Flow). Goes (packed_of pace (packing_with fs packet marks) o) result (packing_with fs packet marks) (packing_with (slice_set fs at y) out new)) (sym first)
    (goes_by_one fs packet marks at x y result out new (flow_packed pace (session_flight fs) (packed x packet marks)) id there same went)

-- ---- until none goes

pub clash : false ≡ true → ⊥
clash e = absurd cc

pub some_goes : (o : Option Packing) (p q : Packing) → Goes o true p q → o ≡ Some q
some_goes None p q h = absurd (clash (sym h.0))
some_goes (Some r) p q h = ap (λ (x : Packing). Some x) (sym h.1)

pub goes_same : (o : Option Packing) (p q : Packing) → Goes o false p q → q ≡ p
goes_same None p q h = h.1
goes_same (Some r) p q h = absurd (clash h.0)

stop_by : (pace : Pace) (n : ℕ) (p q : Packing) (o : Option Packing) → Goes o false p q → packs_on (packs pace n) p o ≡ q
stop_by pace n p q None h = sym h.1
stop_by pace n p q (Some r) h = absurd (clash h.0)

-- where none goes, so many more go as none
pub packs_stop : (pace : Pace) (n : ℕ) (p q : Packing) → Goes (packed_once pace p) false p q → packs pace (suc n) p ≡ q
unfolding packs
packs_stop pace n p q h = stop_by pace n p q (packed_once pace p) h

none_at : (pace : Pace) (p q : Packing) (o : Option Packing) → packed_once pace p ≡ o → Goes o false p q → is_none (packed_once pace q) ≡ true
none_at pace p q None e h = ap (λ (x : Packing). is_none (packed_once pace x)) h.1 ∙ ap (λ (x : Option Packing). is_none x) e
none_at pace p q (Some r) e h = absurd (clash h.0)

-- and none goes then
pub none_goes : (pace : Pace) (p q : Packing) → Goes (packed_once pace p) false p q → is_none (packed_once pace q) ≡ true
none_goes pace p q h = none_at pace p q (packed_once pace p) refl h

-- a walk of at most 1,165 chunks is over
pub record IsOver (pace : Pace) (all last : Packing) : Type 0 where
  pub whole : all ≡ last
  pub full : is_none (packed_once pace all) ≡ true

-- it is so after a turn in which none goes
pub over_at : (pace : Pace) (turn : ℕ) (goes_on : Bool) (p q all : Packing) → turn < 1165 → goes_on ≡ false → Goes (packed_once pace p) goes_on p q → packs pace (1165 - turn) p ≡ all → IsOver pace all q
over_at pace turn goes_on p q all below stops went is =
    let none : Goes (packed_once pace p) false p q = subst (λ (b : Bool). Goes (packed_once pace p) b p q) stops went in
    let left : 1165 - turn ≡ suc (1165 - (turn + 1)) = omega (arith, below) in
    let whole : all ≡ q = sym is ∙ ap (λ (n : ℕ). packs pace n p) left ∙ packs_stop pace (1165 - (turn + 1)) p q none in
    record { whole = whole; full = ap (λ (x : Packing). is_none (packed_once pace x)) whole ∙ none_goes pace p q none }

-- where one goes, one fewer more go after it
go_by : (pace : Pace) (n : ℕ) (p q : Packing) (o : Option Packing) → Goes o true p q → packs_on (packs pace n) p o ≡ packs pace n q
go_by pace n p q None h = absurd (clash (sym h.0))
go_by pace n p q (Some r) h = ap (λ (x : Packing). packs pace n x) (sym h.1)

pub packs_go : (pace : Pace) (n : ℕ) (p q : Packing) → Goes (packed_once pace p) true p q → packs pace (suc n) p ≡ packs pace n q
unfolding packs
packs_go pace n p q h = go_by pace n p q (packed_once pace p) h
