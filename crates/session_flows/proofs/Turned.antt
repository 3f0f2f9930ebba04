-- The flow whose turn comes first, of those that may send, is the one that sends.
use Prim.Native.Nat.{zero, suc}
use Rattle.std.proofs.Common.{◌≡◌, ℕ, ◌+◌, ◌-◌, ◌^◌, ◌%◌, ◌<◌, ◌≤◌, ◌==◌, ◌&&◌, nat_lt, ◌⊎◌, Bool, true, false, cond, List, [], ◌∷◌, Option, Some, None, MatchOption, length, refl, sym, ap, ◌∙◌, arith, inl, inr}
use Rattle.std.specs.Prelude.{slice_get, is_some}
use Rattle.std.proofs.lemmas.Bool.{cases_lt, eqb-true}
use Rattle.std.proofs.lemmas.Bool.Decides.{nat_tests}
use Rattle.std.proofs.lemmas.Option.{slice_get_within}
use Rattle.rtmfp_data_chunks.specs.HandsOver.{IsIn}
use Rattle.flow_send.specs.Rows.{is_lost, is_unsent}
use Rattle.flow_send.specs.Sender.{Sender}
use Rattle.flow_send.specs.Choice.{Choice, Nothing, Send, Notify, chunk_for, choice_bytes, first_in, is_quiet, notice_due, or_else, within_limit}
use Rattle.flow_send.specs.Flow.{Flow}
use Rattle.session_flows.specs.declared.kept.Kept.{Kept}
use Rattle.session_flows.specs.declared.pace.Pace.{Pace}
use Rattle.session_flows.specs.Packing.{may_send, first_to_send, IsNextFrom}
use Rattle.flow_turns.specs.Turns.{has_turn, IsFirst}
use Rattle.session_flows.specs.Laws.{AreNumbered, IsNextOf, NoneMaySend, SendsBefore}
use Rattle.session_flows.specs.Kept.{may_later, turn_of, is_turn_of, IsKept}
use Rattle.session_flows.proofs.Sounds.{numbered_at}
use Rattle.session_flows.proofs.Next.{next_from}
use Rattle.session_flows.proofs.Within.{in_place}
use Rattle.session_flows.proofs.Settled.{own_turn, some_same}

clash : false ≡ true → ⊥
clash e = absurd cc

-- ---- what a flow may send at a pace it may send at the last moment

quiet_later : (notice : Option ℕ) (moment resend : ℕ) → moment < 2 ^ 64 → is_quiet notice moment resend ≡ true → is_quiet notice (2 ^ 64 - 1) 0 ≡ true
quiet_later None moment resend within e = refl
quiet_later (Some last) moment resend within e = grind (arith, nat_tests, e, within)

notice_by : (t q u : Bool) → (q ≡ true → u ≡ true) → (◌≡◌ {A = Choice} (cond (t && q) Notify Nothing) Nothing) ⊎ (◌≡◌ {A = Choice} (cond (t && q) Notify Nothing) (cond (t && u) Notify Nothing))
notice_by false q u h = inl refl
notice_by true false u h = inl refl
notice_by true true u h = inr (ap (λ (b : Bool). cond b Notify Nothing) (sym (h refl)))

notice_later : (moment resend : ℕ) (s : Sender) → moment < 2 ^ 64 → (notice_due moment resend s ≡ Nothing) ⊎ (notice_due moment resend s ≡ notice_due (2 ^ 64 - 1) 0 s)
notice_later moment resend s within = notice_by (nat_lt s.upto s.forward) (is_quiet s.notice moment resend) (is_quiet s.notice (2 ^ 64 - 1) 0) (quiet_later s.notice moment resend within)

abbrev goes : Sender → Choice → Bool
goes s o = is_some (chunk_for s (cond (within_limit s (choice_bytes o)) o Nothing))

nothing_goes : (s : Sender) (b : Bool) → is_some (chunk_for s (cond b Nothing Nothing)) ≡ false
nothing_goes s true = refl
nothing_goes s false = refl

other_by : (s : Sender) (a b n : Choice) → goes s (or_else a (or_else b Nothing)) ≡ true → goes s (or_else a (or_else b n)) ≡ true
other_by s Nothing Nothing n h = absurd (clash (sym (nothing_goes s (within_limit s 0)) ∙ h))
other_by s Nothing (Send k r) n h = h
other_by s Nothing Notify n h = h
other_by s (Send k r) b n h = h
other_by s Notify b n h = h

goes_later : (s : Sender) (a b m n : Choice) → (m ≡ Nothing) ⊎ (m ≡ n) → goes s (or_else a (or_else b m)) ≡ true → goes s (or_else a (or_else b n)) ≡ true
goes_later s a b m n (inl none) h = other_by s a b n (sym (ap (λ (o : Choice). goes s (or_else a (or_else b o))) none) ∙ h)
goes_later s a b m n (inr same) h = sym (ap (λ (o : Choice). goes s (or_else a (or_else b o))) same) ∙ h

pub sends_later : (pace : Pace) (f : Flow) → pace.moment < 2 ^ 64 → may_send pace f ≡ true → may_later f ≡ true
sends_later pace f within h =
    goes_later f.sender (first_in is_lost (f.sender.forward + 1) f.sender.rows) (first_in is_unsent (f.sender.forward + 1) f.sender.rows)
    (notice_due pace.moment pace.resend_after f.sender) (notice_due (2 ^ 64 - 1) 0 f.sender) (notice_later pace.moment pace.resend_after f.sender within) h

-- ---- whose turn it is

-- the flow at the index that a turn names
pub record IsOf (fs : List Flow) (turn : ℕ) : Type 0 where
  pub flow : Flow
  pub found : slice_get fs (turn % 256) ≡ Some flow
  pub inside : turn % 256 < length fs
  pub below : turn < 2048

same_if : (a b : ℕ) (u t : Bool) → (a == b) ≡ t → (t && u) ≡ true → a ≡ b
same_if a b u true e h = eqb-true a b e
same_if a b u false e h = absurd (clash h)

same_by : (a b : ℕ) (u : Bool) → ((a == b) && u) ≡ true → a ≡ b
same_by a b u h = same_if a b u (a == b) refl h

of_by : (fs : List Flow) (turn : ℕ) (o : Option Flow) → AreNumbered 0 fs → slice_get fs (turn % 256) ≡ o → is_turn_of turn o ≡ true → IsOf fs turn
of_by fs turn None ids is e = absurd (clash e)
of_by fs turn (Some f) ids is e =
    let id : f.id ≡ 0 + turn % 256 = numbered_at 0 (turn % 256) fs f ids is in
    let same : turn_of f ≡ turn = same_by (turn_of f) turn (may_later f) e in
    record { flow = f; found = is; inside = slice_get_within fs (turn % 256) f is; below = omega (arith, id, same) }

pub turn_there : (fs : List Flow) (k : Kept) (turn : ℕ) → AreNumbered 0 fs → IsKept fs k → has_turn k.turns turn ≡ true → IsOf fs turn
turn_there fs k turn ids h e = of_by fs turn (slice_get fs (turn % 256)) ids refl (sym (h.turns turn) ∙ e)

-- one that may send at a pace has its turn
has_its_turn : (pace : Pace) (fs : List Flow) (k : Kept) (i : ℕ) (g : Flow) → pace.moment < 2 ^ 64 → AreNumbered 0 fs → length fs ≤ 256 → IsKept fs k → slice_get fs i ≡ Some g → may_send pace g ≡ true →
    has_turn k.turns (turn_of g) ≡ true
has_its_turn pace fs k i g within ids few h there may =
    let id : g.id ≡ 0 + i = numbered_at 0 i fs g ids there in
    let inside : i < length fs = slice_get_within fs i g there in
    let place : turn_of g % 256 ≡ i = omega (arith, id, inside, few) in
    h.turns (turn_of g) ∙ ap (λ (o : Option Flow). is_turn_of (turn_of g) o) (ap (λ n. slice_get fs n) place ∙ there) ∙ own_turn g (turn_of g) refl ∙ sends_later pace g within may

-- no flow that may send has its turn before
abbrev pub NoneBefore : Pace → List Flow → ℕ → Type 0
NoneBefore pace fs from = (i : ℕ) (g : Flow) → slice_get fs i ≡ Some g → may_send pace g ≡ true → from ≤ turn_of g

pub none_at_first : (pace : Pace) (fs : List Flow) → NoneBefore pace fs 0
none_at_first pace fs i g there may = omega arith

-- a turn at which none may send is passed
pub turn_passed : (pace : Pace) (fs : List Flow) (k : Kept) (from turn : ℕ) (f : Flow) → pace.moment < 2 ^ 64 → AreNumbered 0 fs → length fs ≤ 256 → IsKept fs k → IsFirst k.turns from turn →
    slice_get fs (turn % 256) ≡ Some f → may_send pace f ≡ false → NoneBefore pace fs from → NoneBefore pace fs (turn + 1)
turn_passed pace fs k from turn f within ids few h first found never before i g there may =
    let has : has_turn k.turns (turn_of g) ≡ true = has_its_turn pace fs k i g within ids few h there may in
    let low : from ≤ turn_of g = before i g there may in
    let id : g.id ≡ 0 + i = numbered_at 0 i fs g ids there in
    let inside : i < length fs = slice_get_within fs i g there in
    elim (cases_lt (turn_of g) (turn + 1)) [
      | inr above ↦ above
      | inl less ↦ elim (cases_lt (turn_of g) turn) [
        | inl sooner ↦ absurd (clash (sym (first.none (turn_of g) low sooner) ∙ has))
        | inr most ↦
            let same : turn_of g ≡ turn = omega (arith, less, most) in
            let place : i ≡ turn % 256 = omega (arith, same, id, inside, few) in
            let is : g ≡ f = some_same (sym there ∙ ap (λ n. slice_get fs n) place ∙ found) in
            absurd (clash (sym never ∙ ap (λ (x : Flow). may_send pace x) (sym is) ∙ may))
      ]
    ]

-- ---- it sends

in_list : (fs : List Flow) (i : ℕ) (f : Flow) → slice_get fs i ≡ Some f → IsIn f fs
in_list [] i f e = absurd cc
in_list (x ∷ later) zero f e = inl (sym (some_same e))
in_list (x ∷ later) (suc i) f e = inr (in_list later i f e)

-- a flow that sends before one whose turn isn't later is that one
same_place : (x f : Flow) → x.priority ≤ 7 → f.priority ≤ 7 → x.id < 256 → f.id < 256 → SendsBefore x f → turn_of f ≤ turn_of x → x.id ≡ f.id
same_place x f xp fp xi fi (inl higher) le = absurd (omega (arith, xp, fp, xi, fi, higher, le))
same_place x f xp fp xi fi (inr same) le = omega (arith, xp, fp, xi, fi, same.0, same.1, le)

first_by : (pace : Pace) (fs : List Flow) (k : Kept) (at : ℕ) (f : Flow) (o : Option Flow) → AreNumbered 0 fs → length fs ≤ 256 → IsKept fs k → slice_get fs at ≡ Some f → may_send pace f ≡ true → NoneBefore pace fs (turn_of f) →
    MatchOption o (NoneMaySend pace fs) (λ x. IsNextOf pace fs x) → o ≡ slice_get fs at
first_by pace fs k at f None ids few h found may before next = absurd (clash (sym (next f (in_list fs at f found)) ∙ may))
first_by pace fs k at f (Some x) ids few h found may before next =
    let place = in_place 0 fs x ids next.is_in in
    let xid : x.id ≡ 0 + place.0 = place.1 in
    let fid : f.id ≡ 0 + at = numbered_at 0 at fs f ids found in
    let xin : place.0 < length fs = slice_get_within fs place.0 x place.2 in
    let fin : at < length fs = slice_get_within fs at f found in
    let same : x.id ≡ f.id = same_place x f (h.within place.0 x place.2).priority (h.within at f found).priority (omega (arith, xid, xin, few)) (omega (arith, fid, fin, few)) (next.before f (in_list fs at f found) may) (before place.0 x place.2 next.may) in
    let index : place.0 ≡ at = omega (arith, same, xid, fid) in
    sym place.2 ∙ ap (λ n. slice_get fs n) index

pub turn_sends : (pace : Pace) (fs : List Flow) (k : Kept) (from turn : ℕ) (f : Flow) → pace.moment < 2 ^ 64 → AreNumbered 0 fs → length fs ≤ 256 → IsKept fs k → IsFirst k.turns from turn →
    slice_get fs (turn % 256) ≡ Some f → may_send pace f ≡ true → NoneBefore pace fs from → IsNextFrom pace fs 0 (Some (turn % 256))
turn_sends pace fs k from turn f within ids few h first found may before =
    let id : f.id ≡ 0 + turn % 256 = numbered_at 0 (turn % 256) fs f ids found in
    let own : is_turn_of turn (Some f) ≡ true = ap (λ (o : Option Flow). is_turn_of turn o) (sym found) ∙ sym (h.turns turn) ∙ first.there in
    let same : turn_of f ≡ turn = same_by (turn_of f) turn (may_later f) own in
    let none : NoneBefore pace fs (turn_of f) = λ i g there so.
    elim (cases_lt (turn_of g) (turn_of f)) [
      | inr above ↦ above
      | inl less ↦ absurd (clash (sym (first.none (turn_of g) (before i g there so) (omega (arith, less, same))) ∙ has_its_turn pace fs k i g within ids few h there so))
    ] in
    (first_by pace fs k (turn % 256) f (first_to_send pace fs) ids few h found may none (next_from pace 0 fs ids), slice_get_within fs (turn % 256) f found)

-- ---- none does

none_by : (pace : Pace) (fs : List Flow) (o : Option Flow) → ((x : Flow) → IsIn x fs → may_send pace x ≡ true → ⊥) → MatchOption o (NoneMaySend pace fs) (λ x. IsNextOf pace fs x) → o ≡ None
none_by pace fs None never next = refl
none_by pace fs (Some x) never next = absurd (never x next.is_in next.may)

pub none_sends : (pace : Pace) (fs : List Flow) (k : Kept) (from : ℕ) → pace.moment < 2 ^ 64 → AreNumbered 0 fs → length fs ≤ 256 → IsKept fs k → ((t : ℕ) → from ≤ t → has_turn k.turns t ≡ false) →
    NoneBefore pace fs from → IsNextFrom pace fs 0 None
none_sends pace fs k from within ids few h none before =
    none_by pace fs (first_to_send pace fs)
    (λ x is_in may.
    let place = in_place 0 fs x ids is_in in
    clash (sym (none (turn_of x) (before place.0 x place.2 may)) ∙ has_its_turn pace fs k place.0 x within ids few h place.2 may))
    (next_from pace 0 fs ids)
