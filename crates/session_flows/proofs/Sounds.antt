-- What is so of every session's flows stays so.
use Prim.Native.Nat.{zero, suc}
use Rattle.std.proofs.Common.{◌≡◌, ℕ, ◌+◌, ◌<◌, ◌≤◌, Bool, true, false, nat_lt, nat_le, cond, ◌||◌, map, List, [], ◌∷◌, ◌++◌, Some, None, length, refl, subst, arith, length-append}
use Rattle.std.specs.Prelude.{slice_get, slice_set}
use Rattle.flow_send.specs.Flow.{Flow}
use Rattle.session_flows.specs.declared.taking.TakingFlow.{TakingFlow}
use Rattle.std.proofs.Math.ListN.{length-set}
use Rattle.std.proofs.lemmas.Bool.Decides.{nat_tests}
use Rattle.session_flows.specs.declared.refusal.CallRefusal.TheVariants.{FlowsFull, WideMetadata}
use Rattle.session_flows.specs.Timing.{losing}
use Rattle.session_flows.specs.Calling.{open_refusal}
use Rattle.session_flows.specs.Keeping.{FlowsState, with_sending, with_taking}
use Rattle.session_flows.specs.Laws.{AreNumbered, Rise, IsSound}

-- ---- sending flows

pub numbered_set : (n i : ℕ) (fs : List Flow) (f g : Flow) → slice_get fs i ≡ Some f → g.id ≡ f.id → AreNumbered n fs → AreNumbered n (slice_set fs i g)
numbered_set n i [] f g e same h = tt
numbered_set n zero (x ∷ xs) f g e same h = (cc, h.1)
numbered_set n (suc i) (x ∷ xs) f g e same h = (h.0, numbered_set (n + 1) i xs f g e same h.1)

pub numbered_push : (n : ℕ) (fs : List Flow) (f : Flow) → AreNumbered n fs → f.id ≡ n + length fs → AreNumbered n (fs ++ f ∷ [])
numbered_push n [] f h e = (omega arith, tt)
numbered_push n (x ∷ xs) f h e = (h.0, numbered_push (n + 1) xs f h.1 (omega arith))

-- the flow at an index has this ID
pub numbered_at : (n i : ℕ) (fs : List Flow) (f : Flow) → AreNumbered n fs → slice_get fs i ≡ Some f → f.id ≡ n + i
numbered_at n i [] f h e = absurd cc
numbered_at n zero (x ∷ xs) f h e = let k : f.id ≡ n = cc in omega arith
numbered_at n (suc i) (x ∷ xs) f h e = let k : f.id ≡ (n + 1) + i = numbered_at (n + 1) i xs f h.1 e in omega arith

-- ---- receiving flows

pub rise_set : (low at : ℕ) (ts : List TakingFlow) (t u : TakingFlow) → slice_get ts at ≡ Some t → u.id ≡ t.id → Rise low ts → Rise low (slice_set ts at u)
rise_set low at [] t u e same h = tt
rise_set low zero (x ∷ xs) t u e same h =
    let k : x.id ≡ u.id = cc in
    subst (λ (id : ℕ). (low ≤ id) × Rise (id + 1) xs) k h
rise_set low (suc at) (x ∷ xs) t u e same h = (h.0, rise_set (x.id + 1) at xs t u e same h.1)

-- ---- all of them

pub sound_push : (s : FlowsState) (f : Flow) → length s.sending < 256 → f.id ≡ length s.sending → IsSound s → IsSound (with_sending s (s.sending ++ f ∷ []))
sound_push s f few e h = record {
  numbered = numbered_push 0 s.sending f h.numbered (omega arith);
  few = omega (arith, length-append s.sending (f ∷ []));
  rise = h.rise;
  few_taking = h.few_taking;
}

pub sound_set : (s : FlowsState) (i : ℕ) (f g : Flow) → slice_get s.sending i ≡ Some f → g.id ≡ f.id → IsSound s → IsSound (with_sending s (slice_set s.sending i g))
sound_set s i f g e same h = record {
  numbered = numbered_set 0 i s.sending f g e same h.numbered;
  few = omega (arith, length-set s.sending i g, h.few);
  rise = h.rise;
  few_taking = h.few_taking;
}

pub sound_taking : (s : FlowsState) (at : ℕ) (t u : TakingFlow) → slice_get s.taking at ≡ Some t → u.id ≡ t.id → IsSound s → IsSound (with_taking s (slice_set s.taking at u))
sound_taking s at t u e same h = record {
  numbered = h.numbered;
  few = h.few;
  rise = rise_set 0 at s.taking t u e same h.rise;
  few_taking = omega (arith, length-set s.taking at u, h.few_taking);
}

-- a flow that isn't refused has room
room_by : (n size priority : ℕ) (b : Bool) → nat_le 256 n ≡ b →
    cond b (Some (FlowsFull 256)) (cond (nat_lt 64 size || nat_lt 7 priority) (Some (WideMetadata size)) None) ≡ None → n < 256
room_by n size priority true e h = absurd cc
room_by n size priority false e h = grind (arith, nat_tests)

low_by : (n size priority : ℕ) (b : Bool) → cond b (Some (FlowsFull 256)) (cond (nat_lt 64 size || nat_lt 7 priority) (Some (WideMetadata size)) None) ≡ None → priority ≤ 7
low_by n size priority true h = absurd cc
low_by n size priority false h = grind (arith, nat_tests, h)

-- and its priority is at most 7
pub priority_low : (s : FlowsState) (size priority : ℕ) → open_refusal s size priority ≡ None → priority ≤ 7
priority_low s size priority h = low_by (length s.sending) size priority (nat_le 256 (length s.sending)) h

pub room_left : (s : FlowsState) (size priority : ℕ) → open_refusal s size priority ≡ None → length s.sending < 256
room_left s size priority h = room_by (length s.sending) size priority (nat_le 256 (length s.sending)) refl h

-- what is lost changes no ID
pub numbered_losing : (moment resend n : ℕ) (fs : List Flow) → AreNumbered n fs → AreNumbered n (map (losing moment resend) fs)
numbered_losing moment resend n [] h = tt
numbered_losing moment resend n (x ∷ later) h = (h.0, numbered_losing moment resend (n + 1) later h.1)
