-- What holds of all that is read stays so with each line.
use Rattle.std.proofs.Common.{ℕ, zero, suc, List, [], ◌∷◌, ◌++◌, ◌≡◌, ◌==◌, ◌+◌, ◌<◌, ◌≤◌, Bool, true, false, if◌then◌else◌, Option, Some, None, refl, sym, ap, ◌∙◌, subst, length, arith, length-append}
use Rattle.std.specs.Prelude.{IfSome}
use Rattle.std.proofs.lemmas.Bool.{eqb-true, eqb-false}
use Rattle.std.specs.Str.{bytes_eq}
use Rattle.endpoint_model.specs.Event.{Event}
use Rattle.endpoint_model.specs.declared.entry.Entry.{Entry}
use Rattle.log_values.specs.Told.{Logs, events_in, times}
use Rattle.log_reading.specs.Gathered.{IsSound, and_event, change_at, to_last, place_from}

length_changed : (f : List Event → List Event) (who : ℕ) (logs : Logs) → length (change_at who f logs) ≡ length logs
length_changed f who [] = refl
length_changed f zero (events ∷ logs) = refl
length_changed f (suc who) (events ∷ logs) = ap suc (length_changed f who logs)

length_last : (entry : Entry) (events : List Event) → length (to_last entry events) ≡ length events
length_last entry [] = refl
length_last entry (e ∷ []) = refl
length_last entry (e ∷ f ∷ events) = ap suc (length_last entry (f ∷ events))

-- an end without events
events_none : (logs : Logs) (who : ℕ) → events_in (logs ++ [] ∷ []) who ≡ events_in logs who
events_none [] zero = refl
events_none [] (suc who) = refl
events_none (events ∷ logs) zero = refl
events_none (events ∷ logs) (suc who) = events_none logs who

-- a change that leaves how many events there are
many_kept : (f : List Event → List Event) → ((events : List Event) → length (f events) ≡ length events) → (who : ℕ) (logs : Logs) (k : ℕ) → length (events_in (change_at who f logs) k) ≡ length (events_in logs k)
many_kept f keeps who [] k = refl
many_kept f keeps zero (events ∷ logs) zero = keeps events
many_kept f keeps zero (events ∷ logs) (suc k) = refl
many_kept f keeps (suc who) (events ∷ logs) zero = refl
many_kept f keeps (suc who) (events ∷ logs) (suc k) = many_kept f keeps who logs k

-- an event more
many_same : (e : Event) (who : ℕ) (logs : Logs) → who < length logs → length (events_in (change_at who (and_event e) logs) who) ≡ length (events_in logs who) + 1
many_same e who [] less = let no : ⊥ = omega (arith, less) in absurd no
many_same e zero (events ∷ logs) less = length-append events (e ∷ [])
many_same e (suc who) (events ∷ logs) less = many_same e who logs (omega (arith, less))

many_other : (e : Event) (who : ℕ) (logs : Logs) (k : ℕ) → (who ≡ k → ⊥) → length (events_in (change_at who (and_event e) logs) k) ≡ length (events_in logs k)
many_other e who [] k not = refl
many_other e zero (events ∷ logs) zero not = absurd (not refl)
many_other e zero (events ∷ logs) (suc k) not = refl
many_other e (suc who) (events ∷ logs) zero not = refl
many_other e (suc who) (events ∷ logs) (suc k) not = many_other e who logs k (λ same. not (ap suc same))

many_by : (b : Bool) (e : Event) (who : ℕ) (logs : Logs) (k : ℕ) → (who == k) ≡ b → who < length logs → length (events_in (change_at who (and_event e) logs) k) ≡ length (events_in logs k) + (if b then 1 else 0)
many_by true e who logs k is less = subst (λ (n : ℕ). length (events_in (change_at who (and_event e) logs) n) ≡ length (events_in logs n) + 1) (eqb-true who k is) (many_same e who logs less)
many_by false e who logs k is less = let same : length (events_in (change_at who (and_event e) logs) k) ≡ length (events_in logs k) = many_other e who logs k (eqb-false who k is) in omega (arith, same)

many_more : (e : Event) (who : ℕ) (logs : Logs) (k : ℕ) → who < length logs → length (events_in (change_at who (and_event e) logs) k) ≡ length (events_in logs k) + (if who == k then 1 else 0)
many_more e who logs k less = many_by (who == k) e who logs k refl less

times_more : (k who : ℕ) (order : List ℕ) → times k (order ++ who ∷ []) ≡ times k order + (if who == k then 1 else 0)
times_more k who [] = omega arith
times_more k who (next ∷ order) = let before = times_more k who order in omega (arith, before)

if_more : (last : Option ℕ) (n m : ℕ) → n ≤ m → IfSome last (λ who. who < n) → IfSome last (λ who. who < m)
if_more None n m fits less = tt
if_more (Some who) n m fits less = omega (arith, fits, less)

pub sound_log : {names names' : List (List ℕ)} {logs logs' : Logs} {order : List ℕ} {last : Option ℕ} {count : ℕ} (name : List ℕ) → names' ≡ names ++ name ∷ [] → logs' ≡ logs ++ [] ∷ [] → count < 100000 → length names < 1024 → IsSound names logs order last count → IsSound names' logs' order last (count + 1)
sound_log {names} {names'} {logs} {logs'} {order} {last} {count} name e f less few s =
    let named : length names' ≡ length names + 1 = ap (λ (ns : List (List ℕ)). length ns) e ∙ length-append names (name ∷ []) in
    let logged : length logs' ≡ length logs + 1 = ap (λ (ls : Logs). length ls) f ∙ length-append logs ([] ∷ []) in
    record {
      few = omega (arith, named, few);
      ends = omega (arith, named, logged, s.ends);
      lines = omega (arith, less);
      within = if_more last (length logs) (length logs') (omega (arith, logged)) s.within;
      whole = record { each = λ k. s.whole.each k ∙ sym (ap (λ (es : List Event). length es) (events_none logs k)) ∙ ap (λ (ls : Logs). length (events_in ls k)) (sym f) };
    }

pub sound_event : {names : List (List ℕ)} {logs logs' : Logs} {order order' : List ℕ} {last : Option ℕ} {count : ℕ} (who : ℕ) (e : Event) → logs' ≡ change_at who (and_event e) logs → order' ≡ order ++ who ∷ [] → count < 100000 → who < length logs → IsSound names logs order last count → IsSound names logs' order' (Some who) (count + 1)
sound_event {names} {logs} {logs'} {order} {order'} {last} {count} who e f g less there s =
    let logged : length logs' ≡ length logs = ap (λ (ls : Logs). length ls) f ∙ length_changed (and_event e) who logs in
    record {
      few = s.few;
      ends = s.ends ∙ sym logged;
      lines = omega (arith, less);
      within = omega (arith, there, logged);
      whole = record { each = λ k. ap (times k) g ∙ times_more k who order ∙ ap (λ (n : ℕ). n + (if who == k then 1 else 0)) (s.whole.each k) ∙ sym (many_more e who logs k there) ∙ ap (λ (ls : Logs). length (events_in ls k)) (sym f) };
    }

pub sound_entry : {names : List (List ℕ)} {logs logs' : Logs} {order : List ℕ} {last : Option ℕ} {count : ℕ} (who : ℕ) (entry : Entry) → logs' ≡ change_at who (to_last entry) logs → count < 100000 → IsSound names logs order last count → IsSound names logs' order last (count + 1)
sound_entry {names} {logs} {logs'} {order} {last} {count} who entry f less s =
    let logged : length logs' ≡ length logs = ap (λ (ls : Logs). length ls) f ∙ length_changed (to_last entry) who logs in
    record {
      few = s.few;
      ends = s.ends ∙ sym logged;
      lines = omega (arith, less);
      within = if_more last (length logs) (length logs') (omega (arith, logged)) s.within;
      whole = record { each = λ k. s.whole.each k ∙ sym (many_kept (to_last entry) (length_last entry) who logs k) ∙ ap (λ (ls : Logs). length (events_in ls k)) (sym f) };
    }

-- a name that has a place stands there
within_by : (b : Bool) (o : Option ℕ) (at n : ℕ) → IfSome o (λ who. who < at + 1 + n) → IfSome (if b then Some at else o) (λ who. who < at + suc n)
within_by true o at n less = omega arith
within_by false None at n less = tt
within_by false (Some who) at n less = omega (arith, less)

pub place_within : (at : ℕ) (name : List ℕ) (names : List (List ℕ)) → IfSome (place_from at name names) (λ who. who < at + length names)
place_within at name [] = tt
place_within at name (first ∷ names) = within_by (bytes_eq first name) (place_from (at + 1) name names) at (length names) (place_within (at + 1) name names)
