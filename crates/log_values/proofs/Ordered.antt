-- The log of an end in the history that an order tells.
use Rattle.std.proofs.Common.{ℕ, List, [], ◌∷◌, ◌++◌, ◌≡◌, ◌==◌, ◌≤◌, ◌+◌, inl, inr, refl, sym, ap, length, take, get_or, take_all, Bool, true, false, if◌then◌else◌, ◌∙◌, arith}
use Rattle.std.proofs.lemmas.List.{take_more}
use Rattle.endpoint_model.proofs.Members.{tested}
use Rattle.endpoint_laws.specs.History.{Happened, History, log_of}
use Rattle.log_values.specs.Told.{Logs, no_event, events_in, times, told, newest_first, EachEndHasItsLog}

-- how often a number stands in an order, where it is the next one and where it isn't
times_same : (who next : ℕ) (order : List ℕ) → (next == who) ≡ true → times who (next ∷ order) ≡ times who order + 1
times_same who next order e = ap (λ (b : Bool). (if b then 1 else 0) + times who order) e ∙ omega arith

times_other : (who next : ℕ) (order : List ℕ) → (next == who) ≡ false → times who (next ∷ order) ≡ times who order
times_other who next order e = ap (λ (b : Bool). (if b then 1 else 0) + times who order) e ∙ omega arith

times_turned : (who : ℕ) (order done : List ℕ) → times who (newest_first order done) ≡ times who order + times who done
times_turned who [] done = omega arith
times_turned who (next ∷ order) done = elim (tested next who) [
  | inl is ↦ omega (arith, times_turned who order (next ∷ done), times_same who next order is.1, times_same who next done is.1)
  | inr is ↦ omega (arith, times_turned who order (next ∷ done), times_other who next order is.1, times_other who next done is.1)
]

log_same : (who : ℕ) (h : Happened) (earlier : History) → (h.who == who) ≡ true → log_of who (h ∷ earlier) ≡ log_of who earlier ++ h.event ∷ []
log_same who h earlier e = ap (λ (b : Bool). if b then log_of who earlier ++ h.event ∷ [] else log_of who earlier) e

log_other : (who : ℕ) (h : Happened) (earlier : History) → (h.who == who) ≡ false → log_of who (h ∷ earlier) ≡ log_of who earlier
log_other who h earlier e = ap (λ (b : Bool). if b then log_of who earlier ++ h.event ∷ [] else log_of who earlier) e

-- The end's log so far is the beginning of its log.
told_so_far : (logs : Logs) (who : ℕ) (earlier : List ℕ) → times who earlier ≤ length (events_in logs who) → log_of who (told logs earlier) ≡ take (times who earlier) (events_in logs who)
told_so_far logs who [] fits = refl
told_so_far logs who (next ∷ earlier) fits = elim (tested next who) [
  | inl is ↦
      let count : times who (next ∷ earlier) ≡ times who earlier + 1 = times_same who next earlier is.1 in
      let before = told_so_far logs who earlier (omega (arith, count, fits)) in
      log_same who (record { who = next; event = get_or (events_in logs next) (times next earlier) no_event }) (told logs earlier) is.1
      ∙ (λ i. before i ++ get_or (events_in logs (is.0 i)) (times (is.0 i) earlier) no_event ∷ [])
      ∙ sym (take_more (events_in logs who) (times who earlier) no_event (omega (arith, count, fits)))
      ∙ ap (λ (n : ℕ). take n (events_in logs who)) (sym count)
  | inr is ↦
      let count : times who (next ∷ earlier) ≡ times who earlier = times_other who next earlier is.1 in
      log_other who (record { who = next; event = get_or (events_in logs next) (times next earlier) no_event }) (told logs earlier) is.1
      ∙ told_so_far logs who earlier (omega (arith, count, fits))
      ∙ ap (λ (n : ℕ). take n (events_in logs who)) (sym count)
]

pub each_end_has_its_log : EachEndHasItsLog
each_end_has_its_log logs order is who =
    let count : times who (newest_first order []) ≡ length (events_in logs who) = omega (arith, times_turned who order [], is.each who) in
    told_so_far logs who (newest_first order []) (omega (arith, count)) ∙ ap (λ (n : ℕ). take n (events_in logs who)) count ∙ take_all (length (events_in logs who)) (events_in logs who) (omega arith)
