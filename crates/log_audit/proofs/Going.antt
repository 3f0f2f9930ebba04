-- How far an audit has come in its order.
use Rattle.std.proofs.Common.{ℕ, Option, Some, None, map, take, drop, take_all, ◌-◌, List, [], ◌∷◌, ◌≡◌, ◌==◌, ◌<◌, ◌≤◌, ◌+◌, inl, inr, refl, sym, ap, subst, ◌∙◌, length, get_or, Bool, true, false, if◌then◌else◌, arith, get_or-set_same, get_or-set_other, length-set}
use Rattle.std.proofs.Math.ListN.{set}
use Rattle.std.proofs.lemmas.Bool.{cases_lt}
use Rattle.std.proofs.lemmas.List.{get_or_past, length-map}
use Rattle.endpoint_model.proofs.Members.{tested}
use Rattle.log_values.specs.declared.log.EndLog.{EndLog}
use Rattle.log_values.specs.Events.{events_of}
use Rattle.log_values.specs.Told.{IsOrder, events_in, logs_of, newest_first, times}
use Rattle.log_audit.specs.Places.{AreSeen, IsAt}

-- What isn't empty is its first item and the rest.
pub first_and_rest : {X : Type 0} (rest : List X) (d : X) → 1 ≤ length rest → rest ≡ get_or rest 0 d ∷ take (length rest - 1) (drop 1 rest)
first_and_rest [] d some = absurd (omega (arith, some))
first_and_rest (x ∷ rest) d some = ap (λ l. x ∷ l) (sym (take_all (length (x ∷ rest) - 1) rest (omega arith)))

pub item_and_rest : {X : Type 0} (rest : List X) (x : X) → 1 ≤ length rest → x ≡ get_or rest 0 x → rest ≡ x ∷ take (length rest - 1) (drop 1 rest)
item_and_rest rest x some is = first_and_rest rest x some ∙ ap (λ y. y ∷ take (length rest - 1) (drop 1 rest)) (sym is)

-- What is nothing else is None.
pub none_left : {X : Type 0} (o : Option X) → ((x : X) → o ≡ Some x → ⊥) → o ≡ None
none_left None other = refl
none_left (Some x) other = absurd (other x refl)

-- ---- how often a number stands

pub times_same : (who next : ℕ) (order : List ℕ) → (next == who) ≡ true → times who (next ∷ order) ≡ times who order + 1
times_same who next order e = ap (λ (b : Bool). (if b then 1 else 0) + times who order) e ∙ omega arith

pub times_other : (who next : ℕ) (order : List ℕ) → (next == who) ≡ false → times who (next ∷ order) ≡ times who order
times_other who next order e = ap (λ (b : Bool). (if b then 1 else 0) + times who order) e ∙ omega arith

pub times_here : (who : ℕ) (order : List ℕ) → times who (who ∷ order) ≡ times who order + 1
times_here who order = elim (tested who who) [ inl is ↦ times_same who who order is.1 | inr is ↦ absurd (is.0 refl) ]

pub times_turned : (who : ℕ) (order done : List ℕ) → times who (newest_first order done) ≡ times who order + times who done
times_turned who [] done = omega arith
times_turned who (next ∷ order) done = elim (tested next who) [
  | inl is ↦ omega (arith, times_turned who order (next ∷ done), times_same who next order is.1, times_same who next done is.1)
  | inr is ↦ omega (arith, times_turned who order (next ∷ done), times_other who next order is.1, times_other who next done is.1)
]

times_few : (who : ℕ) (order : List ℕ) → times who order ≤ length order
times_few who [] = omega arith
times_few who (next ∷ order) = elim (tested next who) [
  | inl is ↦ omega (arith, times_few who order, times_same who next order is.1)
  | inr is ↦ omega (arith, times_few who order, times_other who next order is.1)
]

length_turned : (order done : List ℕ) → length (newest_first order done) ≡ length order + length done
length_turned [] done = omega arith
length_turned (who ∷ order) done = omega (arith, length_turned order (who ∷ done))

-- ---- the ends of logs

logs_mapped : (logs : List EndLog) → logs_of logs ≡ map events_of logs
logs_mapped [] = refl
logs_mapped (log ∷ logs) = ap (λ l. events_of log ∷ l) (logs_mapped logs)

-- An end with an event has a log.
pub in_logs : (logs : List EndLog) (who at : ℕ) → at < length (events_in (logs_of logs) who) → who < length logs
in_logs logs who at there = elim (cases_lt who (length logs)) [
  | inl within ↦ within
  | inr beyond ↦
      let short : length (map events_of logs) ≤ who = subst (λ (n : ℕ). n ≤ who) (sym (length-map logs events_of)) beyond in
      let empty : events_in (logs_of logs) who ≡ [] = ap (λ l. get_or l who []) (logs_mapped logs) ∙ get_or_past (map events_of logs) who [] short in
      absurd (omega (arith, there, ap length empty))
]

-- ---- the next event

-- What is so of the next end in the order.
pub record IsNext (logs : List EndLog) (order : List ℕ) (who : ℕ) (earlier seen : List ℕ) : Type 0 where
  pub log : who < length logs
  pub end : who < length seen
  pub there : get_or seen who 0 < length (events_in (logs_of logs) who)
  pub few : get_or seen who 0 < length order
  pub place : get_or seen who 0 ≡ times who earlier
  pub number : length earlier < length order

pub at_next : (logs : List EndLog) (order : List ℕ) (who : ℕ) (more earlier seen : List ℕ) → IsOrder (logs_of logs) order → IsAt logs order (who ∷ more) earlier seen → IsNext logs order who earlier seen
at_next logs order who more earlier seen is at =
    let place : get_or seen who 0 ≡ times who earlier = at.counted.each who in
    let all : times who order ≡ length (events_in (logs_of logs) who) = is.each who in
    let there : get_or seen who 0 < length (events_in (logs_of logs) who) =
    omega (arith, place, all, times_turned who order [], times_turned who more (who ∷ earlier), times_here who earlier, ap (times who) at.follows) in
    let within : who < length logs = in_logs logs who (get_or seen who 0) there in
    let number : length earlier < length order = omega (arith, length_turned order [], length_turned more (who ∷ earlier), ap length at.follows) in
    record {
      log = within;
      end = omega (arith, within, at.counted.count);
      there = there;
      few = omega (arith, place, times_few who earlier, number);
      place = place;
      number = number;
    }

pub at_more : (logs : List EndLog) (order : List ℕ) (who : ℕ) (more earlier seen : List ℕ) → IsAt logs order (who ∷ more) earlier seen → who < length seen → IsAt logs order more (who ∷ earlier) (set seen who (get_or seen who 0 + 1))
at_more logs order who more earlier seen at within = record {
  follows = at.follows;
  counted = record { count = length-set seen who (get_or seen who 0 + 1) ∙ at.counted.count; each = each };
}
  where
    each : (w : ℕ) → get_or (set seen who (get_or seen who 0 + 1)) w 0 ≡ times w (who ∷ earlier)
    each w = elim (tested who w) [
      | inl is ↦
          subst (λ (x : ℕ). get_or (set seen who (get_or seen who 0 + 1)) x 0 ≡ times x (who ∷ earlier)) is.0
          (get_or-set_same seen who (get_or seen who 0 + 1) 0 within ∙ ap (λ n. n + 1) (at.counted.each who) ∙ sym (times_here who earlier))
      | inr is ↦ get_or-set_other seen who w (get_or seen who 0 + 1) 0 (λ e. is.0 (sym e)) ∙ at.counted.each w ∙ sym (times_other w who earlier is.1)
    ]

pub at_first : (logs : List EndLog) (order seen : List ℕ) → AreSeen logs [] seen → IsAt logs order order [] seen
at_first logs order seen are = record { follows = refl; counted = are }
