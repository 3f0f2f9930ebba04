-- The flow that sends has the highest priority of those that may, and of these the lowest ID.
use Rattle.std.proofs.Common.{◌≡◌, ℕ, ◌+◌, ◌<◌, ◌≤◌, Bool, true, false, cond, nat_lt, List, [], ◌∷◌, Option, Some, None, MatchOption, inl, inr, refl, sym, ap, ◌∙◌, subst, arith}
use Rattle.std.proofs.lemmas.Bool.{cases_lt}
use Rattle.std.proofs.lemmas.Bool.Decides.{nat_tests}
use Rattle.rtmfp_data_chunks.specs.HandsOver.{IsIn}
use Rattle.flow_send.specs.Flow.{Flow}
use Rattle.session_flows.specs.declared.pace.Pace.{Pace}
use Rattle.session_flows.specs.Packing.{may_send, before_other, first_to_send}
use Rattle.session_flows.specs.Laws.{AreNumbered, SendsBefore, IsNextOf, NoneMaySend, TheNextSends}

clash : false ≡ true → ⊥
clash e = absurd cc

-- those after a flow have higher IDs
ids_above : (n : ℕ) (fs : List Flow) (g : Flow) → AreNumbered n fs → IsIn g fs → n ≤ g.id
ids_above n [] g h i = absurd i
ids_above n (x ∷ later) g h i =
    elim i [
      | inl e ↦ subst (λ (f : Flow). n ≤ f.id) (sym e) (omega (arith, h.0))
      | inr there ↦ let k : n + 1 ≤ g.id = ids_above (n + 1) later g h.1 there in omega arith
    ]

abbrev Next : Pace → List Flow → Option Flow → Type 0
Next pace fs o = MatchOption o (NoneMaySend pace fs) (λ f. IsNextOf pace fs f)

-- one that may not send changes nothing
skipped : (pace : Pace) (x : Flow) (later : List Flow) (o : Option Flow) → may_send pace x ≡ false → Next pace later o → Next pace (x ∷ later) o
skipped pace x later None never h = λ g i. elim i [
  | inl e ↦ subst (λ (f : Flow). may_send pace f ≡ false) (sym e) never
  | inr there ↦ h g there
]
skipped pace x later (Some f) never h = record {
  is_in = inr h.is_in;
  may = h.may;
  before = λ g i m. elim i [
    | inl e ↦ absurd (clash (sym (ap (λ (f : Flow). may_send pace f) e ∙ never) ∙ m))
    | inr there ↦ h.before g there m
  ];
}

itself : (x g : Flow) → g ≡ x → SendsBefore x g
itself x g e = inr (ap (λ (f : Flow). f.priority) e, omega (arith, ap (λ (f : Flow). f.id) e))

-- it sends alone
alone : (pace : Pace) (x : Flow) (later : List Flow) → may_send pace x ≡ true → NoneMaySend pace later → IsNextOf pace (x ∷ later) x
alone pace x later so h = record {
  is_in = inl refl;
  may = so;
  before = λ g i m. elim i [
    | inl e ↦ itself x g e
    | inr there ↦ absurd (clash (sym (h g there) ∙ m))
  ];
}

-- behind one with a higher priority
behind : (pace : Pace) (x f : Flow) (later : List Flow) → x.priority < f.priority → IsNextOf pace later f → IsNextOf pace (x ∷ later) f
behind pace x f later less h = record {
  is_in = inr h.is_in;
  may = h.may;
  before = λ g i m. elim i [
    | inl e ↦ inl (subst (λ (y : Flow). y.priority < f.priority) (sym e) less)
    | inr there ↦ h.before g there m
  ];
}

-- before one whose priority isn't higher
lower : (x f g : Flow) → f.priority ≤ x.priority → x.id ≤ g.id → g.priority ≡ f.priority → SendsBefore x g
lower x f g le above same = elim (cases_lt f.priority x.priority) [ inl less ↦ inl (omega arith) | inr most ↦ inr (omega arith, above) ]

through : (x f g : Flow) → f.priority ≤ x.priority → x.id ≤ g.id → SendsBefore f g → SendsBefore x g
through x f g le above (inl less) = inl (omega arith)
through x f g le above (inr same) = lower x f g le above same.0

ahead : (pace : Pace) (n : ℕ) (x f : Flow) (later : List Flow) → AreNumbered n (x ∷ later) → may_send pace x ≡ true → f.priority ≤ x.priority → IsNextOf pace later f → IsNextOf pace (x ∷ later) x
ahead pace n x f later numbered so le h = record {
  is_in = inl refl;
  may = so;
  before = λ g i m. elim i [
    | inl e ↦ itself x g e
    | inr there ↦ let k : n + 1 ≤ g.id = ids_above (n + 1) later g numbered.1 there in
        through x f g le (omega (arith, numbered.0)) (h.before g there m)
  ];
}

chosen_by : (pace : Pace) (n : ℕ) (x f : Flow) (later : List Flow) (b : Bool) → nat_lt x.priority f.priority ≡ b → AreNumbered n (x ∷ later) → may_send pace x ≡ true → IsNextOf pace later f →
    IsNextOf pace (x ∷ later) (cond b f x)
chosen_by pace n x f later true e numbered so h = behind pace x f later (grind (arith, nat_tests)) h
chosen_by pace n x f later false e numbered so h = ahead pace n x f later numbered so (grind (arith, nat_tests)) h

first_with : (pace : Pace) (n : ℕ) (x : Flow) (later : List Flow) (o : Option Flow) → AreNumbered n (x ∷ later) → may_send pace x ≡ true → Next pace later o → IsNextOf pace (x ∷ later) (before_other x o)
first_with pace n x later None numbered so h = alone pace x later so h
first_with pace n x later (Some f) numbered so h = chosen_by pace n x f later (nat_lt x.priority f.priority) refl numbered so h

next_by : (pace : Pace) (n : ℕ) (x : Flow) (later : List Flow) (b : Bool) → may_send pace x ≡ b → AreNumbered n (x ∷ later) → Next pace later (first_to_send pace later) →
    Next pace (x ∷ later) (cond b (Some (before_other x (first_to_send pace later))) (first_to_send pace later))
next_by pace n x later true e numbered h = first_with pace n x later (first_to_send pace later) numbered e h
next_by pace n x later false e numbered h = skipped pace x later (first_to_send pace later) e h

pub next_from : (pace : Pace) (n : ℕ) (fs : List Flow) → AreNumbered n fs → Next pace fs (first_to_send pace fs)
next_from pace n [] numbered = λ g i. absurd i
next_from pace n (x ∷ later) numbered = next_by pace n x later (may_send pace x) refl numbered (next_from pace (n + 1) later numbered.1)

pub the_next_sends : TheNextSends
the_next_sends pace sending numbered = next_from pace 0 sending numbered
