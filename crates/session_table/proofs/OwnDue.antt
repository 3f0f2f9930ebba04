-- What is due of a row is due by its deadline, or one of its sending flows isn't idle.
use Rattle.std.proofs.Common.{ℕ, ◌≡◌, ◌⊎◌, ◌<◌, ◌≤◌, ◌^◌, inl, inr, nat_le, is_some, [], ◌∷◌, Bool, true, false, ◌||◌, Option, Some, None, refl, sym, ap, ◌∙◌, arith}
use Rattle.std.proofs.lemmas.Bool.{cases_Bool}
use Rattle.std.proofs.lemmas.Bool.Decides.{nat_tests}
use Rattle.rtmfp_base.specs.Reasons.{where_true, first_that_stands}
use Rattle.session_core.specs.declared.stage.SessionDue.{SessionDue}
use Rattle.session_core.specs.Closing.{first_due, needs_keepalive}
use Rattle.session_core.proofs.Deadlines.{is_due_by_deadline}
use Rattle.session_flows.specs.Timing.{overdue_in}
use Rattle.session_flows.specs.Packing.{is_data_due}
use Rattle.session_flows.specs.Laws.{HasNothingDue}
use Rattle.session_flows.proofs.Idles.{idle_have_nothing_due}
use Rattle.endpoint_model.specs.declared.row.Row.{Row}
use Rattle.endpoint_model.specs.declared.row_due.RowDue.TheVariants.{Data, Keepalive}
use Rattle.endpoint_model.specs.FlowTimes.{abandon_due, end_due, is_row_due}
use Rattle.session_table.specs.Inside.{due_from, may_be_due_of}

-- of the four things, by what each one is
is_one : (own : Option SessionDue) (overdue : Option (ℕ × ℕ)) (sent keep : Bool) →
    is_some (first_that_stands (end_due own ∷ abandon_due overdue ∷ where_true sent Data ∷ where_true keep Keepalive ∷ [])) ≡ (is_some own || (is_some overdue || (sent || keep)))
is_one (Some due) overdue sent keep = refl
is_one None (Some found) sent keep = refl
is_one None None true keep = refl
is_one None None false true = refl
is_one None None false false = refl

own_first : (own keep overdue sent : Bool) → (own || keep) ≡ true → (own || (overdue || (sent || keep))) ≡ true
own_first true keep overdue sent e = refl
own_first false true true sent e = refl
own_first false true false true e = refl
own_first false true false false e = refl
own_first false false overdue sent e = absurd cc

own_only : (own keep overdue sent : Bool) → (own || (overdue || (sent || keep))) ≡ true → overdue ≡ false → sent ≡ false → (own || keep) ≡ true
own_only true keep overdue sent e unfound unsent = refl
own_only false keep true sent e unfound unsent = absurd cc
own_only false keep false true e unfound unsent = absurd cc
own_only false keep false false e unfound unsent = e

-- ---- what is due, and why

parts : (moment : ℕ) (row : Row) → is_row_due moment row ≡ (is_some (first_due row.session moment) || (is_some (overdue_in row.session row.flows moment) || (is_data_due row.session row.flows moment || needs_keepalive row.session moment)))
parts moment row = is_one (first_due row.session moment) (overdue_in row.session row.flows moment) (is_data_due row.session row.flows moment) (needs_keepalive row.session moment)

own_is_due : (moment : ℕ) (row : Row) → moment < 2 ^ 64 → nat_le (due_from row) moment ≡ true → is_row_due moment row ≡ true
own_is_due moment row below e =
    parts moment row
    ∙ own_first (is_some (first_due row.session moment)) (needs_keepalive row.session moment) (is_some (overdue_in row.session row.flows moment)) (is_data_due row.session row.flows moment)
    (sym (is_due_by_deadline row.session moment below) ∙ e)

due_is_why : (moment : ℕ) (row : Row) → moment < 2 ^ 64 → is_row_due moment row ≡ true → (nat_le (due_from row) moment ≡ true) ⊎ (may_be_due_of row ≡ true)
due_is_why moment row below e = elim (cases_Bool (may_be_due_of row)) [
  | inl busy ↦ inr busy
  | inr idle ↦
      let none : HasNothingDue row.session row.flows moment = idle_have_nothing_due row.session row.flows moment idle in
      inl (is_due_by_deadline row.session moment below
      ∙ own_only (is_some (first_due row.session moment)) (needs_keepalive row.session moment) (is_some (overdue_in row.session row.flows moment)) (is_data_due row.session row.flows moment) (sym (parts moment row) ∙ e)
      (ap (λ (o : Option (ℕ × ℕ)). is_some o) none.overdue) none.sends)
]

-- ---- the same of numbers

not_later : (at moment : ℕ) → nat_le at moment ≡ true → at ≤ moment
not_later at moment e = grind (arith, nat_tests)

is_not_later : (at moment : ℕ) → at ≤ moment → nat_le at moment ≡ true
is_not_later at moment le = grind (arith, nat_tests)

pub due_passes : (moment : ℕ) (row : Row) → moment < 2 ^ 64 → due_from row ≤ moment → is_row_due moment row ≡ true
due_passes moment row below come = own_is_due moment row below (is_not_later (due_from row) moment come)

pub why_due : (moment : ℕ) (row : Row) → moment < 2 ^ 64 → is_row_due moment row ≡ true → (due_from row ≤ moment) ⊎ (may_be_due_of row ≡ true)
why_due moment row below passes = elim (due_is_why moment row below passes) [
  | inl own ↦ inl (not_later (due_from row) moment own)
  | inr busy ↦ inr busy
]
