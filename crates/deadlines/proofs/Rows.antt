-- What is due of three slots.
use Rattle.std.proofs.Common.{ℕ, zero, suc, ◌≡◌, ◌≢◌, ◌≤◌, ◌<◌, refl, subst, arith, Some}
use Rattle.std.proofs.lemmas.Option.{none-some, same_Some}
use Rattle.deadlines.specs.Deadlines.{Deadline, NoneIsDue, IsNextDue, entry_of}
use Rattle.deadlines.specs.Edges.{three}

-- what holds of both entries holds of each
each : (P : ℕ → Deadline → Type 0) → P 0 (record { at = 6; near = 7 }) → P 2 (record { at = 5; near = 9 }) → (slot : ℕ) (d : Deadline) → entry_of three slot ≡ Some d → P slot d
each P first last zero d is = subst (P 0) (same_Some (record { at = 6; near = 7 }) d is) first
each P first last (suc zero) d is = absurd (none-some d is)
each P first last (suc (suc zero)) d is = subst (P 2) (same_Some (record { at = 5; near = 9 }) d is) last
each P first last (suc (suc (suc slot))) d is = absurd (none-some d is)

pub none_at_4 : NoneIsDue three 4
none_at_4 = each (λ slot d. 4 < d.at) (omega arith) (omega arith)

pub last_at_5 : IsNextDue three 5 2
last_at_5 = record {
  entry = record { at = 5; near = 9 };
  stands = refl;
  is_due = omega arith;
  lowest = each (λ slot d. d.at ≤ 5 → slot ≢ 2 → 9 < d.near) (λ due other. absurd (omega (arith, due))) (λ due other. absurd (other refl));
}

pub first_at_6 : IsNextDue three 6 0
first_at_6 = record {
  entry = record { at = 6; near = 7 };
  stands = refl;
  is_due = omega arith;
  lowest = each (λ slot d. d.at ≤ 6 → slot ≢ 0 → 7 < d.near) (λ due other. absurd (other refl)) (λ due other. omega arith);
}
