-- Were the Born after an Ended for Override allowed to come in a later event of the end, a session could be overridden that its peer still has.
use Rattle.std.proofs.Common.{ℕ, List, [], ◌∷◌, ◌≡◌, ◌⊎◌, subst, inl, inr, refl, arith, reverse}
use Rattle.glare_core.specs.declared.facts.Why.{Why}
use Rattle.glare_core.specs.declared.facts.Why.TheVariants.{Glare, Override, Near}
use Rattle.glare_core.specs.declared.facts.Fact.TheVariants.{Started, Born, Opened, Ended}
use Rattle.glare_core.specs.declared.facts.Held.TheVariants.{HalfOpen, KeptAsInitiator}
use Rattle.glare_core.specs.declared.facts.Joined.{Joined}
use Rattle.glare_core.specs.Tells.{Keying, Answer}
use Rattle.glare_core.specs.Steps.{Did, Sends, Step, view, facts, Happened}
use Rattle.glare_core.specs.Told.{Event, steps, IsHonest, IsFresh}
use Rattle.glare_core.specs.Agreed.{OverrideIsLate}
use Rattle.glare_core.specs.Counterexample.{EachMeets, BornFollows, EarlyOverride}
use Rattle.glare_core.proofs.Tails.{same_end}

abbrev x : List ℕ
x = 2 ∷ []

abbrev y : List ℕ
y = 1 ∷ []

abbrev at_y : Joined
at_y = record { peer = x; n = 1; near = 22; far = 11; ni = 1 ∷ []; nr = 3 ∷ []; k = 0 }

abbrev at_x : Joined
at_x = record { peer = y; n = 1; near = 11; far = 22; ni = 1 ∷ []; nr = 3 ∷ []; k = 0 }

abbrev again_x : Joined
again_x = record { peer = y; n = 1; near = 12; far = 23; ni = 4 ∷ []; nr = 5 ∷ []; k = 1 }

abbrev e1 : Event
e1 = record { who = x; told = []; done = Did (Started y 1 11 (1 ∷ [])) 0 ∷ Sends (Keying x y 1 (1 ∷ []) 11 0) ∷ [] }

abbrev e2 : Event
e2 = record { who = y; told = Keying x y 1 (1 ∷ []) 11 0 ∷ []; done = Did (Born at_y) 0 ∷ Sends (Answer 11 y 22 (3 ∷ []) 0 (1 ∷ []) 0) ∷ [] }

abbrev e3 : Event
e3 = record { who = x; told = Answer 11 y 22 (3 ∷ []) 0 (1 ∷ []) 0 ∷ []; done = Did (Opened at_x) 0 ∷ [] }

-- x overrides, though y has the session still and has not called
abbrev e4 : Event
e4 = record { who = x; told = []; done = Did (Ended y 11 Override) 0 ∷ [] }

abbrev e5 : Event
e5 = record { who = y; told = []; done = Did (Ended x 22 Near) 0 ∷ Did (Started x 1 23 (4 ∷ [])) 0 ∷ Sends (Keying y x 1 (4 ∷ []) 23 0) ∷ [] }

abbrev e6 : Event
e6 = record { who = x; told = Keying y x 1 (4 ∷ []) 23 0 ∷ []; done = Did (Born again_x) 0 ∷ [] }

abbrev history : List Event
history = e6 ∷ e5 ∷ e4 ∷ e3 ∷ e2 ∷ e1 ∷ []

honest : IsHonest history
honest = (((y, inl refl), tt), (tt, (tt, (((y, inl refl), tt), (((x, inl refl), tt), (tt, tt))))))

fresh : IsFresh history
fresh = grind arith

meets : EachMeets history
meets = (
  (record { stands = record { above = omega arith; free = refl; counted = refl }; heard = inl refl }, tt),
  (
    (
      record { stands = record { h = HalfOpen at_y; thing = refl; id = refl; ends = tt }; heard = tt },
      (record { stands = record { other = λ e. grind arith; free = refl; next = refl }; heard = tt }, (record { from = refl; attempt = refl }, tt)),
    ),
    (
      (record { stands = record { h = KeptAsInitiator at_x; thing = refl; id = refl; ends = tt }; heard = tt }, tt),
      (
        (record { stands = refl; heard = inl refl }, tt),
        (
          (
            record { stands = record { above = omega arith; free = refl; counted = refl }; heard = inl refl },
            (record { from = refl; j = at_y; session = inl refl; born = inl refl; near_i_is = refl; near_r_is = refl; nr_is = refl; k_is = refl; ni_is = refl }, tt),
          ),
          ((record { stands = record { other = λ e. grind arith; free = refl; next = refl }; heard = tt }, (record { from = refl; attempt = refl }, tt)), tt),
        ),
      ),
    ),
  ),
)

no_way : (why : Why) → why ≡ Near → (why ≡ Glare) ⊎ (why ≡ Override) → ⊥
no_way why e (inl p) = cc
no_way why e (inr p) = cc

follows : (who : List ℕ) → BornFollows (reverse (facts (view who (steps history))))
follows who =
    elim (same_end x who) [
      | inl d ↦ subst (λ q. BornFollows (reverse (facts (view q (steps history))))) d.0 (λ w. w, (λ w. w, (λ w. refl, (λ w. w, tt))))
      | inr d ↦ elim (same_end y who) [
        | inl e ↦ subst (λ q. BornFollows (reverse (facts (view q (steps history))))) e.0 (λ w. w, (λ w. no_way Near refl w, (λ w. w, tt)))
        | inr e ↦ rw (d.1, e.1) tt
      ]
    ]

too_early : OverrideIsLate (steps history) → ⊥
too_early late =
    let ended = late x y 11 0 at_x (steps (e3 ∷ e2 ∷ e1 ∷ [])) (inr (inr (inr (inr (inr (inl refl)))))) (inl refl) in
    nothing ended.near ended.why ended.g ended.early ended.ended
  where
    nothing : (near : ℕ) (why : Why) (g : ℕ) (early : List Step) → Happened y (Did (Ended x near why) g) early (steps (e3 ∷ e2 ∷ e1 ∷ [])) → ⊥
    nothing near why g early h = grind arith

pub early_override : EarlyOverride
early_override = record { history = history; meets = meets; honest = honest; fresh = fresh; follows = follows; early = too_early }
