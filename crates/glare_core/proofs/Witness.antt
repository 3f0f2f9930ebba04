-- A told history in which two attempts cross, one opens, both ends keep the session, one closes it and calls again, and the other overrides its kept one.
use Rattle.std.proofs.Common.{ℕ, List, [], ◌∷◌, inl, inr, refl, arith, true, false}
use Rattle.glare_core.specs.declared.facts.Why.TheVariants.{Glare, Override, Near}
use Rattle.glare_core.specs.declared.facts.Fact.TheVariants.{Started, Born, Opened, Confirmed, Ended}
use Rattle.glare_core.specs.declared.facts.Held.TheVariants.{Opening, KeptAsResponder, KeptAsInitiator}
use Rattle.glare_core.specs.declared.facts.Joined.{Joined}
use Rattle.glare_core.specs.Tells.{Keying, Answer, Under, as_initiator, as_responder}
use Rattle.glare_core.specs.Steps.{view, Told, Did, Sends, step}
use Rattle.glare_core.specs.Told.{Event, steps, IsLawful, IsHonest, IsFresh}
use Rattle.glare_core.specs.Witness.{LivelyHistory}
use Rattle.glare_core.proofs.Moments.{prefix_is_moment}

-- two ends, of which x prevails
abbrev x : List ℕ
x = 2 ∷ []

abbrev y : List ℕ
y = 1 ∷ []

-- the first session, as y and as x have it
abbrev at_y : Joined
at_y = record { peer = x; n = 1; near = 22; far = 11; ni = 1 ∷ []; nr = 3 ∷ []; k = 1 }

abbrev at_x : Joined
at_x = record { peer = y; n = 1; near = 11; far = 22; ni = 1 ∷ []; nr = 3 ∷ []; k = 1 }

-- the second one, as x has it
abbrev again_x : Joined
again_x = record { peer = y; n = 2; near = 12; far = 23; ni = 4 ∷ []; nr = 5 ∷ []; k = 1 }

abbrev e1 : Event
e1 = record { who = x; told = []; done = Did (Started y 1 11 (1 ∷ [])) 0 ∷ Sends (Keying x y 1 (1 ∷ []) 11 0) ∷ [] }

abbrev e2 : Event
e2 = record { who = y; told = []; done = Did (Started x 1 21 (2 ∷ [])) 0 ∷ Sends (Keying y x 1 (2 ∷ []) 21 0) ∷ [] }

abbrev e3 : Event
e3 = record { who = x; told = Keying y x 1 (2 ∷ []) 21 0 ∷ []; done = [] }

abbrev e4 : Event
e4 = record { who = y; told = Keying x y 1 (1 ∷ []) 11 0 ∷ []; done = Did (Ended x 21 Glare) 0 ∷ Did (Born at_y) 0 ∷ Sends (Answer 11 y 22 (3 ∷ []) 1 (1 ∷ []) 0) ∷ [] }

abbrev e5 : Event
e5 = record { who = x; told = Answer 11 y 22 (3 ∷ []) 1 (1 ∷ []) 0 ∷ []; done = Did (Opened at_x) 0 ∷ Sends (Under (as_initiator x at_x) true 0) ∷ [] }

abbrev e6 : Event
e6 = record { who = y; told = Under (as_responder y at_y) true 0 ∷ []; done = Did (Confirmed x 22) 0 ∷ Sends (Under (as_responder y at_y) false 0) ∷ [] }

abbrev e7 : Event
e7 = record { who = y; told = []; done = Did (Ended x 22 Near) 0 ∷ Sends (Under (as_responder y at_y) false 0) ∷ [] }

abbrev e8 : Event
e8 = record { who = y; told = []; done = Did (Started x 2 23 (4 ∷ [])) 0 ∷ Sends (Keying y x 2 (4 ∷ []) 23 0) ∷ [] }

abbrev e9 : Event
e9 = record { who = x; told = Keying y x 2 (4 ∷ []) 23 0 ∷ []; done = Did (Ended y 11 Override) 0 ∷ Did (Born again_x) 0 ∷ [] }

abbrev history : List Event
history = e9 ∷ e8 ∷ e7 ∷ e6 ∷ e5 ∷ e4 ∷ e3 ∷ e2 ∷ e1 ∷ []

abbrev crossing : List Event
crossing = e2 ∷ e1 ∷ []

abbrev both_keep : List Event
both_keep = e6 ∷ e5 ∷ e4 ∷ e3 ∷ e2 ∷ e1 ∷ []

honest : IsHonest history
honest =
    (((y, inl refl), tt), (tt, (tt, (((x, inl refl), tt), (((y, inl refl), tt), (((x, inr (inr (inr (inl refl)))), tt), (((y, inl refl), tt), (tt, (tt, tt)))))))))

fresh : IsFresh history
fresh = grind arith

lawful : IsLawful history
lawful = (
  (
    record { stands = record { h = KeptAsInitiator at_x; thing = refl; id = refl; ends = tt }; heard = tt },
    λ e. refl,
    (record { stands = record { above = omega arith; free = refl; counted = refl }; heard = inr (inl refl) }, (λ w. absurd w), tt),
  ),
  (
    (record { stands = record { other = λ e. grind arith; free = refl; next = refl }; heard = tt }, (λ w. absurd w), (record { from = refl; attempt = refl }, tt, tt)),
    (
      (
        record { stands = record { h = KeptAsResponder at_y; thing = refl; id = refl; ends = tt }; heard = tt },
        λ e. elim e [ inl p ↦ absurd (cc) | inr p ↦ absurd (cc) ],
        (
          record {
            j = at_y;
            session = inr (inr (record { early = view y (steps both_keep); near = 22; why = Near; generation = 0; ended = inl refl; thing = refl; cause = inl refl }));
            born = inr (inr (inr (inr (inr (inl refl)))));
            values_are = refl;
          },
          tt,
          tt,
        ),
      ),
      (
        (
          record {
            stands = record { j = at_y; session = refl; id = refl };
            heard = record { j = at_y; session = refl; generation = 0; born = inr (inr (inl refl)); told = inl refl };
          },
          (λ w. absurd w),
          (record { j = at_y; session = inr (inl refl); born = inr (inr (inr (inl refl))); values_are = refl }, tt, tt),
        ),
        (
          (
            record { stands = refl; heard = inl refl },
            (λ w. absurd w),
            (record { j = at_x; session = inl refl; opened = inl refl; values_are = refl }, tt, tt),
          ),
          (
            (
              record { stands = record { h = Opening 1 21 (2 ∷ []); thing = refl; id = refl; ends = (tt, refl) }; heard = tt },
              λ e. refl,
              (
                record { stands = record { above = omega arith; free = refl; counted = refl }; heard = inr (inl refl) },
                (λ w. absurd w),
                (
                  record {
                    from = refl;
                    j = at_y;
                    session = inl refl;
                    born = inl refl;
                    near_i_is = refl;
                    near_r_is = refl;
                    nr_is = refl;
                    k_is = refl;
                    ni_is = refl;
                  },
                  tt,
                  tt,
                ),
              ),
            ),
            (
              tt,
              (
                (record { stands = record { other = λ e. grind arith; free = refl; next = refl }; heard = tt }, (λ w. absurd w), (record { from = refl; attempt = refl }, tt, tt)),
                ((record { stands = record { other = λ e. grind arith; free = refl; next = refl }; heard = tt }, (λ w. absurd w), (record { from = refl; attempt = refl }, tt, tt)), tt),
              ),
            ),
          ),
        ),
      ),
    ),
  ),
)

pub lively : LivelyHistory
lively =
    record {
      history = history;
      lawful = lawful;
      honest = honest;
      fresh = fresh;
      x = x;
      y = y;
      a = record { n = 1; near = 11; ni = 1 ∷ [] };
      b = record { n = 1; near = 21; ni = 2 ∷ [] };
      then = steps crossing;
      then_was = prefix_is_moment (e9 ∷ e8 ∷ e7 ∷ e6 ∷ e5 ∷ e4 ∷ e3 ∷ []) crossing;
      crossed = record { attempts_x = refl; attempts_y = refl; not_born_y = λ t g early h a b c. grind arith; not_born_x = λ t g early h a b c. grind arith };
      s = at_x;
      t = at_y;
      opening = step x (Told (Answer 11 y 22 (3 ∷ []) 1 (1 ∷ []) 0)) ∷ steps (e4 ∷ e3 ∷ e2 ∷ e1 ∷ []);
      opened = inr (inr (inr (inr (inr (inr (inr (inr (inr (inr (inr (inl refl)))))))))));
      both = steps both_keep;
      both_was = prefix_is_moment (e9 ∷ e8 ∷ e7 ∷ []) both_keep;
      x_keeps = inl refl;
      y_keeps = inr refl;
      before = step x (Told (Keying y x 2 (4 ∷ []) 23 0)) ∷ steps (e8 ∷ e7 ∷ e6 ∷ e5 ∷ e4 ∷ e3 ∷ e2 ∷ e1 ∷ []);
      overridden = inr (inl refl);
      kept = inl refl;
    }
