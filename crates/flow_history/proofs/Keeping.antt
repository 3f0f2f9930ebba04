-- What an end keeps after one deed more: of another end nothing changes, of its own what the deed
-- makes of it.
use Rattle.std.proofs.Common.{◌≡◌, ℕ, ◌==◌, cond, Bool, true, false, ◌∷◌, Option, refl, ap, ◌∙◌}
use Rattle.std.proofs.Common.{inl, inr}
use Rattle.flow_history.specs.Flow.{sending_after, sending_at, taking_after, taking_at}
use Rattle.flow_history.specs.Deeds.{Context, back, name, Deed, Done, done, History, touch_of}
use Rattle.flow_history.specs.Deeds.{steps_of}
use Rattle.flow_history.specs.Keeping.{Flows, Keeps, Becomes}
use Rattle.flow_history.proofs.Keeps.{tested}
use Rattle.flow_history.proofs.Names.{number_self}

other_end : {K : Type 0} (t : Bool) (x y : Option K) → t ≡ false → cond t x y ≡ y
other_end true x y e = absurd cc
other_end false x y e = refl

apart_test : (a b : ℕ) → (a ≡ b → ⊥) → (a == b) ≡ false
apart_test a b ne = elim (tested a b) [ inl d ↦ absurd (ne d.0) | inr d ↦ d.1 ]

-- a deed of another end
pub keeps_other : (h : History) (who : ℕ) (d : Done) (sessions : Context → Option Flows) →
    (d.who ≡ who → ⊥) → Keeps h who sessions → Keeps (d ∷ h) who sessions
keeps_other h who d sessions ne k =
    let t : (d.who == who) ≡ false = apart_test d.who who ne in
    record {
      sends = λ c f.
          other_end (d.who == who)
          (sending_after (sending_at (steps_of (name c f) h) who) (touch_of (name c f) d.deed))
          (sending_at (steps_of (name c f) h) who) t ∙ k.sends c f;
      takes = λ c f.
          other_end (d.who == who)
          (taking_after (taking_at (steps_of (name (back c) f) h) who)
          (touch_of (name (back c) f) d.deed))
          (taking_at (steps_of (name (back c) f) h) who) t ∙ k.takes c f;
    }

-- a deed of this end, where the sessions after it have the flows that it makes of those before
pub keeps_own : (h : History) (who : ℕ) (deed : Deed) (old new : Context → Option Flows) →
    Becomes deed old new → Keeps h who old → Keeps (done who deed ∷ h) who new
keeps_own h who deed old new becomes k = record {
  sends = λ c f.
      ap (λ (t : Bool). cond t
      (sending_after (sending_at (steps_of (name c f) h) who) (touch_of (name c f) deed))
      (sending_at (steps_of (name c f) h) who)) (number_self who)
      ∙ (ap (λ x. sending_after x (touch_of (name c f) deed)) (k.sends c f) ∙ becomes.sends c f);
  takes = λ c f.
      ap (λ (t : Bool). cond t
      (taking_after (taking_at (steps_of (name (back c) f) h) who)
      (touch_of (name (back c) f) deed))
      (taking_at (steps_of (name (back c) f) h) who)) (number_self who)
      ∙ (ap (λ x. taking_after x (touch_of (name (back c) f) deed)) (k.takes c f)
      ∙ becomes.takes c f);
}
