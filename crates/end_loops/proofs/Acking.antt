-- The packets of acks that go out after the chunks of a datagram.
use Rattle.std.proofs.Common.{ℕ, zero, suc, ◌≡◌, ◌<◌, true, sym, ap, ◌∙◌, arith}
use Rattle.std.specs.FinMap.{get}
use Rattle.endpoint_model.specs.Added.{Added}
use Rattle.endpoint_model.specs.State.{State, Done}
use Rattle.endpoint_model.specs.FlowChunks.{acked_in, owes_by}

-- where some are owed after so many packets, some were owed before
pub owed_from : (count : ℕ) (s t : State) (near : ℕ) (before after : Added) → Done (acked_in count s near) t before after → (0 < count → owes_by (get s.sessions near) ≡ true) → owes_by (get t.sessions near) ≡ true →
    owes_by (get s.sessions near) ≡ true
owed_from zero s t near before after done first now = ap (λ (x : State). owes_by (get x.sessions near)) (sym done.state) ∙ now
owed_from (suc count) s t near before after done first now = first (omega arith)
