-- What is done of what is due, thing after thing.
use Rattle.std.proofs.Common.{zero, suc, ◌≡◌, ℕ, refl, sym, ap, ◌∙◌, subst}
use Rattle.endpoint_model.specs.Added.{Added}
use Rattle.endpoint_model.specs.Effects.{tick_once, ticks}
use Rattle.endpoint_model.specs.State.{State, Did, Done, then_do, after_entries}
use Rattle.endpoint_model.proofs.Steps.{done_nothing, then_nothing, then_then, joined as steps_joined}

pub ticks_more : (count : ℕ) (s : State) → ticks (suc count) s ≡ then_do (ticks count s) tick_once
ticks_more zero s = then_nothing (tick_once s)
ticks_more (suc count) s =
    let first : Did = tick_once s in
    ap (after_entries first.entries) (ticks_more count first.state) ∙ sym (then_then first (ticks count) tick_once)

-- some things of a tick
abbrev pub SomeDone : State → State → Added → Added → Type 0
SomeDone s t before after = (count : ℕ) × Done (ticks count s) t before after

pub none_done : (s t : State) (out : Added) → t ≡ s → SomeDone s t out out
none_done s t out is = (0, record { state = is; entries = (done_nothing s out).entries; free = (done_nothing s out).free; room = refl })

pub one_done : (s t new : State) (before between after : Added) → SomeDone s t before between → Done (tick_once t) new between after → SomeDone s new before after
one_done s t new before between after some done =
    (suc some.0, subst (λ d. Done d new before after) (sym (ticks_more some.0 s)) (steps_joined (ticks some.0 s) tick_once t new before between after some.1 done))
