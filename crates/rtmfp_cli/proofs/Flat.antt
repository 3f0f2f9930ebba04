-- The world of a run goes by steps of its own, one for each line at most.
use Rattle.std.proofs.Common.{◌≡◌, ℕ, suc, ◌+◌, List, [], ◌∷◌, length, Option, refl, ap}
use Rattle.rendezvous_world.specs.declared.step.Step.{Step}
use Rattle.rendezvous_world.specs.Seen.{Seen}
use Rattle.placed_world.specs.Seen.{PlacedSeen}
use Rattle.rtmfp_play.specs.Play.{empty_placed}
use Rattle.rtmfp_play.proofs.Placing.{each_line_is_flat}
use Rattle.rtmfp_cli.specs.declared.doing.Doing.{Doing}
use Rattle.rtmfp_cli.specs.declared.doing.Doing.TheVariants.{Playing}
use Rattle.rtmfp_cli.specs.Doing.{Does}
use Rattle.rtmfp_cli.specs.Script.{Runs}
use Rattle.rtmfp_cli.specs.Laws.{EachRunIsFlat, StepsOn}

-- so many steps lead from one world to another
record IsFlat (n count : ℕ) (w t : Seen) : Type 0 where
  steps : List (Option Step)
  size : length steps ≡ count
  on : StepsOn n w steps t

one_step : (n count : ℕ) (u w : PlacedSeen) (line : List ℕ) (lines : List (List ℕ)) (middle : Doing) (first rest : List ℕ) → Does (Playing u) n line middle first → Runs (n + 1) middle lines (Playing w) rest →
    ((m : PlacedSeen) → Runs (n + 1) (Playing m) lines (Playing w) rest → IsFlat (n + 1) count m.world w.world) → IsFlat n (suc count) u.world w.world
one_step n count u w line lines (Playing m) first rest does ran later =
    let step = each_line_is_flat u n line m first does in
    let next = later m ran in
    record { steps = step.0 ∷ next.steps; size = ap suc next.size; on = (m.world, step.1, next.on) }
one_step n count u w line lines _ first rest does ran later = absurd does

same_world : (u w : PlacedSeen) → Playing w ≡ Playing u → w ≡ u
same_world u w e = cc

flat_run : (n : ℕ) (u w : PlacedSeen) (lines : List (List ℕ)) (text : List ℕ) → Runs n (Playing u) lines (Playing w) text → IsFlat n (length lines) u.world w.world
flat_run n u w [] text ran = record { steps = []; size = refl; on = ap (λ (p : PlacedSeen). p.world) (same_world u w ran.0) }
flat_run n u w (line ∷ lines) text ran = one_step n (length lines) u w line lines ran.0 ran.1 ran.2 ran.3 ran.4 (λ m next. flat_run (n + 1) m w lines ran.2 next)

pub each_run_is_flat : EachRunIsFlat
each_run_is_flat lines w text ran =
    let all = flat_run 1 empty_placed w lines text ran in
    (all.steps, all.size, all.on)
