-- What lines leave holds.
use Rattle.std.proofs.Common.{◌≡◌, ℕ, ◌+◌, List, [], ◌∷◌, ◌++◌, inl, inr, sym, subst}
use Rattle.flow_history.specs.Deeds.{Name}
use Rattle.endpoint_laws.specs.History.{History}
use Rattle.rendezvous_world.specs.Seen.{setup_at}
use Rattle.placed_world.specs.Seen.{PlacedSeen}
use Rattle.rendezvous_world.specs.History.{history_of}
use Rattle.rendezvous_world.specs.Handing.{MessagesGoOver}
use Rattle.rendezvous_world.specs.Laws.{empty_world}
use Rattle.rendezvous_world.proofs.Keeping.{new_world}
use Rattle.rendezvous_world.proofs.Sounds.{every_world_is_sound}
use Rattle.rendezvous_world.proofs.Agreeing.{agreed}
use Rattle.rendezvous_world.proofs.Handing.{hands_over}
use Rattle.rtmfp_play.specs.Journaling.{Journals}
use Rattle.rtmfp_play.specs.Play.{HistoryHolds, Plays, empty_placed}
use Rattle.rtmfp_cli.specs.declared.doing.Doing.{Doing}
use Rattle.rtmfp_cli.specs.declared.doing.Doing.TheVariants.{Showing, Playing, Journaling}
use Rattle.rtmfp_cli.specs.Doing.{Does, Holds, playing}
use Rattle.rtmfp_cli.specs.Laws.{EveryRunIsAgreed, EveryRunHandsOver, HandsInItsOrder}
use Rattle.rtmfp_cli.specs.Script.{Runs}

-- a run begins with a world that holds
pub empty_holds : HistoryHolds empty_world
empty_holds = record { sound = every_world_is_sound empty_world new_world; agreed = agreed empty_world new_world; go_over = hands_over empty_world new_world }

pub new_holds : (w : PlacedSeen) → w ≡ empty_placed → HistoryHolds w.world
new_holds w is = subst (λ (p : PlacedSeen). HistoryHolds p.world) (sym is) empty_holds

plays_holds : (w : PlacedSeen) (n : ℕ) (line : List ℕ) (t : PlacedSeen) (text : List ℕ) → HistoryHolds w.world → Plays w n line t text → HistoryHolds t.world
plays_holds w n line t text holds plays =
    elim plays [
      | inl nothing ↦ subst (λ (p : PlacedSeen). HistoryHolds p.world) (sym nothing.same) holds
      | inr step ↦ step.holds
    ]

journals_holds : (w : PlacedSeen) (n : ℕ) (line : List ℕ) (t : PlacedSeen) (text : List ℕ) → HistoryHolds w.world → Journals w n line t text → HistoryHolds t.world
journals_holds w n line t text holds journals =
    elim journals [
      | inl nothing ↦ subst (λ (p : PlacedSeen). HistoryHolds p.world) (sym nothing.same) holds
      | inr step ↦ step.holds
    ]

-- one line more
pub does_hold : (doing : Doing) (n : ℕ) (line : List ℕ) (left : Doing) (text : List ℕ) → Holds doing → Does doing n line left text → Holds left
does_hold Showing n line Showing text holds does = tt
does_hold (Playing w) n line (Playing t) text holds does = plays_holds w n line t text holds does
does_hold (Journaling w) n line (Journaling t) text holds does = journals_holds w n line t text holds does
does_hold _ n line _ text holds does = absurd does

-- many lines
pub runs_hold : (n : ℕ) (doing left : Doing) (lines : List (List ℕ)) (text : List ℕ) → Holds doing → Runs n doing lines left text → Holds left
runs_hold n doing left [] text holds ran = subst Holds (sym ran.0) holds
runs_hold n doing left (line ∷ lines) text holds ran = runs_hold (n + 1) ran.0 left lines ran.2 (does_hold doing n line ran.0 ran.1 holds ran.3) ran.4

-- ---- the two sentences of the headline

pub run_is_agreed : EveryRunIsAgreed
run_is_agreed lines w text ran = (runs_hold 1 playing (Playing w) lines text empty_holds ran).agreed

in_its_order : (w : PlacedSeen) (later early : History) → history_of w.world ≡ later ++ early → MessagesGoOver (setup_at w.world.ends) (history_of w.world) → (n : Name) → HandsInItsOrder (setup_at w.world.ends) early n
in_its_order w later early e over n =
    elim (over.has_an_order later early e n) [
      | inl order ↦ inl (order, over.in_order later early e n order)
      | inr order ↦ inr (order, over.as_they_arrive later early e n order)
    ]

pub run_hands_over : EveryRunHandsOver
run_hands_over lines w text ran later early e =
    let over : MessagesGoOver (setup_at w.world.ends) (history_of w.world) = (runs_hold 1 playing (Playing w) lines text empty_holds ran).go_over in
    (in_its_order w later early e over, over.each_is_told later early e)
