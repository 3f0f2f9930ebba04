-- Lines decide what they leave, and the text of it.
use Rattle.std.proofs.Common.{◌≡◌, ℕ, ◌+◌, List, [], ◌∷◌, ◌++◌, refl, sym, ap, ◌∙◌, subst}
use Rattle.placed_world.specs.Seen.{PlacedSeen}
use Rattle.rtmfp_play.proofs.OneText.{AreOne, both_play}
use Rattle.rtmfp_play.proofs.Placing.{AreSamePlaced}
use Rattle.rtmfp_show.proofs.Texts.{line_same}
use Rattle.rtmfp_cli.specs.declared.doing.Doing.{Doing}
use Rattle.rtmfp_cli.specs.declared.doing.Doing.TheVariants.{Showing, Playing, Journaling}
use Rattle.rtmfp_cli.specs.Doing.{Does, ending_of}
use Rattle.rtmfp_cli.specs.Script.{Runs}
use Rattle.rtmfp_cli.specs.Laws.{AreSame, EachScriptHasOneRun}
use Rattle.rtmfp_cli.proofs.Journals.{both_journal, same_ending}

pub record IsOne (left other : Doing) (text words : List ℕ) : Type 0 where
  pub same : AreSame left other
  pub texts : text ≡ words

both_show : (n : ℕ) (line : List ℕ) (left other : Doing) (text words : List ℕ) → Does Showing n line left text → Does Showing n line other words → IsOne left other text words
both_show n line Showing Showing text words h k = record { same = tt; texts = line_same line text words h k }
both_show n line Showing _ text words h k = absurd k
both_show n line _ other text words h k = absurd h

both_report : (n : ℕ) (line : List ℕ) (w v : PlacedSeen) (left other : Doing) (text words : List ℕ) → AreSamePlaced w v → Does (Playing w) n line left text → Does (Playing v) n line other words → IsOne left other text words
both_report n line w v (Playing t) (Playing s) text words same h k =
    let one : AreOne t s text words = both_play w v n line t s text words same h k in
    record { same = (one.worlds.worlds, one.worlds.places); texts = one.texts }
both_report n line w v (Playing t) _ text words same h k = absurd k
both_report n line w v _ other text words same h k = absurd h

both_log : (n : ℕ) (line : List ℕ) (w v : PlacedSeen) (left other : Doing) (text words : List ℕ) → AreSamePlaced w v → Does (Journaling w) n line left text → Does (Journaling v) n line other words → IsOne left other text words
both_log n line w v (Journaling t) (Journaling s) text words same h k =
    let one : AreOne t s text words = both_journal w v n line t s text words same h k in
    record { same = (one.worlds.worlds, one.worlds.places); texts = one.texts }
both_log n line w v (Journaling t) _ text words same h k = absurd k
both_log n line w v _ other text words same h k = absurd h

pub both_do : (n : ℕ) (line : List ℕ) (doing begun left other : Doing) (text words : List ℕ) → AreSame doing begun → Does doing n line left text → Does begun n line other words → IsOne left other text words
both_do n line Showing Showing left other text words same h k = both_show n line left other text words h k
both_do n line (Playing w) (Playing v) left other text words same h k = both_report n line w v left other text words (record { worlds = same.0; places = same.1 }) h k
both_do n line (Journaling w) (Journaling v) left other text words same h k = both_log n line w v left other text words (record { worlds = same.0; places = same.1 }) h k
both_do n line _ _ left other text words same h k = absurd same

both_run : (n : ℕ) (doing begun left other : Doing) (lines : List (List ℕ)) (text words : List ℕ) → AreSame doing begun → Runs n doing lines left text → Runs n begun lines other words → IsOne left other text words
both_run n doing begun left other [] text words same h k = record {
  same = subst (λ (a : Doing). AreSame a other) (sym h.0) (subst (λ (b : Doing). AreSame doing b) (sym k.0) same);
  texts = h.1 ∙ sym k.1;
}
both_run n doing begun left other (line ∷ lines) text words same h k =
    let first : IsOne h.0 k.0 h.1 k.1 = both_do n line doing begun h.0 k.0 h.1 k.1 same h.3 k.3 in
    let later : IsOne left other h.2 k.2 = both_run (n + 1) h.0 k.0 left other lines h.2 k.2 first.same h.4 k.4 in
    record { same = later.same; texts = h.5 ∙ ap (λ (x : List ℕ). x ++ h.2) first.texts ∙ ap (λ (x : List ℕ). k.1 ++ x) later.texts ∙ sym k.5 }

same_as_itself : (doing : Doing) → AreSame doing doing
same_as_itself Showing = tt
same_as_itself (Playing w) = (record { moment = refl; ends = refl; lines = refl }, refl)
same_as_itself (Journaling w) = (record { moment = refl; ends = refl; lines = refl }, refl)

-- and so is their ending
pub one_ending : (doing other : Doing) → AreSame doing other → ending_of doing ≡ ending_of other
one_ending Showing Showing same = refl
one_ending (Playing w) (Playing v) same = refl
one_ending (Journaling w) (Journaling v) same = same_ending w.world v.world same.0
one_ending _ _ same = absurd same

pub each_script_has_one_run : EachScriptHasOneRun
each_script_has_one_run n doing left other lines text words h k =
    let one : IsOne left other text words = both_run n doing doing left other lines text words (same_as_itself doing) h k in
    (one.same, one.texts)
