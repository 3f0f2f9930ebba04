-- A line of a script decides what it leaves, and the text of it.
use Rattle.std.proofs.Common.{◌≡◌, ℕ, zero, suc, List, [], ◌∷◌, ◌++◌, length, map, slice_get, Option, Some, None, inl, inr, refl, sym, ap, ◌∙◌, subst}
use Rattle.rtmfp_text.specs.declared.names.Named.{Named}
use Rattle.rtmfp_script.specs.declared.line.ScriptLine.{ScriptLine}
use Rattle.rtmfp_script.specs.declared.line.Said.TheVariants.{Nothing, Step as SaidStep}
use Rattle.rtmfp_script.specs.Grammar.{IsLineOf, IsSkipped}
use Rattle.rtmfp_script.proofs.Saying.{one_saying}
use Rattle.rendezvous_world.specs.declared.journal.JournalLine.{JournalLine}
use Rattle.rendezvous_world.specs.declared.journal.Refused.{Refused}
use Rattle.rendezvous_world.specs.declared.journal.Refused.TheVariants.{Open as OpenRefused, Seek as SeekRefused, Call as CallRefused, Row as RowRefused}
use Rattle.placed_world.specs.declared.step.PlacedStep.{PlacedStep}
use Rattle.placed_world.specs.declared.step.LostLine.{LostLine}
use Rattle.placed_world.specs.Seen.{PlacedSeen}
use Rattle.placed_world.specs.Stepping.{Placed}
use Rattle.end_places.specs.Seen.{PlacesSeen}
use Rattle.rendezvous_world.specs.Inside.{named_of}
use Rattle.rendezvous_world.specs.Same.{AreSameWorlds, without_room}
use Rattle.rendezvous_world.specs.Seen.{EndSeen, Seen}
use Rattle.rendezvous_world.specs.Sent.{Sent, sent_in}
use Rattle.rendezvous_world.proofs.Decided.{same_length, same_sent}
use Rattle.rtmfp_play.specs.Play.{Plays, PlaysStep, names_of, placed_said, report_since, step_said, told_lost, told_next, told_of, told_since}
use Rattle.rtmfp_play.proofs.Placing.{AreSamePlaced, LeaveTheSame, same_placed}

-- ---- what is told

told_stays : (ends : List Named) (sent : ℕ) (line : JournalLine) (refused : Option Refused) → told_of ends sent (without_room line) refused ≡ told_of ends sent line refused
told_stays ends sent line None = refl
told_stays ends sent line (Some (OpenRefused refusal)) = refl
told_stays ends sent line (Some (SeekRefused refusal)) = refl
told_stays ends sent line (Some (CallRefused refusal)) = refl
told_stays ends sent line (Some (RowRefused refusal)) = refl

next_stays : (ends : List Named) (sent : ℕ) (lines : List JournalLine) (at : ℕ) → told_next ends sent (slice_get (map without_room lines) at) ≡ told_next ends sent (slice_get lines at)
next_stays ends sent [] at = refl
next_stays ends sent (line ∷ lines) zero = told_stays ends _ line line.refused
next_stays ends sent (line ∷ lines) (suc at) = next_stays ends sent lines at

same_report : (w v t s : Seen) → AreSameWorlds w v → AreSameWorlds t s → report_since w t ≡ report_since v s
same_report w v t s before after =
    sym (next_stays (names_of t) (length (sent_in w.lines)) t.lines (length w.lines))
    ∙ ap (λ (l : List JournalLine). told_next (names_of t) (length (sent_in w.lines)) (slice_get l (length w.lines))) after.lines
    ∙ next_stays (names_of t) (length (sent_in w.lines)) s.lines (length w.lines)
    ∙ ap (λ (k : ℕ). told_next (names_of t) (length (sent_in w.lines)) (slice_get s.lines k)) (same_length w.lines v.lines before.lines)
    ∙ ap (λ (l : List Sent). told_next (names_of t) (length l) (slice_get s.lines (length v.lines))) (same_sent w.lines v.lines before.lines)
    ∙ ap (λ (l : List EndSeen). told_next (map named_of l) (length (sent_in v.lines)) (slice_get s.lines (length v.lines))) after.ends

-- ---- lines of the script

pub not_both : (line : List ℕ) (said : ScriptLine) → IsSkipped line → IsLineOf line said → ⊥
not_both line said skipped is = let same : Nothing ≡ SaidStep said = one_saying line Nothing (SaidStep said) skipped is in cc

pub one_said : (line : List ℕ) (a b : ScriptLine) → IsLineOf line a → IsLineOf line b → a ≡ b
one_said line a b p q = let same : SaidStep a ≡ SaidStep b = one_saying line (SaidStep a) (SaidStep b) p q in cc

pub same_some : (a b : PlacedStep) → ◌≡◌ {A = Option PlacedStep} (Some a) (Some b) → a ≡ b
same_some a b e = cc

-- two worlds with places are the same, and two texts are one
pub record AreOne (t s : PlacedSeen) (text words : List ℕ) : Type 0 where
  pub worlds : AreSamePlaced t s
  pub texts : text ≡ words

kept_same : (w v t s : PlacedSeen) → t ≡ w → s ≡ v → AreSamePlaced w v → AreSamePlaced t s
kept_same w v t s e f same = subst (λ (p : PlacedSeen). AreSamePlaced p s) (sym e) (subst (λ (p : PlacedSeen). AreSamePlaced w p) (sym f) same)

same_told : (w v : PlacedSeen) (n : ℕ) (t s : PlacedSeen) (lost other : Option LostLine) → AreSamePlaced w v → LeaveTheSame t s lost other → told_since w n t lost ≡ told_since v n s other
same_told w v n t s lost other before after =
    ap (λ (x : List ℕ). x ++ told_lost (names_of t.world) n lost) (same_report w.world v.world t.world s.world before.worlds after.placed.worlds)
    ∙ ap (λ (l : List EndSeen). report_since v.world s.world ++ told_lost (map named_of l) n lost) after.placed.worlds.ends
    ∙ ap (λ (o : Option LostLine). report_since v.world s.world ++ told_lost (names_of s.world) n o) after.lost_is

both_step : (w v : PlacedSeen) (n : ℕ) (line : List ℕ) (t s : PlacedSeen) (text words : List ℕ) → AreSamePlaced w v → PlaysStep w n line t text → PlaysStep v n line s words → AreOne t s text words
both_step w v n line t s text words before a b =
    let said : a.said ≡ b.said = one_said line a.said b.said a.is_line b.is_line in
    let taken : placed_said w a.said ≡ placed_said v b.said =
    ap (λ (l : List EndSeen). step_said (map named_of l) w.places.translators a.said) before.worlds.ends
    ∙ ap (λ (p : PlacesSeen). step_said (names_of v.world) p.translators a.said) before.places
    ∙ ap (λ (x : ScriptLine). placed_said v x) said in
    let step : a.step ≡ b.step = same_some a.step b.step (sym a.is_step ∙ taken ∙ b.is_step) in
    let same : LeaveTheSame t s a.lost b.lost = same_placed w v n b.step a.lost b.lost t s before (subst (λ (x : PlacedStep). Placed w n x a.lost t) step a.stepped) b.stepped in
    record { worlds = same.placed; texts = a.is_text ∙ same_told w v n t s a.lost b.lost before same ∙ sym b.is_text }

pub both_play : (w v : PlacedSeen) (n : ℕ) (line : List ℕ) (t s : PlacedSeen) (text words : List ℕ) → AreSamePlaced w v → Plays w n line t text → Plays v n line s words → AreOne t s text words
both_play w v n line t s text words before (inl a) (inl b) = record { worlds = kept_same w v t s a.same b.same before; texts = a.no_text ∙ sym b.no_text }
both_play w v n line t s text words before (inl a) (inr b) = absurd (not_both line b.said a.skipped b.is_line)
both_play w v n line t s text words before (inr a) (inl b) = absurd (not_both line a.said b.skipped a.is_line)
both_play w v n line t s text words before (inr a) (inr b) = both_step w v n line t s text words before a b
