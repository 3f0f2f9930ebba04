-- A line of a script decides what its journal adds.
use Rattle.std.proofs.Common.{◌≡◌, ℕ, List, [], ◌∷◌, ◌++◌, length, map, drop, refl, sym, ap, ◌∙◌}
use Rattle.std.proofs.lemmas.List.{drop_at}
use Rattle.endpoint_laws.specs.History.{History}
use Rattle.log_writing.specs.Written.{journal_text}
use Rattle.world_logs.specs.Heads.{name_at, setups_of}
use Rattle.placed_world.specs.Seen.{PlacedSeen}
use Rattle.rendezvous_world.specs.declared.journal.JournalLine.{JournalLine}
use Rattle.rendezvous_world.specs.History.{after_lines, happened, history_of}
use Rattle.rendezvous_world.specs.Same.{AreSameWorlds, without_room}
use Rattle.rendezvous_world.specs.Seen.{EndSeen, Seen}
use Rattle.rtmfp_play.specs.Journaling.{Journals, end_text, logs_text, text_if, text_unless, written_so_far}
use Rattle.rtmfp_play.proofs.Journaled.{each_journaled_line_is_played, each_line_adds_its_text}
use Rattle.rtmfp_play.proofs.OneText.{AreOne, both_play}
use Rattle.rtmfp_play.proofs.Placing.{AreSamePlaced}

-- ---- worlds that are the same

without_rooms : (ends : List EndSeen) (lines : List JournalLine) (earlier : History) → after_lines ends (map without_room lines) earlier ≡ after_lines ends lines earlier
without_rooms ends [] earlier = refl
without_rooms ends (line ∷ lines) earlier = without_rooms ends lines (happened ends line ∷ earlier)

same_history : (w t : Seen) → AreSameWorlds w t → history_of w ≡ history_of t
same_history w t same =
    sym (without_rooms w.ends w.lines [])
    ∙ ap (λ (l : List JournalLine). after_lines w.ends l []) same.lines
    ∙ without_rooms w.ends t.lines []
    ∙ ap (λ (e : List EndSeen). after_lines e t.lines []) same.ends

same_logs : (w t : Seen) → AreSameWorlds w t → logs_text w ≡ logs_text t
same_logs w t same =
    ap (λ (h : History). journal_text (name_at w.ends) (setups_of w.ends) h) (same_history w t same)
    ∙ ap (λ (e : List EndSeen). journal_text (name_at e) (setups_of e) (history_of t)) same.ends

same_written : (w t : Seen) → AreSameWorlds w t → written_so_far w ≡ written_so_far t
same_written w t same =
    ap (λ (h : History). text_if h (logs_text w)) (same_history w t same)
    ∙ ap (λ (x : List ℕ). text_if (history_of t) x) (same_logs w t same)

pub same_ending : (w t : Seen) → AreSameWorlds w t → end_text w ≡ end_text t
same_ending w t same =
    ap (λ (h : History). text_unless h (logs_text w)) (same_history w t same)
    ∙ ap (λ (x : List ℕ). text_unless (history_of t) x) (same_logs w t same)

-- ---- a line

-- what stands behind the same text
behind_same : (front text words : List ℕ) → front ++ text ≡ front ++ words → text ≡ words
behind_same front text words e =
    sym (drop_at front text (length front) refl)
    ∙ ap (λ (x : List ℕ). drop (length front) x) e
    ∙ drop_at front words (length front) refl

pub both_journal : (w v : PlacedSeen) (n : ℕ) (line : List ℕ) (t s : PlacedSeen) (text words : List ℕ) → AreSamePlaced w v → Journals w n line t text → Journals v n line s words → AreOne t s text words
both_journal w v n line t s text words before a b =
    let told = each_journaled_line_is_played w n line t text a in
    let said = each_journaled_line_is_played v n line s words b in
    let one : AreOne t s told.0 said.0 = both_play w v n line t s told.0 said.0 before told.1 said.1 in
    record {
      worlds = one.worlds;
      texts =
          behind_same (written_so_far w.world) text words
          (sym (each_line_adds_its_text w n line t text a)
          ∙ same_written t.world s.world one.worlds.worlds
          ∙ each_line_adds_its_text v n line s words b
          ∙ ap (λ (x : List ℕ). x ++ words) (sym (same_written w.world v.world before.worlds)));
    }
