-- The journal of a script is the logs of the ends that it leaves.
use Rattle.std.proofs.Common.{◌≡◌, ℕ, ◌+◌, List, [], ◌∷◌, ◌++◌, refl, sym, ap, ◌∙◌, append_assoc, append-nil, subst}
use Rattle.placed_world.specs.Seen.{PlacedSeen}
use Rattle.rtmfp_play.specs.Journaling.{end_text, written_so_far}
use Rattle.rtmfp_play.specs.Play.{empty_placed}
use Rattle.rtmfp_play.proofs.Journaled.{each_journaled_line_is_played, each_line_adds_its_text}
use Rattle.rtmfp_play.proofs.LogsTold.{what_is_written_is_the_logs}
use Rattle.rtmfp_cli.specs.declared.doing.Doing.{Doing}
use Rattle.rtmfp_cli.specs.declared.doing.Doing.TheVariants.{Journaling, Playing}
use Rattle.rtmfp_cli.specs.Doing.{Does}
use Rattle.rtmfp_cli.specs.Laws.{EachJournalIsAgreed, EachJournalIsPlayed, EachJournalIsTheLogs}
use Rattle.rtmfp_cli.specs.Script.{Runs}
use Rattle.rtmfp_cli.proofs.Holding.{run_is_agreed}

-- Lines have brought what is written from one world's to another's, and a report of them has left
-- the same world.
record Journaled (n : ℕ) (u w : PlacedSeen) (lines : List (List ℕ)) (text : List ℕ) : Type 0 where
  texts : written_so_far w.world ≡ written_so_far u.world ++ text
  words : List ℕ
  played : Runs n (Playing u) lines (Playing w) words

one_more : (n : ℕ) (u w : PlacedSeen) (line : List ℕ) (lines : List (List ℕ)) (middle : Doing) (first rest : List ℕ) → Does (Journaling u) n line middle first → Runs (n + 1) middle lines (Journaling w) rest →
    ((m : PlacedSeen) → Runs (n + 1) (Journaling m) lines (Journaling w) rest → Journaled (n + 1) m w lines rest) → Journaled n u w (line ∷ lines) (first ++ rest)
one_more n u w line lines (Journaling m) first rest does ran later =
    let next = later m ran in
    let played = each_journaled_line_is_played u n line m first does in record {
      texts = next.texts ∙ ap (λ (x : List ℕ). x ++ rest) (each_line_adds_its_text u n line m first does) ∙ append_assoc (written_so_far u.world) first rest;
      words = played.0 ++ next.words;
      played = (Playing m, played.0, next.words, played.1, next.played, refl);
    }
one_more n u w line lines _ first rest does ran later = absurd does

same_world : (u w : PlacedSeen) → Journaling w ≡ Journaling u → w ≡ u
same_world u w e = cc

journaled : (n : ℕ) (u w : PlacedSeen) (lines : List (List ℕ)) (text : List ℕ) → Runs n (Journaling u) lines (Journaling w) text → Journaled n u w lines text
journaled n u w [] text ran =
    let same : w ≡ u = same_world u w ran.0 in record {
      texts = ap (λ (p : PlacedSeen). written_so_far p.world) same ∙ sym (append-nil (written_so_far u.world)) ∙ ap (λ (x : List ℕ). written_so_far u.world ++ x) (sym ran.1);
      words = [];
      played = (ap Playing same, refl);
    }
journaled n u w (line ∷ lines) text ran =
    subst (λ (x : List ℕ). Journaled n u w (line ∷ lines) x) (sym ran.5)
    (one_more n u w line lines ran.0 ran.1 ran.2 ran.3 ran.4 (λ m then. journaled (n + 1) m w lines ran.2 then))

pub each_journal_is_the_logs : EachJournalIsTheLogs
each_journal_is_the_logs lines w text ran =
    let all : Journaled 1 empty_placed w lines text = journaled 1 empty_placed w lines text ran in
    ap (λ (x : List ℕ). x ++ end_text w.world) (sym all.texts) ∙ what_is_written_is_the_logs w.world

pub each_journal_is_played : EachJournalIsPlayed
each_journal_is_played lines w text ran =
    let all : Journaled 1 empty_placed w lines text = journaled 1 empty_placed w lines text ran in
    (all.words, all.played)

pub each_journal_is_agreed : EachJournalIsAgreed
each_journal_is_agreed lines w text ran =
    let all : Journaled 1 empty_placed w lines text = journaled 1 empty_placed w lines text ran in
    run_is_agreed lines w all.words all.played
