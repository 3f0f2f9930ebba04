-- A seed and a count decide a generated run.
use Rattle.std.proofs.Common.{◌≡◌, ℕ, zero, suc, ◌+◌, ◌/◌, ◌%◌, ◌^◌, ◌==◌, nat_lt, if◌then◌else◌, List, [], ◌∷◌, ◌++◌, length, map, refl, sym, ap, ◌∙◌, subst}
use Rattle.endpoint_model.specs.declared.entry.Entry.{Entry}
use Rattle.rendezvous_world.specs.declared.step.Step.{Step}
use Rattle.rendezvous_world.specs.declared.step.Step.TheVariants.{At, Open, Cancel, Tick}
use Rattle.rendezvous_world.specs.declared.journal.JournalLine.{JournalLine}
use Rattle.rendezvous_world.specs.Laws.{empty_world}
use Rattle.rendezvous_world.specs.Pairs.{kept_pairs}
use Rattle.rendezvous_world.specs.Same.{AreSameWorlds, without_room}
use Rattle.rendezvous_world.specs.Seen.{EndSeen, Seen}
use Rattle.rendezvous_world.specs.Sent.{Sent, sent_in}
use Rattle.rendezvous_world.specs.Stepping.{Stepped}
use Rattle.rendezvous_world.proofs.Decided.{same_by, same_sent, same_step}
use Rattle.rtmfp_report.specs.Tally.{tally_of, summary_text}
use Rattle.rtmfp_play.specs.Generated.{Begun, Generates, all_entries, delivery_or_tick, end_address, end_count, end_step, generated_step, number_after, picked, summary_of}
use Rattle.rtmfp_play.specs.Laws.{EachGeneratedRunIsOne}

-- ---- the step that a number picks, by the moment and the datagrams that were sent

abbrev picked_by : ℕ → List Sent → (operation end other back : ℕ) → Step
picked_by moment sent operation end other back =
    if nat_lt operation 2 then Open end other (end_address other ∷ [])
    else if operation == 2 then Tick end
    else if operation == 3 then At (moment + 500)
    else if operation == 4 then Cancel end back
    else delivery_or_tick sent end back

is_picked : (w : Seen) (operation end other back : ℕ) → picked w operation end other back ≡ picked_by w.moment (sent_in w.lines) operation end other back
is_picked w operation end other back = refl

same_picked : (w v : Seen) (operation end other back : ℕ) → AreSameWorlds w v → picked w operation end other back ≡ picked v operation end other back
same_picked w v operation end other back same =
    is_picked w operation end other back
    ∙ ap (λ (m : ℕ). picked_by m (sent_in w.lines) operation end other back) same.moment
    ∙ ap (λ (l : List Sent). picked_by v.moment l operation end other back) (same_sent w.lines v.lines same.lines)
    ∙ sym (is_picked v operation end other back)

same_generated : (w v : Seen) (x : ℕ) → AreSameWorlds w v → generated_step w x ≡ generated_step v x
same_generated w v x same = same_picked w v (x / 2 ^ 33 % 16) (x / 2 ^ 33 / 16 % 8) (x / 2 ^ 33 / 128 % 8) (x / 2 ^ 33 / 1024 % 16) same

-- ---- the run

one_beginning : (who : ℕ) (w t : Seen) → Begun who w → Begun who t → AreSameWorlds w t
one_beginning zero w t h k = same_by empty_world empty_world w t h k (record { moment = refl; ends = refl; lines = refl })
one_beginning (suc who) w t h k = same_step h.0 k.0 (who + 1) (end_step who) w t (one_beginning who h.0 k.0 h.1 k.1) h.2 k.2

one_generated : (seed steps : ℕ) (w t : Seen) → Generates seed steps w → Generates seed steps t → AreSameWorlds w t
one_generated seed zero w t h k = one_beginning end_count w t h k
one_generated seed (suc count) w t h k =
    let before : AreSameWorlds h.0 k.0 = one_generated seed count h.0 k.0 h.1 k.1 in
    same_step h.0 k.0 (end_count + count + 1) (generated_step k.0 (number_after (count + 1) seed)) w t before
    (subst (λ (step : Step). Stepped h.0 (end_count + count + 1) step w) (same_generated h.0 k.0 (number_after (count + 1) seed) before) h.2) k.2

-- ---- its summary

entries_stay : (lines : List JournalLine) → all_entries (map without_room lines) ≡ all_entries lines
entries_stay [] = refl
entries_stay (line ∷ lines) = ap (λ (l : List Entry). line.out.entries ++ l) (entries_stay lines)

same_summary : (steps : ℕ) (w t : Seen) → AreSameWorlds w t → summary_of steps w ≡ summary_of steps t
same_summary steps w t same =
    ap (λ (l : List EndSeen). summary_text (length l) steps (tally_of (all_entries w.lines)) (kept_pairs l l)) same.ends
    ∙ ap (λ (l : List Entry). summary_text (length t.ends) steps (tally_of l) (kept_pairs t.ends t.ends))
    (sym (entries_stay w.lines) ∙ ap all_entries same.lines ∙ entries_stay t.lines)

pub each_generated_run_is_one : EachGeneratedRunIsOne
each_generated_run_is_one seed steps w t h k =
    let same : AreSameWorlds w t = one_generated seed steps w t h k in
    (same, same_summary steps w t same)
