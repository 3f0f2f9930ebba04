-- Generated steps, one after another.
use Rattle.std.proofs.Common.{◌≡◌, ℕ, ◌+◌, ◌<◌, List, [], ◌∷◌, ◌++◌, Option, refl, sym, ap, ◌∙◌, subst, add-one, append_assoc, append-nil, get_or, take, length}
use Rattle.std.proofs.Math.Seq.{take-suc}
use Rattle.rendezvous_world.specs.declared.journal.JournalLine.{JournalLine}
use Rattle.rendezvous_world.specs.declared.step.StepFault.{StepFault}
use Rattle.rendezvous_world.specs.Seen.{Seen}
use Rattle.rendezvous_world.specs.Faults.{step_fault}
use Rattle.rendezvous_world.specs.Stepping.{Stepped}
use Rattle.endpoint_model.specs.declared.entry.Entry.{Entry}
use Rattle.rtmfp_lines.specs.declared.status.Status.{Status}
use Rattle.rtmfp_lines.specs.declared.status.Status.TheVariants as status
use Rattle.rtmfp_play.specs.Generated.{Generates, StopsAtStep, all_entries, generated_step, next_number, number_after}
use Rattle.rtmfp_play.specs.Generating.{RunEnds, StepEnds}

-- the number after one more
pub number_next : (seed count x : ℕ) → x ≡ number_after count seed → next_number x ≡ number_after (count + 1) seed
number_next seed count x e = ap next_number e ∙ sym (ap (λ k. number_after k seed) (add-one count))

-- one step more
pub one_more : (seed count x : ℕ) (v w : Seen) → x ≡ number_after (count + 1) seed → Generates seed count v → Stepped v (8 + count + 1) (generated_step v x) w → Generates seed (count + 1) w
one_more seed count x v w e runs done =
    let P : ℕ → Type 0 = λ k. Generates seed k w in
    let Q : ℕ → Type 0 = λ n. Stepped v (8 + count + 1) (generated_step v n) w in
    subst P (sym (add-one count)) (v, runs, subst Q e done)

-- the step that ended the run
stops : (Kind : Option StepFault → Type 0) (seed steps count x line : ℕ) (v : Seen) → count < steps → line ≡ 8 + count + 1 → x ≡ number_after (count + 1) seed → Generates seed count v → Kind (step_fault v (generated_step v x)) → StopsAtStep Kind seed steps line
stops Kind seed steps count x line v few numbered e runs kind =
    let P : ℕ → Type 0 = λ n. Kind (step_fault v (generated_step v n)) in
    record { count = count; few = few; numbered = numbered; world = v; ran = runs; refused = subst P e kind }

pub run_ends_so : (s : Status) (seed steps count x : ℕ) (v : Seen) → count < steps → x ≡ number_after (count + 1) seed → Generates seed count v → StepEnds (8 + count + 1) (step_fault v (generated_step v x)) s →
    RunEnds (λ Kind line. StopsAtStep Kind seed steps line) s
run_ends_so status.Done seed steps count x v few e runs ends = ends
run_ends_so status.Memory seed steps count x v few e runs ends = tt
run_ends_so (status.BadScript line) seed steps count x v few e runs ends = stops _ seed steps count x line v few ends.0 e runs ends.1
run_ends_so (status.Forged line) seed steps count x v few e runs ends = stops _ seed steps count x line v few ends.0 e runs ends.1
run_ends_so _ seed steps count x v few e runs ends = ends

all_entries-append : (lines more : List JournalLine) → all_entries (lines ++ more) ≡ all_entries lines ++ all_entries more
all_entries-append [] more = refl
all_entries-append (line ∷ lines) more = ap (λ (es : List Entry). line.out.entries ++ es) (all_entries-append lines more) ∙ sym (append_assoc line.out.entries (all_entries lines) (all_entries more))

take-one_more : (lines : List JournalLine) (i : ℕ) (line : JournalLine) → i < length lines → take (i + 1) lines ≡ take i lines ++ get_or lines i line ∷ []
take-one_more lines i line lt = ap (λ k. take k lines) (add-one i) ∙ take-suc lines i line lt

-- the entries of the first lines, and of one line more
pub entries_more : (lines : List JournalLine) (i : ℕ) (line : JournalLine) (entries : List Entry) → line ≡ get_or lines i line → i < length lines → entries ≡ line.out.entries →
    all_entries (take i lines) ++ entries ≡ all_entries (take (i + 1) lines)
entries_more lines i line entries is lt e =
    ap (λ (es : List Entry). all_entries (take i lines) ++ es) (e ∙ sym (append-nil line.out.entries))
    ∙ sym (all_entries-append (take i lines) (line ∷ []))
    ∙ ap (λ (x : JournalLine). all_entries (take i lines ++ x ∷ [])) is
    ∙ ap all_entries (sym (take-one_more lines i line lt))
