-- How a run ends, once its lines have.
use Rattle.std.proofs.Common.{◌≡◌, ℕ, List, [], take, refl, sym, ◌∙◌, append-nil, subst, Option}
use Rattle.rtmfp_host.specs.Faults.{Rose}
use Rattle.rtmfp_host.specs.Seen.{SinkSeen}
use Rattle.rtmfp_host.specs.Writing.{Appends}
use Rattle.rtmfp_lines.specs.declared.status.Status.{Status as RunStatus}
use Rattle.rtmfp_lines.specs.declared.status.Status.TheVariants as status
use Rattle.rtmfp_lines.specs.Lines.{lines_of}
use Rattle.rtmfp_lines.specs.Outside.{NothingFailed, Outside, outside}
use Rattle.rtmfp_lines.proofs.Handled.{told_map}
use Rattle.rtmfp_lines.proofs.Streams.{appends_more}
use Rattle.rtmfp_cli.specs.declared.doing.Doing.{Doing}
use Rattle.rtmfp_cli.specs.Doing.{ending_of}
use Rattle.rtmfp_cli.specs.Script.{AllDone, CutShort, SomeDone, Told}
use Rattle.rtmfp_cli.specs.Turning.{Concludes, EndsAs}
use Rattle.rtmfp_cli.proofs.Going.{AllRan, Ends, LinesEnd}

-- all of the ending was written
whole_ending : (first left : Doing) (script : List ℕ) (start mid : Outside) (sink : SinkSeen) → Appends mid.sink.written sink.written (ending_of left) → AllRan first left script start mid → AllDone first script start (outside mid.source sink)
whole_ending first left script start mid sink ends all = record {
  read = all.read;
  count = all.count;
  took = all.took;
  has = record { left = left; text = all.text; ran = all.ran; holds = all.holds; written = appends_more start.sink.written mid.sink.written sink.written all.text (ending_of left) all.written ends };
}

-- none of it
no_ending : (first left : Doing) (script : List ℕ) (start mid : Outside) (sink : SinkSeen) → sink.written ≡ mid.sink.written → AllRan first left script start mid → SomeDone first script start (outside mid.source sink)
no_ending first left script start mid sink same all =
    let P : Option (List ℕ) → Type 0 = λ o. Appends start.sink.written o all.text in record {
      lines = lines_of script;
      more = [];
      split = sym (append-nil (lines_of script));
      took = all.took;
      has = record { left = left; text = all.text; ran = all.ran; holds = all.holds; written = subst P (sym same) all.written };
    }

-- a part of it
part_of_ending : (first left : Doing) (script : List ℕ) (start mid : Outside) (sink : SinkSeen) (k : ℕ) → Appends mid.sink.written sink.written (take k (ending_of left)) → AllRan first left script start mid →
    CutShort first script start (outside mid.source sink)
part_of_ending first left script start mid sink k ends all = record {
  lines = lines_of script;
  more = [];
  split = sym (append-nil (lines_of script));
  took = all.took;
  left = left;
  text = all.text;
  ran = all.ran;
  holds = all.holds;
  part = take k (ending_of left);
  next = (k, refl);
  written = appends_more start.sink.written mid.sink.written sink.written all.text (take k (ending_of left)) all.written ends;
}

-- by what became of the ending
ended : (result : RunStatus) (first left : Doing) (start mid : Outside) (sink : SinkSeen) → NothingFailed start mid → Told start (λ script. AllRan first left script start mid) → EndsAs result (ending_of left) mid.sink sink →
    Ends first result start (outside mid.source sink)
ended status.Done first left start mid sink calm all ends =
    let after = outside mid.source sink in (
      record { source = calm.source; sink = ends.1 ∙ calm.sink },
      told_map start.source.left (λ script. AllRan first left script start mid) (λ script. AllDone first script start after) (λ script ran. whole_ending first left script start mid sink ends.0 ran) all,
    )
ended status.Memory first left start mid sink calm all ends =
    let after = outside mid.source sink in (
      record { source = calm.source; sink = ends.1 ∙ calm.sink },
      told_map start.source.left (λ script. AllRan first left script start mid) (λ script. SomeDone first script start after) (λ script ran. no_ending first left script start mid sink ends.0 ran) all,
    )
ended status.SinkFault first left start mid sink calm all ends =
    let after = outside mid.source sink in
    let P : ℕ → Type 0 = λ n. Rose n sink.faults in (
      record { rose = subst P calm.sink ends.2; source = calm.source },
      told_map start.source.left (λ script. AllRan first left script start mid) (λ script. CutShort first script start after) (λ script ran. part_of_ending first left script start mid sink ends.0 ends.1 ran) all,
    )
ended _ first left start mid sink calm all ends = absurd ends

stays : (first : Doing) (s result : RunStatus) (start mid : Outside) (sink : SinkSeen) → result ≡ s → sink ≡ mid.sink → Ends first s start mid → Ends first result start (outside mid.source sink)
stays first s result start mid sink same kept ends =
    let P : RunStatus → Type 0 = λ x. Ends first x start (outside mid.source sink) in
    let Q : SinkSeen → Type 0 = λ k. Ends first s start (outside mid.source k) in
    subst P (sym same) (subst Q (sym kept) ends)

pub concluded : (s result : RunStatus) (first left : Doing) (start mid : Outside) (sink : SinkSeen) → LinesEnd first left s start mid → Concludes s result (ending_of left) mid.sink sink → Ends first result start (outside mid.source sink)
concluded status.Done result first left start mid sink lines ends = ended result first left start mid sink lines.0 lines.1 ends
concluded s result first left start mid sink lines ends = stays first s result start mid sink ends.0 ends.1 lines
