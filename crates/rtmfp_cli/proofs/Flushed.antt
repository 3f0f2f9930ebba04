-- Passing on the last bytes changes nothing of what was done.
use Rattle.std.proofs.Common.{◌≡◌, ℕ, ◌+◌, inl, inr, List, [], ◌∷◌, ◌++◌, length, sym, ◌∙◌, append-nil, subst}
use Rattle.std.proofs.Math.Seq.{take-length}
use Rattle.rtmfp_host.specs.Faults.{Rose}
use Rattle.rtmfp_host.specs.Writing.{Appends}
use Rattle.rtmfp_lines.specs.declared.status.Status.{Status as RunStatus}
use Rattle.rtmfp_lines.specs.declared.status.Status.TheVariants as status
use Rattle.rtmfp_host.specs.Seen.{SinkSeen}
use Rattle.rtmfp_lines.specs.Outside.{NothingFailed, Outside, Settled, SinkFailed, outside}
use Rattle.rtmfp_lines.specs.Lines.{lines_of}
use Rattle.rtmfp_lines.proofs.Handled.{told_map}
use Rattle.rtmfp_lines.proofs.Streams.{appends_still}
use Rattle.rtmfp_cli.specs.declared.doing.Doing.{Doing}
use Rattle.rtmfp_cli.specs.Doing.{IsBadLine, IsForgedLine, ending_of}
use Rattle.rtmfp_cli.specs.Script.{HasDone, HasTaken, AllDone, SomeDone, StopsOn, TooMany, CutShort, EndsWhere, IsWhole, ScriptEnds}
use Rattle.rtmfp_cli.specs.Run.{Finishes, PassesOn, Stays}
use Rattle.rtmfp_cli.proofs.Going.{no_part}

-- the lines are done, and their text is written, as before
flushed : (doing : Doing) (start mid : Outside) (sink : SinkSeen) (lines : List (List ℕ)) → Appends mid.sink.written sink.written [] → HasDone doing start mid lines → HasDone doing start (outside mid.source sink) lines
flushed doing start mid sink lines kept has =
    record { left = has.left; text = has.text; ran = has.ran; holds = has.holds; written = appends_still start.sink.written mid.sink.written sink.written has.text has.written kept }

-- and they are all that was passed on, perhaps in part
cut : (doing : Doing) (start mid : Outside) (sink : SinkSeen) (script : List ℕ) (lines more : List (List ℕ)) → lines_of script ≡ lines ++ more → HasTaken doing script lines mid.source → Appends mid.sink.written sink.written [] →
    HasDone doing start mid lines → CutShort doing script start (outside mid.source sink)
cut doing start mid sink script lines more split took kept has =
    let P : List ℕ → Type 0 = λ xs. Appends start.sink.written sink.written xs in
    record {
      lines = lines;
      more = more;
      split = split;
      took = took;
      left = has.left;
      text = has.text;
      ran = has.ran;
      holds = has.holds;
      part = [];
      next = no_part has.left (length lines + 1) more;
      written = subst P (sym (append-nil has.text)) (appends_still start.sink.written mid.sink.written sink.written has.text has.written kept);
    }

-- the same of all lines and the ending
all_flushed : (doing : Doing) (start mid : Outside) (sink : SinkSeen) (script : List ℕ) → Appends mid.sink.written sink.written [] → AllDone doing script start mid → AllDone doing script start (outside mid.source sink)
all_flushed doing start mid sink script kept all = record {
  read = all.read;
  count = all.count;
  took = all.took;
  has = record {
    left = all.has.left;
    text = all.has.text;
    ran = all.has.ran;
    holds = all.has.holds;
    written = appends_still start.sink.written mid.sink.written sink.written (all.has.text ++ ending_of all.has.left) all.has.written kept;
  };
}

all_cut : (doing : Doing) (start mid : Outside) (sink : SinkSeen) (script : List ℕ) → Appends mid.sink.written sink.written [] → AllDone doing script start mid → CutShort doing script start (outside mid.source sink)
all_cut doing start mid sink script kept all = record {
  lines = lines_of script;
  more = [];
  split = sym (append-nil (lines_of script));
  took = all.took;
  left = all.has.left;
  text = all.has.text;
  ran = all.has.ran;
  holds = all.has.holds;
  part = ending_of all.has.left;
  next = (length (ending_of all.has.left), sym (take-length (ending_of all.has.left)));
  written = appends_still start.sink.written mid.sink.written sink.written (all.has.text ++ ending_of all.has.left) all.has.written kept;
}

stopped : (Kind : Doing → ℕ → List ℕ → Type 0) (doing : Doing) (n : ℕ) (start mid : Outside) (sink : SinkSeen) (script : List ℕ) → Appends mid.sink.written sink.written [] → StopsOn Kind doing script n start mid →
    StopsOn Kind doing script n start (outside mid.source sink)
stopped Kind doing n start mid sink script kept stops = record {
  lines = stops.lines;
  line = stops.line;
  stops = stops.stops;
  within = stops.within;
  took = stops.took;
  has = record { left = stops.has.left; text = stops.has.text; ran = stops.has.ran; holds = stops.has.holds; written = appends_still start.sink.written mid.sink.written sink.written stops.has.text stops.has.written kept };
  kind = stops.kind;
}

stopped_cut : (Kind : Doing → ℕ → List ℕ → Type 0) (doing : Doing) (n : ℕ) (start mid : Outside) (sink : SinkSeen) (script : List ℕ) → Appends mid.sink.written sink.written [] → StopsOn Kind doing script n start mid →
    CutShort doing script start (outside mid.source sink)
stopped_cut Kind doing n start mid sink script kept stops = cut doing start mid sink script stops.lines (stops.line ∷ stops.stops.more) stops.stops.split stops.took kept stops.has

whole : (start mid : Outside) (sink : SinkSeen) → NothingFailed start mid → Settled mid.sink sink → IsWhole start (outside mid.source sink)
whole start mid sink calm settled = record { source = calm.source; sink = record { passed = settled.passed; faults = settled.faults ∙ calm.sink } }

failed : (start mid : Outside) (sink : SinkSeen) → NothingFailed start mid → Rose mid.sink.faults sink.faults → SinkFailed start (outside mid.source sink)
failed start mid sink calm rose = let P : ℕ → Type 0 = λ n. Rose n sink.faults in record { rose = subst P calm.sink rose; source = calm.source }

-- by what passing on has answered
answered : (doing : Doing) (s result : RunStatus) (start mid : Outside) (sink : SinkSeen) → PassesOn s result mid.sink sink → NothingFailed start mid → (IsWhole start (outside mid.source sink) → ScriptEnds doing s start (outside mid.source sink)) →
    (SinkFailed start (outside mid.source sink) → ScriptEnds doing status.SinkFault start (outside mid.source sink)) → ScriptEnds doing result start (outside mid.source sink)
answered doing s result start mid sink passes calm done cut =
    let P : RunStatus → Type 0 = λ x. ScriptEnds doing x start (outside mid.source sink) in
    elim passes.answer [
      | inl kept ↦ subst P (sym kept.0) (done (whole start mid sink calm kept.1))
      | inr rose ↦ subst P (sym rose.0) (cut (failed start mid sink calm rose.1))
    ]

stays : (doing : Doing) (s result : RunStatus) (start mid : Outside) (sink : SinkSeen) → Stays s result mid.sink sink → ScriptEnds doing s start mid → ScriptEnds doing result start (outside mid.source sink)
stays doing s result start mid sink same ends =
    let P : RunStatus → Type 0 = λ x. ScriptEnds doing x start (outside mid.source sink) in
    let Q : SinkSeen → Type 0 = λ k. ScriptEnds doing s start (outside mid.source k) in
    subst P (sym same.same) (subst Q (sym same.sink) ends)

-- how a run ends once the sink has passed on what it held, or failed to
pub run_ends : (doing : Doing) (s result : RunStatus) (start mid : Outside) (sink : SinkSeen) → Finishes s result mid.sink sink → EndsWhere NothingFailed doing s start mid → ScriptEnds doing result start (outside mid.source sink)
run_ends doing status.Done result start mid sink finishes ends =
    let after = outside mid.source sink in
    let kept = finishes.written in
    answered doing status.Done result start mid sink finishes ends.0 (
    λ good. (good, told_map start.source.left (λ script. AllDone doing script start mid) (λ script. AllDone doing script start after) (λ script all. all_flushed doing start mid sink script kept all) ends.1)
    ) (
    λ bad. (bad, told_map start.source.left (λ script. AllDone doing script start mid) (λ script. CutShort doing script start after) (λ script all. all_cut doing start mid sink script kept all) ends.1)
    )
run_ends doing status.Memory result start mid sink finishes ends =
    let after = outside mid.source sink in
    let kept = finishes.written in
    answered doing status.Memory result start mid sink finishes ends.0 (
    λ good. (
      good,
      told_map start.source.left (λ script. SomeDone doing script start mid) (λ script. SomeDone doing script start after)
          (λ script some. record { lines = some.lines; more = some.more; split = some.split; took = some.took; has = flushed doing start mid sink some.lines kept some.has }) ends.1,
    )
    ) (
    λ bad. (
      bad,
      told_map start.source.left (λ script. SomeDone doing script start mid) (λ script. CutShort doing script start after)
          (λ script some. cut doing start mid sink script some.lines some.more some.split some.took kept some.has) ends.1,
    )
    )
run_ends doing (status.BadScript n) result start mid sink finishes ends =
    let after = outside mid.source sink in
    let kept = finishes.written in
    answered doing (status.BadScript n) result start mid sink finishes ends.0 (
    λ good. (good, told_map start.source.left (λ script. StopsOn IsBadLine doing script n start mid) (λ script. StopsOn IsBadLine doing script n start after) (λ script stops. stopped IsBadLine doing n start mid sink script kept stops) ends.1)
    ) (
    λ bad. (bad, told_map start.source.left (λ script. StopsOn IsBadLine doing script n start mid) (λ script. CutShort doing script start after) (λ script stops. stopped_cut IsBadLine doing n start mid sink script kept stops) ends.1)
    )
run_ends doing (status.Forged n) result start mid sink finishes ends =
    let after = outside mid.source sink in
    let kept = finishes.written in
    answered doing (status.Forged n) result start mid sink finishes ends.0 (
    λ good. (good, told_map start.source.left (λ script. StopsOn IsForgedLine doing script n start mid) (λ script. StopsOn IsForgedLine doing script n start after) (λ script stops. stopped IsForgedLine doing n start mid sink script kept stops) ends.1)
    ) (
    λ bad. (bad, told_map start.source.left (λ script. StopsOn IsForgedLine doing script n start mid) (λ script. CutShort doing script start after) (λ script stops. stopped_cut IsForgedLine doing n start mid sink script kept stops) ends.1)
    )
run_ends doing status.SinkFault result start mid sink finishes ends = stays doing status.SinkFault result start mid sink finishes ends
run_ends doing status.SourceFault result start mid sink finishes ends = stays doing status.SourceFault result start mid sink finishes ends
run_ends doing status.ScriptLong result start mid sink finishes ends =
    let after = outside mid.source sink in
    let kept = finishes.written in
    answered doing status.ScriptLong result start mid sink finishes ends.0 (
    λ good. (
      good,
      told_map start.source.left (λ script. TooMany doing script start mid) (λ script. TooMany doing script start after)
          (λ script many. record { lines = many.lines; line = many.line; stops = many.stops; took = many.took; has = flushed doing start mid sink many.lines kept many.has }) ends.1,
    )
    ) (
    λ bad. (
      bad,
      told_map start.source.left (λ script. TooMany doing script start mid) (λ script. CutShort doing script start after)
          (λ script many. cut doing start mid sink script many.lines (many.line ∷ many.stops.more) many.stops.split many.took kept many.has) ends.1,
    )
    )
run_ends doing _ result start mid sink finishes ends = absurd ends
