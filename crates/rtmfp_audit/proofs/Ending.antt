-- How an audit ends, once all is read, judged and passed on.
use Rattle.std.proofs.Common.{◌≡◌, ℕ, inl, inr, List, [], ◌∷◌, length, take, refl, sym, ◌∙◌, append-nil, subst}
use Rattle.std.proofs.Math.Seq.{take-length}
use Rattle.rtmfp_host.specs.Faults.{Rose}
use Rattle.rtmfp_host.specs.Seen.{SinkSeen, SourceSeen}
use Rattle.rtmfp_host.specs.Writing.{Appends}
use Rattle.rtmfp_lines.specs.declared.status.Status.{Status as RunStatus}
use Rattle.rtmfp_lines.specs.declared.status.Status.TheVariants as status
use Rattle.rtmfp_lines.specs.Outside.{NothingFailed, Outside, SinkFailed, outside}
use Rattle.rtmfp_lines.specs.Lines.{lines_of}
use Rattle.rtmfp_lines.proofs.Handled.{told_map}
use Rattle.rtmfp_lines.proofs.Streams.{appends_more, appends_still}
use Rattle.log_reading.specs.Gathered.{Read}
use Rattle.rtmfp_audit.specs.Lines.{AllRead, SomeRead, StopsAt}
use Rattle.rtmfp_audit.specs.Audits.{AuditEnds, CutShort, EndsWhere, IsCalm, IsSilent, Judged, Told, WasJudged}
use Rattle.rtmfp_audit.specs.Turning.{Finishes, PassesOn, Reads, Writes}

all_some : (text : List ℕ) (read : Read) (after : SourceSeen) → AllRead text read after → SomeRead text after
all_some text read after all = record { lines = lines_of text; more = []; split = sym (append-nil (lines_of text)); read = read; says = all.says; took = all.took }

stops_some : (text : List ℕ) (number : ℕ) (after : SourceSeen) → StopsAt text number after → SomeRead text after
stops_some text number after stops = record { lines = stops.lines; more = stops.line ∷ stops.more; split = stops.split; read = stops.read; says = stops.says; took = stops.took }

-- nothing was written
none_cut : (text : List ℕ) (start after : Outside) → IsSilent start after → SomeRead text after.source → CutShort text start after
none_cut text start after silent some = record { part = []; what = inl (some, refl); appended = silent }

calm_with : (start mid : Outside) (sink : SinkSeen) → NothingFailed start mid → sink.faults ≡ mid.sink.faults → NothingFailed start (outside mid.source sink)
calm_with start mid sink calm same = record { source = calm.source; sink = same ∙ calm.sink }

failed_with : (start mid : Outside) (sink : SinkSeen) → NothingFailed start mid → Rose mid.sink.faults sink.faults → SinkFailed start (outside mid.source sink)
failed_with start mid sink calm rose = let P : ℕ → Type 0 = λ n. Rose n sink.faults in record { rose = subst P calm.sink rose; source = calm.source }

-- ---- what was judged is written

judged : (result : RunStatus) (read : Read) (start mid : Outside) (sink : SinkSeen) (written : List ℕ) → IsSilent start mid → Told start (λ text. AllRead text read mid.source) → Judged result read written → Appends mid.sink.written sink.written written →
    Told start (λ text. WasJudged result text start (outside mid.source sink))
judged result read start mid sink written silent all so appended =
    told_map start.source.left (λ text. AllRead text read mid.source) (λ text. WasJudged result text start (outside mid.source sink))
    (λ text whole. record {
      read = read;
      all = whole;
      written = written;
      judged = so;
      appended = appends_more start.sink.written mid.sink.written sink.written [] written silent appended;
    }) all

pub told : (result : RunStatus) (read : Read) (start mid : Outside) (sink : SinkSeen) → Reads status.Done read start mid → Writes result read mid.sink sink → EndsWhere NothingFailed result start (outside mid.source sink)
told status.Done read start mid sink reads writes = (calm_with start mid sink reads.0 writes.0, judged status.Done read start mid sink writes.1 reads.1 reads.3 writes.2 writes.3)
told (status.NotAgreed line) read start mid sink reads writes = (calm_with start mid sink reads.0 writes.0, judged (status.NotAgreed line) read start mid sink writes.1 reads.1 reads.3 writes.2 writes.3)
told status.Memory read start mid sink reads writes =
    let P : SinkSeen → Type 0 = λ k. EndsWhere NothingFailed status.Memory start (outside mid.source k) in
    subst P (sym writes) (
      reads.0,
      reads.1,
      told_map start.source.left (λ text. AllRead text read mid.source) (λ text. SomeRead text mid.source) (λ text all. all_some text read mid.source all) reads.3,
    )
told status.SinkFault read start mid sink reads writes = (
  failed_with start mid sink reads.0 writes.0,
  told_map start.source.left (λ text. AllRead text read mid.source) (λ text. CutShort text start (outside mid.source sink))
      (λ text all. record {
        part = take writes.3 writes.2;
        what = inr (writes.1, read, writes.2, writes.3, all, writes.4, refl);
        appended = appends_more start.sink.written mid.sink.written sink.written [] (take writes.3 writes.2) reads.1 writes.5;
      }) reads.3,
)
told _ read start mid sink reads writes = absurd (writes.2)

-- ---- the sink passes on what it held

silent_still : (start mid : Outside) (sink : SinkSeen) → Appends mid.sink.written sink.written [] → IsSilent start mid → IsSilent start (outside mid.source sink)
silent_still start mid sink kept silent = appends_still start.sink.written mid.sink.written sink.written [] silent kept

judged_still : (result : RunStatus) (start mid : Outside) (sink : SinkSeen) (text : List ℕ) → Appends mid.sink.written sink.written [] → WasJudged result text start mid → WasJudged result text start (outside mid.source sink)
judged_still result start mid sink text kept was =
    record { read = was.read; all = was.all; written = was.written; judged = was.judged; appended = appends_still start.sink.written mid.sink.written sink.written was.written was.appended kept }

judged_cut : (result : RunStatus) (start mid : Outside) (sink : SinkSeen) (text : List ℕ) → Appends mid.sink.written sink.written [] → WasJudged result text start mid → CutShort text start (outside mid.source sink)
judged_cut result start mid sink text kept was =
    record {
      part = was.written;
      what = inr (result, was.read, was.written, length was.written, was.all, was.judged, sym (take-length was.written));
      appended = appends_still start.sink.written mid.sink.written sink.written was.written was.appended kept;
    }

-- by what passing on has answered
answered : (s result : RunStatus) (start mid : Outside) (sink : SinkSeen) → PassesOn s result mid.sink sink → NothingFailed start mid → (IsCalm start (outside mid.source sink) → AuditEnds s start (outside mid.source sink)) →
    Told start (λ text. CutShort text start (outside mid.source sink)) → AuditEnds result start (outside mid.source sink)
answered s result start mid sink passes calm done cut =
    let P : RunStatus → Type 0 = λ x. AuditEnds x start (outside mid.source sink) in
    elim passes.1 [
      | inl kept ↦ subst P (sym kept.0) (done (calm_with start mid sink calm kept.1.faults, kept.1.passed))
      | inr rose ↦ subst P (sym rose.0) (failed_with start mid sink calm rose.1, cut)
    ]

stays : (s result : RunStatus) (start mid : Outside) (sink : SinkSeen) → (result ≡ s) × (sink ≡ mid.sink) → AuditEnds s start mid → AuditEnds result start (outside mid.source sink)
stays s result start mid sink same ends =
    let P : RunStatus → Type 0 = λ x. AuditEnds x start (outside mid.source sink) in
    let Q : SinkSeen → Type 0 = λ k. AuditEnds s start (outside mid.source k) in
    subst P (sym same.0) (subst Q (sym same.1) ends)

was_judged : (s result : RunStatus) (start mid : Outside) (sink : SinkSeen) → PassesOn s result mid.sink sink → NothingFailed start mid → Told start (λ text. WasJudged s text start mid) →
    (IsCalm start (outside mid.source sink) → Told start (λ text. WasJudged s text start (outside mid.source sink)) → AuditEnds s start (outside mid.source sink)) → AuditEnds result start (outside mid.source sink)
was_judged s result start mid sink passes calm was ends =
    let after = outside mid.source sink in
    answered s result start mid sink passes calm
    (λ good. ends good (told_map start.source.left (λ text. WasJudged s text start mid) (λ text. WasJudged s text start after) (λ text one. judged_still s start mid sink text passes.0 one) was))
    (told_map start.source.left (λ text. WasJudged s text start mid) (λ text. CutShort text start after) (λ text one. judged_cut s start mid sink text passes.0 one) was)

pub run_ends : (s result : RunStatus) (start mid : Outside) (sink : SinkSeen) → Finishes s result mid.sink sink → EndsWhere NothingFailed s start mid → AuditEnds result start (outside mid.source sink)
run_ends status.Done result start mid sink finishes ends = was_judged status.Done result start mid sink finishes ends.0 ends.1 (λ good was. (good, was))
run_ends (status.NotAgreed line) result start mid sink finishes ends = was_judged (status.NotAgreed line) result start mid sink finishes ends.0 ends.1 (λ good was. (good, was))
run_ends (status.BadScript number) result start mid sink finishes ends =
    let after = outside mid.source sink in
    let silent : IsSilent start after = silent_still start mid sink finishes.0 ends.1 in
    answered (status.BadScript number) result start mid sink finishes ends.0 (λ good. (good, silent, ends.2))
    (told_map start.source.left (λ text. StopsAt text number mid.source) (λ text. CutShort text start after) (λ text stops. none_cut text start after silent (stops_some text number mid.source stops)) ends.2)
run_ends status.Memory result start mid sink finishes ends =
    let after = outside mid.source sink in
    let silent : IsSilent start after = silent_still start mid sink finishes.0 ends.1 in
    answered status.Memory result start mid sink finishes ends.0 (λ good. (good, silent, ends.2))
    (told_map start.source.left (λ text. SomeRead text mid.source) (λ text. CutShort text start after) (λ text some. none_cut text start after silent some) ends.2)
run_ends status.SinkFault result start mid sink finishes ends = stays status.SinkFault result start mid sink finishes ends
run_ends status.SourceFault result start mid sink finishes ends = stays status.SourceFault result start mid sink finishes ends
run_ends _ result start mid sink finishes ends = absurd ends
