-- What one turn of a run does, by what stands in front.
use Rattle.std.proofs.Common.{◌≡◌, ◌≢◌, ℕ, ◌+◌, ◌<◌, inl, inr, List, [], ◌∷◌, ◌++◌, length, take, drop, refl, sym, ap, ◌∙◌, arith, append-nil, subst, Option, Some, None, IfSome}
use Rattle.std.proofs.lemmas.List.{length-append}
use Rattle.rtmfp_host.specs.Faults.{Rose}
use Rattle.rtmfp_host.specs.Taking.{IsAtEnd}
use Rattle.rtmfp_host.specs.Writing.{Appends}
use Rattle.rtmfp_lines.specs.declared.status.Status.{Status as RunStatus}
use Rattle.rtmfp_lines.specs.declared.status.Status.TheVariants as status
use Rattle.rtmfp_cli.specs.declared.script_run.Turn.{Turn}
use Rattle.rtmfp_cli.specs.declared.script_run.Turn.TheVariants.{Went, Ended}
use Rattle.rtmfp_host.specs.Seen.{SinkSeen}
use Rattle.rtmfp_lines.specs.Outside.{NothingFailed, Outside, SinkFailed, SourceFailed, outside}
use Rattle.rtmfp_lines.specs.Lines.{NoLf, lines_of}
use Rattle.rtmfp_lines.specs.Reading.{Asks, HasRead, IsPart, StartsWithLine, IsTooLong}
use Rattle.rtmfp_cli.specs.declared.doing.Doing.{Doing}
use Rattle.rtmfp_cli.specs.declared.doing.Doing.TheVariants.{Showing, Playing, Journaling}
use Rattle.rtmfp_cli.specs.Doing.{Does, IsBadLine, IsForgedLine, limit_of}
use Rattle.rtmfp_script.specs.Grammar.{line_limit}
use Rattle.placed_world.specs.Seen.{PlacedSeen}
use Rattle.rtmfp_play.specs.Play.{IsBadPlay}
use Rattle.rtmfp_show.specs.ShowLine.{IsNoPacket, show_limit}
use Rattle.rtmfp_cli.specs.Script.{Runs}
use Rattle.rtmfp_cli.specs.Turning.{Takes, DoesRest, DoesNone, DoesPart, StopsReading, Turned, Printed}
use Rattle.rtmfp_lines.proofs.Fronts.{last_line, next_last, next_long, next_whole}
use Rattle.rtmfp_lines.proofs.LinesLaws.{line_there}
use Rattle.rtmfp_lines.proofs.Streams.{appends_more}

-- the outside before a turn and after it has read, by what was read
pub record Between (limit : ℕ) (before mid : Outside) (old bytes : List ℕ) : Type 0 where
  pub read : HasRead before.source.left mid.source.left old bytes
  pub asks : Asks limit before.source mid.source old bytes
  pub kept : Appends before.sink.written mid.sink.written []

pub between_at : (limit most : ℕ) (before mid : Outside) (old bytes : List ℕ) → limit ≡ most → Between limit before mid old bytes → Between most before mid old bytes
between_at limit most before mid old bytes e between = let P : ℕ → Type 0 = λ n. Between n before mid old bytes in subst P e between

takes : (limit : ℕ) (before mid : Outside) (sink : SinkSeen) (old bytes : List ℕ) → Between limit before mid old bytes → Takes limit before (outside mid.source sink) old bytes
takes limit before mid sink old bytes between = record { got = between.read.got; consumed = between.read.consumed; joined = between.read.joined; asks = between.asks }

pub none_written : (limit : ℕ) (before mid : Outside) (sink : SinkSeen) (old bytes : List ℕ) → Between limit before mid old bytes → sink.written ≡ mid.sink.written → DoesNone limit before (outside mid.source sink) old bytes
none_written limit before mid sink old bytes between same =
    let P : Option (List ℕ) → Type 0 = λ o. Appends before.sink.written o [] in
    record { takes = takes limit before mid sink old bytes between; written = subst P (sym same) between.kept }

-- nothing failed while it read, and then
calm : (before mid : Outside) (sink : SinkSeen) → NothingFailed before mid → sink.faults ≡ mid.sink.faults → NothingFailed before (outside mid.source sink)
calm before mid sink still same = record { source = still.source; sink = same ∙ still.sink }

fails : (before mid : Outside) (sink : SinkSeen) → NothingFailed before mid → Rose mid.sink.faults sink.faults → SinkFailed before (outside mid.source sink)
fails before mid sink still rose = let P : ℕ → Type 0 = λ n. Rose n sink.faults in record { rose = subst P still.sink rose; source = still.source }

-- a line and its LF stand in front
pub line_turned : (turn : Turn) (doing left : Doing) (n limit len : ℕ) (before mid : Outside) (sink : SinkSeen) (old bytes : List ℕ) → Between (limit_of doing) before mid old bytes → NothingFailed before mid →
    limit ≡ limit_of doing → StartsWithLine limit bytes len → Printed turn doing left n (take len bytes) mid.sink sink → Turned turn doing left n before (outside mid.source sink) old (drop (len + 1) bytes)
line_turned Went doing left n limit len before mid sink old bytes between still e starts printed =
    let after = outside mid.source sink in
    let whole : Takes (limit_of doing) before after old (take len bytes ++ 10 ∷ drop (len + 1) bytes) =
    subst (Takes (limit_of doing) before after old) starts.joined (takes (limit_of doing) before mid sink old bytes between) in
    record {
      line = take len bytes;
      text = printed.0;
      takes = whole;
      no_lf = starts.no_lf;
      fits = omega (arith, starts.size, starts.fits, e);
      does = printed.1;
      written = appends_more before.sink.written mid.sink.written sink.written [] printed.0 between.kept printed.2;
      calm = calm before mid sink still printed.3;
    }
line_turned (Ended status.Done) doing left n limit len before mid sink old bytes between still e starts printed = absurd printed
line_turned (Ended status.Memory) doing left n limit len before mid sink old bytes between still e starts printed =
    (calm before mid sink still printed.1, (bytes, none_written (limit_of doing) before mid sink old bytes between printed.0))
line_turned (Ended (status.BadScript m)) doing left n limit len before mid sink old bytes between still e starts printed = (
  printed.0,
  (calm before mid sink still printed.3, (bytes, none_written (limit_of doing) before mid sink old bytes between printed.2, next_whole (IsBadLine doing n) mid.source.left limit len bytes starts printed.1)),
)
line_turned (Ended (status.Forged m)) doing left n limit len before mid sink old bytes between still e starts printed = (
  printed.0,
  (calm before mid sink still printed.3, (bytes, none_written (limit_of doing) before mid sink old bytes between printed.2, next_whole (IsForgedLine doing n) mid.source.left limit len bytes starts printed.1)),
)
line_turned (Ended status.SinkFault) doing left n limit len before mid sink old bytes between still e starts printed =
    record {
      bytes = bytes;
      part = take printed.1 printed.0;
      takes = takes (limit_of doing) before mid sink old bytes between;
      next = inr (left, printed.0, printed.1, refl, next_whole (λ line. Does doing n line left printed.0) mid.source.left limit len bytes starts printed.2);
      written = appends_more before.sink.written mid.sink.written sink.written [] (take printed.1 printed.0) between.kept printed.3;
      failed = fails before mid sink still printed.4;
    }
line_turned (Ended status.SourceFault) doing left n limit len before mid sink old bytes between still e starts printed = absurd printed
line_turned (Ended _) doing left n limit len before mid sink old bytes between still e starts printed = printed

one_done : (doing left : Doing) (n : ℕ) (line text : List ℕ) (lines : List (List ℕ)) → lines ≡ line ∷ [] → Does doing n line left text → Runs n doing lines left text
one_done doing left n line text lines e does =
    let P : List (List ℕ) → Type 0 = λ ls. Runs n doing ls left text in
    subst P (sym e) (left, text, [], does, (refl, refl), sym (append-nil text))

pub last_done : (doing left : Doing) (n : ℕ) (before mid : Outside) (sink : SinkSeen) (old bytes : List ℕ) → Between (limit_of doing) before mid old bytes → NothingFailed before mid → IsPart (limit_of doing) bytes → bytes ≢ [] →
    IsAtEnd mid.source.left → Printed Went doing left n bytes mid.sink sink → DoesRest doing left n before (outside mid.source sink) old
last_done doing left n before mid sink old bytes between still part some end printed =
    record {
      bytes = bytes;
      text = printed.0;
      takes = takes (limit_of doing) before mid sink old bytes between;
      end = end;
      part = part;
      count = omega (arith, ap (λ (ls : List (List ℕ)). length ls) (last_line bytes part.1 some));
      ran = one_done doing left n bytes printed.0 (lines_of bytes) (last_line bytes part.1 some) printed.1;
      written = appends_more before.sink.written mid.sink.written sink.written [] printed.0 between.kept printed.2;
      calm = calm before mid sink still printed.3;
    }

pub last_turned : (s : RunStatus) (doing left : Doing) (n : ℕ) (before mid : Outside) (sink : SinkSeen) (old bytes new : List ℕ) → Between (limit_of doing) before mid old bytes → NothingFailed before mid → NoLf bytes → bytes ≢ [] →
    IsAtEnd mid.source.left → Printed (Ended s) doing left n bytes mid.sink sink → Turned (Ended s) doing left n before (outside mid.source sink) old new
last_turned status.Done doing left n before mid sink old bytes new between still free some end printed = absurd printed
last_turned status.Memory doing left n before mid sink old bytes new between still free some end printed =
    (calm before mid sink still printed.1, (bytes, none_written (limit_of doing) before mid sink old bytes between printed.0))
last_turned (status.BadScript m) doing left n before mid sink old bytes new between still free some end printed = (
  printed.0,
  (calm before mid sink still printed.3, (bytes, none_written (limit_of doing) before mid sink old bytes between printed.2, next_last (IsBadLine doing n) mid.source.left bytes free some end printed.1)),
)
last_turned (status.Forged m) doing left n before mid sink old bytes new between still free some end printed = (
  printed.0,
  (calm before mid sink still printed.3, (bytes, none_written (limit_of doing) before mid sink old bytes between printed.2, next_last (IsForgedLine doing n) mid.source.left bytes free some end printed.1)),
)
last_turned status.SinkFault doing left n before mid sink old bytes new between still free some end printed =
    record {
      bytes = bytes;
      part = take printed.1 printed.0;
      takes = takes (limit_of doing) before mid sink old bytes between;
      next = inr (left, printed.0, printed.1, refl, next_last (λ line. Does doing n line left printed.0) mid.source.left bytes free some end printed.2);
      written = appends_more before.sink.written mid.sink.written sink.written [] (take printed.1 printed.0) between.kept printed.3;
      failed = fails before mid sink still printed.4;
    }
last_turned status.SourceFault doing left n before mid sink old bytes new between still free some end printed = absurd printed
last_turned _ doing left n before mid sink old bytes new between still free some end printed = printed

-- nothing is left
pub end_turned : (doing : Doing) (n : ℕ) (before after : Outside) (old bytes : List ℕ) → Between (limit_of doing) before after old bytes → NothingFailed before after → bytes ≡ [] → IsAtEnd after.source.left → DoesRest doing doing n before after old
end_turned doing n before after old bytes between still none end =
    record {
      bytes = [];
      text = [];
      takes = subst (Takes (limit_of doing) before after old) none (takes (limit_of doing) before after after.sink old bytes between);
      end = end;
      part = (omega arith, tt);
      count = omega arith;
      ran = (refl, refl);
      written = between.kept;
      calm = still;
    }

-- the source failed
pub reading_stopped : (limit : ℕ) (before after : Outside) (old bytes : List ℕ) → Between limit before after old bytes → SourceFailed before after → after.sink.passed ≡ after.sink.written → IsPart limit bytes → StopsReading limit before after old
reading_stopped limit before after old bytes between failed passed part = (failed, passed, (bytes, none_written limit before after after.sink old bytes between refl, part))

too_long_to_show : (front tail : List ℕ) → show_limit < length front → IsNoPacket (front ++ tail)
too_long_to_show front tail long b shows = omega (arith, shows.fits, long, length-append front tail)

-- such a line is longer than a line of a script may be, and so it is none, and no comment either
too_long_to_play : (w : PlacedSeen) (front tail : List ℕ) → line_limit < length front → IsBadPlay w (front ++ tail)
too_long_to_play w front tail long = record {
  not_skipped = λ skipped fits. omega (arith, long, fits, length-append front tail);
  bad = λ said step is_line is_step. absurd (omega (arith, is_line.fits, long, length-append front tail));
}

-- a line that is too long stands in front
long_is_bad : (doing : Doing) (n : ℕ) (front tail : List ℕ) → limit_of doing < length front → IsBadLine doing n (front ++ tail)
long_is_bad Showing n front tail long = too_long_to_show front tail long
long_is_bad (Playing w) n front tail long = too_long_to_play w front tail long
long_is_bad (Journaling w) n front tail long = inl (too_long_to_play w front tail long)

pub long_turned : (doing left : Doing) (n : ℕ) (before after : Outside) (old bytes new : List ℕ) → Between (limit_of doing) before after old bytes → NothingFailed before after → IsTooLong (limit_of doing) bytes →
    Turned (Ended (status.BadScript n)) doing left n before after old new
long_turned doing left n before after old bytes new between still long =
    (refl, (still, (bytes, none_written (limit_of doing) before after after.sink old bytes between refl, next_long (IsBadLine doing n) after.source.left (limit_of doing) bytes long (long_is_bad doing n))))

pub nothing_turned : (doing : Doing) (n : ℕ) (before after : Outside) (old bytes : List ℕ) → Between (limit_of doing) before after old bytes → SinkFailed before after → DoesPart doing n before after old
nothing_turned doing n before after old bytes between failed =
    record { bytes = bytes; part = []; takes = takes (limit_of doing) before after after.sink old bytes between; next = inl refl; written = between.kept; failed = failed }

-- a line or a part of one stands in front, where none may
some_line : (left : Option (List ℕ)) (b : ℕ) (bytes : List ℕ) →
    IfSome left (λ rest. (line : List ℕ) × (more : List (List ℕ)) × (lines_of ((b ∷ bytes) ++ rest) ≡ line ∷ more) × Unit {0})
some_line None b bytes = tt
some_line (Some rest) b bytes = let first = line_there b (bytes ++ rest) in (first.0, first.1, first.2, tt)

pub line_is_there : (left : Option (List ℕ)) (bytes : List ℕ) → bytes ≢ [] →
    IfSome left (λ rest. (line : List ℕ) × (more : List (List ℕ)) × (lines_of (bytes ++ rest) ≡ line ∷ more) × Unit {0})
line_is_there left [] some = absurd (some refl)
line_is_there left (b ∷ bytes) some = some_line left b bytes

pub not_none : (n : ℕ) (bytes : List ℕ) → n < length bytes → bytes ≢ []
not_none n [] lt = absurd (omega arith)
not_none n (b ∷ bytes) lt = λ e. cc

pub starts_is_some : (limit len : ℕ) (bytes : List ℕ) → StartsWithLine limit bytes len → bytes ≢ []
starts_is_some limit len bytes starts = not_none 0 bytes (omega (arith, ap length starts.joined, length-append (take len bytes) (10 ∷ drop (len + 1) bytes)))
