-- What one turn of the reading does, by what stands in front.
use Rattle.std.proofs.Common.{◌≡◌, ◌≢◌, ℕ, ◌+◌, ◌<◌, List, [], ◌∷◌, ◌++◌, length, take, drop, refl, sym, arith, subst}
use Rattle.std.proofs.lemmas.List.{length-append}
use Rattle.rtmfp_host.specs.Taking.{IsAtEnd}
use Rattle.rtmfp_lines.specs.declared.status.Status.{Status as RunStatus}
use Rattle.rtmfp_lines.specs.declared.status.Status.TheVariants as status
use Rattle.rtmfp_lines.specs.Outside.{NothingFailed, Outside}
use Rattle.rtmfp_lines.specs.Lines.{NoLf, lines_of}
use Rattle.rtmfp_lines.specs.Reading.{IsPart, StartsWithLine, IsTooLong}
use Rattle.rtmfp_lines.proofs.Fronts.{last_line, next_last, next_long, next_whole}
use Rattle.audit_text.specs.Grammar.{line_limit}
use Rattle.log_reading.specs.Gathered.{Read}
use Rattle.rtmfp_audit.specs.declared.reading.Turn.{Turn}
use Rattle.rtmfp_audit.specs.declared.reading.Turn.TheVariants.{Went, Ended}
use Rattle.rtmfp_audit.specs.Logs.{ReadsOn, IsBadLine}
use Rattle.rtmfp_audit.specs.Turning.{Took, Moves, Turned}

long_is_bad : (read : Read) (front tail : List ℕ) → line_limit < length front → IsBadLine read (front ++ tail)
long_is_bad read front tail long said is = absurd (omega (arith, is.fits, long, length-append front tail))

-- a line and its LF stand in front
pub line_turned : (turn : Turn) (read made : Read) (len : ℕ) (before after : Outside) (old bytes : List ℕ) → NothingFailed before after → Moves before after old bytes → StartsWithLine line_limit bytes len → Took turn (take len bytes) read made →
    Turned turn read made before after old (drop (len + 1) bytes)
line_turned Went read made len before after old bytes calm moves starts took =
    (calm, take len bytes, subst (Moves before after old) starts.joined moves, starts.no_lf, omega (arith, starts.size, starts.fits), took)
line_turned (Ended status.Memory) read made len before after old bytes calm moves starts took = (calm, bytes, moves)
line_turned (Ended (status.BadScript number)) read made len before after old bytes calm moves starts took =
    (calm, bytes, moves, took.0, next_whole (IsBadLine read) after.source.left line_limit len bytes starts took.1)
line_turned (Ended status.Done) read made len before after old bytes calm moves starts took = absurd took
line_turned (Ended status.SinkFault) read made len before after old bytes calm moves starts took = absurd took
line_turned (Ended status.SourceFault) read made len before after old bytes calm moves starts took = absurd took
line_turned (Ended _) read made len before after old bytes calm moves starts took = took

reads_one : (line : List ℕ) (lines : List (List ℕ)) (read made : Read) → lines ≡ line ∷ [] → Took Went line read made → ReadsOn lines read made
reads_one line lines read made e took = subst (λ (ls : List (List ℕ)). ReadsOn ls read made) (sym e) (took.0, made, took.1, took.2, refl)

-- a last line stands there, without LF
pub last_went : (read made : Read) (before after : Outside) (old bytes new : List ℕ) → NothingFailed before after → Moves before after old bytes → IsPart line_limit bytes → bytes ≢ [] → IsAtEnd after.source.left → Took Went bytes read made →
    Turned (Ended status.Done) read made before after old new
last_went read made before after old bytes new calm moves part some end took = (calm, bytes, moves, part, end, reads_one bytes (lines_of bytes) read made (last_line bytes part.1 some) took)

pub last_ended : (s : RunStatus) (read made : Read) (before after : Outside) (old bytes new : List ℕ) → NothingFailed before after → Moves before after old bytes → NoLf bytes → bytes ≢ [] → IsAtEnd after.source.left → Took (Ended s) bytes read made →
    Turned (Ended s) read made before after old new
last_ended status.Memory read made before after old bytes new calm moves free some end took = (calm, bytes, moves)
last_ended (status.BadScript number) read made before after old bytes new calm moves free some end took =
    (calm, bytes, moves, took.0, next_last (IsBadLine read) after.source.left bytes free some end took.1)
last_ended status.Done read made before after old bytes new calm moves free some end took = absurd took
last_ended status.SinkFault read made before after old bytes new calm moves free some end took = absurd took
last_ended status.SourceFault read made before after old bytes new calm moves free some end took = absurd took
last_ended _ read made before after old bytes new calm moves free some end took = took

-- nothing is left
pub end_turned : (read : Read) (before after : Outside) (old bytes new : List ℕ) → NothingFailed before after → Moves before after old bytes → bytes ≡ [] → IsAtEnd after.source.left → Turned (Ended status.Done) read read before after old new
end_turned read before after old bytes new calm moves none end = (calm, [], subst (Moves before after old) none moves, (omega arith, tt), end, refl)

pub long_turned : (read made : Read) (number : ℕ) (before after : Outside) (old bytes new : List ℕ) → NothingFailed before after → Moves before after old bytes → IsTooLong line_limit bytes → number ≡ read.count + 1 →
    Turned (Ended (status.BadScript number)) read made before after old new
long_turned read made number before after old bytes new calm moves long is = (calm, bytes, moves, is, next_long (IsBadLine read) after.source.left line_limit bytes long (long_is_bad read))
