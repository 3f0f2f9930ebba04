-- What was read, line by line, and how the reading ends.
use Rattle.std.proofs.Common.{◌≡◌, ℕ, ◌+◌, ◌≤◌, List, [], ◌∷◌, ◌++◌, length, refl, sym, ap, ◌∙◌, arith, append-nil, subst}
use Rattle.std.proofs.lemmas.List.{length-append}
use Rattle.rtmfp_host.specs.Faults.{Rose}
use Rattle.rtmfp_host.specs.Taking.{IsAtEnd}
use Rattle.rtmfp_lines.specs.declared.status.Status.{Status as RunStatus}
use Rattle.rtmfp_lines.specs.declared.status.Status.TheVariants as status
use Rattle.rtmfp_lines.specs.Outside.{NothingFailed, Outside, SinkFailed, SourceFailed}
use Rattle.rtmfp_lines.specs.Lines.{lines_of}
use Rattle.rtmfp_lines.specs.Reading.{IsPart, NextLine}
use Rattle.rtmfp_lines.specs.Taken.{HasTaken}
use Rattle.rtmfp_lines.proofs.Fronts.{next_of}
use Rattle.rtmfp_lines.proofs.Handled.{Handled, handled_none, handled_on, handled_more, known, known_all, part_lines, told_from}
use Rattle.rtmfp_lines.proofs.Streams.{appends_none, appends_still}
use Rattle.audit_text.specs.Grammar.{line_limit}
use Rattle.log_reading.specs.Gathered.{Read, nothing_read}
use Rattle.rtmfp_audit.specs.declared.reading.Turn.TheVariants.{Went, Ended}
use Rattle.rtmfp_audit.specs.Logs.{ReadsOn, IsBadLine}
use Rattle.rtmfp_audit.specs.Lines.{most_read, AllRead, SomeRead, StopsAt, TakenRead}
use Rattle.rtmfp_audit.specs.Audits.{IsSilent, Told}
use Rattle.rtmfp_audit.specs.Turning.{Took, Moves, Turned, Reads}
use Rattle.rtmfp_audit.proofs.Kept.{Takes, taken_count, takes_of}

-- the lines that were read so far, and what they say
pub record Going (start now : Outside) (read : Read) (pending : List ℕ) : Type 0 where
  pub lines : List (List ℕ)
  pub handled : Handled line_limit most_read start.source now.source lines pending
  pub says : ReadsOn lines nothing_read read
  pub count : length lines ≡ read.count
  pub few : read.count ≤ 100000
  pub silent : IsSilent start now
  pub calm : NothingFailed start now

pub going_none : (start : Outside) → Going start start nothing_read []
going_none start = record {
  lines = [];
  handled = handled_none line_limit most_read start.source;
  says = refl;
  count = refl;
  few = omega arith;
  silent = appends_none start.sink.written;
  calm = record { source = refl; sink = refl };
}

still_calm : (start now after : Outside) → NothingFailed start now → NothingFailed now after → NothingFailed start after
still_calm start now after p q = record { source = q.source ∙ p.source; sink = q.sink ∙ p.sink }

source_failed : (start now after : Outside) → NothingFailed start now → SourceFailed now after → SourceFailed start after
source_failed start now after p q = let P : ℕ → Type 0 = λ n. Rose n after.source.faults in record { rose = subst P p.source q.rose; sink = q.sink ∙ p.sink }

sink_failed : (start now after : Outside) → NothingFailed start now → SinkFailed now after → SinkFailed start after
sink_failed start now after p q = let P : ℕ → Type 0 = λ n. Rose n after.sink.faults in record { rose = subst P p.sink q.rose; source = q.source ∙ p.source }

still_silent : (start now after : Outside) → IsSilent start now → IsSilent now after → IsSilent start after
still_silent start now after p q = appends_still start.sink.written now.sink.written after.sink.written [] p q

-- lines, and then more
reads_append : (lines more : List (List ℕ)) (first mid last : Read) → ReadsOn lines first mid → ReadsOn more mid last → ReadsOn (lines ++ more) first last
reads_append [] more first mid last p q = subst (λ (r : Read). ReadsOn more r last) p q
reads_append (line ∷ lines) more first mid last p q = (p.0, p.1, p.2, p.3, reads_append lines more p.1 mid last p.4 q)

-- where a line may follow
may_follow : (lines : List (List ℕ)) → length lines ≤ 100000 → (part : List ℕ) → IsPart line_limit part → length lines + length (lines_of part) ≤ most_read
may_follow lines few part is = omega (arith, part_lines line_limit part is, few)

few_lines : (start now : Outside) (read : Read) (old : List ℕ) (going : Going start now read old) → length going.lines ≤ 100000
few_lines start now read old going = omega (arith, going.count, going.few)

-- more was read
ahead : (start now after : Outside) (read : Read) (old bytes : List ℕ) (going : Going start now read old) → Moves now after old bytes → Handled line_limit most_read start.source after.source going.lines bytes
ahead start now after read old bytes going moves =
    handled_on line_limit most_read line_limit start.source now.source after.source going.lines old bytes going.handled (omega arith) (may_follow going.lines (few_lines start now read old going)) moves.read moves.asks

pub going_more : (start now after : Outside) (read made : Read) (old new : List ℕ) → Going start now read old → Turned Went read made now after old new → Going start after made new
going_more start now after read made old new going turned =
    let line : List ℕ = turned.1 in
    let took : Took Went line read made = turned.5 in
    let takes : Takes read made = takes_of took.0 read made took.2 in
    record {
      lines = going.lines ++ line ∷ [];
      handled = handled_more line_limit most_read start.source after.source going.lines line new (ahead start now after read old (line ++ 10 ∷ new) going turned.2) turned.3 turned.4;
      says = reads_append going.lines (line ∷ []) nothing_read read made going.says (took.0, made, took.1, took.2, refl);
      count = omega (arith, length-append going.lines (line ∷ []), going.count, taken_count took.0 read made took.2);
      few = omega (arith, takes.few, taken_count took.0 read made took.2);
      silent = still_silent start now after going.silent turned.2.silent;
      calm = still_calm start now after going.calm turned.0;
    }

-- ---- the end

-- the text ends behind these bytes
all_read : (start after : Outside) (lines : List (List ℕ)) (read made : Read) (bytes : List ℕ) → ReadsOn lines nothing_read read → Handled line_limit most_read start.source after.source lines bytes → IsAtEnd after.source.left → ReadsOn (lines_of bytes) read made →
    Told start (λ text. AllRead text made after.source)
all_read start after lines read made bytes before handled end says =
    told_from start.source.left (λ text. AllRead text made after.source) (λ text e.
    let it = known line_limit most_read start.source after.source lines bytes text e handled in
    let all = known_all line_limit most_read text after.source lines bytes it end in
    let P : List (List ℕ) → Type 0 = λ ls. ReadsOn ls nothing_read made in
    let Q : List (List ℕ) → Type 0 = λ ls. HasTaken line_limit most_read text ls after.source in
    record { says = subst P (sym all.1) (reads_append lines (lines_of bytes) nothing_read read made before says); end = all.0; took = subst Q (sym all.1) (it.took (lines_of bytes)) })

-- these lines alone
took_for : (text : List ℕ) (after : Outside) (lines : List (List ℕ)) → HasTaken line_limit most_read text (lines ++ []) after.source → HasTaken line_limit most_read text lines after.source
took_for text after lines took = let P : List (List ℕ) → Type 0 = λ ls. HasTaken line_limit most_read text ls after.source in subst P (append-nil lines) took

some_read : (start after : Outside) (lines : List (List ℕ)) (read : Read) (bytes : List ℕ) → ReadsOn lines nothing_read read → Handled line_limit most_read start.source after.source lines bytes → Told start (λ text. SomeRead text after.source)
some_read start after lines read bytes before handled =
    told_from start.source.left (λ text. SomeRead text after.source) (λ text e.
    let it = known line_limit most_read start.source after.source lines bytes text e handled in
    record { lines = lines; more = lines_of (bytes ++ it.rest); split = it.lines_are; read = read; says = before; took = took_for text after lines (it.took []) })

stops_at : (start after : Outside) (lines : List (List ℕ)) (read : Read) (number : ℕ) (bytes : List ℕ) → ReadsOn lines nothing_read read → Handled line_limit most_read start.source after.source lines bytes → length lines + 1 ≡ number → NextLine (IsBadLine read) after.source.left bytes →
    Told start (λ text. StopsAt text number after.source)
stops_at start after lines read number bytes before handled count next =
    told_from start.source.left (λ text. StopsAt text number after.source) (λ text e.
    let it = known line_limit most_read start.source after.source lines bytes text e handled in
    let line = next_of (IsBadLine read) after.source.left bytes it.rest it.left next in
    record {
      lines = lines;
      line = line.0;
      more = line.1;
      split = it.lines_are ∙ ap (λ ls. lines ++ ls) line.2;
      count = count;
      read = read;
      says = before;
      bad = line.3;
      took = took_for text after lines (it.took []);
    })

taken_read : (start after : Outside) (lines : List (List ℕ)) (read : Read) (bytes : List ℕ) → ReadsOn lines nothing_read read → Handled line_limit most_read start.source after.source lines bytes → length lines ≤ 100000 → IsPart line_limit bytes →
    Told start (λ text. TakenRead text after.source)
taken_read start after lines read bytes before handled few part =
    told_from start.source.left (λ text. TakenRead text after.source) (λ text e.
    let it = known line_limit most_read start.source after.source lines bytes text e handled in
    record { lines = lines; read = read; says = before; took = it.whole part (may_follow lines few bytes part) })

-- the last turn
pub going_ends : (s : RunStatus) (start now after : Outside) (read made : Read) (old new : List ℕ) → Going start now read old → Turned (Ended s) read made now after old new → Reads s made start after
going_ends status.Done start now after read made old new going turned = (
  still_calm start now after going.calm turned.0,
  still_silent start now after going.silent turned.2.silent,
  (going.lines ++ lines_of turned.1, reads_append going.lines (lines_of turned.1) nothing_read read made going.says turned.5),
  all_read start after going.lines read made turned.1 going.says (ahead start now after read old turned.1 going turned.2) turned.4 turned.5,
)
going_ends (status.BadScript number) start now after read made old new going turned = (
  still_calm start now after going.calm turned.0,
  still_silent start now after going.silent turned.2.silent,
  stops_at start after going.lines read number turned.1 going.says (ahead start now after read old turned.1 going turned.2) (omega (arith, going.count, turned.3)) turned.4,
)
going_ends status.Memory start now after read made old new going turned = (
  still_calm start now after going.calm turned.0,
  still_silent start now after going.silent turned.2.silent,
  some_read start after going.lines read turned.1 going.says (ahead start now after read old turned.1 going turned.2),
)
going_ends status.SinkFault start now after read made old new going turned = (
  sink_failed start now after going.calm turned.0,
  still_silent start now after going.silent turned.2.silent,
  some_read start after going.lines read turned.1 going.says (ahead start now after read old turned.1 going turned.2),
)
going_ends status.SourceFault start now after read made old new going turned = (
  source_failed start now after going.calm turned.0,
  turned.4,
  still_silent start now after going.silent turned.2.silent,
  taken_read start after going.lines read turned.1 going.says (ahead start now after read old turned.1 going turned.2) (few_lines start now read old going) turned.3,
)
going_ends _ start now after read made old new going turned = absurd turned
