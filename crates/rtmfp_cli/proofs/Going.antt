-- What a run has done, line by line, and how it ends.
use Rattle.std.proofs.Common.{◌≡◌, ℕ, ◌+◌, ◌≤◌, ◌⊎◌, inl, inr, List, [], ◌∷◌, ◌++◌, length, take, refl, sym, ap, ◌∙◌, arith, append_assoc, append-nil, subst, lit≤, Some}
use Rattle.std.proofs.lemmas.List.{length-append}
use Rattle.rtmfp_host.specs.Faults.{Rose}
use Rattle.rtmfp_host.specs.Taking.{IsAtEnd}
use Rattle.rtmfp_host.specs.Writing.{Appends}
use Rattle.rtmfp_lines.specs.declared.status.Status.{Status as RunStatus}
use Rattle.rtmfp_lines.specs.declared.status.Status.TheVariants as status
use Rattle.rtmfp_cli.specs.declared.script_run.Turn.TheVariants.{Ended}
use Rattle.rtmfp_lines.specs.Outside.{NothingFailed, Outside, SinkFailed, SourceFailed}
use Rattle.rtmfp_lines.specs.Lines.{lines_of}
use Rattle.rtmfp_lines.specs.Reading.{IsPart, NextLine}
use Rattle.rtmfp_cli.specs.declared.doing.Doing.{Doing}
use Rattle.rtmfp_cli.specs.Doing.{Does, Holds, IsBadLine, IsForgedLine, limit_of}
use Rattle.rtmfp_cli.specs.Script.{Runs, HasDone, HasTaken, SomeDone, StopsOn, TooMany, TakenDone, CutShort, IsPartOfNext, Told, EndsWhere, max_lines}
use Rattle.rtmfp_cli.specs.Turning.{Takes, DoesOne, Turned, Closed}
use Rattle.rtmfp_lines.proofs.Fronts.{next_of}
use Rattle.rtmfp_lines.proofs.Handled.{Handled, Known, handled_none, handled_on, handled_more, known, known_all, part_lines, told_from}
use Rattle.rtmfp_lines.proofs.Streams.{appends_none, appends_more, appends_still}
use Rattle.rtmfp_cli.proofs.Holding.{does_hold, runs_hold}

-- these lines were handled, of what was taken by now, and these bytes stand behind them
abbrev pub Ahead : Doing → Outside → Outside → List (List ℕ) → List ℕ → Type 0
Ahead first start now handled pending = Handled (limit_of first) max_lines start.source now.source handled pending

-- the lines that were handled so far, and what they left
pub record Going (first doing : Doing) (start now : Outside) (n : ℕ) (pending : List ℕ) : Type 0 where
  pub handled : List (List ℕ)
  pub text : List ℕ
  pub took : Ahead first start now handled pending
  pub same : limit_of doing ≡ limit_of first
  pub count : length handled ≡ n
  pub ran : Runs 1 first handled doing text
  pub holds : Holds doing
  pub written : Appends start.sink.written now.sink.written text
  pub calm : NothingFailed start now

pub going_none : (first : Doing) (start : Outside) → Holds first → Going first first start start 0 []
going_none first start holds = record {
  handled = [];
  text = [];
  took = handled_none (limit_of first) max_lines start.source;
  same = refl;
  count = refl;
  ran = (refl, refl);
  holds = holds;
  written = appends_none start.sink.written;
  calm = record { source = refl; sink = refl };
}

still_calm : (start now after : Outside) → NothingFailed start now → NothingFailed now after → NothingFailed start after
still_calm start now after p q = record { source = q.source ∙ p.source; sink = q.sink ∙ p.sink }

source_failed : (start now after : Outside) → NothingFailed start now → SourceFailed now after → SourceFailed start after
source_failed start now after p q = let P : ℕ → Type 0 = λ n. Rose n after.source.faults in record { rose = subst P p.source q.rose; sink = q.sink ∙ p.sink }

sink_failed : (start now after : Outside) → NothingFailed start now → SinkFailed now after → SinkFailed start after
sink_failed start now after p q = let P : ℕ → Type 0 = λ n. Rose n after.sink.faults in record { rose = subst P p.sink q.rose; source = q.source ∙ p.source }

runs_from : (m n : ℕ) (doing left : Doing) (lines : List (List ℕ)) (text : List ℕ) → m ≡ n → Runs m doing lines left text → Runs n doing lines left text
runs_from m n doing left lines text e ran = let P : ℕ → Type 0 = λ k. Runs k doing lines left text in subst P e ran

-- lines, and then more
pub runs_append : (n m : ℕ) (first doing left : Doing) (lines more : List (List ℕ)) (text later : List ℕ) → m ≡ n + length lines → Runs n first lines doing text → Runs m doing more left later → Runs n first (lines ++ more) left (text ++ later)
runs_append n m first doing left [] more text later e ran then =
    let P : List ℕ → Type 0 = λ xs. Runs n first more left (xs ++ later) in
    let Q : Doing → Type 0 = λ d. Runs n d more left later in
    subst P (sym ran.1) (subst Q ran.0 (runs_from m n doing left more later (omega arith) then))
runs_append n m first doing left (line ∷ lines) more text later e ran then =
    (ran.0, ran.1, ran.2 ++ later, ran.3, runs_append (n + 1) m ran.0 doing left lines more ran.2 later (omega arith) ran.4 then, ap (λ xs. xs ++ later) ran.5 ∙ append_assoc ran.1 ran.2 later)

-- more was read
ahead : (limit : ℕ) (first doing : Doing) (start now after : Outside) (n : ℕ) (old bytes : List ℕ) (going : Going first doing start now n old) → limit ≤ limit_of first → ((part : List ℕ) → IsPart limit part → n + length (lines_of part) ≤ max_lines) →
    Takes limit now after old bytes → Ahead first start after going.handled bytes
ahead limit first doing start now after n old bytes going le few takes =
    handled_on (limit_of first) max_lines limit start.source now.source after.source going.handled old bytes going.took le (λ part is. (let fits : n + length (lines_of part) ≤ max_lines = few part is in omega (arith, fits, going.count)))
    (record { got = takes.got; consumed = takes.consumed; joined = takes.joined }) takes.asks

-- where a line may follow
pub may_follow : (n limit : ℕ) → n + 1 ≤ max_lines → (part : List ℕ) → IsPart limit part → n + length (lines_of part) ≤ max_lines
may_follow n limit fits part is = omega (arith, part_lines limit part is, fits)

-- and none where no byte may stand
no_lines : (part : List ℕ) → IsPart 0 part → length (lines_of part) ≤ 0
no_lines [] is = omega arith
no_lines (b ∷ part) is = absurd (omega (arith, is.0))

-- where none may
pub none_may_follow : (part : List ℕ) → IsPart 0 part → max_lines + length (lines_of part) ≤ max_lines
none_may_follow part is = omega (arith, no_lines part is)

ahead_by : (first doing : Doing) (start now after : Outside) (n : ℕ) (old bytes : List ℕ) (going : Going first doing start now n old) → n + 1 ≤ max_lines → Takes (limit_of doing) now after old bytes → Ahead first start after going.handled bytes
ahead_by first doing start now after n old bytes going fits takes =
    ahead (limit_of doing) first doing start now after n old bytes going (omega (arith, going.same)) (may_follow n (limit_of doing) fits) takes

ahead_closed : (first doing : Doing) (start now after : Outside) (old bytes : List ℕ) (going : Going first doing start now max_lines old) → Takes 0 now after old bytes → Ahead first start after going.handled bytes
ahead_closed first doing start now after old bytes going takes = ahead 0 first doing start now after max_lines old bytes going (omega arith) none_may_follow takes

pub going_more : (first doing left : Doing) (start now after : Outside) (n : ℕ) (old new : List ℕ) → Going first doing start now n old → n + 1 ≤ max_lines → limit_of left ≡ limit_of doing → DoesOne doing left (n + 1) now after old new →
    Going first left start after (n + 1) new
going_more first doing left start now after n old new going fits limit one =
    let next = ahead_by first doing start now after n old (one.line ++ 10 ∷ new) going fits one.takes in
    record {
      handled = going.handled ++ one.line ∷ [];
      text = going.text ++ one.text;
      took = handled_more (limit_of first) max_lines start.source after.source going.handled one.line new next one.no_lf (omega (arith, one.fits, going.same));
      same = limit ∙ going.same;
      count = omega (arith, length-append going.handled (one.line ∷ []), going.count);
      ran = runs_append 1 (n + 1) first doing left going.handled (one.line ∷ []) going.text one.text (omega (arith, going.count)) going.ran (left, one.text, [], one.does, (refl, refl), sym (append-nil one.text));
      holds = does_hold doing (n + 1) one.line left one.text going.holds one.does;
      written = appends_more start.sink.written now.sink.written after.sink.written going.text one.text going.written one.written;
      calm = still_calm start now after going.calm one.calm;
    }

-- what is known of the script once bytes of it were read
known_of : (first : Doing) (script : List ℕ) (start after : Outside) (handled : List (List ℕ)) (bytes : List ℕ) → start.source.left ≡ Some script → Ahead first start after handled bytes → Known (limit_of first) max_lines script after.source handled bytes
known_of first script start after handled bytes e ahead = known (limit_of first) max_lines start.source after.source handled bytes script e ahead

-- what was taken of it for these lines, and perhaps for the last one
has_taken : (first : Doing) (script : List ℕ) (after : Outside) (handled : List (List ℕ)) (bytes : List ℕ) (more lines : List (List ℕ)) → Known (limit_of first) max_lines script after.source handled bytes → lines ≡ handled ++ more → HasTaken first script lines after.source
has_taken first script after handled bytes more lines it e = let P : List (List ℕ) → Type 0 = λ ls. HasTaken first script ls after.source in subst P (sym e) (it.took more)

done_so_far : (first doing : Doing) (start now after : Outside) (n : ℕ) (old : List ℕ) (going : Going first doing start now n old) → Appends now.sink.written after.sink.written [] → HasDone first start after going.handled
done_so_far first doing start now after n old going none =
    record { left = doing; text = going.text; ran = going.ran; holds = going.holds; written = appends_still start.sink.written now.sink.written after.sink.written going.text going.written none }

-- All lines of a script were done and their text was written, the source is at its end, and the
-- ending comes next.
pub record AllRan (first left : Doing) (script : List ℕ) (start now : Outside) : Type 0 where
  pub read : now.source.left ≡ Some []
  pub count : length (lines_of script) ≤ max_lines
  pub took : HasTaken first script (lines_of script) now.source
  pub text : List ℕ
  pub ran : Runs 1 first (lines_of script) left text
  pub holds : Holds left
  pub written : Appends start.sink.written now.sink.written text

-- the script ends behind these bytes
all_ran : (first doing left : Doing) (start now after : Outside) (n : ℕ) (old bytes text : List ℕ) (going : Going first doing start now n old) → Ahead first start after going.handled bytes → IsAtEnd after.source.left →
    Runs (n + 1) doing (lines_of bytes) left text → Appends now.sink.written after.sink.written text → n + length (lines_of bytes) ≤ max_lines → Told start (λ script. AllRan first left script start after)
all_ran first doing left start now after n old bytes text going ahead end ran written fits =
    told_from start.source.left (λ script. AllRan first left script start after) (λ script e.
    let it = known_of first script start after going.handled bytes e ahead in
    let all = known_all (limit_of first) max_lines script after.source going.handled bytes it end in
    let lines : lines_of script ≡ going.handled ++ lines_of bytes = all.1 in
    let P : List (List ℕ) → Type 0 = λ ls. Runs 1 first ls left (going.text ++ text) in
    record {
      read = all.0;
      count = omega (arith, ap (λ (ls : List (List ℕ)). length ls) lines, length-append going.handled (lines_of bytes), going.count, fits);
      took = has_taken first script after going.handled bytes (lines_of bytes) (lines_of script) it lines;
      text = going.text ++ text;
      ran = subst P (sym lines) (runs_append 1 (n + 1) first doing left going.handled (lines_of bytes) going.text text (omega (arith, going.count)) going.ran ran);
      holds = runs_hold (n + 1) doing left (lines_of bytes) text going.holds ran;
      written = appends_more start.sink.written now.sink.written after.sink.written going.text text going.written written;
    })

some_done : (first doing : Doing) (start now after : Outside) (n : ℕ) (old bytes : List ℕ) (going : Going first doing start now n old) → Ahead first start after going.handled bytes → Appends now.sink.written after.sink.written [] →
    Told start (λ script. SomeDone first script start after)
some_done first doing start now after n old bytes going ahead none =
    told_from start.source.left (λ script. SomeDone first script start after) (λ script e.
    let it = known_of first script start after going.handled bytes e ahead in
    record {
      lines = going.handled;
      more = lines_of (bytes ++ it.rest);
      split = it.lines_are;
      took = has_taken first script after going.handled bytes [] going.handled it (sym (append-nil going.handled));
      has = done_so_far first doing start now after n old going none;
    })

stops_on : (Kind : Doing → ℕ → List ℕ → Type 0) (first doing : Doing) (start now after : Outside) (n : ℕ) (old bytes : List ℕ) (going : Going first doing start now n old) → Ahead first start after going.handled bytes →
    Appends now.sink.written after.sink.written [] → NextLine (Kind doing (n + 1)) after.source.left bytes → n + 1 ≤ max_lines → Told start (λ script. StopsOn Kind first script (n + 1) start after)
stops_on Kind first doing start now after n old bytes going ahead none next fits =
    told_from start.source.left (λ script. StopsOn Kind first script (n + 1) start after) (λ script e.
    let it = known_of first script start after going.handled bytes e ahead in
    let line = next_of (Kind doing (n + 1)) after.source.left bytes it.rest it.left next in
    record {
      lines = going.handled;
      line = line.0;
      stops = record { more = line.1; split = it.lines_are ∙ ap (λ ls. going.handled ++ ls) line.2; number = omega (arith, going.count) };
      within = fits;
      took = has_taken first script after going.handled bytes [] going.handled it (sym (append-nil going.handled));
      has = record { left = doing; text = going.text; ran = going.ran; holds = going.holds; written = appends_still start.sink.written now.sink.written after.sink.written going.text going.written none };
      kind = line.3;
    })

too_many : (first doing : Doing) (start now after : Outside) (old bytes : List ℕ) (going : Going first doing start now max_lines old) → Ahead first start after going.handled bytes → Appends now.sink.written after.sink.written [] →
    NextLine (λ line. Unit {0}) after.source.left bytes → Told start (λ script. TooMany first script start after)
too_many first doing start now after old bytes going ahead none next =
    told_from start.source.left (λ script. TooMany first script start after) (λ script e.
    let it = known_of first script start after going.handled bytes e ahead in
    let line = next_of (λ line. Unit {0}) after.source.left bytes it.rest it.left next in
    record {
      lines = going.handled;
      line = line.0;
      stops = record { more = line.1; split = it.lines_are ∙ ap (λ ls. going.handled ++ ls) line.2; number = ap (λ k. k + 1) going.count };
      took = has_taken first script after going.handled bytes [] going.handled it (sym (append-nil going.handled));
      has = done_so_far first doing start now after max_lines old going none;
    })

taken_done : (first doing : Doing) (start now after : Outside) (n : ℕ) (old bytes : List ℕ) (going : Going first doing start now n old) → Ahead first start after going.handled bytes → Appends now.sink.written after.sink.written [] →
    IsPart (limit_of first) bytes → n + length (lines_of bytes) ≤ max_lines → Told start (λ script. TakenDone first script start after)
taken_done first doing start now after n old bytes going ahead none part few =
    told_from start.source.left (λ script. TakenDone first script start after) (λ script e.
    let it = known_of first script start after going.handled bytes e ahead in
    record {
      lines = going.handled;
      took = it.whole part (omega (arith, few, going.count));
      has = done_so_far first doing start now after n old going none;
    })

part_of : (doing : Doing) (n m : ℕ) (more : List (List ℕ)) (part : List ℕ) → n ≡ m → IsPartOfNext doing n more part → IsPartOfNext doing m more part
part_of doing n m more part e next = let P : ℕ → Type 0 = λ k. IsPartOfNext doing k more part in subst P e next

-- nothing is a first part of what comes next
pub no_part : (doing : Doing) (n : ℕ) (more : List (List ℕ)) → IsPartOfNext doing n more []
no_part doing n [] = (0, refl)
no_part doing n (line ∷ later) = inl refl

-- what was written of the next line
abbrev pub PartWritten : Doing → ℕ → Outside → List ℕ → List ℕ → Type 0
PartWritten doing n after bytes part = (part ≡ []) ⊎ ((left : Doing) × (text : List ℕ) × (k : ℕ) × (part ≡ take k text) × NextLine (λ line. Does doing n line left text) after.source.left bytes)

cut_short : (first doing : Doing) (start now after : Outside) (n : ℕ) (old bytes part : List ℕ) (going : Going first doing start now n old) → Ahead first start after going.handled bytes → PartWritten doing (n + 1) after bytes part →
    Appends now.sink.written after.sink.written part → Told start (λ script. CutShort first script start after)
cut_short first doing start now after n old bytes part going ahead next written =
    told_from start.source.left (λ script. CutShort first script start after) (λ script e.
    let it = known_of first script start after going.handled bytes e ahead in
    record {
      lines = going.handled;
      more = lines_of (bytes ++ it.rest);
      split = it.lines_are;
      took = has_taken first script after going.handled bytes [] going.handled it (sym (append-nil going.handled));
      left = doing;
      text = going.text;
      ran = going.ran;
      holds = going.holds;
      part = part;
      next = part_of doing (n + 1) (length going.handled + 1) (lines_of (bytes ++ it.rest)) part (omega (arith, going.count)) (elim next [
        | inl none ↦ subst (λ (p : List ℕ). IsPartOfNext doing (n + 1) (lines_of (bytes ++ it.rest)) p) (sym none) (no_part doing (n + 1) (lines_of (bytes ++ it.rest)))
        | inr some ↦ (
            let line = next_of (λ line. Does doing (n + 1) line some.0 some.1) after.source.left bytes it.rest it.left some.4 in
            subst (λ (ls : List (List ℕ)). IsPartOfNext doing (n + 1) ls part) (sym line.2) (inr (some.0, some.1, some.2, line.3, some.3)))
      ]);
      written = appends_more start.sink.written now.sink.written after.sink.written going.text part going.written written;
    })

-- ---- the end

abbrev pub Ends : Doing → RunStatus → Outside → Outside → Type 0
Ends doing s before after = EndsWhere NothingFailed doing s before after

-- how the lines end: as the run, but where all were done the ending comes next
abbrev pub LinesEnd : Doing → Doing → RunStatus → Outside → Outside → Type 0
LinesEnd first left status.Done before after = NothingFailed before after × Told before (λ script. AllRan first left script before after)
LinesEnd first left s before after = Ends first s before after

-- the last turn
pub going_ends : (s : RunStatus) (first doing left : Doing) (start now after : Outside) (n : ℕ) (old new : List ℕ) → Going first doing start now n old → n + 1 ≤ max_lines → Turned (Ended s) doing left (n + 1) now after old new → LinesEnd first left s start after
going_ends status.Done first doing left start now after n old new going fits turned = (
  still_calm start now after going.calm turned.calm,
  all_ran first doing left start now after n old turned.bytes turned.text going (ahead_by first doing start now after n old turned.bytes going fits turned.takes) turned.end turned.ran turned.written (omega (arith, fits, turned.count)),
)
going_ends status.Memory first doing left start now after n old new going fits turned = (
  still_calm start now after going.calm turned.0,
  some_done first doing start now after n old turned.1.0 going (ahead_by first doing start now after n old turned.1.0 going fits turned.1.1.takes) turned.1.1.written,
)
going_ends (status.BadScript m) first doing left start now after n old new going fits turned =
    let P : ℕ → Type 0 = λ k. Told start (λ script. StopsOn IsBadLine first script k start after) in
    let bytes : List ℕ = turned.1.1.0 in (
      still_calm start now after going.calm turned.1.0,
      subst P (sym turned.0) (stops_on IsBadLine first doing start now after n old bytes going (ahead_by first doing start now after n old bytes going fits turned.1.1.1.takes) turned.1.1.1.written turned.1.1.2 fits),
    )
going_ends (status.Forged m) first doing left start now after n old new going fits turned =
    let P : ℕ → Type 0 = λ k. Told start (λ script. StopsOn IsForgedLine first script k start after) in
    let bytes : List ℕ = turned.1.1.0 in (
      still_calm start now after going.calm turned.1.0,
      subst P (sym turned.0) (stops_on IsForgedLine first doing start now after n old bytes going (ahead_by first doing start now after n old bytes going fits turned.1.1.1.takes) turned.1.1.1.written turned.1.1.2 fits),
    )
going_ends status.SinkFault first doing left start now after n old new going fits turned = (
  sink_failed start now after going.calm turned.failed,
  cut_short first doing start now after n old turned.bytes turned.part going (ahead_by first doing start now after n old turned.bytes going fits turned.takes) turned.next turned.written,
)
going_ends status.SourceFault first doing left start now after n old new going fits turned =
    let bytes : List ℕ = turned.2.0 in
    let P : ℕ → Type 0 = λ limit. IsPart limit bytes in
    let part : IsPart (limit_of first) bytes = subst P going.same turned.2.2 in (
      source_failed start now after going.calm turned.0,
      turned.1,
      taken_done first doing start now after n old bytes going (ahead_by first doing start now after n old bytes going fits turned.2.1.takes) turned.2.1.written part (may_follow n (limit_of first) fits bytes part),
    )
going_ends _ first doing left start now after n old new going fits turned = absurd turned

-- the end behind the last line that may be
pub going_closed : (s : RunStatus) (first doing : Doing) (start now after : Outside) (old : List ℕ) → Going first doing start now max_lines old → Closed s now after old → LinesEnd first doing s start after
going_closed status.Done first doing start now after old going closed = (
  still_calm start now after going.calm closed.0,
  all_ran first doing doing start now after max_lines old [] [] going (ahead_closed first doing start now after old [] going closed.1.takes) closed.2 (refl, refl) closed.1.written (lit≤ tt),
)
going_closed status.SinkFault first doing start now after old going closed =
    let bytes : List ℕ = closed.1.0 in (
      sink_failed start now after going.calm closed.0,
      cut_short first doing start now after max_lines old bytes [] going (ahead_closed first doing start now after old bytes going closed.1.1.takes) (inl refl) closed.1.1.written,
    )
going_closed status.SourceFault first doing start now after old going closed =
    let bytes : List ℕ = closed.2.0 in
    let part : IsPart (limit_of first) bytes = (let fits : length bytes ≤ 0 = closed.2.2.0 in omega arith, closed.2.2.1) in (
      source_failed start now after going.calm closed.0,
      closed.1,
      taken_done first doing start now after max_lines old bytes going (ahead_closed first doing start now after old bytes going closed.2.1.takes) closed.2.1.written part (none_may_follow bytes closed.2.2),
    )
going_closed status.ScriptLong first doing start now after old going closed =
    let bytes : List ℕ = closed.1.0 in (
      still_calm start now after going.calm closed.0,
      too_many first doing start now after old bytes going (ahead_closed first doing start now after old bytes going closed.1.1.takes) closed.1.1.written closed.1.2,
    )
going_closed _ first doing start now after old going closed = absurd closed

-- nothing was read and done
pub none_done : (first : Doing) (start : Outside) → Holds first → Ends first status.Memory start start
none_done first start holds = (
  record { source = refl; sink = refl },
  told_from start.source.left (λ script. SomeDone first script start start) (λ script e. record {
    lines = [];
    more = lines_of script;
    split = refl;
    took = record { taken = []; rest = script; split = refl; left = e; needed = inl refl };
    has = record { left = first; text = []; ran = (refl, refl); holds = holds; written = appends_none start.sink.written };
  }),
)
