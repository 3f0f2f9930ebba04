use Rattle.std.proofs.Common.{◌≡◌, List, ℕ, ◌<◌, ◌++◌, ◌-◌, take, length, sym, arith, subst, Option}
use Rattle.rtmfp_host.specs.declared.source.Taken.{Taken}
use Rattle.rtmfp_host.specs.declared.source.Taken.TheVariants.{Done, End, Failed}
use Rattle.rtmfp_host.specs.Taking.{Takes}
use Rattle.rtmfp_lines.specs.Pending.{ReadsBehind}
use Rattle.rtmfp_lines.proofs.Windows.{behind_read, behind_kept}
use Rattle.rtmfp_lines.proofs.buffer.read_behind.Goals as goal

reads : (before after : Option (List ℕ)) (end : ℕ) (taken : Taken) (old buf : List ℕ) → end < length old → length buf ≡ length old - end → Takes before after taken buf →
    ReadsBehind before after end taken old (take end old ++ buf)
reads before after end (Done count) old buf lt size taken = behind_read before after end count old buf lt size taken
reads before after end End old buf lt size taken = (taken.0, taken.1, behind_kept end old buf lt)
reads before after end Failed old buf lt size taken = (taken, behind_kept end old buf lt)

pub returns-clause-behind : goal.returns-clause-behind
returns-clause-behind g c =
    let old = c.args.bytes.now in
    let front : take c.args.end old ≡ c.split_at_mut-room.result.0.now = sym c.split_at_mut-room.ensures.front in
    let size : length c.read.new.buf ≡ length old - c.args.end = omega arith in
    let P : List ℕ → Type 0 = λ xs. ReadsBehind (g.S.Source.seen c.args.source.now).left (g.S.Source.seen c.read.new.self).left c.args.end c.read.result old (xs ++ c.read.new.buf) in
    subst P front (reads _ _ c.args.end c.read.result old c.read.new.buf c.requires size c.read.ensures.bytes)
