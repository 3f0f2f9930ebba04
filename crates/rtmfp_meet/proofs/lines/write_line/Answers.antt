use Rattle.std.proofs.Common.{ℕ, List, ◌++◌, subst}
use Rattle.std.specs.Prelude.{codes}
use Rattle.rtmfp_host.specs.Writing.{Appends, Writes}
use Rattle.rtmfp_host.specs.declared.sink.Wrote.TheVariants.{Failed}
use Rattle.rtmfp_meet.proofs.Written.{cut_there, write_then}
use Rattle.rtmfp_meet.proofs.lines.write_line.Goals as goal

pub returns-in-Failed-clause-bytes : goal.returns-in-Failed-clause-bytes
returns-in-Failed-clause-bytes g c =
    let P : List ℕ → Type 0 = λ xs. Writes (g.K.Sink.seen c.args.sink.now).written (g.K.Sink.seen c.write.new.self).written Failed xs in
    cut_there _ _ c.args.prefix.now (c.args.line.now ++ codes "\n") (subst P c.as_bytes.ensures.value c.in-Failed.ensures.bytes)

pub returns-in-Failed-write-clause-bytes : goal.returns-in-Failed-write-clause-bytes
returns-in-Failed-write-clause-bytes g c =
    let P : List ℕ → Type 0 = λ xs. Appends (g.K.Sink.seen c.args.sink.now).written (g.K.Sink.seen c.write.new.self).written xs in
    write_then Failed _ _ _ c.args.prefix.now (c.args.line.now ++ codes "\n") (subst P c.as_bytes.ensures.value c.in-Done.ensures.bytes)
    (cut_there _ _ c.args.line.now (codes "\n") c.in-Failed-write.ensures.bytes)

pub returns-clause-bytes : goal.returns-clause-bytes
returns-clause-bytes g c =
    let P : List ℕ → Type 0 = λ xs. Appends (g.K.Sink.seen c.args.sink.now).written (g.K.Sink.seen c.write.new.self).written xs in
    write_then c.write-3.result _ _ _ c.args.prefix.now (c.args.line.now ++ codes "\n") (subst P c.as_bytes.ensures.value c.in-Done.ensures.bytes)
    (write_then c.write-3.result _ _ _ c.args.line.now (codes "\n") c.in-Done-write.ensures.bytes c.write-3.ensures.bytes)
