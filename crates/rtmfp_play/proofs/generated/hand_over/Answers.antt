use Rattle.std.proofs.Common.{List, ℕ, length, sym, subst}
use Rattle.std.proofs.Math.Seq.{take-length}
use Rattle.rtmfp_host.specs.Faults.{Rose}
use Rattle.rtmfp_host.specs.Writing.{Appends}
use Rattle.rtmfp_lines.proofs.Streams.{appends_still}
use Rattle.rtmfp_play.proofs.generated.hand_over.Goals as goal

pub returns-in-Failed-flush : goal.returns-in-Failed-flush
returns-in-Failed-flush g c =
    let text = c.args.text.now in
    let P : List ℕ → Type 0 = λ xs. Appends (g.K.Sink.seen c.args.sink.now).written (g.K.Sink.seen c.flush.new.self).written xs in
    let Q : ℕ → Type 0 = λ n. Rose n (g.K.Sink.seen c.flush.new.self).faults in
    ((length text, subst P (sym (take-length text)) (appends_still _ _ _ text c.in-Done.ensures.bytes c.in-Failed-flush.ensures.bytes)), subst Q c.in-Done.ensures.faults c.in-Failed-flush.ensures.faults.0)
