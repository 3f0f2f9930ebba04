use Rattle.std.proofs.Common.{◌≡◌, ◌∷◌, List, true, false, rules, ap, sym, ◌∙◌}
use Rattle.flow_recv.specs.declared.spans.Span.{Span}
use Rattle.flow_recv.specs.Receiver.{lacks, span}
use Rattle.flow_recv.specs.Above.{without}
use Rattle.flow_recv.proofs.Knowing.{add_again}
use Rattle.flow_recv.proofs.Spots.{missing_begins, without_number}
use Rattle.flow_recv.proofs.receiver.admit.Goals as goal

pub returns-then-not-missing-clause-spans : goal.returns-then-not-missing-clause-spans
returns-then-not-missing-clause-spans c =
    let d = c.args.chunk.now in
    let k : lacks (span 0 c.args.through ∷ c.args.above.now) d.seq ≡ false = search rules in
    c.raise.ensures ∙ sym (add_again d.seq d.forward (span 0 c.args.through ∷ c.args.above.now) c.requires.apart k)

pub insert-requires : goal.insert-requires
insert-requires c =
    let k : lacks (span 0 c.args.through ∷ c.args.above.now) c.args.chunk.now.seq ≡ true = search rules in
    missing_begins c.args.through c.args.chunk.now.seq c.args.above.now c.requires.apart k

pub returns-then-is_err-clause-same_spans : goal.returns-then-is_err-clause-same_spans
returns-then-is_err-clause-same_spans c =
    let n = c.args.chunk.now.seq in
    let ss = c.args.above.now in
    let k : lacks (span 0 c.args.through ∷ ss) n ≡ true = search rules in
    c.remove.ensures.rest ∙ (ap (λ (ts : List Span). without n ts) c.in_ok-insert-in-Alone.ensures.inserted ∙ without_number n ss (missing_begins c.args.through n ss c.requires.apart k))
