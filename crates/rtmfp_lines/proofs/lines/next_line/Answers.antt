use Rattle.std.proofs.Common.{rules, List, ℕ, subst, sym, ◌∙◌}
use Rattle.rtmfp_lines.specs.Lines.{NoLf}
use Rattle.rtmfp_lines.specs.Reading.{IsPart}
use Rattle.rtmfp_lines.proofs.Streams.{asks_more, has_read_more, not_shorter, still_there}
use Rattle.rtmfp_lines.proofs.lines.next_line.Goals as goal

pub reading-preserved : goal.reading-preserved
reading-preserved g c =
    let P : List ℕ → Type 0 = λ xs. IsPart c.args.limit xs in
    record {
      has_read = has_read_more _ _ _ _ _ _ c.reading.invariant.has_read c.in-Done.ensures.filled;
      within = not_shorter _ _ _ c.reading.buffer.bytes _ c.bytes-scanned.ensures c.in-Done.ensures.filled;
      none = subst NoLf (sym (still_there _ _ _ c.reading.buffer.bytes _ c.bytes-scanned.ensures c.in-Done.ensures.filled)) (subst NoLf (c.bytes.ensures ∙ sym c.bytes-scanned.ensures) c.in-More.ensures.1);
      written = search rules;
      capacity = search rules;
      asks = asks_more _ _ _ (g.S.Source.seen c.reading.source).left _ c.reading.buffer.bytes _ (subst P c.bytes.ensures c.in-More.ensures) c.in-Done.ensures.asked c.in-Done.ensures.filled;
      source = search rules;
      sink = search rules;
    }

pub returns-in-Failed-fill-clause-faults : goal.returns-in-Failed-fill-clause-faults
returns-in-Failed-fill-clause-faults g c = search rules

pub returns-in-Failed-fill-clause-read : goal.returns-in-Failed-fill-clause-read
returns-in-Failed-fill-clause-read g c = search rules

pub returns-in-End-2-clause-read : goal.returns-in-End-2-clause-read
returns-in-End-2-clause-read g c = search rules
