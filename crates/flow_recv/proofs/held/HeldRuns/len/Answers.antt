use Rattle.std.proofs.Common.{List, length, ap, sym, ◌∙◌}
use Rattle.std.proofs.lemmas.Map.Entries.{length-values_of}
use Rattle.rtmfp_data_chunks.specs.Runs.{Run}
use Rattle.flow_recv.proofs.held.HeldRuns.len.Goals as goal

pub returns-clause-value : goal.returns-clause-value
returns-clause-value c = c.len.ensures.len ∙ sym (length-values_of c.self.inside.map.entries) ∙ ap (λ (rs : List Run). length rs) c.self.view_is
