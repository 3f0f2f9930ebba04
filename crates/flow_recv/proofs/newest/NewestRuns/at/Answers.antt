use Rattle.std.proofs.Common.{◌≡◌, true, false, Option, sym, ap, ◌∙◌}
use Rattle.std.proofs.lemmas.Bool.{eq-eqb, ne_eqb}
use Rattle.rtmfp_data_chunks.specs.Runs.{Run}
use Rattle.flow_recv.specs.Keyed.{run_at, begins}
use Rattle.flow_recv.proofs.Among.{at_newest, at_older}
use Rattle.flow_recv.proofs.newest.NewestRuns.at.Goals as goal

pub returns-then-first : goal.returns-then-first
returns-then-first c =
    let i = c.self.inside in
    let n = c.args.first in
    let e : begins n i.newest ≡ true = ap (λ (o : Option Run). begins n o) c.in-Some.is ∙ eq-eqb c.in-Some.run'.first n (sym c.first.ensures ∙ c.if-first.true) in
    sym c.in-Some.is ∙ (sym (at_newest n i.newest i.older c.self.invariant e) ∙ ap (run_at n) c.self.view_is)

pub returns-else-first : goal.returns-else-first
returns-else-first c =
    let i = c.self.inside in
    let n = c.args.first in
    let e : begins n i.newest ≡ false = ap (λ (o : Option Run). begins n o) c.in-Some.is ∙ ne_eqb c.in-Some.run'.first n (λ s. c.if-first.false (c.first.ensures ∙ s)) in
    c.at.ensures ∙ (sym (at_older n i.newest i.older e) ∙ ap (run_at n) c.self.view_is)
