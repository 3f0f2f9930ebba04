use Rattle.std.proofs.Common.{◌∷◌, List, sym, ap, ◌∙◌, arith}
use Rattle.rtmfp_data_chunks.specs.Runs.{Run}
use Rattle.flow_recv.specs.Receiver.{span, held_in}
use Rattle.flow_recv.specs.Keyed.{stays, stays_at}
use Rattle.flow_recv.proofs.Walking.{all_stay, stays_there, without_is, held_without}
use Rattle.flow_recv.proofs.runs.drop_unless_stays.Goals as goal

pub returns-then-stays_at-clause-kept : goal.returns-then-stays_at-clause-kept
returns-then-stays_at-clause-kept c =
    let spans = span 0 c.args.through ∷ c.args.above.now in
    sym (all_stay (stays spans c.args.low c.args.high) c.args.first c.args.runs.now c.requires.order (stays_there spans c.args.low c.args.high c.args.first c.args.runs.now (sym c.if-stays_at.ensures)))

pub returns-in-Some-clause-kept : goal.returns-in-Some-clause-kept
returns-in-Some-clause-kept c =
    let spans = span 0 c.args.through ∷ c.args.above.now in
    let r = c.in-Some.run' in
    c.in-Some.ensures.rest
    ∙ without_is (stays spans c.args.low c.args.high) c.args.first 0 c.args.runs.now r c.requires.order (sym c.in-Some.ensures.run) (sym (c.if-stays_at.ensures ∙ ap (stays_at spans c.args.low c.args.high) (sym c.in-Some.ensures.run)))

pub returns-in-Some-clause-dropped : goal.returns-in-Some-clause-dropped
returns-in-Some-clause-dropped c =
    let w = held_without c.args.first c.args.runs.now c.in-Some.run' (sym c.in-Some.ensures.run) in
    let h = ap (λ (zs : List Run). held_in zs) c.in-Some.ensures.rest in
    omega (arith, w, h, c.len.ensures)
