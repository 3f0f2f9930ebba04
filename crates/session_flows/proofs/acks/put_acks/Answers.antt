use Rattle.std.proofs.Common.{◌≡◌, ◌<◌, ◌+◌, ℕ, true, false, List, length, get_or, sym, subst, ◌∙◌, rules, arith}
use Rattle.std.specs.Prelude.{slice_set}
use Rattle.std.proofs.lemmas.Grind.{common_steps}
use Rattle.std.proofs.lemmas.List.{set-get_or}
use Rattle.session_flows.specs.declared.taking.TakingFlow.{TakingFlow}
use Rattle.session_flows.specs.Owing.{paid}
use Rattle.session_flows.proofs.Fewer.{IsFewer, fewer_put, fewer_kept}
use Rattle.session_flows.proofs.acks.put_acks.Goals as goal
use Rattle.session_flows.proofs.acks.put_acks.Goals.{then-flow+else-is_err, else-flow}

pub loop-flow-preserved : goal.loop-flow-preserved
loop-flow-preserved c =
    let now : List TakingFlow = c.loop-flow.taking in
    let at : ℕ = c.loop-flow.flow-index in
    let within : at < length now = search rules in
    elim c.if-flow.branch [
      | then-flow+else-is_err w ↦
          let owed : (get_or now at c.flow-item.result).owed ≡ true = w.if-flow.true in
          let put : c.if-flow.taking ≡ slice_set now at (paid (get_or now at c.flow-item.result)) = w.taking-is in
          record {
            same = grind (arith, common_steps);
            fewer = subst (λ (ts : List TakingFlow). IsFewer (at + 1) ts c.args.taking.now c.if-flow.out c.args.out.now) (sym put)
                (fewer_put at now c.args.taking.now c.loop-flow.out c.args.out.now c.if-flow.out c.flow-item.result within owed c.loop-flow.invariant.fewer);
          }
      | else-flow w ↦
          let owed : (get_or now at c.flow-item.result).owed ≡ false = w.if-flow.false in
          let kept : c.if-flow.taking ≡ now = w.taking-is ∙ set-get_or now at c.flow-item.result in
          record {
            same = grind (arith, common_steps);
            fewer = subst (λ (ts : List TakingFlow). IsFewer (at + 1) ts c.args.taking.now c.if-flow.out c.args.out.now) (sym kept)
                (subst (λ (out : List ℕ). IsFewer (at + 1) now c.args.taking.now out c.args.out.now) (sym w.out-is)
                (fewer_kept at now c.args.taking.now c.loop-flow.out c.args.out.now c.flow-item.result within owed c.loop-flow.invariant.fewer));
          }
    ]
