use Rattle.std.proofs.Common.{◌≡◌, ◌≤◌, ℕ, Option, None, length, sym, ap, ◌∙◌, subst, rules}
use Rattle.std.specs.Prelude.{is_some}
use Rattle.rtmfp_data_chunks.specs.Chunk.{user_parts}
use Rattle.session_flows.specs.Causes.{early_cause}
use Rattle.session_flows.specs.Chunks.{data_done}
use Rattle.session_flows.proofs.Indexed.{there_is}
use Rattle.session_flows.proofs.Hearing.{room_for}
use Rattle.session_flows.proofs.Enough.{done_few}
use Rattle.session_flows.proofs.flows.Flows.judge_data.Goals as goal

pub early_cause-requires : goal.early_cause-requires
early_cause-requires c =
    let told : c.is_some.result ≡ is_some c.taking_index-at.result = search rules in
    told ∙ ap (λ (o : Option ℕ). is_some o) c.taking_index-at.ensures.place ∙ there_is 0 c.args.chunk.now.flow c.args.self.now.taking

pub returns-in-Ok-clause-judged : goal.returns-in-Ok-clause-judged
returns-in-Ok-clause-judged c =
    let quiet : c.early_cause.result ≡ None = search rules in
    let none : early_cause c.args.session.now c.args.self.now (user_parts c.args.chunk.now) ≡ None = sym c.early_cause.ensures ∙ quiet in
    record {
      at = c.taking_index-at.ensures.place;
      most = c.in-Ok.ensures.most;
      takes = c.in-Ok.ensures.none;
      room = λ gone. room_for c.args.session.now c.args.self.now (user_parts c.args.chunk.now) none
          (sym (there_is 0 c.args.chunk.now.flow c.args.self.now.taking) ∙ ap (λ (o : Option ℕ). is_some o) (sym c.taking_index-at.ensures.place ∙ gone));
    }

pub returns-in-Ok-clause-enough : goal.returns-in-Ok-clause-enough
returns-in-Ok-clause-enough c =
    subst (λ (n : ℕ). length (data_done c.args.self.now (user_parts c.args.chunk.now)).stated ≤ n) (sym c.in-Ok.ensures.most) (done_few c.args.self.now (user_parts c.args.chunk.now))
