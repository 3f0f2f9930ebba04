use Rattle.std.proofs.Common.{◌≡◌, ◌<◌, ◌≤◌, length, refl, ap, sym, ◌∙◌, arith}
use Rattle.flow_send.specs.Acks.{count_ack, is_third}
use Rattle.flow_send.specs.Rows.{Row, any_between, row_at}
use Rattle.std.proofs.Common.{List, ◌||◌}
use Rattle.flow_send.specs.Rows.{between}
use Rattle.flow_send.proofs.Between.{between_none, between_length, between_step, between_get, any_none, any_step}
use Rattle.flow_send.proofs.rows.Rows.count_acks.Goals as goal

pub loop-at-init : goal.loop-at-init
loop-at-init c = record { rows = sym (between_none (count_ack c.args.ordinal) 0 0 c.args.self.now.rows (omega arith)); room = refl; lost = sym (any_none (is_third c.args.ordinal) 0 0 c.args.self.now.rows (omega arith)) }

pub is_third-lost-requires : goal.is_third-lost-requires
is_third-lost-requires c = omega (arith, ap length c.loop-at.invariant.rows, between_length (count_ack c.args.ordinal) 0 c.loop-at.at c.args.self.now.rows)

pub count_ack_at-requires : goal.count_ack_at-requires
count_ack_at-requires c = omega (arith, ap length c.loop-at.invariant.rows, between_length (count_ack c.args.ordinal) 0 c.loop-at.at c.args.self.now.rows)

pub loop-at-preserved : goal.loop-at-preserved
loop-at-preserved c =
    let rows = c.args.self.now.rows in
    let at = c.loop-at.at in
    let lt : at < length rows = omega arith in
    let le : 0 ≤ at = omega arith in
    record {
      rows = c.count_ack_at.ensures.rows ∙ between_step (count_ack c.args.ordinal) 0 at rows c.loop-at.self.rows le lt c.loop-at.invariant.rows;
      room = c.count_ack_at.ensures.room ∙ c.loop-at.invariant.room;
      lost =
          let same : row_at c.loop-at.self.rows at ≡ row_at rows at = ap (λ (xs : List Row). row_at xs at) c.loop-at.invariant.rows ∙ between_get (count_ack c.args.ordinal) 0 at at rows (omega arith) in
          ap (λ b. b || c.is_third-lost.result) c.loop-at.invariant.lost ∙ (ap (λ b. any_between (is_third c.args.ordinal) 0 at rows || b) (c.is_third-lost.ensures ∙ ap (is_third c.args.ordinal) same) ∙ sym (any_step (is_third c.args.ordinal) 0 at rows le lt));
    }

pub returns-clause-rows : goal.returns-clause-rows
returns-clause-rows c = let e : c.loop-at.at ≡ c.args.to = omega arith in c.loop-at.invariant.rows ∙ ap (λ i. between (count_ack c.args.ordinal) 0 i c.args.self.now.rows) e
