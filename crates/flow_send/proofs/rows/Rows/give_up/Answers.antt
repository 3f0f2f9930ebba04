use Rattle.std.proofs.Common.{◌≡◌, ◌<◌, ◌≤◌, length, refl, ap, sym, ◌∙◌, arith}
use Rattle.flow_send.specs.Sender.{give_up_row}
use Rattle.flow_send.specs.Rows.{between}
use Rattle.flow_send.proofs.Between.{between_none, between_length, between_step}
use Rattle.flow_send.proofs.rows.Rows.give_up.Goals as goal

pub loop-at-init : goal.loop-at-init
loop-at-init c = record { rows = sym (between_none give_up_row c.args.from c.args.from c.args.self.now.rows (omega arith)); room = refl }

pub give_up_at-requires : goal.give_up_at-requires
give_up_at-requires c = omega (arith, ap length c.loop-at.invariant.rows, between_length give_up_row c.args.from c.loop-at.at c.args.self.now.rows)

pub loop-at-preserved : goal.loop-at-preserved
loop-at-preserved c =
    let rows = c.args.self.now.rows in
    let at = c.loop-at.at in
    let lt : at < length rows = omega arith in
    let le : c.args.from ≤ at = omega arith in
    record {
      rows = c.give_up_at.ensures.rows ∙ between_step give_up_row c.args.from at rows c.loop-at.self.rows le lt c.loop-at.invariant.rows;
      room = c.give_up_at.ensures.room ∙ c.loop-at.invariant.room;
    }

pub returns-clause-rows : goal.returns-clause-rows
returns-clause-rows c = let e : c.loop-at.at ≡ c.args.to = omega arith in c.loop-at.invariant.rows ∙ ap (λ i. between give_up_row c.args.from i c.args.self.now.rows) e
