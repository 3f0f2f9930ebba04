use Rattle.std.proofs.Common.{◌≡◌, ◌+◌, ◌-◌, ◌<◌, ◌≤◌, length, drop, refl, ap, sym, ◌∙◌, subst, arith}
use Rattle.flow_send.specs.Acks.{acknowledge_row, new_ordinal}
use Rattle.flow_send.specs.Rows.{Row, Roomy, most_between, row_at}
use Rattle.std.proofs.Common.{max, List}
use Rattle.flow_send.specs.Rows.{between}
use Rattle.flow_send.proofs.Between.{between_none, between_length, between_step, between_get, most_none, most_step}
use Rattle.flow_send.specs.Passed.{AllAcked}
use Rattle.flow_send.proofs.Passing.{acked_less, same_between, same_most, all_between, between_drop}
use Rattle.flow_send.proofs.rows.Rows.acknowledge.Goals as goal

pub loop-at-init : goal.loop-at-init
loop-at-init c = record { order = omega arith; inside = omega arith; rows = sym (between_none acknowledge_row c.args.from c.args.from c.args.self.now.rows (omega arith)); room = refl; ordinal = sym (most_none new_ordinal c.args.from c.args.from c.args.self.now.rows (omega arith)) }

pub new_ordinal-requires : goal.new_ordinal-requires
new_ordinal-requires c = omega (arith, ap length c.loop-at.invariant.rows, between_length acknowledge_row c.args.from c.loop-at.at c.args.self.now.rows)

pub acknowledge_at-requires : goal.acknowledge_at-requires
acknowledge_at-requires c = omega (arith, ap length c.loop-at.invariant.rows, between_length acknowledge_row c.args.from c.loop-at.at c.args.self.now.rows)

pub loop-at-preserved : goal.loop-at-preserved
loop-at-preserved c =
    let rows = c.args.self.now.rows in
    let at = c.loop-at.at in
    let lt : at < length rows = omega arith in
    let le : c.args.from ≤ at = c.loop-at.invariant.order in
    record {
      order = omega (arith, le);
      inside = omega arith;
      rows = c.acknowledge_at.ensures.rows ∙ between_step acknowledge_row c.args.from at rows c.loop-at.self.rows le lt c.loop-at.invariant.rows;
      room = c.acknowledge_at.ensures.room ∙ c.loop-at.invariant.room;
      ordinal =
          let same : row_at c.loop-at.self.rows at ≡ row_at rows at = ap (λ (xs : List Row). row_at xs at) c.loop-at.invariant.rows ∙ between_get acknowledge_row c.args.from at at rows (omega arith) in
          let a : c.max-ordinal.result ≡ max c.loop-at.ordinal c.new_ordinal.result = c.max-ordinal.ensures in
          a ∙ (ap (λ i. max i c.new_ordinal.result) c.loop-at.invariant.ordinal ∙ (ap (λ i. max (most_between new_ordinal c.args.from at rows) i) (c.new_ordinal.ensures ∙ ap new_ordinal same) ∙ sym (most_step new_ordinal c.args.from at rows le lt)));
    }

pub loop-at-preserved-then-known-gt0 : goal.loop-at-preserved-then-known-gt0
loop-at-preserved-then-known-gt0 c =
    let v = c.loop-at.invariant in
    let rows = c.args.self.now.rows in
    let from = c.args.from in
    let at = c.loop-at.at in
    let far = c.min-at.result in
    let drops : drop at c.loop-at.self.rows ≡ drop at rows = ap (λ (xs : List Row). drop at xs) v.rows ∙ between_drop acknowledge_row from at rows in
    let known : AllAcked (far - at) (drop at rows) = acked_less (far - at) c.known-known.result (drop at rows) (omega arith) (subst (λ (xs : List Row). AllAcked c.known-known.result xs) drops c.known-known.ensures) in
    let sum : at + (far - at) ≡ far = omega arith in
    record {
      order = omega (arith, v.order);
      inside = omega arith;
      rows = v.rows ∙ (same_between from at (far - at) rows v.order known ∙ ap (λ i. between acknowledge_row from i rows) sum);
      room = v.room;
      ordinal = v.ordinal ∙ (same_most from at (far - at) rows v.order known ∙ ap (λ i. most_between new_ordinal from i rows) sum);
    }

pub note-requires : goal.note-requires
note-requires c =
    let e : c.loop-at.at ≡ c.args.to = omega (arith, c.loop-at.invariant.inside) in
    all_between c.args.from c.args.to c.args.self.now.rows c.loop-at.self.rows (omega arith) (omega arith) (c.loop-at.invariant.rows ∙ ap (λ i. between acknowledge_row c.args.from i c.args.self.now.rows) e)

pub returns-clause-rows : goal.returns-clause-rows
returns-clause-rows c =
    let e : c.loop-at.at ≡ c.args.to = omega (arith, c.loop-at.invariant.inside) in
    ap (λ (q : Roomy). q.rows) c.note.ensures ∙ (c.loop-at.invariant.rows ∙ ap (λ i. between acknowledge_row c.args.from i c.args.self.now.rows) e)

pub returns-clause-ordinal : goal.returns-clause-ordinal
returns-clause-ordinal c = let e : c.loop-at.at ≡ c.args.to = omega (arith, c.loop-at.invariant.inside) in c.loop-at.invariant.ordinal ∙ ap (λ i. most_between new_ordinal c.args.from i c.args.self.now.rows) e
