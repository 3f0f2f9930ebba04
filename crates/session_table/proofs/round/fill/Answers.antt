use Rattle.std.proofs.Common.{arith}
use Rattle.session_table.proofs.Rounds.{filled_more}
use Rattle.session_table.proofs.round.fill.Goals as goal

pub loop-index-init : goal.loop-index-init
loop-index-init c = (c.requires.one, c.requires.room, λ place row less at. absurd (omega (arith, less)))

pub index-requires : goal.index-requires
index-requires c = c.requires.there c.loop-index.index (omega (arith, c.loop-index-test.true, c.loop-index.auto.index-end))

pub push_reserved-requires : goal.push_reserved-requires
push_reserved-requires c =
    let long = c.loop-index.invariant.0 in
    let room = c.loop-index.invariant.1 in
    omega (arith, long, room, c.loop-index-test.true, c.loop-index.auto.index-end)

pub loop-index-preserved : goal.loop-index-preserved
loop-index-preserved c =
    let l = c.loop-index in
    let long = l.invariant.0 in
    let room = l.invariant.1 in
    let longer = c.push_reserved.ensures.len in
    let same = c.push_reserved.ensures.capacity in (
      omega (arith, long, longer),
      omega (arith, room, same),
      filled_more c.args.rows.now.things c.args.slots.now l.nears.items c.push_reserved.new.self.items l.index c.near_of.result c.index.result.now c.index.ensures c.near_of.ensures c.push_reserved.ensures.items l.invariant.2,
    )

pub returns : goal.returns
returns c place row less at = c.loop-index.invariant.2 place row (omega (arith, less, c.loop-index-test.false, c.loop-index.auto.index-end)) at
