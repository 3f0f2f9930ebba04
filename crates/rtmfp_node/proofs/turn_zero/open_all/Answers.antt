use Rattle.std.proofs.Common.{rules}
use Rattle.rtmfp_node.proofs.Openings.{opens_next, opens_none}
use Rattle.rtmfp_node.proofs.Told.{drew_next, drew_no_more, drew_none}
use Rattle.rtmfp_node.proofs.turn_zero.open_all.Goals as goal

pub loop-opening-init : goal.loop-opening-init
loop-opening-init g c = record {
  opens = opens_none c.args.moment (g.E.Entropy.seen c.args.entropy.now).blocks c.args.end.now c.args.out.now.entries c.args.notes.now;
  drawn = search rules;
  drew = drew_none (g.E.Entropy.seen c.args.entropy.now).blocks;
}

pub loop-opening-preserved : goal.loop-opening-preserved
loop-opening-preserved g c = record {
  opens =
      opens_next c.args.openings.now c.loop-opening.opening-index c.opening-item.result c.args.moment (g.E.Entropy.seen c.args.entropy.now).blocks (g.E.Entropy.seen c.loop-opening.entropy).blocks
      (g.E.Entropy.seen c.draw.new.entropy).blocks c.in-Some.block c.args.end.now c.loop-opening.end c.open.new.end c.args.out.now.entries c.loop-opening.out.entries c.open.new.out.entries
      c.args.notes.now c.loop-opening.notes c.open.new.notes (search rules) (search rules) c.loop-opening.invariant.opens (search rules) (search rules);
  drawn = search rules;
  drew =
      drew_next c.loop-opening.opening-index (g.E.Entropy.seen c.args.entropy.now).blocks (g.E.Entropy.seen c.loop-opening.entropy).blocks (g.E.Entropy.seen c.draw.new.entropy).blocks c.in-Some.block
      c.loop-opening.invariant.drew (search rules);
}

pub returns-in_default-clause-ends : goal.returns-in_default-clause-ends
returns-in_default-clause-ends g c = (
  c.loop-opening.opening-index,
  search rules,
  drew_no_more c.loop-opening.opening-index (g.E.Entropy.seen c.args.entropy.now).blocks (g.E.Entropy.seen c.loop-opening.entropy).blocks (g.E.Entropy.seen c.draw.new.entropy).blocks
      c.loop-opening.invariant.drew (c.draw.ensures.undrawn (search rules)),
)

pub returns-in_default-open-clause-ends : goal.returns-in_default-open-clause-ends
returns-in_default-open-clause-ends g c = (
  c.loop-opening.opening-index,
  search rules,
  drew_next c.loop-opening.opening-index (g.E.Entropy.seen c.args.entropy.now).blocks (g.E.Entropy.seen c.loop-opening.entropy).blocks (g.E.Entropy.seen c.draw.new.entropy).blocks c.in-Some.block
      c.loop-opening.invariant.drew (search rules),
)
