use Rattle.std.proofs.Common.{◌%◌, sym, subst, arith}
use Rattle.flow_send.specs.Lows.{AllInBlocks, IsLowFrom}
use Rattle.flow_send.proofs.Lowest.{lows_raised, inside}
use Rattle.flow_send.proofs.backlog.Backlog.raise_block.Goals as goal

pub set-requires : goal.set-requires
set-requires c = inside c.self.inside.lows (c.args.block % 2056) 18446744073709551615 (omega (arith, c.at.ensures, c.if-at-moment.false))

pub invariant_of-self : goal.invariant_of-self
invariant_of-self c =
    let i = c.self.inside in
    let low = subst (λ ws. IsLowFrom c.args.block c.args.to ws c.low_from-low.result) (sym c.self.view_is) c.low_from-low.ensures in
    let within = subst (AllInBlocks c.args.from c.args.to) (sym c.self.view_is) c.requires.within in (
      c.self.invariant.0,
      c.self.invariant.1,
      c.self.invariant.2,
      lows_raised i.lows c.set.new.self c.args.from c.args.to c.args.block c.low_from-low.result i.messages c.self.invariant.3 within c.requires.first low c.set.ensures.own c.set.ensures.others,
    )
