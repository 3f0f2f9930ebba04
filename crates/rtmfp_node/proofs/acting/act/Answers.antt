use Rattle.std.proofs.Common.{rules}
use Rattle.rtmfp_host.specs.Linking.{given_by}
use Rattle.rtmfp_host.specs.declared.link.Given.TheVariants.{Quiet}
use Rattle.rtmfp_node.proofs.Calling.{acted_on, acted_quiet}
use Rattle.rtmfp_node.proofs.acting.act.Goals as goal

pub returns-in_ok-tick-in-Quiet : goal.returns-in_ok-tick-in-Quiet
returns-in_ok-tick-in-Quiet c =
    acted_on c.args.message.now Quiet (given_by c.args.got c.args.buf.now) c.args.moment c.args.draws.now c.args.turn c.args.end.now c.tick.new.end _ c.args.notes.now c.tick.new.notes (search rules)
    (acted_quiet c.args.message.now c.args.moment c.args.draws.now c.args.turn c.args.end.now c.tick.new.end c.args.heard.now.entries c.args.out.now.entries c.tick.new.out.entries _
    c.args.notes.now c.tick.new.notes c.requires.unheard c.requires.empty c.in_ok-tick-in-Quiet.ensures)
