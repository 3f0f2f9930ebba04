use Rattle.std.proofs.Common.{List, length, ap, ◌∙◌, ◌==◌}
use Rattle.rendezvous_world.specs.declared.journal.JournalLine.{JournalLine}
use Rattle.rtmfp_play.proofs.Happening.{begun_is}
use Rattle.rtmfp_play.proofs.journal.has_begun.Goals as goal

pub returns : goal.returns
returns c =
    begun_is c.args.world.now.ends c.args.world.now.lines c.is_empty.result
    (c.is_empty.ensures ∙ ap (λ (lines : List JournalLine). length lines == 0) (c.lines.ensures ∙ c.journal.ensures.lines))
