use Rattle.std.proofs.Common.{List, length, ap, ◌∙◌}
use Rattle.std.proofs.lemmas.List.{length-map}
use Rattle.rtmfp_text.specs.declared.names.Named.{Named}
use Rattle.rendezvous_world.specs.declared.journal.JournalLine.{JournalLine}
use Rattle.rendezvous_world.specs.Inside.{named_of}
use Rattle.rendezvous_world.specs.Seen.{Seen}
use Rattle.rtmfp_play.specs.Moments.{moment_of}
use Rattle.rtmfp_play.proofs.Happening.{taken_moments}
use Rattle.rtmfp_play.proofs.Journaled.{refused_step}
use Rattle.rtmfp_play.proofs.journal.take_step.Goals as goal

pub returns-clause-err : goal.returns-clause-err
returns-clause-err c = refused_step c.args.world.now c.args.step.now c.step-taken.result c.step-taken.new.self c.step-taken.ensures.refused c.step-taken.ensures.memory

pub returns-clause-moments : goal.returns-clause-moments
returns-clause-moments c =
    let w = c.args.world.now in
    let step = c.args.step.now in
    taken_moments w c.args.number step c.step-taken.result c.step-taken.new.self c.find_room.new.moments.items c.raise.new.moments.items (length c.as_slice.result.now) (length c.lines-lines.result.now) c.moment_of-given.result c.lines.result.now
    (c.in-Ok.ensures.keeps w.world c.requires.moments)
    (ap (λ (l : List Named). length l) (c.as_slice.ensures ∙ c.named.ensures) ∙ length-map c.world-before.result.now.ends named_of ∙ ap (λ (x : Seen). length x.ends) c.world-before.ensures)
    c.in-Ok.ensures.room c.requires.in_time
    (c.moment_of-given.ensures ∙ ap (λ m. moment_of m step) (c.moment.ensures ∙ ap (λ (x : Seen). x.moment) c.world-before.ensures))
    (ap (λ (l : List JournalLine). length l) (c.lines-lines.ensures ∙ c.journal.ensures.lines) ∙ ap (λ (x : Seen). length x.lines) c.world-before.ensures)
    (c.lines.ensures ∙ c.journal-2.ensures.lines ∙ ap (λ (x : Seen). x.lines) c.world.ensures)
    c.step-taken.ensures.flat c.step-taken.ensures.err c.raise.ensures
