use Rattle.std.proofs.Common.{sym, ap, ◌∙◌, refl}
use Rattle.rendezvous_world.specs.Beginning.{setup_given}
use Rattle.world_logs.proofs.HeadsTold.{head_written}
use Rattle.world_logs.proofs.heads.push_head_at.Goals as goal

pub returns : goal.returns
returns c =
    let ends = c.args.world.now.ends in
    let setup = setup_given c.in-Some.given in
    head_written ends c.args.number c.in-Some-get.named.now setup c.as_slice.result.now c.args.text.now c.push_head.new.text (c.as_slice.ensures ∙ c.named.ensures) c.in-Some.ensures.there c.in-Some-get.ensures.lookup.1 c.in-Some.ensures.given
    (c.in_ok-push_head.ensures setup refl refl refl refl refl refl)
