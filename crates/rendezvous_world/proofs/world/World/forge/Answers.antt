use Rattle.std.proofs.Common.{ℕ, ◌≤◌, length, sym, ap, ◌∙◌, subst, arith}
use Rattle.rendezvous_world.specs.declared.step.Step.{Step}
use Rattle.rendezvous_world.specs.Datagrams.{forged}
use Rattle.rendezvous_world.specs.Seen.{generation_at}
use Rattle.rendezvous_world.specs.Entering.{IsBringing}
use Rattle.rendezvous_world.proofs.Refusing.{there_is}
use Rattle.rendezvous_world.proofs.Fetching.{bringing_forge, few_test}
use Rattle.rendezvous_world.proofs.world.World.forge.Goals as goal

pub generation_at-generation-requires : goal.generation_at-generation-requires
generation_at-generation-requires c = there_is c.args.self.now c.args.end (sym c.lacks.ensures ∙ c.if-lacks.false)

pub bring-requires : goal.bring-requires
bring-requires c =
    let few : length c.args.plain.now ≤ 1164 = omega (arith, c.len.ensures, c.if-len-gt-PLAIN.false) in
    let small : length c.forge.new.buffer ≤ 2048 = omega (arith, few, c.len-2.ensures, c.forge.auto.buffer, c.split_at_mut-datagram.ensures.front_len) in
    subst (λ (s : Step). IsBringing c.args.self.now c.args.line c.args.end s c.forge.new.buffer) (sym c.requires.step)
    (bringing_forge c.args.self.now c.args.line c.args.end c.args.from.now c.forge.new.buffer c.requires.above c.requires.fits (sym c.lacks.ensures ∙ c.if-lacks.false) small
    c.args.plain.now (few_test (length c.args.plain.now) few)
    (sym (c.forge.ensures ∙ ap (λ (g : ℕ). forged g c.bytes.result.now) c.generation_at-generation.ensures ∙ ap (forged (generation_at c.args.self.now.ends c.args.end)) c.bytes.ensures)))
