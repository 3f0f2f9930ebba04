use Rattle.std.proofs.Common.{◌<◌, ℕ, Option, length, sym, ◌∙◌, subst, arith}
use Rattle.rendezvous_world.specs.Sent.{sent_in}
use Rattle.rendezvous_world.specs.Keyed.{IsLast}
use Rattle.rendezvous_world.proofs.Keying.{IsLeft, count_left, fewer_left, left_all, left_over, left_found, left_before, inside_left}
use Rattle.rendezvous_world.proofs.forgery.is_sent_by_key.Goals as goal

pub loop-last-init : goal.loop-last-init
loop-last-init c =
    left_all c.args.bytes.now c.args.context.now c.args.keyed.now (sent_in c.args.lines.now) c.last-last.result c.requires.keys c.requires.all
    (subst (λ (k : ℕ). IsLast c.last-last.result k c.args.keyed.now) c.key_of.ensures c.last-last.ensures)

pub returns-then-is_sent_as : goal.returns-then-is_sent_as
returns-then-is_sent_as c =
    let sent = sent_in c.args.lines.now in
    let left = subst (λ (o : Option ℕ). IsLeft c.args.bytes.now c.args.context.now sent o) c.in-Some.is c.loop-last.invariant in
    sym (left_found c.args.bytes.now c.args.context.now sent c.in-Some.at left (sym c.is_sent_as.ensures ∙ c.if-is_sent_as.true))

pub before-last-requires : goal.before-last-requires
before-last-requires c =
    let sent = sent_in c.args.lines.now in
    let left = subst (λ (o : Option ℕ). IsLeft c.args.bytes.now c.args.context.now sent o) c.in-Some.is c.loop-last.invariant in
    let inside : c.in-Some.at < length sent = inside_left c.args.bytes.now c.args.context.now sent c.in-Some.at left in
    omega (arith, inside, c.requires.all)

pub loop-last-smaller : goal.loop-last-smaller
loop-last-smaller c =
    subst (λ (o : Option ℕ). count_left c.before-last.result < count_left o) (sym c.in-Some.is)
    (fewer_left c.before-last.result c.in-Some.at _ c.args.keyed.now c.before-last.ensures)

pub loop-last-preserved : goal.loop-last-preserved
loop-last-preserved c =
    let sent = sent_in c.args.lines.now in
    let left = subst (λ (o : Option ℕ). IsLeft c.args.bytes.now c.args.context.now sent o) c.in-Some.is c.loop-last.invariant in
    left_before c.args.bytes.now c.args.context.now c.args.keyed.now sent c.in-Some.at c.before-last.result c.requires.keys c.requires.all left
    (sym c.is_sent_as.ensures ∙ c.if-is_sent_as.false) c.before-last.ensures

pub returns : goal.returns
returns c = sym (left_over c.args.bytes.now c.args.context.now (sent_in c.args.lines.now) c.loop-last.last c.in_default.not-Some c.loop-last.invariant)
