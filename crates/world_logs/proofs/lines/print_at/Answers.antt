use Rattle.std.proofs.Common.{◌<◌, length, sym, ap, ◌∙◌, arith, subst, ◌≤◌, ℕ}
use Rattle.std.proofs.lemmas.Bool.{ltb-true}
use Rattle.std.proofs.lemmas.List.{length-map}
use Rattle.rendezvous_world.specs.Inside.{named_of}
use Rattle.rendezvous_world.proofs.Entered.{print_named}
use Rattle.world_logs.proofs.LinesTold.{nobody_at}
use Rattle.world_logs.proofs.lines.print_at.Goals as goal

pub returns-in-Some : goal.returns-in-Some
returns-in-Some c = λ ends same.
    let found = c.in-Some.ensures.lookup in
    let here : c.args.end < length c.args.named.now = ltb-true c.args.end (length c.args.named.now) (sym found.0) in
    let lt : c.args.end < length ends = subst (λ (n : ℕ). c.args.end < n) (ap length same ∙ length-map ends named_of) here in
    print_named ends c.args.named.now c.args.end c.in-Some.named.now same lt found.1

pub returns-in-None : goal.returns-in-None
returns-in-None c = λ ends same.
    let none = c.in-None.ensures.lookup in
    let past : length ends ≤ c.args.end = subst (λ (n : ℕ). n ≤ c.args.end) (ap length same ∙ length-map ends named_of) none.3 in
    c.digest.ensures ∙ sym (nobody_at ends c.args.end past)
