use Rattle.std.proofs.Common.{ap, ◌∙◌, ◌≡◌, sym, subst, Ok, Err, IfSome, IfNone, Result}
use Rattle.glare_core.specs.declared.answers.Heard.{Heard}
use Rattle.glare_core.specs.declared.answers.Heard.TheVariants.{Birth}
use Rattle.glare_core.specs.declared.answers.HearRefusal.{HearRefusal}
use Rattle.glare_core.specs.declared.answers.Judged.{Judged}
use Rattle.glare_core.proofs.Judging.{birth_so}
use Rattle.glare_core.proofs.peers.Peers.hear.Goals as goal

pub returns-in-Ok-clause-refused : goal.returns-in-Ok-clause-refused
returns-in-Ok-clause-refused c =
    let so = birth_so c.args.self.now c.args.keying.now c.args.free c.in-Ok-Birth.way (sym c.in-Ok-Birth.ensures ∙ ap (λ (j : Judged). Ok j) c.in-Ok-Birth.field-0-is) in
    let given : Result Heard HearRefusal = Ok (Birth c.in-Ok.ended c.in-Ok.born) in
    subst (λ o. IfSome o (λ refusal. given ≡ Err refusal)) (sym so.heard) tt

pub returns-in-Ok-clause-memory : goal.returns-in-Ok-clause-memory
returns-in-Ok-clause-memory c =
    let so = birth_so c.args.self.now c.args.keying.now c.args.free c.in-Ok-Birth.way (sym c.in-Ok-Birth.ensures ∙ ap (λ (j : Judged). Ok j) c.in-Ok-Birth.field-0-is) in
    subst (λ o. IfNone o (Unit {0})) (sym so.heard) tt
