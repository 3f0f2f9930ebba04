use Rattle.std.proofs.Common.{sym, ◌∙◌, ◌≡◌}
use Rattle.cookies.specs.declared.CookieTest.TheVariants.{Current, Moved}
use Rattle.log_births.proofs.Tests.{no_current}
use Rattle.log_births.proofs.offers.is_current.Goals as goal

pub returns-in-Moved : goal.returns-in-Moved
returns-in-Moved c =
    no_current c.args.cookies.now c.args.cookie.now c.args.from.now c.args.now c.test.result c.test.ensures.right
    (λ e. let clash : Moved ≡ Current = sym c.in-Moved.is ∙ e in absurd cc)
