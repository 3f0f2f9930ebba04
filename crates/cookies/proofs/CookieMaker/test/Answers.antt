use Rattle.std.proofs.Common.{subst, sym, arith}
use Rattle.cookies.specs.declared.CookieTest.{CookieTest}
use Rattle.cookies.specs.Cookie.{IsAnswer}
use Rattle.cookies.proofs.Reading.{right_answer}
use Rattle.cookies.proofs.CookieMaker.test.Goals as goal

pub returns-clause-right : goal.returns-clause-right
returns-clause-right c =
    subst (λ (answer : CookieTest). IsAnswer c.args.self.now c.args.bytes.now c.args.from.now c.args.moment answer) (sym c.answer.ensures)
    (right_answer c.args.self.now c.args.bytes.now c.args.from.now c.args.moment c.read.result (λ i. let fits = c.type_inv.bytes i in omega arith) c.read.ensures)
