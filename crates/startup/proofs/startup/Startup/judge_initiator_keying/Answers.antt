use Rattle.std.proofs.Common.{◌≡◌, sym, ap, ◌∙◌, rules}
use Rattle.cookies.specs.declared.CookieTest.TheVariants.{Current}
use Rattle.cookies.specs.Cookie.{cookie_test}
use Rattle.startup.specs.State.{StartupState}
use Rattle.startup_packets.specs.Readings.{InitiatorKeying}
use Rattle.startup_packets.specs.Read.{initiator_of}
use Rattle.startup.proofs.Judged.{current_judged}
use Rattle.startup.proofs.startup.Startup.judge_initiator_keying.Goals as goal

pub returns-in-Current : goal.returns-in-Current
returns-in-Current c =
    let read : InitiatorKeying = initiator_of c.args.fields.now in
    let current : cookie_test c.args.self.now.cookie_secret read.cookie c.args.from.now c.args.moment ≡ Current =
    sym (c.test.ensures.exact ∙ ap (λ (t : StartupState). cookie_test t.cookie_secret read.cookie c.args.from.now c.args.moment) c.self.view_is) ∙ c.in-Current.is in
    c.judge_named.ensures
    ∙ current_judged c.args.self.now c.args.fields.now.payload.now c.args.from.now c.args.moment c.args.full c.args.under.now read (sym c.has_signed.ensures ∙ c.if-not-has_signed.false) (sym c.wide.ensures ∙ c.in-None.is) current

-- so that a wrong body is refused fast
pub returns-in-Moved : goal.returns-in-Moved
returns-in-Moved c = search rules
