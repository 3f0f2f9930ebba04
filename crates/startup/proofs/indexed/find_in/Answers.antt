use Rattle.std.proofs.Common.{◌≡◌, ◌∙◌, sym, ap, true}
use Rattle.std.specs.FinMap.{get}
use Rattle.startup.specs.Sought.{fits}
use Rattle.startup.proofs.Choices.{got_is, never_none}
use Rattle.startup.proofs.Indices.{none_by_word, one_by_word, not_by_word}
use Rattle.startup.proofs.indexed.find_in.Goals as goal

pub returns-in_default : goal.returns-in_default
returns-in_default c =
    let whole : c.args.index.now.whole ≡ true = sym c.is_whole.ensures ∙ c.if-not-is_whole.false in
    none_by_word (fits c.args.sought.now) c.args.index.now c.args.word c.args.table.now.attempts c.requires whole (sym c.get.ensures ∙ c.in_default.is)

pub returns-then-fits : goal.returns-then-fits
returns-then-fits c =
    let whole : c.args.index.now.whole ≡ true = sym c.is_whole.ensures ∙ c.if-not-is_whole.false in
    one_by_word (fits c.args.sought.now) c.args.index.now c.args.word c.args.table.now.attempts c.requires whole c.in-Some.near (sym c.get.ensures ∙ c.in-Some.is) c.in-Some-get.attempt.now (sym c.in-Some-get.ensures) (sym c.fits.ensures ∙ c.if-fits.true)

pub returns : goal.returns
returns c =
    let whole : c.args.index.now.whole ≡ true = sym c.is_whole.ensures ∙ c.if-not-is_whole.false in
    not_by_word (fits c.args.sought.now) c.args.index.now c.args.word c.args.table.now.attempts c.requires whole c.in-Some.near (sym c.get.ensures ∙ c.in-Some.is)
    (λ a there. ap (fits c.args.sought.now) (got_is c.args.table.now.attempts c.in-Some.near a c.in-Some-get.attempt.now there (sym c.in-Some-get.ensures)) ∙ sym c.fits.ensures ∙ c.if-fits.false)

pub returns-in_default-get : goal.returns-in_default-get
returns-in_default-get c =
    let whole : c.args.index.now.whole ≡ true = sym c.is_whole.ensures ∙ c.if-not-is_whole.false in
    not_by_word (fits c.args.sought.now) c.args.index.now c.args.word c.args.table.now.attempts c.requires whole c.in-Some.near (sym c.get.ensures ∙ c.in-Some.is)
    (λ a there. absurd (never_none a (get c.args.table.now.attempts c.in-Some.near) c.in_default-get.ensures there))
