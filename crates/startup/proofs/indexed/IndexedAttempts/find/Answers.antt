use Rattle.std.proofs.Common.{ℕ, ◌≡◌, true, ◌∙◌, List, sym, ap, subst, arith}
use Rattle.std.specs.FinMap.{get}
use Rattle.startup.specs.declared.rows.Sought.{Sought}
use Rattle.startup.specs.Attempts.{lowest}
use Rattle.startup.specs.Sought.{fits}
use Rattle.startup.specs.Table.{Table}
use Rattle.startup.specs.declared.marks.Mark.{Mark}
use Rattle.startup.specs.Marks.{StandsFrom}
use Rattle.startup.proofs.Indices.{found_by_number, found_by_tag}
use Rattle.startup.proofs.Marking.{found_by_cookie}
use Rattle.startup.proofs.Widths.{no_such_tag, no_such_cookie}
use Rattle.startup.proofs.indexed.IndexedAttempts.find.Goals as goal

pub find_in-requires : goal.find_in-requires
find_in-requires c whole near a there t =
    let i = c.self.inside in
    found_by_number i.numbers i.table.attempts c.in-Number.n c.self.invariant.0 whole near a there (ap (λ (x : Sought). fits x a) (sym c.in-Number.is) ∙ t)

pub find_in-requires-in-Tag : goal.find_in-requires-in-Tag
find_in-requires-in-Tag c whole near a there t =
    let i = c.self.inside in
    ap (get i.tags.nears) c.word_of.ensures ∙ found_by_tag i.tags i.table.attempts c.in-Tag.tag.now c.self.invariant.1 whole near a there (ap (λ (x : Sought). fits x a) (sym c.in-Tag.is) ∙ t)

pub find_marked-requires-clause-marked : goal.find_marked-requires-clause-marked
find_marked-requires-clause-marked c near a there t =
    let i = c.self.inside in
    let whole : i.cookies.whole ≡ true = sym c.is_whole.ensures ∙ c.if-not-is_whole.false in
    subst (λ (l : List Mark). StandsFrom l 0 (record { word = c.cookie_word.result; near = near })) (sym c.in_order.ensures.marks)
    (subst (λ (w : ℕ). StandsFrom i.cookies.marks 0 (record { word = w; near = near })) (sym c.cookie_word.ensures)
    (found_by_cookie i.cookies i.table.attempts c.in-Cookie.cookie.now c.self.invariant.2 whole near a there (ap (λ (x : Sought). fits x a) (sym c.in-Cookie.is) ∙ t)))

pub returns-then-tag-ne-TAG : goal.returns-then-tag-ne-TAG
returns-then-tag-ne-TAG c =
    let attempts = c.self.inside.table.attempts in
    ap (λ (t : Table). lowest (fits c.args.sought.now) t.attempts) (sym c.self.view_is) ∙ ap (λ (x : Sought). lowest (fits x) attempts) c.in-Tag.is ∙ no_such_tag attempts c.in-Tag.tag.now c.self.invariant.3 (λ same. omega (arith, same, c.if-tag-ne-TAG.true))

pub returns-then-cookie-gt-COOKIE_LIMIT : goal.returns-then-cookie-gt-COOKIE_LIMIT
returns-then-cookie-gt-COOKIE_LIMIT c =
    let attempts = c.self.inside.table.attempts in
    ap (λ (t : Table). lowest (fits c.args.sought.now) t.attempts) (sym c.self.view_is) ∙ ap (λ (x : Sought). lowest (fits x) attempts) c.in-Cookie.is ∙ no_such_cookie attempts c.in-Cookie.cookie.now c.self.invariant.3 (omega (arith, c.if-cookie-gt-COOKIE_LIMIT.true))
