use Rattle.std.proofs.Common.{◌≡◌, true, false, None, Some, sym, subst, ap, ◌∙◌}
use Rattle.std.specs.FinMap.{get}
use Rattle.glare_core.specs.Calls.{start_refusal, started_fact}
use Rattle.startup.specs.Aims.{is_search}
use Rattle.startup.specs.State.{AttemptState, StartupState}
use Rattle.startup.specs.Table.{Table, in_attempt}
use Rattle.startup.specs.Rows.{IsStartup}
use Rattle.startup.specs.Attempts.{has_search, is_search_in, after_start, met}
use Rattle.startup.proofs.Choices.{got_is}
use Rattle.startup.proofs.Startups.{met_state, met_is_kept}
use Rattle.startup.proofs.startup.Startup.start_search.Goals as goal

pub unreachable-requires : goal.unreachable-requires
unreachable-requires c =
    let clash : false ≡ true = ap is_search_in c.in-None.ensures ∙ ap (λ (t : StartupState). has_search t c.args.near) c.self.view_is ∙ c.requires.search in
    cc

pub invariant_of-self : goal.invariant_of-self
invariant_of-self c =
    let i = c.self.inside in
    subst (λ (t : Table). IsStartup i.cert i.print i.cookies i.peers t.attempts i.kept.keyings) (sym c.reserve_number.ensures) c.self.invariant

pub invariant_of-self-2 : goal.invariant_of-self-2
invariant_of-self-2 c =
    let i = c.self.inside in
    let a : AttemptState = c.in-Some.search.now in
    let there : get i.attempts.attempts c.args.near ≡ Some a = sym c.in-Some.ensures in
    let searches : is_search a.aim ≡ true = ap is_search_in c.in-Some.ensures ∙ ap (λ (t : StartupState). has_search t c.args.near) c.self.view_is ∙ c.requires.search in
    let startable : start_refusal i.peers c.args.print.now ≡ None = ap (λ (t : StartupState). start_refusal t.ledger c.args.print.now) c.self.view_is ∙ c.requires.free in
    let changed = c.change.ensures ∙ ap (λ (t : Table). in_attempt (λ (b : AttemptState). met b c.args.print.now c.started-n.result c.args.from.now c.args.cookie.now c.args.moment c.args.under.now) t.attempts c.args.near) c.reserve_number.ensures in
    met_is_kept i.cert i.print i.cookies i.peers i.attempts.attempts i.kept.keyings c.self.invariant c.args.near a there searches c.args.print.now c.args.from.now c.args.cookie.now c.args.moment c.started-n.result c.args.under.now startable
    c.start.new.self c.in-Ok-start.fact (c.in-Ok-start.ensures.ok.0 ∙ ap (λ (x : AttemptState). started_fact i.peers c.args.print.now c.args.near x.ni) c.search.view_is) c.in-Ok-start.ensures.ok.1 c.started-n.ensures.started c.change.new.self.attempts changed

pub returns-clause-fact : goal.returns-clause-fact
returns-clause-fact c b at =
    let i = c.self.inside in
    let same = got_is i.attempts.attempts c.args.near c.in-Some.search.now b (sym c.in-Some.ensures) (ap (λ (t : StartupState). get t.attempts c.args.near) c.self.view_is ∙ at) in
    c.in-Ok-start.ensures.ok.0 ∙ ap (λ (x : AttemptState). started_fact i.peers c.args.print.now c.args.near x.ni) c.search.view_is
    ∙ ap (λ (t : StartupState). started_fact t.ledger c.args.print.now c.args.near c.in-Some.search.now.ni) c.self.view_is
    ∙ ap (λ (x : AttemptState). started_fact c.args.self.now.ledger c.args.print.now c.args.near x.ni) same

pub returns-clause-after : goal.returns-clause-after
returns-clause-after c b at =
    let i = c.self.inside in
    let a : AttemptState = c.in-Some.search.now in
    let there : get i.attempts.attempts c.args.near ≡ Some a = sym c.in-Some.ensures in
    let searches : is_search a.aim ≡ true = ap is_search_in c.in-Some.ensures ∙ ap (λ (t : StartupState). has_search t c.args.near) c.self.view_is ∙ c.requires.search in
    let startable : start_refusal i.peers c.args.print.now ≡ None = ap (λ (t : StartupState). start_refusal t.ledger c.args.print.now) c.self.view_is ∙ c.requires.free in
    let changed = c.change.ensures ∙ ap (λ (t : Table). in_attempt (λ (b : AttemptState). met b c.args.print.now c.started-n.result c.args.from.now c.args.cookie.now c.args.moment c.args.under.now) t.attempts c.args.near) c.reserve_number.ensures in
    let same = got_is i.attempts.attempts c.args.near a b there (ap (λ (t : StartupState). get t.attempts c.args.near) c.self.view_is ∙ at) in
    met_state i.cert i.print i.cookies i.peers i.attempts.attempts i.kept.keyings c.self.invariant c.args.near a there searches c.args.print.now c.args.from.now c.args.cookie.now c.args.moment c.started-n.result c.args.under.now startable
    c.start.new.self c.in-Ok-start.fact (c.in-Ok-start.ensures.ok.0 ∙ ap (λ (x : AttemptState). started_fact i.peers c.args.print.now c.args.near x.ni) c.search.view_is) c.in-Ok-start.ensures.ok.1 c.started-n.ensures.started c.change.new.self.attempts changed
    ∙ ap (λ (t : StartupState). after_start t c.args.print.now c.args.near a c.args.from.now c.args.cookie.now c.args.moment c.args.under.now) c.self.view_is
    ∙ ap (λ (x : AttemptState). after_start c.args.self.now c.args.print.now c.args.near x c.args.from.now c.args.cookie.now c.args.moment c.args.under.now) same
