use Rattle.std.proofs.Common.{ap, is_some, ◌∙◌}
use Rattle.glare_core.specs.declared.facts.Why.TheVariants.{Cancelled}
use Rattle.startup.specs.Attempts.{lowest, has_number, cancel_fact, after_cancel}
use Rattle.startup.proofs.Startups.{held_at, ended_is_kept, end_told, end_left}
use Rattle.startup.proofs.startup.Startup.cancel.Goals as goal

pub end_at-requires-clause-there : goal.end_at-requires-clause-there
end_at-requires-clause-there c = ap is_some c.in-Some.ensures.there

pub end_at-requires-clause-held : goal.end_at-requires-clause-held
end_at-requires-clause-held c b at =
    let i = c.self.inside in
    let chosen = c.in-Some.ensures in
    held_at i.cert i.print i.cookies i.peers i.attempts.attempts i.kept.keyings c.self.invariant c.in-Some.found.near c.in-Some.found.attempt.now chosen.there b at

pub invariant_of-self : goal.invariant_of-self
invariant_of-self c =
    let i = c.self.inside in
    let chosen = c.in-Some.ensures in
    ended_is_kept i.cert i.print i.cookies i.peers i.attempts.attempts i.kept.keyings c.self.invariant c.in-Some.found.near c.in-Some.found.attempt.now chosen.there Cancelled c.end_at.result c.end_at.ensures.fact c.end_at.new.peers c.end_at.new.attempts.attempts c.end_at.ensures.ledger c.end_at.ensures.gone

pub returns-in-Some-clause-fact : goal.returns-in-Some-clause-fact
returns-in-Some-clause-fact c =
    let i = c.self.inside in
    let chosen = c.in-Some.ensures in
    end_told i.cert i.print i.cookies i.peers i.attempts.attempts i.kept.keyings c.self.invariant c.in-Some.found.near c.in-Some.found.attempt.now chosen.there Cancelled c.end_at.result c.end_at.ensures.fact c.end_at.new.peers c.end_at.new.attempts.attempts c.end_at.ensures.ledger c.end_at.ensures.gone
    (lowest (has_number c.args.n) i.attempts.attempts) chosen.chosen_is
    ∙ ap (λ s. cancel_fact s c.args.n) c.self.view_is

pub returns-in-Some-clause-after : goal.returns-in-Some-clause-after
returns-in-Some-clause-after c =
    let i = c.self.inside in
    let chosen = c.in-Some.ensures in
    end_left i.cert i.print i.cookies i.peers i.attempts.attempts i.kept.keyings c.self.invariant c.in-Some.found.near c.in-Some.found.attempt.now chosen.there Cancelled c.end_at.result c.end_at.ensures.fact c.end_at.new.peers c.end_at.new.attempts.attempts c.end_at.ensures.ledger c.end_at.ensures.gone
    (lowest (has_number c.args.n) i.attempts.attempts) chosen.chosen_is
    ∙ ap (λ s. after_cancel s c.args.n) c.self.view_is
