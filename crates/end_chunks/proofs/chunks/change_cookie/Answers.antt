use Rattle.std.proofs.Common.{sym, subst}
use Rattle.startup.specs.Attempts.{after_change, changed}
use Rattle.startup.specs.Judging.{IsFound}
use Rattle.endpoint_model.specs.State.{State}
use Rattle.end_chunks.proofs.Constants.{change_keeps}
use Rattle.end_chunks.proofs.Keyed.{kept_end}
use Rattle.end_chunks.proofs.chunks.change_cookie.Goals as goal

pub invariant_of-end : goal.invariant_of-end
invariant_of-end c =
    let i = c.end.inside in
    let chosen = changed c.args.end.now.startup.attempts c.requires.found.0 c.requires.found.1.0 in
    let is : IsFound i.startup c.args.found chosen = subst (λ (s : State). IsFound s.startup c.args.found chosen) (sym c.end.view_is) c.requires.found.1.1 in
    kept_end i.settings i.print i.startup c.apply_cookie_change-answer.new.self (after_change i.startup chosen c.args.new.now i.moment) c.end.invariant
    (change_keeps i.startup chosen c.args.new.now i.moment) (c.apply_cookie_change-answer.ensures.after chosen is)
