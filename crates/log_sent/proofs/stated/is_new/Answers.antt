use Rattle.std.proofs.Common.{◌∙◌, ap, not, subst, sym, List, ℕ, Option}
use Rattle.log_sent.specs.Nonces.{AreNew, listed}
use Rattle.log_sent.proofs.Stating.{one_is_new, new_is_one}
use Rattle.log_sent.proofs.stated.is_new.Goals as goal

pub returns-in-Some-clause-yes : goal.returns-in-Some-clause-yes
returns-in-Some-clause-yes c = λ before are e.
    subst (λ (o : Option (List ℕ)). AreNew (listed o) before) (sym c.in-Some.is)
    (one_is_new before c.args.nonces.now c.in-Some.nonce are (sym (ap not c.has.ensures) ∙ e))

pub returns-in-Some-clause-no : goal.returns-in-Some-clause-no
returns-in-Some-clause-no c = λ before are new.
    ap not c.has.ensures
    ∙ new_is_one before c.args.nonces.now c.in-Some.nonce are (subst (λ (o : Option (List ℕ)). AreNew (listed o) before) c.in-Some.is new)
