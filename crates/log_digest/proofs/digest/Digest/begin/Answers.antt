use Rattle.std.proofs.Common.{subst, sym, ap, ◌∙◌, max}
use Rattle.endpoint_model.specs.Event.{moment_at}
use Rattle.endpoint_laws.specs.Past.{with_begun}
use Rattle.log_digest.specs.Kept.{Digested}
use Rattle.log_digest.specs.Digest.{IsDigestOf}
use Rattle.log_digest.proofs.Digesting.{digest_begun}
use Rattle.log_digest.proofs.digest.Digest.begin.Goals as goal

pub returns-clause-log : goal.returns-clause-log
returns-clause-log c = λ last past e is at draws.
    subst (IsDigestOf (moment_at last e) (with_begun (moment_at last e) e past)) (sym (
    let counted = c.max-self-inside.ensures ∙ ap (λ (d : Digested). max d.moment c.args.moment) c.self.view_is in
    (λ i. record { moment = counted i; drawn = c.args.drawn; roll = ap (λ (d : Digested). d.roll) c.self.view_is i; spots = ap (λ (d : Digested). d.spots) c.self.view_is i })
    ))
    (digest_begun last past c.args.self.now e c.args.moment c.args.drawn is at draws)
