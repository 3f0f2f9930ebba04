use Rattle.std.proofs.Common.{sym, subst, ◌∙◌}
use Rattle.rtmfp_packet.specs.declared.head.Mode.{Mode}
use Rattle.log_arrivals.specs.Arrived.{HasMode}
use Rattle.log_arrivals.proofs.Sessions.{not_in, not_taken, opens_there}
use Rattle.log_arrivals.proofs.given.in_session.Goals as goal

pub returns-in_default : goal.returns-in_default
returns-in_default c = record {
  some = λ secrets setup past is. tt;
  none = λ secrets setup past is. not_in secrets setup past c.args.datagram.now c.args.opener.now c.args.arrived.now is c.in_default.not-Session;
}

pub returns-in_default-taking : goal.returns-in_default-taking
returns-in_default-taking c = record {
  some = λ secrets setup past is. tt;
  none = λ secrets setup past is. not_taken secrets setup past c.args.datagram.now c.args.opener.now c.args.arrived.now is c.in_default-taking.not-Session;
}

pub returns-clause-some : goal.returns-clause-some
returns-clause-some c = λ secrets setup past is.
    opens_there secrets setup past c.args.datagram.now c.args.opener.now c.args.arrived.now is c.in_ok-near.near c.in-Session-taking.thing c.in-Session-taking.generation
    c.in-Session.is c.in-Session-taking.is (sym c.sid_of.ensures ∙ c.in_ok-near.was) c.count_in.result c.fits.result c.count_in.ensures
    (subst (λ (m : Mode). HasMode c.args.opener.now m c.fits.result) c.inward_mode.ensures c.fits.ensures)
