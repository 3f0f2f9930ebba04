use Rattle.std.proofs.Common.{ap, ◌∙◌}
use Rattle.session_core.specs.Session.{SessionState}
use Rattle.session_core.specs.Sealed.{sealed_part}
use Rattle.session_core.proofs.Seals.{sealed_next}
use Rattle.session_core.proofs.session.Session.seal_part.Goals as goal

pub returns-clause-sealed : goal.returns-clause-sealed
returns-clause-sealed c =
    let s : SessionState = record {
      joined = c.self.inside.joined;
      own = c.self.inside.own;
      role = c.self.inside.role;
      generation = c.self.inside.generation;
      inward = c.self.inside.inward;
      outward = c.self.inside.outward;
      address = c.self.inside.address;
      stage = c.self.inside.stage;
      since = c.self.inside.since;
      window = c.self.inside.window;
      sealed = c.self.inside.sealed;
      stamp = c.self.inside.stamp;
      taken = c.self.inside.taken;
      keepalive = c.self.inside.keepalive;
      close_sent = c.self.inside.close_sent;
      trip = c.self.inside.trip;
      congestion = c.self.inside.congestion;
    } in
    c.seal_into.ensures
    ∙ sealed_next s c.number_of_count-number.result c.bytes.result.now c.args.packet.now
    c.number_of_count-number.ensures c.bytes.ensures.bytes
    ∙ ap (λ st. sealed_part st c.args.packet.now) c.self.view_is
