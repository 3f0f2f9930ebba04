use Rattle.std.proofs.Common.{ap, ◌∙◌}
use Rattle.std.specs.FinMap.{get}
use Rattle.startup.specs.State.{StartupState, peer_of_attempt}
use Rattle.startup.specs.Rows.{state_of}
use Rattle.startup_packets.specs.Read.{responder_of}
use Rattle.startup.proofs.Stepping.{opened_is_kept_sound}
use Rattle.startup.proofs.startup.Startup.apply_responder_keying.Goals as goal

pub invariant_of-self : goal.invariant_of-self
invariant_of-self c =
    let s : StartupState = state_of c.self.inside.cert c.self.inside.cookies c.self.inside.peers c.self.inside.attempts.attempts c.self.inside.kept.keyings in
    record {
      print_is = c.self.invariant.print_is;
      sound = opened_is_kept_sound s c.args.near c.args.peer.now (responder_of c.args.fields.now) c.in-Some.fact c.answer.new.self c.forget.new.self.attempts
          c.self.invariant.sound (ap (λ (t : StartupState). peer_of_attempt (get t.attempts c.args.near)) c.self.view_is ∙ c.requires.peer)
          c.in-Some.ensures.fact c.in-Some.ensures.ledger c.forget.ensures;
    }
