use Rattle.std.proofs.Common.{sym, ◌∙◌}
use Rattle.end_chunks.proofs.Lingering.{held_lingers, other_lingers}
use Rattle.end_chunks.proofs.closing.end_by_peer.Goals as goal

pub returns-then-holds : goal.returns-then-holds
returns-then-holds c =
    held_lingers c.args.end.now c.end_session-told.new.self c.linger.new.self c.args.near c.end_session-told.result (sym c.holds.ensures ∙ c.if-holds.true) c.end_session-told.ensures c.linger.ensures

pub returns-else-holds : goal.returns-else-holds
returns-else-holds c = other_lingers c.args.end.now c.linger-else-holds.new.self c.args.near (sym c.holds.ensures ∙ c.if-holds.false) c.linger-else-holds.ensures
