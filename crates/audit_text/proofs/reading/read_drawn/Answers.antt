use Rattle.std.proofs.lemmas.Result.{err_from_is_err_and}
use Rattle.audit_text.specs.Readings.{call_of, drawn_of}
use Rattle.audit_text.proofs.Memories.{event_takes}
use Rattle.audit_text.proofs.reading.read_drawn.Goals as goal

pub returns-in_err-call-clause-memory : goal.returns-in_err-call-clause-memory
unfolding drawn_of
returns-in_err-call-clause-memory c =
    let p = err_from_is_err_and c.from_residual.result c.from_residual.ensures.1 in
    rw p.1 (event_takes c.args.name c.args.moment c.args.nonce (call_of c.args.rest.now) c.in_err-call.ensures.memory)
