use Rattle.std.proofs.Common.{ℕ, List, IfOk, refl, sym, subst}
use Rattle.std.specs.Option.{option_copied}
use Rattle.endpoint_model.specs.declared.entry.Entry.{Entry}
use Rattle.endpoint_model.specs.Event.{Event, moment_at, receive_in}
use Rattle.endpoint_laws.specs.Past.{with_begun}
use Rattle.log_values.specs.Events.{event_of}
use Rattle.log_arrivals.proofs.Telling.{it_tells}
use Rattle.log_judging.specs.Entries.{AreJudged}
use Rattle.log_judging.proofs.Beginning.{it_begins}
use Rattle.log_judging.proofs.begun.judge_begun.Goals as goal

pub returns : goal.returns
returns c = λ setup last past stated party watch nonces arrived.
    let e : Event = event_of c.args.event.now in
    let now : ℕ = moment_at last e in
    subst (λ (entries : List Entry). IfOk c.judge_entries.result
    (AreJudged c.args.secrets.now c.args.number setup now e.call (with_begun now e past) stated 0 entries c.judge_entries.new.watch c.judge_entries.new.nonces))
    c.as_slice.ensures.value
    (c.judge_entries.ensures setup now e past stated
    (it_begins c.args.secrets.now setup now e past stated _ c.args.arriving.now c.reads-packet.result (option_copied c.as_ref.result) c.begin_call-took.new.self c.args.nonces.now
    party refl c.plain.ensures c.as_ref.ensures.value
    (it_tells.arrives c.args.secrets.now setup past (receive_in e.call) c.args.arriving.now c.args.arrived.now arrived)
    (c.begin_call-took.ensures c.args.secrets.now setup last past e watch refl (sym c.moment_of.ensures) refl arrived)
    c.reads-packet.ensures.reads c.reads-packet.ensures.only nonces))
