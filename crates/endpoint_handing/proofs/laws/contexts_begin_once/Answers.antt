use Rattle.endpoint_handing.proofs.Once.{begins_once, names_sender, names_taker, held_sends, held_takes, context_is_new}
use Rattle.endpoint_handing.proofs.laws.contexts_begin_once.Goals as goal

pub returns-clause-once : goal.returns-clause-once
returns-clause-once c = begins_once

pub returns-clause-sender : goal.returns-clause-sender
returns-clause-sender c = names_sender

pub returns-clause-taker : goal.returns-clause-taker
returns-clause-taker c = names_taker

pub returns-clause-held : goal.returns-clause-held
returns-clause-held c = held_sends

pub returns-clause-held_taking : goal.returns-clause-held_taking
returns-clause-held_taking c = held_takes

pub returns-clause-new : goal.returns-clause-new
returns-clause-new c = context_is_new
