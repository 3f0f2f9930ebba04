use Rattle.log_values.specs.Events.{call_of}
use Rattle.log_facts.proofs.Hearing.{confirmed_tells}
use Rattle.log_facts.proofs.sessions.confirmed.Goals as goal

pub returns : goal.returns
returns c = λ secrets setup past nonce plain peer arrives stands stood.
    confirmed_tells secrets setup past plain peer c.args.near c.args.arrival (call_of nonce c.args.call.now) arrives stands stood c.is_confirmed.result (c.is_confirmed.ensures nonce)
