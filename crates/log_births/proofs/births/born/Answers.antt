use Rattle.log_births.proofs.Bearing.{born_is, not_borne, not_drawn, not_free}
use Rattle.log_births.proofs.births.born.Goals as goal

pub returns-then-not-is_drawn : goal.returns-then-not-is_drawn
returns-then-not-is_drawn c = λ setup now past plain of is comes stays way.
    not_drawn c.args.secrets.now setup now past c.args.party.now of c.args.joined.now c.args.nonce.now c.args.call.now stays c.is_drawn.result c.is_drawn.ensures.value c.if-not-is_drawn.true

pub returns-then-not-is_free : goal.returns-then-not-is_free
returns-then-not-is_free c = λ setup now past plain of is comes stays way.
    not_free c.args.secrets.now setup now past c.args.party.now of c.args.joined.now c.args.nonce.now c.args.call.now stays c.is_free.result (c.is_free.ensures.no now past is) c.if-not-is_free.true

pub returns-then-not-may_bear : goal.returns-then-not-may_bear
returns-then-not-may_bear c = λ setup now past plain of is comes stays way.
    not_borne c.args.secrets.now setup now past c.args.party.now of c.args.joined.now c.args.nonce.now c.args.call.now stays c.args.digest.now is c.args.way way
    c.may_bear.result c.may_bear.ensures.value c.if-not-may_bear.true

pub returns : goal.returns
returns c = λ setup now past plain of is comes stays way.
    born_is c.args.secrets.now setup now past c.args.party.now of c.args.joined.now c.args.nonce.now c.args.call.now stays c.args.digest.now is c.args.way way
    c.is_drawn.result c.may_bear.result c.offered.result c.moment.result c.is_drawn.ensures.value c.if-not-is_drawn.false
    (c.is_free.ensures.yes now past is c.if-not-is_free.false) c.may_bear.ensures.value c.if-not-may_bear.false c.moment.ensures c.may_bear.ensures.counted c.is_drawn.ensures.sized
    (c.offered.ensures setup past c.args.nonce.now plain comes)
