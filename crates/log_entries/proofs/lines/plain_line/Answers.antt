use Rattle.std.specs.Option.{option_copied}
use Rattle.log_entries.proofs.Scenes.{comes, logged, taken}
use Rattle.log_entries.proofs.Meeting.{advanced_line, closed_line, fact_line, learnt_line, nothing_asked, sought_line, unsought_line}
use Rattle.log_entries.proofs.lines.plain_line.Goals as goal

pub returns-in-Fact : goal.returns-in-Fact
returns-in-Fact c = λ setup now e before past s reads h none.
    fact_line c.args.secrets.now setup now (logged c.args.scene.now) e.call s.call_is past c.args.rest.now c.args.entry.now c.fact_judged.result c.in-Fact.fact c.in-Fact.is (c.fact_judged.ensures setup now e before past s reads h)

pub returns-in-Closed : goal.returns-in-Closed
returns-in-Closed c = λ setup now e before past s reads h none.
    closed_line c.args.secrets.now setup now (logged c.args.scene.now) e.call s.call_is past c.args.rest.now c.args.entry.now c.closed.result c.in-Closed.near c.in-Closed.is
    (c.closed.ensures c.args.secrets.now setup now past c.args.scene.now.nonce.now c.args.scene.now.plain.now c.args.scene.now.arrival h.watch.digest
    (comes c.args.secrets.now setup now e before past c.args.scene.now c.args.watch.now c.args.way s h (option_copied c.args.packet) reads) (taken c.args.secrets.now setup now e before past c.args.scene.now c.args.watch.now c.args.way s h))

pub returns-in-Sought : goal.returns-in-Sought
returns-in-Sought c = λ setup now e before past s reads h none.
    sought_line c.args.secrets.now setup now (logged c.args.scene.now) e.call s.call_is past c.args.rest.now c.args.entry.now c.sought.result c.in-Sought.near c.in-Sought.name c.in-Sought.is
    (c.sought.ensures.yes c.args.scene.now.nonce.now now past h.watch.digest) (c.sought.ensures.no c.args.scene.now.nonce.now now past h.watch.digest)

pub returns-in-Unsought : goal.returns-in-Unsought
returns-in-Unsought c = λ setup now e before past s reads h none.
    unsought_line c.args.secrets.now setup now (logged c.args.scene.now) e.call s.call_is past c.args.rest.now c.args.entry.now c.unsought.result c.in-Unsought.near c.in-Unsought.why c.in-Unsought.is
    (c.unsought.ensures.yes c.args.scene.now.nonce.now now past h.watch.digest) (c.unsought.ensures.no c.args.scene.now.nonce.now now past h.watch.digest)

pub returns-in-Learnt : goal.returns-in-Learnt
returns-in-Learnt c = λ setup now e before past s reads h none.
    learnt_line c.args.secrets.now setup now (logged c.args.scene.now) e.call s.call_is past c.args.rest.now c.args.entry.now c.learnt.result c.in-Learnt.generation c.in-Learnt.is
    (c.learnt.ensures.yes setup c.args.scene.now.nonce.now past h.watch.generations) (c.learnt.ensures.no setup c.args.scene.now.nonce.now past h.watch.generations)

pub returns-in-Advanced : goal.returns-in-Advanced
returns-in-Advanced c = λ setup now e before past s reads h none.
    advanced_line c.args.secrets.now setup now (logged c.args.scene.now) e.call s.call_is past c.args.rest.now c.args.entry.now c.advanced.result c.in-Advanced.generation c.in-Advanced.is
    (c.advanced.ensures.yes setup c.args.scene.now.nonce.now past h.watch.generations) (c.advanced.ensures.no setup c.args.scene.now.nonce.now past h.watch.generations)

pub returns-in_default : goal.returns-in_default
returns-in_default c = λ setup now e before past s reads h none.
    nothing_asked c.args.secrets.now setup now e.call past c.args.rest.now c.args.entry.now (record {
      no_fact = c.in_default.not-Fact;
      no_closed = c.in_default.not-Closed;
      no_sought = c.in_default.not-Sought;
      no_unsought = c.in_default.not-Unsought;
      no_learnt = c.in_default.not-Learnt;
      no_advanced = c.in_default.not-Advanced;
      no_out = none;
    })
