use Rattle.endpoint_model.specs.Event.{own_of}
use Rattle.log_entries.proofs.Adding.{comes_so}
use Rattle.log_entries.proofs.entries.pass_entry.Goals as goal

pub returns-clause-here : goal.returns-clause-here
returns-clause-here c = λ secrets setup now e before past plain rest h arrives line holds.
    let both = c.in-Ok-add_entry.ensures secrets setup now e before past plain rest h.underway h.watch arrives line holds in
    record {
      underway = both.1;
      watch = both.0;
      way_is = c.way_of-next.ensures (own_of setup) now past h.watch.digest (comes_so secrets setup now e before past rest c.args.entry.now h.underway c.args.watch.now h.watch line);
    }
