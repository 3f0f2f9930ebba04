use Rattle.std.proofs.Common.{sym, subst}
use Rattle.endpoint_model.specs.Views.{out_in}
use Rattle.endpoint_laws.specs.Past.{with_entry}
use Rattle.log_contexts.specs.Contexts.{AreKeyingsOf}
use Rattle.log_events.specs.Underway.{IsUnderway}
use Rattle.log_events.specs.Watch.{IsWatchOf}
use Rattle.log_entries.proofs.Adding.{and_so, begins, goes_on}
use Rattle.log_entries.proofs.lines.add_entry.Goals as goal

pub returns : goal.returns
returns c = λ secrets setup now e before past plain rest u is arrives line holds.
    and_so (IsWatchOf secrets setup now (with_entry now c.args.entry.now past) c.add.new.self) (IsUnderway secrets setup now e before (with_entry now c.args.entry.now past))
    (goes_on secrets setup now e before past rest c.args.entry.now u c.args.watch.now is line) c.add.result
    (c.add.ensures secrets setup now e.call past rest is u.last line
    (subst (AreKeyingsOf secrets (out_in c.args.entry.now)) (sym c.as_slice.ensures.value) (c.in-Ok.ensures secrets holds))
    (begins secrets setup now e before past rest c.args.entry.now u c.args.watch.now is line plain c.args.arrival arrives c.generation-opened.result c.generation-opened.ensures.value))
