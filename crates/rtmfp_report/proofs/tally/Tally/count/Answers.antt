use Rattle.std.proofs.Common.{◌≡◌, sym, ap, subst, ◌∙◌}
use Rattle.std.specs.Prelude.{OnOk}
use Rattle.rtmfp_report.specs.declared.tally.Tally.{Tally}
use Rattle.rtmfp_report.specs.Tally.{nothing_counted, with_entries}
use Rattle.rtmfp_report.proofs.Counted.{with_entries-append}
use Rattle.rtmfp_report.proofs.tally.Tally.count.Goals as goal

pub returns-clause-more : goal.returns-clause-more
returns-clause-more c = λ before e.
    let P : Tally → Type 0 = λ t. OnOk c.count_all.result (c.count_all.new.self ≡ t) in
    subst P (ap (λ (t : Tally). with_entries t c.args.entries.now) e ∙ sym (with_entries-append nothing_counted before c.args.entries.now)) c.count_all.ensures
