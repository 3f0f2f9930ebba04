use Rattle.std.proofs.Common.{◌≡◌, ◌+◌, ◌<◌, ◌^◌, true, [], List, length, Option, refl, sym, ap, ◌∙◌, subst}
use Rattle.std.specs.Prelude.{IfSome}
use Rattle.rtmfp_data_chunks.specs.Runs.{Run, fits, joined, single}
use Rattle.flow_recv.specs.Receiver.{held_in}
use Rattle.flow_recv.specs.Keyed.{run_at, changed_run, with_newest}
use Rattle.flow_recv.proofs.Joining.{on_ok}
use Rattle.flow_recv.proofs.Among.{at_older, changed_newest, changed_older, either, older_few}
use Rattle.flow_recv.proofs.newest.NewestRuns.append.Goals as goal

pub returns-then-begins-clause-appended : goal.returns-then-begins-clause-appended
returns-then-begins-clause-appended c =
    let i = c.self.inside in
    let f : Run → Run = λ y. joined y (single c.args.number c.args.part c.args.bytes.now) in
    on_ok c.append_to.result (λ j. ap (λ (o : Option Run). with_newest o i.older) j ∙ (sym (changed_newest f c.args.first i.newest i.older (λ y. refl) c.self.invariant (sym c.begins.ensures ∙ c.if-begins.true)) ∙ ap (changed_run f c.args.first) c.self.view_is)) c.append_to.ensures.joined

pub append-requires-clause-fits : goal.append-requires-clause-fits
append-requires-clause-fits c =
    let i = c.self.inside in
    let e = sym (ap (run_at c.args.first) c.self.view_is) ∙ at_older c.args.first i.newest i.older (sym c.begins.ensures ∙ c.if-begins.false) in
    subst (λ (o : Option Run). IfSome o (λ y. fits y (single c.args.number c.args.part []) ≡ true)) e c.requires.fits

pub append-requires-clause-few : goal.append-requires-clause-few
append-requires-clause-few c =
    let i = c.self.inside in
    older_few (length c.args.bytes.now) i.newest i.older (subst (λ (rs : List Run). held_in rs + length c.args.bytes.now < 2 ^ 32) (sym c.self.view_is) c.requires.few)

pub invariant_of-self-2 : goal.invariant_of-self-2
invariant_of-self-2 c =
    let i = c.self.inside in
    let f : Run → Run = λ y. joined y (single c.args.number c.args.part c.args.bytes.now) in
    either c.append.result f c.args.first i.newest i.older c.append.new.self (λ y. refl) c.self.invariant (sym c.begins.ensures ∙ c.if-begins.false) c.append.ensures.appended c.append.ensures.unchanged

pub returns-clause-appended : goal.returns-clause-appended
returns-clause-appended c =
    let i = c.self.inside in
    let f : Run → Run = λ y. joined y (single c.args.number c.args.part c.args.bytes.now) in
    on_ok c.append.result (λ j. ap (with_newest i.newest) j ∙ (sym (changed_older f c.args.first i.newest i.older (λ y. refl) (sym c.begins.ensures ∙ c.if-begins.false)) ∙ ap (changed_run f c.args.first) c.self.view_is)) c.append.ensures.appended
