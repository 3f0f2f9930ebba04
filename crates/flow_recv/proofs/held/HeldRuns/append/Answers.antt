use Rattle.std.proofs.Common.{◌≡◌, [], List, cond, false, refl, ◌∙◌, ap, sym, subst}
use Rattle.std.specs.Prelude.{IfSome}
use Rattle.std.specs.Map.{values_of}
use Rattle.std.specs.Set.{remove_key}
use Rattle.rtmfp_data_chunks.specs.Runs.{Run, single, joined, is_whole}
use Rattle.flow_recv.specs.Keyed.{run_at, changed_run, IsKept}
use Rattle.flow_recv.proofs.Joining.{from_ok, from_err}
use Rattle.rtmfp_data_chunks.proofs.Keys.{is_key}
use Rattle.flow_recv.proofs.Keeping.{both, kept_changed, kept_undone, fits_open}
use Rattle.flow_recv.proofs.held.HeldRuns.append.Goals as goal

parts : (c : goal.Then-is_ok) → IsKept c.self.inside.indexed c.append_at.new.map.entries c.mark_whole.new.whole.keys × (values_of c.append_at.new.map.entries ≡ changed_run (λ y. joined y (single c.args.number c.args.part c.args.bytes.now)) c.args.first (values_of c.self.inside.map.entries))
parts c =
    let i = c.self.inside in
    let lone = subst (λ (xs : List Run). IfSome (run_at c.args.first xs) (λ y. is_whole y ≡ false)) (sym c.self.view_is) (fits_open (run_at c.args.first c.args.self.now) (single c.args.number c.args.part []) c.requires) in
    kept_changed i.indexed i.map.entries c.append_at.new.map.entries i.whole.keys c.mark_whole.new.whole.keys (λ y. joined y (single c.args.number c.args.part c.args.bytes.now)) c.has_rear.result c.becomes_whole-whole.result c.args.first c.self.invariant
    (from_ok c.append_at.result c.if-is_ok.ensures.value c.append_at.ensures.appended) (record { first = λ y. refl; whole = λ y. ap (λ r. cond y.front r false) (sym c.has_rear.ensures) ∙ both y.front c.has_rear.result }) c.becomes_whole-whole.ensures c.in_ok-mark_whole.ensures.marked lone

pub invariant_of-self-then-is_ok : goal.invariant_of-self-then-is_ok
invariant_of-self-then-is_ok c = (parts c).0

pub returns-then-is_ok-clause-appended : goal.returns-then-is_ok-clause-appended
returns-then-is_ok-clause-appended c = (parts c).1 ∙ ap (changed_run (λ y. joined y (single c.args.number c.args.part c.args.bytes.now)) c.args.first) c.self.view_is

pub invariant_of-self-2 : goal.invariant_of-self-2
invariant_of-self-2 c =
    let i = c.self.inside in
    let lone = subst (λ (xs : List Run). IfSome (run_at c.args.first xs) (λ y. is_whole y ≡ false)) (sym c.self.view_is) (fits_open (run_at c.args.first c.args.self.now) (single c.args.number c.args.part []) c.requires) in
    kept_undone i.indexed i.map.entries c.append_at.new.map.entries i.whole.keys c.remove.new.self.keys c.becomes_whole-whole.result c.args.first c.self.invariant
    (from_err c.append_at.result c.if-is_ok.ensures.value c.append_at.ensures.unchanged) (c.remove.ensures.keys ∙ ap (remove_key (is_key c.args.first)) c.in_ok-mark_whole.ensures.marked) lone
