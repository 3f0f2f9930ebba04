use Rattle.std.proofs.Common.{◌≡◌, List, cond, false, refl, ◌∙◌, ap, sym, subst}
use Rattle.std.specs.Prelude.{IfSome, IsSome}
use Rattle.std.specs.Option.{IsSomeAnd}
use Rattle.std.specs.Map.{values_of, lookup, remove_entry}
use Rattle.std.specs.Set.{remove_key}
use Rattle.rtmfp_data_chunks.specs.Runs.{Run, is_whole}
use Rattle.flow_recv.specs.Keyed.{run_at, without_run, changed_run, changed_entry, over, rear_of, IsKept}
use Rattle.flow_recv.proofs.Joining.{from_ok, from_err}
use Rattle.flow_recv.proofs.Finding.{get_is}
use Rattle.rtmfp_data_chunks.proofs.Keys.{is_key}
use Rattle.flow_recv.proofs.Keeping.{both, kept_joined, kept_undone, some_and, opened}
use Rattle.flow_recv.proofs.held.HeldRuns.join.Goals as goal

pub join_at-requires-clause-there : goal.join_at-requires-clause-there
join_at-requires-clause-there c =
    let es = c.self.inside.map.entries in
    subst IsSome (sym (get_is c.args.later es (values_of es) c.self.invariant.keyed ∙ ap (run_at c.args.later) c.self.view_is)) c.requires.there

parts : (c : goal.After-remove) → IsSomeAnd (lookup (is_key c.args.later) c.self.inside.map.entries)
    (λ z. IsKept c.self.inside.indexed c.join_at.new.map.entries c.remove.new.self.keys × (values_of c.join_at.new.map.entries ≡ without_run c.args.later (changed_run (λ y. over y c.args.bytes.now z) c.args.first (values_of c.self.inside.map.entries))))
parts c =
    let i = c.self.inside in
    let open' = subst (λ (xs : List Run). IfSome (run_at c.args.first xs) (λ y. is_whole y ≡ false)) (sym c.self.view_is) c.requires.open in
    some_and {P = λ z. c.join_at.new.map.entries ≡ remove_entry (is_key c.args.later) (changed_entry (λ y. over y c.args.bytes.now z) c.args.first i.map.entries)} (lookup (is_key c.args.later) i.map.entries)
    (λ z e h.
    let rear : c.has_rear_at-rear.result ≡ z.rear = c.has_rear_at-rear.ensures ∙ ap rear_of e in
    kept_joined i.indexed i.map.entries c.join_at.new.map.entries i.whole.keys c.mark_whole.new.whole.keys c.remove.new.self.keys (λ y. over y c.args.bytes.now z) c.has_rear_at-rear.result c.becomes_whole-whole.result c.args.first c.args.later c.self.invariant
    (from_ok c.join_at.result c.if-is_ok.ensures.value c.join_at.ensures.ordered) h
    (record { first = λ y. refl; whole = λ y. ap (λ r. cond y.front r false) (sym rear) ∙ both y.front c.has_rear_at-rear.result })
    c.becomes_whole-whole.ensures c.in_ok-mark_whole.ensures.marked c.remove.ensures.keys open')
    (from_ok c.join_at.result c.if-is_ok.ensures.value c.join_at.ensures.joined)

pub invariant_of-self-then-is_ok : goal.invariant_of-self-then-is_ok
invariant_of-self-then-is_ok c = let p = opened (lookup (is_key c.args.later) c.self.inside.map.entries) _ (parts c) in p.2.0

pub returns-then-is_ok-clause-joined : goal.returns-then-is_ok-clause-joined
returns-then-is_ok-clause-joined c =
    let es = c.self.inside.map.entries in
    let same = get_is c.args.later es (values_of es) c.self.invariant.keyed ∙ ap (run_at c.args.later) c.self.view_is in
    subst (λ o. IsSomeAnd o (λ z. values_of c.join_at.new.map.entries ≡ without_run c.args.later (changed_run (λ y. over y c.args.bytes.now z) c.args.first c.args.self.now))) same
    (some_and (lookup (is_key c.args.later) es) (λ z e h. h.1 ∙ ap (λ (xs : List Run). without_run c.args.later (changed_run (λ y. over y c.args.bytes.now z) c.args.first xs)) c.self.view_is) (parts c))

pub invariant_of-self-2 : goal.invariant_of-self-2
invariant_of-self-2 c =
    let i = c.self.inside in
    let open' = subst (λ (xs : List Run). IfSome (run_at c.args.first xs) (λ y. is_whole y ≡ false)) (sym c.self.view_is) c.requires.open in
    kept_undone i.indexed i.map.entries c.join_at.new.map.entries i.whole.keys c.remove-2.new.self.keys c.becomes_whole-whole.result c.args.first c.self.invariant
    (from_err c.join_at.result c.if-is_ok.ensures.value c.join_at.ensures.unchanged) (c.remove-2.ensures.keys ∙ ap (remove_key (is_key c.args.first)) c.in_ok-mark_whole.ensures.marked) open'
