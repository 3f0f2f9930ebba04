use Rattle.std.proofs.Common.{refl, ap, sym, subst, ◌∙◌, ◌≡◌, List, [], false, length, arith}
use Rattle.std.specs.Prelude.{IsSome, IfSome}
use Rattle.std.specs.Option.{IsSomeAnd}
use Rattle.rtmfp_data_chunks.specs.Runs.{Run, single, is_whole}
use Rattle.flow_recv.specs.Receiver.{held_in}
use Rattle.flow_recv.specs.Keyed.{run_at, with_run, without_run, changed_run, over}
use Rattle.flow_recv.proofs.Joining.{on_ok, from_ok, from_err}
use Rattle.flow_recv.proofs.Placing.{puts_one, free_none}
use Rattle.flow_recv.proofs.Putting.{apart_after, still_open, still_there, put_joined, without_new}
use Rattle.flow_recv.proofs.Summing.{sum_with}
use Rattle.flow_recv.specs.Order.{InOrder}
use Rattle.flow_recv.proofs.Among.{order_with}
use Rattle.flow_recv.proofs.runs.put.Goals as goal

pub insert-requires-clause-free : goal.insert-requires-clause-free
insert-requires-clause-free c = ap (λ (x : Run). run_at x.first c.args.runs.now) c.in_ok-single.ensures ∙ free_none c.args.number 0 c.args.runs.now c.requires.order c.requires.free

pub returns-in_default-clause-added : goal.returns-in_default-clause-added
returns-in_default-clause-added c =
    let one = single c.args.number c.args.part c.args.bytes.now in
    on_ok c.insert.result (λ j. j ∙ (ap (λ (x : Run). with_run x c.args.runs.now) c.in_ok-single.ensures ∙ puts_one 0 c.args.runs.now one c.requires.order c.requires.free c.requires.apart c.in_default.ensures)) c.insert.ensures.added

pub insert-requires-2-clause-free : goal.insert-requires-2-clause-free
insert-requires-2-clause-free c = ap (λ (x : Run). run_at x.first c.args.runs.now) c.in_ok-single-2.ensures ∙ free_none c.args.number 0 c.args.runs.now c.requires.order c.requires.free

pub join-requires-clause-apart : goal.join-requires-clause-apart
join-requires-clause-apart c = apart_after c.args.runs.now (single c.args.number c.args.part []) c.in-Some.later refl c.in-Some.ensures

pub join-requires-clause-open : goal.join-requires-clause-open
join-requires-clause-open c =
    let one = single c.args.number c.args.part c.args.bytes.now in
    let at = c.in_ok-insert.ensures.added ∙ ap (λ (x : Run). with_run x c.args.runs.now) c.in_ok-single-2.ensures in
    subst (λ (xs : List Run). IfSome (run_at c.args.number xs) (λ y. is_whole y ≡ false)) (sym at)
    (still_open c.args.runs.now one c.in-Some.later (free_none c.args.number 0 c.args.runs.now c.requires.order c.requires.free) c.in-Some.ensures)

pub join-requires-clause-there : goal.join-requires-clause-there
join-requires-clause-there c =
    let one = single c.args.number c.args.part c.args.bytes.now in
    let at = c.in_ok-insert.ensures.added ∙ ap (λ (x : Run). with_run x c.args.runs.now) c.in_ok-single-2.ensures in
    subst (λ (xs : List Run). IsSome (run_at c.in-Some.later xs)) (sym at) (still_there c.args.runs.now one c.in-Some.later refl c.in-Some.ensures)

pub returns-then-is_ok-clause-added : goal.returns-then-is_ok-clause-added
returns-then-is_ok-clause-added c =
    let one = single c.args.number c.args.part c.args.bytes.now in
    let at = c.in_ok-insert.ensures.added ∙ ap (λ (x : Run). with_run x c.args.runs.now) c.in_ok-single-2.ensures in
    put_joined c.args.runs.now c.join.new.self one c.in-Some.later refl c.requires.order c.requires.free (free_none c.args.number 0 c.args.runs.now c.requires.order c.requires.free) c.requires.apart c.in-Some.ensures
    (subst (λ (xs : List Run). IsSomeAnd (run_at c.in-Some.later xs) (λ z. c.join.new.self ≡ without_run c.in-Some.later (changed_run (λ y. over y [] z) c.args.number xs))) at
    (from_ok c.join.result c.if-is_ok.ensures.value c.join.ensures.joined))

pub returns-clause-unchanged : goal.returns-clause-unchanged
returns-clause-unchanged c =
    let one = single c.args.number c.args.part c.args.bytes.now in
    let at = c.in_ok-insert.ensures.added ∙ ap (λ (x : Run). with_run x c.args.runs.now) c.in_ok-single-2.ensures in
    c.remove.ensures.rest ∙ (ap (without_run c.args.number) (from_err c.join.result c.if-is_ok.ensures.value c.join.ensures.unchanged ∙ at)
    ∙ without_new one c.args.runs.now (free_none c.args.number 0 c.args.runs.now c.requires.order c.requires.free))

pub join-requires-clause-few : goal.join-requires-clause-few
join-requires-clause-few c =
    let one = single c.args.number c.args.part c.args.bytes.now in
    let at = ap (λ (ys : List Run). held_in ys) (c.in_ok-insert.ensures.added ∙ ap (λ (x : Run). with_run x c.args.runs.now) c.in_ok-single-2.ensures) in
    omega (arith, at, sum_with (λ (y : Run). length y.bytes) one c.args.runs.now, c.requires.few)

pub remove-requires : goal.remove-requires
remove-requires c =
    let one = single c.args.number c.args.part c.args.bytes.now in
    let at = c.in_ok-insert.ensures.added ∙ ap (λ (x : Run). with_run x c.args.runs.now) c.in_ok-single-2.ensures in
    subst (InOrder 0) (sym (from_err c.join.result c.if-is_ok.ensures.value c.join.ensures.unchanged ∙ at)) (order_with one 0 c.args.runs.now refl (omega arith) c.requires.free c.requires.order)
