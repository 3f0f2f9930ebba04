use Rattle.std.proofs.Common.{ℕ, ◌≡◌, ◌≤◌, ◌+◌, ◌-◌, suc, false, if◌then◌else◌, ap, sym, ◌∙◌, arith}
use Rattle.endpoint_model.specs.State.{State, free_among, free_from, is_free, next_id, uses}
use Rattle.end_state.proofs.end_state.EndState.free_from.Goals as goal

-- at first all are still to be tried
none_tried : (s : State) (word : ℕ) → free_from s word ≡ free_among (uses s + 1 - 0) s word
unfolding free_from
none_tried s word =
    let all : uses s + 1 ≡ uses s + 1 - 0 = omega arith in
    ap (λ tries. free_among tries s word) all

-- where one isn't free the next is tried
one_tried : (s : State) (tried id : ℕ) → tried ≤ uses s → is_free s id ≡ false → free_among (uses s + 1 - tried) s id ≡ free_among (uses s + 1 - (tried + 1)) s (next_id id)
one_tried s tried id within used =
    let one : uses s + 1 - tried ≡ suc (uses s + 1 - (tried + 1)) = omega arith in
    ap (λ tries. free_among tries s id) one ∙ ap (λ b. if b then id else free_among (uses s + 1 - (tried + 1)) s (next_id id)) used

pub loop-init : goal.loop-init
loop-init c = none_tried c.args.self.now c.args.word

pub loop-preserved : goal.loop-preserved
loop-preserved c =
    c.loop.invariant
    ∙ one_tried c.args.self.now c.loop.counter c.loop.id (omega (arith, c.loop-test.true, c.uses-end.ensures.value)) (sym c.is_free.ensures ∙ c.if-is_free.false)
    ∙ ap (free_among (uses c.args.self.now + 1 - (c.loop.counter + 1)) c.args.self.now) (sym c.next_id-id.ensures)
