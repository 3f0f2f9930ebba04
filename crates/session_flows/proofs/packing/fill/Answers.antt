use Prim.Native.Nat.{suc}
use Rattle.std.proofs.Common.{◌≡◌, ℕ, length, ◌+◌, ◌-◌, ◌<◌, ◌≤◌, List, Bool, true, false, sym, ap, ◌∙◌, subst, rules, arith}
use Rattle.flow_send.specs.Flow.{Flow}
use Rattle.session_flows.specs.Packing.{Packing, packed_once, packing_with, packs, filled, Goes, goes, left_to_send}
use Rattle.session_flows.proofs.Packs.{over_at, packs_go, some_goes, goes_same, clash}
use Rattle.session_flows.proofs.Falling.{takes_one, fell_by}
use Rattle.session_flows.proofs.packing.fill.Goals as goal

pub returns-then-not-pack_once-clause-flows : goal.returns-then-not-pack_once-clause-flows
returns-then-not-pack_once-clause-flows c =
    let before : Packing = packing_with c.loop.sending c.loop.out c.loop.marks in
    let after : Packing = packing_with c.pack_once.new.sending c.pack_once.new.out c.pack_once.new.marks in
    let stops : c.pack_once.result ≡ false = search rules in
    let over = over_at c.args.pace c.loop.counter c.pack_once.result before after (filled c.args.pace c.args.sending.now c.args.out.now) (omega arith) stops c.pack_once.ensures.goes c.loop.invariant.packed in
    ap (λ (p : Packing). p.sending) (sym over.whole)

pub returns-then-not-pack_once-clause-packet : goal.returns-then-not-pack_once-clause-packet
returns-then-not-pack_once-clause-packet c =
    let before : Packing = packing_with c.loop.sending c.loop.out c.loop.marks in
    let after : Packing = packing_with c.pack_once.new.sending c.pack_once.new.out c.pack_once.new.marks in
    let stops : c.pack_once.result ≡ false = search rules in
    let over = over_at c.args.pace c.loop.counter c.pack_once.result before after (filled c.args.pace c.args.sending.now c.args.out.now) (omega arith) stops c.pack_once.ensures.goes c.loop.invariant.packed in
    ap (λ (p : Packing). p.packet) (sym over.whole)

pub returns-then-not-pack_once-clause-full : goal.returns-then-not-pack_once-clause-full
returns-then-not-pack_once-clause-full c =
    let before : Packing = packing_with c.loop.sending c.loop.out c.loop.marks in
    let after : Packing = packing_with c.pack_once.new.sending c.pack_once.new.out c.pack_once.new.marks in
    let stops : c.pack_once.result ≡ false = search rules in
    let over = over_at c.args.pace c.loop.counter c.pack_once.result before after (filled c.args.pace c.args.sending.now c.args.out.now) (omega arith) stops c.pack_once.ensures.goes c.loop.invariant.packed in
    over.full

pub loop-preserved : goal.loop-preserved
loop-preserved c =
    let before : Packing = packing_with c.loop.sending c.loop.out c.loop.marks in
    let after : Packing = packing_with c.pack_once.new.sending c.pack_once.new.out c.pack_once.new.marks in
    let goes_on : c.pack_once.result ≡ true = search rules in
    let went : Goes (packed_once c.args.pace before) true before after = subst (λ (b : Bool). Goes (packed_once c.args.pace before) b before after) goes_on c.pack_once.ensures.goes in
    let left : 1165 - c.loop.counter ≡ suc (1165 - (c.loop.counter + 1)) = omega arith in
    let longer : length c.loop.out < length c.pack_once.new.out = c.pack_once.ensures.longer goes_on in
    record {
      numbered = c.pack_once.ensures.numbered;
      kept = c.pack_once.ensures.kept;
      packed = sym (packs_go c.args.pace (1165 - (c.loop.counter + 1)) before after went) ∙ sym (ap (λ (n : ℕ). packs c.args.pace n before) left) ∙ c.loop.invariant.packed;
      longer = omega (arith, c.loop.invariant.longer);
      fell = λ more.
          let one : left_to_send c.args.pace c.loop.sending ≡ left_to_send c.args.pace c.pack_once.new.sending + 1 =
          takes_one c.args.pace before after c.loop.invariant.numbered more (some_goes (packed_once c.args.pace before) before after went) in
          omega (arith, one, c.loop.invariant.fell more);
      begun = λ none. absurd (omega (arith, none));
    }

pub returns-then-not-pack_once-clause-falls : goal.returns-then-not-pack_once-clause-falls
returns-then-not-pack_once-clause-falls c is_due few more =
    let stops : c.pack_once.result ≡ false = search rules in
    let before : Packing = packing_with c.loop.sending c.loop.out c.loop.marks in
    let after : Packing = packing_with c.pack_once.new.sending c.pack_once.new.out c.pack_once.new.marks in
    let went : Goes (packed_once c.args.pace before) false before after = subst (λ (b : Bool). Goes (packed_once c.args.pace before) b before after) stops c.pack_once.ensures.goes in
    let same : left_to_send c.args.pace c.pack_once.new.sending ≡ left_to_send c.args.pace c.loop.sending = ap (λ (p : Packing). left_to_send c.args.pace p.sending) (goes_same (packed_once c.args.pace before) before after went) in
    let one : c.loop.counter ≡ 0 → ⊥ = λ none.
    let start = c.loop.invariant.begun none in
    let short : length c.loop.out ≤ 51 = subst (λ (bs : List ℕ). length bs ≤ 51) (sym start.1) few in
    let still : goes c.args.pace c.loop.sending ≡ true = subst (λ (fs : List Flow). goes c.args.pace fs ≡ true) (sym start.0) is_due in
    clash (sym stops ∙ c.pack_once.ensures.due still short) in
    fell_by c.loop.counter _ _ _ same (c.loop.invariant.fell more) one
