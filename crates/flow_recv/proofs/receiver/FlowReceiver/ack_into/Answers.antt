use Rattle.std.proofs.Common.{◌<◌, ◌^◌, ◌≡◌, ◌+◌, ◌-◌, List, ℕ, [], ◌∷◌, ◌++◌, length, ap, sym, ◌∙◌, subst, arith, length-append}
use Rattle.rtmfp_vlu.specs.Vlu.{vlu}
use Rattle.std.specs.Int.{to_be_bytes, w16}
use Rattle.rtmfp_forms.specs.Outgoing.{packet_limit}
use Rattle.flow_recv.specs.Receiver.{Receiver, span, held_in}
use Rattle.flow_recv.specs.Acking.{free_blocks, pairs_in, ack_head, ack_payload, ack_bytes, TellsSpans}
use Rattle.flow_recv.proofs.receiver.FlowReceiver.ack_into.Goals as goal
use Rattle.flow_recv.proofs.Knowing.{apart_formed}
use Rattle.flow_recv.proofs.Telling.{pairs_tell, all_fit}
use Rattle.flow_recv.proofs.Pairs.{pieces}

pub pairs_len-requires : goal.pairs_len-requires
pairs_len-requires c = c.self.invariant.sound.apart

pub put_pairs-requires-clause-apart : goal.put_pairs-requires-clause-apart
put_pairs-requires-clause-apart c = c.self.invariant.sound.apart

pub returns-clause-ok : goal.returns-clause-ok
returns-clause-ok c =
    let i = c.self.inside in
    let o = c.args.out.now in
    let flow = c.args.flow in
    let r : Receiver = record { arriving = i.arriving; spans = span 0 i.through ∷ i.above; runs = i.runs; last = i.last; highest = i.highest } in
    let blocks : c.free_blocks-blocks.result ≡ free_blocks (held_in i.runs) = c.free_blocks-blocks.ensures ∙ ap (λ (x : Receiver). free_blocks (held_in x.runs)) (sym c.self.view_is) in
    let l : List ℕ = c.to_be_bytes.result in
    let head : ℕ = c.vlu_len.result + c.vlu_len-2.result + c.vlu_len-3.result in
    let room : ℕ = c.room-2.result - 3 - head in
    let q : List ℕ = pairs_in room i.through i.above in
    let first : c.append_vlu-3.new.self ≡ ((((o ++ 81 ∷ []) ++ l) ++ vlu flow) ++ vlu c.free_blocks-blocks.result) ++ vlu i.through =
    c.append_vlu-3.ensures ∙ ap (λ (x : List ℕ). x ++ vlu i.through) (c.append_vlu-2.ensures ∙ ap (λ (x : List ℕ). x ++ vlu c.free_blocks-blocks.result) (c.append_vlu.ensures ∙ ap (λ (x : List ℕ). x ++ vlu flow) (c.append-2.ensures ∙ ap (λ (x : List ℕ). x ++ l) c.append.ensures))) in
    let put : c.put_pairs.new.out ≡ (((((o ++ 81 ∷ []) ++ l) ++ vlu flow) ++ vlu c.free_blocks-blocks.result) ++ vlu i.through) ++ q =
    c.put_pairs.ensures ∙ ap (λ (x : List ℕ). x ++ q) first in
    let same : vlu c.free_blocks-blocks.result ≡ vlu (free_blocks (held_in i.runs)) = ap vlu blocks in
    let long : head ≡ length (ack_head flow r) = omega (arith, c.vlu_len.ensures.length, c.vlu_len-2.ensures.length, c.vlu_len-3.ensures.length, ap (λ (x : List ℕ). length x) same, length-append (vlu flow ++ vlu (free_blocks (held_in i.runs))) (vlu i.through), length-append (vlu flow) (vlu (free_blocks (held_in i.runs)))) in
    let left : room ≡ packet_limit - length o - 3 - length (ack_head flow r) = omega (arith, long, c.room-2.ensures) in
    let fit : q ≡ pairs_in (packet_limit - length o - 3 - length (ack_head flow r)) i.through i.above = ap (λ n. pairs_in n i.through i.above) left in
    let found : c.pairs_len.result ≡ length (pairs_in (packet_limit - length o - 3 - length (ack_head flow r)) i.through i.above) =
    c.pairs_len.ensures.length ∙ ap (λ (x : List ℕ). length x) fit in
    let payload : List ℕ = ack_payload flow (packet_limit - length o - 3) r in
    let count : head + c.pairs_len.result ≡ length payload = omega (arith, long, found, length-append (ack_head flow r) (pairs_in (packet_limit - length o - 3 - length (ack_head flow r)) i.through i.above)) in
    let size : l ≡ to_be_bytes w16 (length payload) = c.to_be_bytes.ensures ∙ ap (to_be_bytes w16) count in
    subst (λ (x : Receiver). c.put_pairs.new.out ≡ o ++ ack_bytes flow (packet_limit - length o - 3) x) c.self.view_is
    (put ∙ (pieces o (81 ∷ []) l (vlu flow) (vlu c.free_blocks-blocks.result) (vlu i.through) q
    ∙ (ap (λ (x : List ℕ). o ++ (81 ∷ (x ++ (((vlu flow ++ vlu c.free_blocks-blocks.result) ++ vlu i.through) ++ q)))) size
    ∙ (ap (λ (x : List ℕ). o ++ (81 ∷ (to_be_bytes w16 (length payload) ++ (((vlu flow ++ x) ++ vlu i.through) ++ q)))) same
    ∙ ap (λ (x : List ℕ). o ++ (81 ∷ (to_be_bytes w16 (length payload) ++ (ack_head flow r ++ x)))) fit))))

pub returns-clause-tells : goal.returns-clause-tells
returns-clause-tells c =
    let i = c.self.inside in
    let o = c.args.out.now in
    let r : Receiver = record { arriving = i.arriving; spans = span 0 i.through ∷ i.above; runs = i.runs; last = i.last; highest = i.highest } in
    let a = c.self.invariant.sound.apart in
    let top : i.highest < 2 ^ 64 = omega arith in
    let fit = all_fit i.highest r.spans top (apart_formed r.spans a) c.self.invariant.top in
    subst (λ (x : Receiver). TellsSpans c.args.flow (packet_limit - length o - 3) x) c.self.view_is (pairs_tell (packet_limit - length o - 3 - length (ack_head c.args.flow r)) i.through i.above a fit.1)

pub returns-then-room-head-clause-tells : goal.returns-then-room-head-clause-tells
returns-then-room-head-clause-tells c =
    let i = c.self.inside in
    let o = c.args.out.now in
    let r : Receiver = record { arriving = i.arriving; spans = span 0 i.through ∷ i.above; runs = i.runs; last = i.last; highest = i.highest } in
    let a = c.self.invariant.sound.apart in
    let top : i.highest < 2 ^ 64 = omega arith in
    let fit = all_fit i.highest r.spans top (apart_formed r.spans a) c.self.invariant.top in
    subst (λ (x : Receiver). TellsSpans c.args.flow (packet_limit - length o - 3) x) c.self.view_is (pairs_tell (packet_limit - length o - 3 - length (ack_head c.args.flow r)) i.through i.above a fit.1)
