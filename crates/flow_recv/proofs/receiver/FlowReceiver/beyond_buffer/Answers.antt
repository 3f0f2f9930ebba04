use Rattle.std.proofs.Common.{◌≡◌, ◌+◌, ◌≤◌, ◌∷◌, max, nat_lt, None, false, arith, refl, ap, sym, ◌∙◌, subst}
use Rattle.flow_recv.specs.Receiver.{Receiver, span, beyond_buffer, lacks, living, held_in, passes_buffer}
use Rattle.rtmfp_data_chunks.specs.Taken.{chunk_of}
use Rattle.flow_recv.proofs.Holding.{living_le}
use Rattle.flow_recv.proofs.Knowing.{apart_formed}
use Rattle.flow_recv.proofs.Forward.{beyond_from, passes_less, none_passes}
use Rattle.flow_recv.proofs.Summing.{ends_near}
use Rattle.flow_recv.proofs.receiver.FlowReceiver.beyond_buffer.Goals as goal

pub passes_buffer-passes-requires-clause-few : goal.passes_buffer-passes-requires-clause-few
passes_buffer-passes-requires-clause-few c =
    let r = c.self.inside in
    let h = c.held_after-held.ensures in
    omega (arith, h, living_le (span 0 (max r.through c.args.chunk.now.forward) ∷ r.above) r.runs, c.self.invariant.sound.bytes)

pub held_after-held-requires-clause-near : goal.held_after-held-requires-clause-near
held_after-held-requires-clause-near c =
    let r = c.self.inside in
    ends_near r.through r.above r.runs c.self.invariant.sound.alive c.self.invariant.known c.self.invariant.sound.window

pub returns : goal.returns
returns c =
    let r = c.self.inside in
    let d = chunk_of c.args.chunk.now in
    let h = c.held_after-held.ensures in
    let formed = apart_formed (span 0 r.through ∷ r.above) c.self.invariant.sound.apart in
    subst (λ (v : Receiver). c.if_tested.result ≡ beyond_buffer v d) c.self.view_is (
    c.if_tested.ensures
    ∙ beyond_from r.arriving r.through r.above r.runs r.last r.highest d c.held_after-held.result c.from-lowest.result c.lacks-missing.result c.passes_buffer-passes.result formed.1
    h (c.from-lowest.ensures ∙ c.raised.ensures)
    (c.lacks-missing.ensures ∙ ap (λ x. lacks (span 0 r.through ∷ r.above) x) c.from.ensures)
    c.passes_buffer-passes.ensures
    )

pub returns-then-not-passes_buffer : goal.returns-then-not-passes_buffer
returns-then-not-passes_buffer c =
    let r = c.self.inside in
    let d = chunk_of c.args.chunk.now in
    let spans = span 0 (max r.through d.forward) ∷ r.above in
    let held = held_in (living spans r.runs) in
    let low = c.raised.result in
    let formed = apart_formed (span 0 r.through ∷ r.above) c.self.invariant.sound.apart in
    let less : held ≤ r.held = omega (arith, living_le spans r.runs, c.self.invariant.sum) in
    let more : passes_buffer (low + 1) r.held d ≡ false = ap (λ n. passes_buffer (n + 1) r.held d) (sym c.from-lowest.ensures) ∙ (sym c.passes_buffer.ensures ∙ c.if-not-passes_buffer.true) in
    let none : passes_buffer (low + 1) held d ≡ false = passes_less (low + 1) r.held held d less more in
    subst (λ (v : Receiver). None ≡ beyond_buffer v d) c.self.view_is
    (none_passes (lacks (span 0 r.through ∷ r.above) d.seq) (nat_lt d.forward d.seq) (passes_buffer (low + 1) held d) held none
    ∙ beyond_from r.arriving r.through r.above r.runs r.last r.highest d held low (lacks (span 0 r.through ∷ r.above) d.seq) (passes_buffer (low + 1) held d) formed.1 refl c.raised.ensures refl refl)
