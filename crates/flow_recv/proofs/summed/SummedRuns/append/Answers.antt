use Rattle.std.proofs.Common.{List, ◌+◌, ◌<◌, ◌^◌, length, length-append, refl, sym, ap, ◌∙◌, subst, arith}
use Rattle.rtmfp_data_chunks.specs.Runs.{Run, single, joined}
use Rattle.flow_recv.specs.Receiver.{held_in}
use Rattle.flow_recv.specs.Keyed.{run_at}
use Rattle.flow_recv.specs.Sums.{place, open_at}
use Rattle.flow_recv.proofs.Summing.{share_le, given_le, bytes_after, sums_changed}
use Rattle.flow_recv.proofs.summed.SummedRuns.append.Goals as goal

pub take-requires : goal.take-requires
take-requires c =
    let s = c.self.inside in
    let o = c.open_at-before.result in
    let le = share_le s.sums c.args.first s.runs o c.self.invariant c.open_at-before.ensures in
    omega (arith, le, c.make.ensures.same (place o.last))

pub add-requires-clause-few : goal.add-requires-clause-few
add-requires-clause-few c =
    let s = c.self.inside in
    let i = place c.open_at-after.result.last in
    let more = length c.args.bytes.now in
    let to : Run → Run = λ y. joined y (single c.args.number c.args.part c.args.bytes.now) in
    let few : held_in s.runs + more < 2 ^ 32 = subst (λ (ys : List Run). held_in ys + more < 2 ^ 32) (sym c.self.view_is) c.requires.few in
    let bytes = bytes_after to c.args.first more s.runs c.open_at-after.result (λ y. refl) (λ y. omega (arith, length-append y.bytes c.args.bytes.now))
    (c.open_at-after.ensures ∙ ap (λ (ys : List Run). open_at (run_at c.args.first ys)) c.in_ok-append.ensures.appended) in
    omega (arith, few, bytes, c.self.invariant i, c.make.ensures.same i, c.take.ensures.taken i, given_le i s.runs)

pub invariant_of-self-2 : goal.invariant_of-self-2
invariant_of-self-2 c = λ i.
    let s = c.self.inside in
    sums_changed i (λ y. joined y (single c.args.number c.args.part c.args.bytes.now)) c.args.first _ _ _ s.runs c.append.new.self c.open_at-before.result c.open_at-after.result
    (λ y. refl) c.open_at-before.ensures c.open_at-after.ensures c.in_ok-append.ensures.appended
    (c.make.ensures.same i ∙ c.self.invariant i) (c.take.ensures.taken i) (c.add.ensures.added i)
