use Rattle.std.proofs.Common.{List, ◌+◌, ◌<◌, ◌^◌, length, refl, sym, ◌∙◌, subst, arith}
use Rattle.rtmfp_data_chunks.specs.Runs.{Run}
use Rattle.flow_recv.specs.Receiver.{held_in}
use Rattle.flow_recv.specs.Keyed.{run_at, over}
use Rattle.flow_recv.specs.Sums.{place}
use Rattle.flow_recv.proofs.Keeping.{opened}
use Rattle.flow_recv.proofs.Summing.{share_le, share_left, given_le, joined_bytes, sums_joined}
use Rattle.flow_recv.proofs.summed.SummedRuns.join.Goals as goal

pub take-requires : goal.take-requires
take-requires c =
    let s = c.self.inside in
    let o = c.open_at-before.result in
    let le = share_le s.sums c.args.first s.runs o c.self.invariant c.open_at-before.ensures in
    omega (arith, le, c.make.ensures.same (place o.last))

pub take-requires-2 : goal.take-requires-2
take-requires-2 c =
    let s = c.self.inside in
    share_left c.make.new.self c.take.new.self c.args.first c.args.later s.runs c.open_at-before.result c.open_at-gone.result c.requires.apart
    (λ i. c.make.ensures.same i ∙ c.self.invariant i) c.open_at-before.ensures c.open_at-gone.ensures c.take.ensures.taken

pub add-requires-clause-few : goal.add-requires-clause-few
add-requires-clause-few c =
    let s = c.self.inside in
    let i = place c.open_at-after.result.last in
    let more = length c.args.bytes.now in
    let few : held_in s.runs + more < 2 ^ 32 = subst (λ (ys : List Run). held_in ys + more < 2 ^ 32) (sym c.self.view_is) c.requires.few in
    let z = opened (run_at c.args.later s.runs) _ c.in_ok-join.ensures.joined in
    let bytes = joined_bytes c.args.first c.args.later s.runs c.join.new.self c.args.bytes.now z.0 c.open_at-after.result c.requires.apart z.1 z.2 c.open_at-after.ensures in
    omega (arith, few, bytes, c.self.invariant i, c.make.ensures.same i, c.take.ensures.taken i, c.take-2.ensures.taken i, given_le i s.runs)

pub invariant_of-self-2 : goal.invariant_of-self-2
invariant_of-self-2 c = λ i.
    let s = c.self.inside in
    let z = opened (run_at c.args.later s.runs) _ c.in_ok-join.ensures.joined in
    sums_joined i (λ y. over y c.args.bytes.now z.0) c.args.first c.args.later _ _ _ _ s.runs c.join.new.self c.open_at-before.result c.open_at-gone.result c.open_at-after.result
    (λ y. refl) c.requires.apart c.open_at-before.ensures c.open_at-gone.ensures c.open_at-after.ensures z.2
    (c.make.ensures.same i ∙ c.self.invariant i) (c.take.ensures.taken i) (c.take-2.ensures.taken i) (c.add.ensures.added i)
