use Rattle.std.proofs.Common.{ap, ◌∙◌}
use Rattle.rtmfp_lines.specs.Pending.{Pending}
use Rattle.rtmfp_lines.proofs.Windows.{IsLent, fill_done, fill_kept}
use Rattle.rtmfp_lines.proofs.buffer.Buffer.fill.Goals as goal

pub returns-in-Done-clause-filled : goal.returns-in-Done-clause-filled
returns-in-Done-clause-filled g c =
    let i = c.self.inside in
    let seen = ap (λ (p : Pending). p.bytes) c.self.view_is ∙ c.compact.ensures.bytes in
    let lent : IsLent i.storage.len i.start i.end i.storage.items c.deref_mut.result.now c.args.self.now.bytes =
    record { size = i.storage.ok.0; value = c.deref_mut.ensures.value; ordered = c.self.invariant.0; within = c.self.invariant.1; seen = seen } in
    fill_done _ _ i.storage.len i.start i.end c.in-Done.count i.storage.items c.deref_mut.result.now c.args.self.now.bytes c.read_behind.new.bytes lent c.read_behind.ensures.length c.in-Done.ensures.behind

pub returns-in-End-clause-filled : goal.returns-in-End-clause-filled
returns-in-End-clause-filled g c =
    let i = c.self.inside in
    let seen = ap (λ (p : Pending). p.bytes) c.self.view_is ∙ c.compact.ensures.bytes in
    let lent : IsLent i.storage.len i.start i.end i.storage.items c.deref_mut.result.now c.args.self.now.bytes =
    record { size = i.storage.ok.0; value = c.deref_mut.ensures.value; ordered = c.self.invariant.0; within = c.self.invariant.1; seen = seen } in
    let behind = c.in-End.ensures.behind in
    (behind.0, behind.1, fill_kept i.storage.len i.start i.end i.storage.items c.deref_mut.result.now c.args.self.now.bytes c.read_behind.new.bytes lent c.read_behind.ensures.length behind.2)

pub returns-in-Failed-clause-filled : goal.returns-in-Failed-clause-filled
returns-in-Failed-clause-filled g c =
    let i = c.self.inside in
    let seen = ap (λ (p : Pending). p.bytes) c.self.view_is ∙ c.compact.ensures.bytes in
    let lent : IsLent i.storage.len i.start i.end i.storage.items c.deref_mut.result.now c.args.self.now.bytes =
    record { size = i.storage.ok.0; value = c.deref_mut.ensures.value; ordered = c.self.invariant.0; within = c.self.invariant.1; seen = seen } in
    let behind = c.in-Failed.ensures.behind in
    (behind.0, fill_kept i.storage.len i.start i.end i.storage.items c.deref_mut.result.now c.args.self.now.bytes c.read_behind.new.bytes lent c.read_behind.ensures.length behind.1)
