use Rattle.std.proofs.Common.{◌≤◌, length, drop, ◌-◌, ◌+◌, arith, ap, ◌∙◌}
use Rattle.std.proofs.lemmas.List.{length-take}
use Rattle.rtmfp_lines.specs.Pending.{Pending}
use Rattle.rtmfp_lines.proofs.Windows.{window-later}
use Rattle.rtmfp_lines.proofs.buffer.Buffer.consume.Goals as goal

pub returns-clause-bytes : goal.returns-clause-bytes
returns-clause-bytes c =
    let i = c.self.inside in
    let size = ap (λ (p : Pending). length p.bytes) c.self.view_is in
    let fits : i.start + c.args.count ≤ i.end = omega (arith, size, c.requires, c.self.invariant, length-take (i.end - i.start) (drop i.start i.storage.items)) in
    window-later i.start i.end c.args.count i.storage.items fits ∙ ap (λ (p : Pending). drop c.args.count p.bytes) c.self.view_is
