use Rattle.std.proofs.Common.{◌≡◌, ◌<◌, ◌≤◌, length, take, drop, arith}
use Rattle.std.proofs.lemmas.Grind.{common_steps}
use Rattle.rtmfp_host.proofs.Pieces.{takes_piece}
use Rattle.rtmfp_host.proofs.memory_source.MemorySourceSource.read.Goals as goal

pub returns-clause-bytes : goal.returns-clause-bytes
returns-clause-bytes c =
    let some : 0 < c.min-count.result = omega arith in
    let rest = drop c.args.self.now.at c.args.self.now.bytes.items in
    let got : c.copy_from_slice.new.self ≡ take c.min-count.result rest = grind (arith, common_steps) in
    let there : c.min-count.result ≤ length rest = grind (arith, common_steps) in
    let fits : c.min-count.result ≤ length c.args.buf.now = omega arith in
    takes_piece c.args.self.now.bytes.items c.args.buf.now c.copy_from_slice.new.self c.args.self.now.at c.min-count.result some got there fits
