use Rattle.std.proofs.Common.{◌∙◌, ◌≤◌, length, sym, ap, arith}
use Rattle.std.proofs.lemmas.List.{drop_all}
use Rattle.log_packets.proofs.opener.Opener.plain.Goals as goal

pub returns-then-bytes-lt-CIPHERED_AT : goal.returns-then-bytes-lt-CIPHERED_AT
returns-then-bytes-lt-CIPHERED_AT c =
    let short : length c.self.inside.buffer.items ≤ 32 = omega (arith, c.if-bytes-lt-CIPHERED_AT.true, ap length c.as_slice-bytes.ensures.value) in
    sym (drop_all 32 c.self.inside.buffer.items short) ∙ c.self.view_is
