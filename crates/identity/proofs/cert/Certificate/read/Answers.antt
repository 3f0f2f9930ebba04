use Rattle.std.proofs.Common.{◌≡◌, ◌-◌, ℕ, List, length, take, replicate, ap, sym, Ok, ◌∙◌}
use Rattle.std.proofs.Math.Seq.{take-append_seam}
use Rattle.identity.proofs.Padded.{stored_padded}
use Rattle.identity.proofs.cert.Certificate.read.Goals as goal

pub invariant_of-result : goal.invariant_of-result
invariant_of-result c = rw c.padded.ensures (stored_padded c.args.bytes.now (sym c.in-None.ensures))

pub returns-in-None-clause-ok : goal.returns-in-None-clause-ok
returns-in-None-clause-ok c =
    let bytes : List ℕ = c.args.bytes.now in
    let same : take (length bytes) c.padded.result ≡ bytes =
    ap (λ kept. take (length bytes) kept) c.padded.ensures ∙ take-append_seam bytes (replicate (80 - length bytes) 0) in
    λ _. ap (λ kept. Ok kept) same
