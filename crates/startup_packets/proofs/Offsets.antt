-- Where the fields of a payload stand.
use Rattle.std.proofs.Common.{◌≡◌, ℕ, ◌≤◌, List, [], length, drop, refl, ap, ◌∙◌, arith}
use Rattle.std.proofs.Math.ListN.{drop_of_length-le}
use Rattle.rtmfp_vlu.specs.Reading.{number_at, end_within}
use Rattle.startup_packets.specs.Readings.{bytes_used, behind_vlu}

none_used : bytes_used (number_at []) ≡ 0
unfolding number_at end_within
none_used = refl

-- past the end stands no VLU
pub nothing_behind : (payload : List ℕ) (at : ℕ) → length payload ≤ at → at ≡ behind_vlu payload at
nothing_behind payload at past =
    let used : bytes_used (number_at (drop at payload)) ≡ 0 = ap (λ b. bytes_used (number_at b)) (drop_of_length-le payload past) ∙ none_used in
    omega (arith, used)
