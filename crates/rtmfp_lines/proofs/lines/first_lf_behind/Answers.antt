use Rattle.std.proofs.Common.{List, ℕ, subst}
use Rattle.rtmfp_lines.specs.Reading.{IsFirstLf}
use Rattle.rtmfp_lines.proofs.Windows.{to_the_end}
use Rattle.rtmfp_lines.proofs.lines.first_lf_behind.Goals as goal

pub returns : goal.returns
returns c = let P : List ℕ → Type 0 = λ xs. IsFirstLf xs c.first_lf.result in subst P (to_the_end c.args.scanned c.args.bytes.now) c.first_lf.ensures
