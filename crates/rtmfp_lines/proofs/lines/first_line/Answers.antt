use Rattle.std.proofs.Common.{◌≡◌, ◌≢◌, true, length, [], ap, eq-eqb}
use Rattle.std.specs.Prelude.{◌==◌}
use Rattle.rtmfp_lines.proofs.LfLaws.{split_first, split_last}
use Rattle.rtmfp_lines.proofs.lines.first_line.Goals as goal

pub returns-in-Some : goal.returns-in-Some
returns-in-Some c = split_first c.args.text.now _ _ c.in-Some.end c.in-Some.ensures c.split_at.ensures.front c.split_at-in-Some.ensures.back

pub returns-in-None : goal.returns-in-None
returns-in-None c =
    let some : c.args.text.now ≢ [] = λ e. let none : (length c.args.text.now == 0) ≡ true = eq-eqb (length c.args.text.now) 0 (ap length e) in absurd (cc (none, c.is_empty.ensures, c.if-is_empty.false)) in
    split_last c.args.text.now _ _ c.in-None.ensures some c.split_at-in-None.ensures.front c.split_at-in-None.ensures.back
