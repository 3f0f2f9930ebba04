use Rattle.std.proofs.Common.{◌≡◌, Option, ℕ, None, Some, sym, ◌∙◌}
use Rattle.rtmfp_audit.proofs.Found.{found_line}
use Rattle.rtmfp_audit.proofs.telling.line_found.Goals as goal

pub unreachable-requires : goal.unreachable-requires
unreachable-requires c =
    let found = found_line c.args.gathered.now c.args.finding.now c.requires.read c.requires.first in
    let e : ◌≡◌ {A = Option ℕ} None (Some found.0) = sym c.in-None.is ∙ c.line_of.ensures ∙ found.1 in
    cc
