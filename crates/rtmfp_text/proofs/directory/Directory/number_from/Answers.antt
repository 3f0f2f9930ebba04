use Rattle.std.proofs.Common.{◌≡◌, true, List, Some, subst, rules}
use Rattle.std.specs.List.{position}
use Rattle.rtmfp_text.specs.declared.names.Named.{Named}
use Rattle.rtmfp_text.specs.Names.{is_called_at}
use Rattle.rtmfp_text.proofs.Listed.{called_first, has_name}
use Rattle.rtmfp_text.proofs.directory.Directory.number_from.Goals as goal

pub returns-then-is_called_at : goal.returns-then-is_called_at
returns-then-is_called_at c =
    let ends = c.self.inside.named.items in
    let called : is_called_at ends c.args.number c.args.name.now ≡ true = search rules in
    subst (λ (es : List Named). Some c.args.number ≡ position (has_name c.args.name.now) es) c.self.view_is
    (called_first ends c.args.number c.args.name.now c.self.invariant called)
