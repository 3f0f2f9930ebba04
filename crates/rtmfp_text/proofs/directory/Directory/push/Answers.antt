use Rattle.std.proofs.Common.{◌≡◌, List, false, sym, subst}
use Rattle.std.specs.List.{list_any}
use Rattle.rtmfp_text.specs.declared.names.Named.{Named}
use Rattle.rtmfp_text.specs.Names.{AreUnlike, is_like}
use Rattle.rtmfp_text.proofs.Listed.{unlike_more}
use Rattle.rtmfp_text.proofs.directory.Directory.push.Goals as goal

pub invariant_of-self-2 : goal.invariant_of-self-2
invariant_of-self-2 c =
    let ends = c.self.inside.named.items in
    let none : list_any (is_like c.args.end.name c.args.end.print) ends ≡ false =
    subst (λ (es : List Named). list_any (is_like c.args.end.name c.args.end.print) es ≡ false) (sym c.self.view_is) c.requires in
    subst (λ (es : List Named). AreUnlike es) (sym c.in_ok-push.ensures.items) (unlike_more ends c.args.end c.self.invariant none)
