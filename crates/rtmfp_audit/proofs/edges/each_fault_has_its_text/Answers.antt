use Rattle.std.proofs.Common.{refl}
use Rattle.std.specs.Fmt.{digits}
use Rattle.rtmfp_audit.specs.Texts.{refused_text}
use Rattle.rtmfp_audit.proofs.edges.each_fault_has_its_text.Goals as goal

pub returns : goal.returns
unfolding refused_text digits
returns c = record { secrets = refl; unlawful = refl; not_honest = refl; not_fresh = refl }
