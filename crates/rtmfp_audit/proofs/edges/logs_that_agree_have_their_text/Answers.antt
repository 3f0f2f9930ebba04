use Rattle.std.proofs.Common.{refl}
use Rattle.std.specs.Fmt.{digits}
use Rattle.rtmfp_audit.specs.Texts.{agreed_text}
use Rattle.rtmfp_audit.proofs.edges.logs_that_agree_have_their_text.Goals as goal

pub returns : goal.returns
unfolding agreed_text digits
returns c = record { none = refl; two = refl }
