use Rattle.std.proofs.Common.{◌≡◌, refl, ap, ◌∙◌, None}
use Rattle.std.specs.Prelude.{Ok}
use Rattle.sha2.specs.Sha256.{sha256}
use Rattle.identity.specs.Certificates.{certificate_fault}
use Rattle.rtmfp_meet.specs.Nodes.{certificate_of, print_of}
use Rattle.rtmfp_meet.specs.declared.node.Node.{Node}
use Rattle.rtmfp_meet.specs.declared.node.Node.TheVariants.{Introducer, Answerer, Caller}
use Rattle.rtmfp_meet.proofs.node.print_of.Goals as goal

-- it has the form of a certificate
formed : (node : Node) → certificate_fault (certificate_of node) ≡ None
formed Introducer = refl
formed Answerer = refl
formed Caller = refl

pub returns : goal.returns
unfolding print_of
returns c =
    let read = c.in-Ok.ensures.ok (ap certificate_fault c.requires ∙ formed c.args.node) in
    let same : c.in-Ok.certificate ≡ c.args.bytes.now = cc (read) in
    c.print.ensures ∙ ap sha256 (same ∙ c.requires)
