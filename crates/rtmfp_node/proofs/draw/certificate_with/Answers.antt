use Rattle.std.proofs.Common.{rules, ◌≡◌, ◌++◌, ◌∙◌, ap, None}
use Rattle.identity.specs.Certificates.{certificate_fault}
use Rattle.rtmfp_node.proofs.Certified.{is_certificate, is_read, never, no_fault}
use Rattle.rtmfp_node.proofs.draw.certificate_with.Goals as goal

pub unreachable-requires : goal.unreachable-requires
unreachable-requires c =
    let whole : c.as_slice.result.now ≡ c.args.instance.now ++ c.args.name.now = search rules in
    let fine : certificate_fault c.as_slice.result.now ≡ None = ap certificate_fault whole ∙ no_fault c.args.instance.now c.args.name.now (search rules) c.requires in
    never _ _ c.read.result (c.read.ensures.ok fine) c.in-Err.is

pub returns-clause-value : goal.returns-clause-value
returns-clause-value c =
    let whole : c.as_slice.result.now ≡ c.args.instance.now ++ c.args.name.now = search rules in
    let fine : certificate_fault c.as_slice.result.now ≡ None = ap certificate_fault whole ∙ no_fault c.args.instance.now c.args.name.now (search rules) c.requires in
    is_read c.as_slice.result.now c.in-Ok.certificate c.read.result (c.read.ensures.ok fine) c.in-Ok.is ∙ whole

pub returns-clause-form : goal.returns-clause-form
returns-clause-form c = is_certificate c.args.instance.now c.args.name.now (search rules) c.requires
