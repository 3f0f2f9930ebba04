use Rattle.std.proofs.Common.{◌≡◌, ◌≤◌, ◌-◌, length, take, ap, ◌∙◌, refl, arith}
use Rattle.crypto_profile.specs.Keys.{keys_of}
use Rattle.crypto_profile.specs.Opening.{plain_of}
use Rattle.rtmfp_report.proofs.OnlyKind.{only_kind-told}
use Rattle.rtmfp_report.proofs.sent.only_kind.Goals as goal

pub returns : goal.returns
returns c =
    let keys = keys_of c.args.group.now.secret c.args.context.now in
    let count = c.min-count.result in
    let enough : 32 ≤ count = omega (arith, c.min-count.ensures, c.requires.long) in
    let front : c.split_at-2.result.1.now ≡ plain_of keys (take count c.args.part.now) =
    c.split_at-2.ensures.back ∙ c.decipher.ensures.plain ∙ ap (plain_of keys) (c.copy_from_slice.ensures.after ∙ c.split_at.ensures.front) in
    only_kind-told keys c.args.part.now c.split_at-2.result.1.now count (length c.args.part.now - 32) c.lone_kind.result enough refl front c.lone_kind.ensures
