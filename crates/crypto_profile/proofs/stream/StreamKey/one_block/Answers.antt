use Rattle.std.proofs.Common.{ℕ, List, [], ◌++◌, ap, ◌∙◌}
use Rattle.crypto_profile.specs.Hmac.{hmac}
use Rattle.crypto_profile.specs.Sealing.{stream_block}
use Rattle.crypto_profile.proofs.stream.StreamKey.one_block.Goals as goal

pub returns : goal.returns
returns c =
    let key : List ℕ = c.self.inside.alone in
    let number : List ℕ = c.args.number.now in
    c.finish.ensures key number (c.update.ensures key [] c.begin-stream.ensures)
    ∙ ap (λ (bytes : List ℕ). hmac key (number ++ bytes)) c.to_be_bytes.ensures
    ∙ ap (λ (k : List ℕ). stream_block k number c.args.i) c.self.view_is
