use Rattle.std.proofs.Common.{◌≡◌, ◌++◌, length, ap, ◌∙◌, arith}
use Rattle.std.proofs.lemmas.Grind.{common_steps}
use Rattle.hex.specs.Hex.{encode_lower}
use Rattle.rtmfp_text.proofs.HexTexts.{hex_more, hex_all, none_left}
use Rattle.rtmfp_text.proofs.text.Text.push_hex.Goals as goal

pub loop-rest-preserved : goal.loop-rest-preserved
loop-rest-preserved c =
    let was = c.loop-rest.invariant in
    let split = c.split_at.ensures in
    ap (λ xs. xs ++ encode_lower c.split_at.result.1.now) c.in_ok-push_piece.ensures
    ∙ hex_more c.loop-rest.self c.args.self.now c.args.bytes.now c.split_at.result.0.now c.split_at.result.1.now c.loop-rest.rest.now c.min.result was split.front split.back

pub returns : goal.returns
returns c =
    let none : length c.loop-rest.rest.now ≡ 0 = grind (arith, common_steps) in
    hex_all c.loop-rest.self c.args.self.now c.args.bytes.now c.loop-rest.rest.now c.loop-rest.invariant (none_left c.loop-rest.rest.now none)
