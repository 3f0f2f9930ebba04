use Rattle.std.proofs.Common.{◌++◌, ap, ◌∙◌}
use Rattle.rtmfp_show.specs.ShowText.{padding_text}
use Rattle.rtmfp_show.proofs.ChunkLines.{more_lines, whole_shown}
use Rattle.rtmfp_show.proofs.show.show_whole.Goals as goal

pub loop-chunk-preserved : goal.loop-chunk-preserved
loop-chunk-preserved c =
    let added = c.in_ok-show_chunk.ensures in
    more_lines _ _ _ _ _ _ added.fields _ _ _ c.loop-chunk.invariant c.in-Some.ensures.steps added.told added.joined

pub returns : goal.returns
returns c =
    let padded = c.in_ok-show_padding.ensures ∙ ap (λ n. c.loop-chunk.text ++ padding_text n) c.padding.ensures in
    whole_shown c.args.packet.now _ _ _ _ _ c.loop-chunk.invariant c.in-None.ensures.steps.0 padded
