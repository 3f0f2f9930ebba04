use Rattle.rtmfp_show.specs.ShowText.{chunk_line}
use Rattle.rtmfp_text.proofs.Pushes.{push_then, push_end}
use Rattle.rtmfp_show.proofs.show.show_chunk.Goals as goal

pub returns : goal.returns
unfolding chunk_line
returns c =
    let added = c.in_ok-show_fields.ensures in
    record { fields = added.0; told = added.1; joined = (push_then _ c.in_ok-push_number.ensures (push_then _ added.2 (push_end _ c.in_ok-push.ensures))).joined }
