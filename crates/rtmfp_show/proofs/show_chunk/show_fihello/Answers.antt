use Rattle.rtmfp_show.specs.ChunkText.{chunk_text}
use Rattle.rtmfp_text.proofs.Pushes.{push_then, push_end}
use Rattle.rtmfp_show.proofs.show_chunk.show_fihello.Goals as goal

pub returns : goal.returns
unfolding chunk_text
returns c = (push_then _ c.in_ok-push_field.ensures (push_then _ c.in_ok-push.ensures (push_then _ c.in_ok-push_address.ensures (push_end _ c.in_ok-push_field-2.ensures)))).joined
