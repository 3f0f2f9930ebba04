use Rattle.rtmfp_show.specs.ChunkText.{chunk_text}
use Rattle.rtmfp_text.proofs.Pushes.{push_then, push_end}
use Rattle.rtmfp_show.proofs.show_chunk.show_fragment.Goals as goal

pub returns : goal.returns
unfolding chunk_text
returns c = (push_then _ c.in_ok-push_bit_field.ensures (push_then _ c.in_ok-push_number_field.ensures (push_then _ c.in_ok-push_number_field-2.ensures (push_end _ c.in_ok-push_field.ensures)))).joined
