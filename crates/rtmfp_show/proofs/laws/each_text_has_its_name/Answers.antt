use Rattle.rtmfp_show.proofs.Naming.{chunk_named, data_named}
use Rattle.rtmfp_show.proofs.laws.each_text_has_its_name.Goals as goal

pub returns : goal.returns
returns c = record { chunks = chunk_named; flows = data_named }
