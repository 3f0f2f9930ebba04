use Rattle.std.proofs.Common.{rules}
use Rattle.rtmfp_script.specs.Fields.{counting_of}
use Rattle.rtmfp_script.proofs.content.counted.Goals as goal

pub returns : goal.returns
unfolding counting_of
returns c = search rules
