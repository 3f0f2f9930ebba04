use Rattle.rtmfp_lines.proofs.LfLaws.{first_lf}
use Rattle.rtmfp_lines.proofs.lines.first_lf.Goals as goal

pub returns : goal.returns
returns c = first_lf c.args.bytes.now _ c.memchr.ensures
