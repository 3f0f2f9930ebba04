use Rattle.rtmfp_script.proofs.Splits.{split_none, split_found}
use Rattle.rtmfp_script.proofs.fields.split.Goals as goal

pub returns-in-Some : goal.returns-in-Some
returns-in-Some c = split_found c.args.byte c.in-Some.at c.args.text.now _ c.split_at.result.1.now _ c.in-Some.ensures c.split_at.ensures.front c.split_at.ensures.back c.split_at-in-Some.ensures.back

pub returns-in-None : goal.returns-in-None
returns-in-None c = split_none c.args.byte c.args.text.now c.in-None.ensures
