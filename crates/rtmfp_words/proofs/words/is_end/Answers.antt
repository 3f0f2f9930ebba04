use Rattle.std.specs.Prelude.{map, string_bytes}
use Rattle.rtmfp_words.proofs.Texts.{some_head, no_head}
use Rattle.rtmfp_words.proofs.words.is_end.Goals as goal

pub returns-in-Some : goal.returns-in-Some
returns-in-Some c = some_head (map string_bytes c.args.words.now) _ c.in-Some.ensures

pub returns-in-None : goal.returns-in-None
returns-in-None c = no_head (map string_bytes c.args.words.now) c.in-None.ensures
