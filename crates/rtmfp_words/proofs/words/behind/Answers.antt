use Rattle.std.proofs.lemmas.Bool.Decides.{Decides-eqb}
use Rattle.std.proofs.lemmas.Slice.Eq.{strip_prefix_is}
use Rattle.rtmfp_words.proofs.Texts.{behind_found}
use Rattle.rtmfp_words.proofs.words.behind.Goals as goal

pub returns : goal.returns
returns c = behind_found c.args.front.now c.args.word.now c.strip_prefix.result
    (strip_prefix_is Decides-eqb c.args.word.now c.args.front.now c.strip_prefix.result c.strip_prefix.ensures.cases)
