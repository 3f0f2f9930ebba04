use Rattle.rtmfp_words.proofs.Texts.{head_given, head_missing}
use Rattle.rtmfp_words.proofs.words.next_word.Goals as goal

pub returns-in-Some : goal.returns-in-Some
returns-in-Some c = head_given c.args.words.now c.in-Some.word.now c.in-Some.rest.now c.as_bytes.result.now c.in-Some.ensures.cases.0 c.as_bytes.ensures.value

pub returns-in-None : goal.returns-in-None
returns-in-None c = head_missing c.args.words.now c.in-None.ensures.cases
