use Rattle.rtmfp_words.proofs.Texts.{number_read}
use Rattle.rtmfp_words.proofs.option.read_value.Goals as goal

pub returns : goal.returns
returns c = number_read c.args.value.now c.read_number.result c.read_number.ensures.reads c.read_number.ensures.only
