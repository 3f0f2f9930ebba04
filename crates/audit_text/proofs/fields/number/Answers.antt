use Rattle.audit_text.proofs.Numbering.{number_read}
use Rattle.audit_text.proofs.fields.number.Goals as goal

pub returns : goal.returns
returns c = number_read c.args.word.now c.read_number.result c.read_number.ensures.reads c.read_number.ensures.only
