use Rattle.rtmfp_vlu.proofs.Spellings.{complete_from, short_from, large_from}
use Rattle.rtmfp_vlu.proofs.Decoded.{exact_from}
use Rattle.rtmfp_vlu.proofs.reading.read_vlu.Goals as goal

pub returns-clause-complete : goal.returns-clause-complete
returns-clause-complete c = complete_from c.args.bytes.now _ c.decode.ensures

pub returns-clause-short : goal.returns-clause-short
returns-clause-short c = short_from c.args.bytes.now _ c.decode.ensures

pub returns-clause-large : goal.returns-clause-large
returns-clause-large c = large_from c.args.bytes.now _ c.decode.ensures

pub returns-clause-exact : goal.returns-clause-exact
returns-clause-exact c = exact_from c.args.bytes.now _ c.decode.ensures
