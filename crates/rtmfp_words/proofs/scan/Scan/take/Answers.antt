use Rattle.std.proofs.Common.{sym, ◌∙◌, map, string_bytes}
use Rattle.rtmfp_words.specs.ItemReading.{put}
use Rattle.rtmfp_words.specs.Scanning.{single_added}
use Rattle.rtmfp_words.proofs.Scanning.{take_named, named_refused, value_missing, when_faulty, single_goes, single_ends}
use Rattle.rtmfp_words.proofs.scan.Scan.take.Goals as goal

pub returns-in-Ok-clause-goes : goal.returns-in-Ok-clause-goes
returns-in-Ok-clause-goes c = take_named c.args.self.now c.put_copy.new.self c.args.word.now c.as_bytes.result.now c.in-Some.name c.name_of.result c.args.after.now c.in-Some-split_first.rest.now c.in-Some-split_first.value.now c.name_of.ensures c.in-Some.is c.in-Some-split_first.ensures.cases.0 c.as_bytes.ensures.value c.in-Ok.ensures

pub returns-in-Err-clause-goes : goal.returns-in-Err-clause-goes
returns-in-Err-clause-goes c = when_faulty (put c.args.self.now c.in-Some.name c.as_bytes.result.now) c.in-Err.fault c.put_copy.new.self _ c.in-Err.ensures
    (named_refused c.args.self.now c.args.word.now c.as_bytes.result.now c.in-Some.name c.name_of.result c.args.after.now c.in-Some-split_first.rest.now c.in-Some-split_first.value.now c.name_of.ensures c.in-Some.is c.in-Some-split_first.ensures.cases.0 c.as_bytes.ensures.value)

pub returns-in-None-split_first-clause-goes : goal.returns-in-None-split_first-clause-goes
returns-in-None-split_first-clause-goes c = λ _. value_missing c.args.self.now c.args.word.now c.in-Some.name c.name_of.result c.args.after.now c.name_of.ensures c.in-Some.is c.in-None-split_first.ensures.cases

pub returns-in-Ok-put_single-clause-goes : goal.returns-in-Ok-put_single-clause-goes
returns-in-Ok-put_single-clause-goes c = single_goes c.args.self.now c.put_single.new.self c.args.word.now (map string_bytes c.args.after.now) (sym c.name_of.ensures ∙ c.in-None.is) c.in-Ok-put_single.ensures

pub returns-in-Err-put_single-clause-goes : goal.returns-in-Err-put_single-clause-goes
returns-in-Err-put_single-clause-goes c = when_faulty (single_added c.args.self.now c.args.word.now) c.in-Err-put_single.fault c.put_single.new.self _ c.in-Err-put_single.ensures
    (single_ends c.args.self.now c.args.word.now (map string_bytes c.args.after.now) (sym c.name_of.ensures ∙ c.in-None.is))
