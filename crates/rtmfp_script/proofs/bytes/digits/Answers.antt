use Rattle.std.proofs.Common.{◌≡◌, true, sym, ◌∙◌, arith}
use Rattle.std.specs.List.{list_all}
use Rattle.rtmfp_script.specs.Fields.{is_lower_digit}
use Rattle.rtmfp_script.proofs.Digits.{digits_of-good}
use Rattle.rtmfp_script.proofs.bytes.digits.Goals as goal

pub returns-in-Err-OutOfMemory-clause-memory : goal.returns-in-Err-OutOfMemory-clause-memory
returns-in-Err-OutOfMemory-clause-memory c =
    let all : list_all is_lower_digit c.args.word.now ≡ true = sym c.all_lower.ensures ∙ c.if-not-all_lower.false in
    digits_of-good c.args.word.now (omega arith) all
