use Rattle.std.proofs.Common.{◌≡◌, ℕ, ◌^◌, ◌<◌, List, Option, Some, None, sym, ap, ◌∙◌}
use Rattle.std.specs.Prelude.{IfSome}
use Rattle.std.specs.Fmt.{decimal}
use Rattle.rtmfp_script.specs.Fields.{number_of}
use Rattle.rtmfp_script.proofs.Numbers.{number_of-some, number_of-decimal}
use Rattle.rtmfp_script.proofs.fields.read_number.Goals as goal

reads : (word : List ℕ) (o : Option ℕ) → o ≡ number_of word → IfSome o (λ n. (word ≡ decimal n) × (n < 2 ^ 64))
reads word None is = tt
reads word (Some n) is = number_of-some word n (sym is)

pub returns-clause-reads : goal.returns-clause-reads
returns-clause-reads c = reads c.args.word.now c.number.result c.number.ensures

pub returns-clause-only : goal.returns-clause-only
returns-clause-only c = λ n small is. c.number.ensures ∙ ap number_of is ∙ number_of-decimal n small
