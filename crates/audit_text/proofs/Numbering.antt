-- Numbers, as the reader of numbers tells them.
use Rattle.std.proofs.Common.{◌≡◌, ℕ, ◌^◌, ◌<◌, List, Option, Some, None, refl, sym, ap, ◌∙◌}
use Rattle.std.specs.Prelude.{IfSome}
use Rattle.std.specs.Fmt.{decimal}
use Rattle.rtmfp_script.specs.Fields.{number_of}
use Rattle.rtmfp_script.proofs.Numbers.{number_of-decimal, number_of-some}

number_none : (word : List ℕ) (o : Option ℕ) → number_of word ≡ o → ((n : ℕ) → n < 2 ^ 64 → word ≡ decimal n → None ≡ Some n) → None ≡ o
number_none word None e only = refl
number_none word (Some n) e only = let is = number_of-some word n e in only n is.1 is.0

pub number_read : (word : List ℕ) (o : Option ℕ) → IfSome o (λ n. (word ≡ decimal n) × (n < 2 ^ 64)) → ((n : ℕ) → n < 2 ^ 64 → word ≡ decimal n → o ≡ Some n) → o ≡ number_of word
number_read word None reads only = number_none word (number_of word) refl only
number_read word (Some n) reads only = sym (ap number_of reads.0 ∙ number_of-decimal n reads.1)
