use Rattle.std.proofs.Common.{[], ◌∷◌}
use Rattle.crypto_profile.specs.declared.keys.Context.TheVariants.{Startup}
use Rattle.log_arrivals.proofs.Firsts.{in_first, in_second, in_none, not_in_one, not_in_two}
use Rattle.log_arrivals.proofs.edges.the_current_generation_is_first.Goals as goal

pub returns-clause-both : goal.returns-clause-both
returns-clause-both c = λ secrets bytes plain found four five is. in_first secrets 0 bytes 4 (Startup 5 ∷ []) found plain four.0 four.1 is

pub returns-clause-current : goal.returns-clause-current
returns-clause-current c = λ secrets bytes plain found four five is. in_first secrets 0 bytes 4 (Startup 5 ∷ []) found plain four.0 four.1 is

pub returns-clause-next : goal.returns-clause-next
returns-clause-next c = λ secrets bytes plain found four five is. in_second secrets 0 bytes 4 5 found plain five.0 four five.1 is

pub returns-clause-neither : goal.returns-clause-neither
returns-clause-neither c = λ secrets bytes plain found four five is. in_none secrets 0 bytes (Startup 4 ∷ Startup 5 ∷ []) found plain (not_in_two secrets 0 bytes 4 5 plain four five) is

pub returns-clause-unknown : goal.returns-clause-unknown
returns-clause-unknown c = λ secrets bytes plain found four five is. in_none secrets 0 bytes (Startup 4 ∷ []) found plain (not_in_one secrets 0 bytes 4 plain four) is

pub returns-clause-alone : goal.returns-clause-alone
returns-clause-alone c = λ secrets bytes plain found four five is. in_first secrets 0 bytes 4 [] found plain four.0 four.1 is
