use Rattle.std.proofs.Common.{◌∙◌, ap, cond, None}
use Rattle.std.specs.FinMap.{get}
use Rattle.std.specs.Cmp.Lexicographic.{nat_list_eq_equiv}
use Rattle.startup.proofs.Prints.{get_taken}
use Rattle.startup.proofs.generation_edges.an_end_forgets_what_was_kept.Goals as goal

pub returns-clause-gone : goal.returns-clause-gone
returns-clause-gone c s peer fact = get_taken s.kept peer peer ∙ ap (λ b. cond b None (get s.kept peer)) (nat_list_eq_equiv.refl peer)
