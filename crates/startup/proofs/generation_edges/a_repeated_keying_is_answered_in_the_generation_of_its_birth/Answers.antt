use Rattle.std.proofs.Common.{◌∙◌, ap, cond, Some}
use Rattle.std.specs.FinMap.{get}
use Rattle.std.specs.Cmp.Lexicographic.{nat_list_eq_equiv}
use Rattle.startup.specs.Answers.{group_of}
use Rattle.startup.specs.Keyings.{born_session, kept_keying}
use Rattle.startup.proofs.Prints.{get_put}
use Rattle.startup.proofs.generation_edges.a_repeated_keying_is_answered_in_the_generation_of_its_birth.Goals as goal

pub returns-clause-kept : goal.returns-clause-kept
returns-clause-kept c s keying near nr secret =
    let k = kept_keying s (born_session s.ledger keying near nr) (group_of 7 secret) in
    get_put s.kept keying.peer k keying.peer ∙ ap (λ b. cond b (Some k) (get s.kept keying.peer)) (nat_list_eq_equiv.refl keying.peer)
