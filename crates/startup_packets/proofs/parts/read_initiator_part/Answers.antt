use Rattle.std.proofs.Common.{rules, arith, ◌∙◌}
use Rattle.std.proofs.lemmas.List.{take_rest}
use Rattle.startup_packets.proofs.Components.{initiator_again}
use Rattle.startup_packets.proofs.parts.read_initiator_part.Goals as goal

pub returns-clause-spelled : goal.returns-clause-spelled
returns-clause-spelled c =
    initiator_again c.args.bytes.now c.copy_from_slice.new.self c.copy_from_slice-2.new.self c.copy_from_slice-3.new.self c.from_be_bytes.result
    (λ i. let fits = c.type_inv.bytes i in omega arith) (search rules) c.copy_from_slice.ensures.after c.copy_from_slice-2.ensures.after c.from_be_bytes.ensures (c.copy_from_slice-3.ensures.after ∙ take_rest c.args.bytes.now 24)
