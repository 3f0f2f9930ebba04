use Rattle.startup.proofs.Sound.{new_is_sound}
use Rattle.startup.proofs.startup.Startup.new.Goals as goal

pub invariant_of-result : goal.invariant_of-result
invariant_of-result c = rw (c.new-2.ensures.ledger, c.new-3.ensures, c.new-4.ensures) (record {
  print_is = c.print-print.ensures;
  sound = rw (c.print-print.ensures) (new_is_sound _ _ _);
})
