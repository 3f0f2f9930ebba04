use Rattle.std.proofs.Common.{◌≡◌, ◌≤◌, ◌+◌, ◌∷◌, length, take}
use Rattle.std.specs.List.{fold}
use Rattle.startup.specs.Redirects.{joined_beside, new_candidates}
use Rattle.startup.proofs.candidates.new_among.Given as goal

abbrev pub invariant-loop-address : goal.invariant-loop-address
invariant-loop-address l = record {
  rest : fold (joined_beside l.held) (take l.new.count l.new.to) l.address-iterator ≡ new_candidates l.held (l.first ∷ l.fn.others);
  counted : length (take l.new.count l.new.to) ≡ l.new.count;
  few : length l.held + l.new.count ≤ 16;
}
