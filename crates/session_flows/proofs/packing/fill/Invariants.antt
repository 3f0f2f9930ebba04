use Rattle.std.proofs.Common.{◌≡◌, ◌+◌, ◌<◌, ◌≤◌, ◌-◌, length}
use Rattle.session_flows.specs.Packing.{packs, packing_with, packing, left_to_send}
use Rattle.session_flows.specs.Laws.{AreNumbered}
use Rattle.session_flows.specs.Kept.{IsKept}
use Rattle.session_flows.proofs.packing.fill.Given as goal

abbrev pub invariant-loop : goal.invariant-loop
invariant-loop l = record {
  numbered : AreNumbered 0 l.sending;
  kept : IsKept l.sending l.kept;
  packed : packs l.pace (1165 - l.counter) (packing_with l.sending l.out l.marks) ≡ packs l.pace 1165 (packing l.fn.sending l.fn.out);
  longer : l.counter ≤ length l.out;
  fell : 0 < l.pace.resend_after → left_to_send l.pace l.sending + l.counter ≡ left_to_send l.pace l.fn.sending;
  begun : l.counter ≡ 0 → (l.sending ≡ l.fn.sending) × (l.out ≡ l.fn.out);
}
