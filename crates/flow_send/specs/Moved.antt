-- Sums in which one row gives other values than before.
use Rattle.std.specs.Prelude.{◌+◌, ◌-◌, ◌<◌, ◌≤◌, ◌^◌}
use Rattle.flow_send.specs.declared.totals.Totals.{Totals}

abbrev pub moved : Totals → Totals → Totals → Totals
moved all before after = record {
  flight = all.flight - before.flight + after.flight;
  flying = all.flying - before.flying + after.flying;
  stored = all.stored - before.stored + after.stored;
  lost = all.lost - before.lost + after.lost;
}

pub record IsWithin (one all : Totals) : Type 0 where
  pub flight : one.flight ≤ all.flight
  pub flying : one.flying ≤ all.flying
  pub stored : one.stored ≤ all.stored
  pub lost : one.lost ≤ all.lost

pub record Fit (all : Totals) : Type 0 where
  pub flight : all.flight < 2 ^ 64
  pub flying : all.flying < 2 ^ 64
  pub stored : all.stored < 2 ^ 64
  pub lost : all.lost < 2 ^ 64
