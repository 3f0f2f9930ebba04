-- How far a run of a node has come.
use Rattle.std.specs.Prelude.{ℕ, List}
use Rattle.endpoint_model.specs.Event.{Event, moment_at}
use Rattle.endpoint_laws.specs.Past.{last_moment}
use Rattle.rtmfp_report.specs.EntryText.{sent_after}
use Rattle.rtmfp_node.specs.Events.{entries_of}

-- how many datagrams went out, and the largest moment that the end was given
pub record Reached : Type 0 where
  pub sent : ℕ
  pub moment : ℕ

abbrev pub at_first : Reached
at_first = record { sent = 0; moment = 0 }

abbrev pub reached_by : Reached → Event → Reached
reached_by far e = record {
  sent = sent_after far.sent e.entries;
  moment = moment_at far.moment e;
}

abbrev pub reached_after : Reached → List Event → Reached
reached_after far log = record {
  sent = sent_after far.sent (entries_of log);
  moment = last_moment far.moment log;
}
