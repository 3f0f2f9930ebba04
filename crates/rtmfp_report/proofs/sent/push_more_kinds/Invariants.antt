use Rattle.std.proofs.Common.{◌≡◌, ◌++◌}
use Rattle.endpoint.specs.Kinds.{kinds_left}
use Rattle.rtmfp_report.specs.SentText.{behind_pluses}
use Rattle.rtmfp_report.proofs.sent.push_more_kinds.Given as goal

abbrev pub invariant-loop-kind : goal.invariant-loop-kind
invariant-loop-kind l = l.text ++ behind_pluses (kinds_left l.kind-iterator) ≡ l.fn.text ++ behind_pluses (kinds_left l.fn.kinds)
