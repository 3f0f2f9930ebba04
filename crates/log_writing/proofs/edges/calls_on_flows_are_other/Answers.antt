use Rattle.std.proofs.Common.{refl}
use Rattle.std.specs.Fmt.{digits}
use Rattle.hex.proofs.OnLiterals.{hex_on_literals}
use Rattle.rtmfp_text.specs.AddressText.{address_text, v4_host_text}
use Rattle.audit_text.specs.Grammar.{call_text, entry_text, line_text}
use Rattle.log_writing.proofs.edges.calls_on_flows_are_other.Goals as goal

pub returns-clause-flows : goal.returns-clause-flows
unfolding digits hex_on_literals address_text v4_host_text call_text entry_text line_text
returns-clause-flows c = refl

pub returns-clause-cancels : goal.returns-clause-cancels
unfolding digits hex_on_literals address_text v4_host_text call_text entry_text line_text
returns-clause-cancels c = refl

pub returns-clause-ticks : goal.returns-clause-ticks
unfolding digits hex_on_literals address_text v4_host_text call_text entry_text line_text
returns-clause-ticks c = refl
