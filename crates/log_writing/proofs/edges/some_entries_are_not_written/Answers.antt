use Rattle.std.proofs.Common.{refl}
use Rattle.std.specs.Fmt.{digits}
use Rattle.hex.proofs.OnLiterals.{hex_on_literals}
use Rattle.rtmfp_text.specs.AddressText.{address_text, v4_host_text}
use Rattle.audit_text.specs.Grammar.{call_text, entry_text, line_text}
use Rattle.log_writing.proofs.edges.some_entries_are_not_written.Goals as goal

pub returns-clause-moved : goal.returns-clause-moved
unfolding digits hex_on_literals address_text v4_host_text call_text entry_text line_text
returns-clause-moved c = refl

pub returns-clause-flow : goal.returns-clause-flow
unfolding digits hex_on_literals address_text v4_host_text call_text entry_text line_text
returns-clause-flow c = refl

pub returns-clause-between : goal.returns-clause-between
unfolding digits hex_on_literals address_text v4_host_text call_text entry_text line_text
returns-clause-between c = refl
