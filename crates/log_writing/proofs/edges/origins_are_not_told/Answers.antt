use Rattle.std.proofs.Common.{refl}
use Rattle.std.specs.Fmt.{digits}
use Rattle.hex.proofs.OnLiterals.{hex_on_literals}
use Rattle.rtmfp_text.specs.AddressText.{address_text, v4_host_text}
use Rattle.audit_text.specs.Grammar.{call_text, entry_text, line_text}
use Rattle.log_writing.proofs.edges.origins_are_not_told.Goals as goal

pub returns-clause-unknown : goal.returns-clause-unknown
unfolding digits hex_on_literals address_text v4_host_text call_text entry_text line_text
returns-clause-unknown c = refl

pub returns-clause-observed : goal.returns-clause-observed
unfolding digits hex_on_literals address_text v4_host_text call_text entry_text line_text
returns-clause-observed c = refl
