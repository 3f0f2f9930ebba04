-- Lines of which the reader's answer is computed.
use Rattle.std.proofs.Common.{◌≡◌, ℕ, List, Some, None}
use Rattle.std.specs.Prelude.{⊤}
use Rattle.hex.proofs.OnLiterals.{hex_on_literals}
use Rattle.rtmfp_script.specs.Fields.{address_at, address_of, digits_of, hexadecimal_of, name_of, number_below, number_from, number_of, split_of, v4_of, v6_of, with_digit}
use Rattle.audit_text.specs.declared.line.LogLine.{LogLine}
use Rattle.audit_text.specs.Grammar.{IsLineOf, IsOutside}
use Rattle.audit_text.specs.Fields.{certificate_in, certificate_of, first_by, of_digits, sender_of, service_of, why_of}
use Rattle.audit_text.specs.Readings.{advanced_of, bare_of, born_of, call_by, call_of, cancel_of, close_of, closed_of, confirmed_of, context_at, context_by, drawn_of, ended_of, entry_by, entry_line_of, entry_of, event_of, event_said, joined_of, learn_of, learnt_of, line_by, line_of, log_of, open_of, opened_of, out_of, receive_of, seek_of, session_at, sought_of, started_of, startup_at, told_of, unseek_of, unsought_of}
use Rattle.audit_text.proofs.LinesRead.{line_sound, outside}

-- what is unfolded to compute the reader's answer
unfoldable pub reading : ⊤
unfolding hex_on_literals address_at address_of digits_of hexadecimal_of name_of number_below number_from number_of split_of v4_of v6_of with_digit certificate_in certificate_of first_by of_digits sender_of service_of why_of advanced_of bare_of born_of call_by call_of cancel_of close_of closed_of confirmed_of context_at context_by drawn_of ended_of entry_by entry_line_of entry_of event_of event_said joined_of learn_of learnt_of line_by line_of log_of open_of opened_of out_of receive_of seek_of session_at sought_of started_of startup_at told_of unseek_of unsought_of
reading = tt

pub inside : (line : List ℕ) (said : LogLine) → line_of line ≡ Some said → IsLineOf line said
inside line said e = line_sound line said e

pub beyond : (line : List ℕ) → line_of line ≡ None → IsOutside line
beyond line e = outside line e
