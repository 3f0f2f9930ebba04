-- How a line is read, as a function.
use Rattle.std.specs.Prelude.{ℕ, ◌^◌, nat_le, List, [], length, codes, Option, Some, None, if◌then◌else◌}
use Rattle.std.specs.Str.{bytes_eq}
use Rattle.rtmfp_forms.specs.Address.{AddressParts}
use Rattle.rtmfp_script.specs.declared.line.ScriptLine.{ScriptLine}
use Rattle.rtmfp_script.specs.declared.line.ScriptLine.TheVariants.{End, At, Call, Towards, Bring, Translator, Place, Carry}
use Rattle.rtmfp_script.specs.declared.line.CallLine.TheVariants.{Introduce, Narrow, Seek, Cancel, Unseek, Close, Flow, Queue, Abandon, Finish, Learn, Advance, Tick}
use Rattle.rtmfp_script.specs.declared.line.AimLine.TheVariants.{Redirect, Open}
use Rattle.rtmfp_script.specs.declared.line.BringLine.TheVariants.{Deliver, Bent, Inject, Forge}
use Rattle.rtmfp_script.specs.declared.line.Said.{Said}
use Rattle.rtmfp_script.specs.declared.line.Said.TheVariants.{Nothing, Step, Outside}
use Rattle.rtmfp_script.specs.Grammar.{IsLineOf, IsSkipped, TakesMemory, line_limit}
use Rattle.rtmfp_script.specs.Fields.{split_of, name_of, cert_of, number_of, number_below, bytes_of, hexadecimal_of, service_of, limit_by, content_of, rule_of, v4_of, address_of, addresses_of, either, ◌>>=◌}

-- what stands behind the first word of a line
unfoldable pub end_of : List ℕ → Option ScriptLine
end_of rest =
    split_of 32 rest >>= λ a.
    split_of 32 a.1 >>= λ b.
    split_of 32 b.1 >>= λ c.
    name_of a.0 >>= λ name.
    number_below (2 ^ 32) b.0 >>= λ peers.
    number_below (2 ^ 32) c.0 >>= λ sessions.
    cert_of c.1 >>= λ cert.
    Some (End name peers sessions cert)

unfoldable pub introduce_of : List ℕ → Option ScriptLine
introduce_of rest = name_of rest >>= λ name. Some (Call name Introduce)

unfoldable pub narrow_of : List ℕ → Option ScriptLine
narrow_of rest =
    split_of 32 rest >>= λ a.
    name_of a.0 >>= λ name.
    number_below (2 ^ 16) a.1 >>= λ limit.
    Some (Call name (Narrow limit))

-- a row of these addresses, where they are 16 at most
abbrev pub row_said : List ℕ → List ℕ → List AddressParts → Option ScriptLine
row_said name peer addresses =
    if nat_le (length addresses) 16 then Some (Towards name peer addresses Redirect) else None

unfoldable pub redirect_of : List ℕ → Option ScriptLine
redirect_of rest =
    split_of 32 rest >>= λ a.
    split_of 32 a.1 >>= λ b.
    name_of a.0 >>= λ name.
    name_of b.0 >>= λ peer.
    addresses_of b.1 >>= λ addresses.
    row_said name peer addresses

unfoldable pub at_of : List ℕ → Option ScriptLine
at_of rest = number_of rest >>= λ moment. Some (At moment)

unfoldable pub open_to : List ℕ → List ℕ → Option ScriptLine
open_to name rest = either
    (name_of rest >>= λ peer. Some (Towards name peer [] Open))
    (λ parts. name_of parts.0 >>= λ peer. addresses_of parts.1 >>= λ candidates. Some
    (Towards name peer candidates Open))
    (split_of 32 rest)

unfoldable pub open_of : List ℕ → Option ScriptLine
open_of rest = split_of 32 rest >>= λ a. name_of a.0 >>= λ name. open_to name a.1

unfoldable pub seek_for : List ℕ → List ℕ → Option ScriptLine
seek_for name rest = either
    (service_of rest >>= λ service. Some (Call name (Seek service [])))
    (λ parts. service_of parts.0 >>= λ service. addresses_of parts.1 >>= λ addresses. Some
    (Call name (Seek service addresses)))
    (split_of 32 rest)

unfoldable pub seek_of : List ℕ → Option ScriptLine
seek_of rest = split_of 32 rest >>= λ a. name_of a.0 >>= λ name. seek_for name a.1

unfoldable pub cancel_of : List ℕ → Option ScriptLine
cancel_of rest =
    split_of 32 rest >>= λ a.
    name_of a.0 >>= λ name.
    number_of a.1 >>= λ number.
    Some (Call name (Cancel number))

unfoldable pub unseek_of : List ℕ → Option ScriptLine
unseek_of rest =
    split_of 32 rest >>= λ a.
    name_of a.0 >>= λ name.
    number_below (2 ^ 32) a.1 >>= λ near.
    Some (Call name (Unseek near))

unfoldable pub close_of : List ℕ → Option ScriptLine
close_of rest =
    split_of 32 rest >>= λ a.
    name_of a.0 >>= λ name.
    number_below (2 ^ 32) a.1 >>= λ near.
    Some (Call name (Close near))

-- a word, and the number behind it, where there is one
unfoldable pub answers_of : List ℕ → Option (List ℕ × Option ℕ)
answers_of rest = either (Some (rest, None))
    (λ parts. number_of parts.1 >>= λ number. Some (parts.0, Some number))
    (split_of 32 rest)

-- an end, a session ID, and what stands behind them
unfoldable pub session_at : List ℕ → Option (List ℕ × ℕ × List ℕ)
session_at rest =
    split_of 32 rest >>= λ a.
    split_of 32 a.1 >>= λ b.
    name_of a.0 >>= λ name.
    number_below (2 ^ 32) b.0 >>= λ near.
    Some (name, near, b.1)

-- the flow that an end opens in a session
unfoldable pub flow_in : List ℕ → ℕ → List ℕ → Option ScriptLine
flow_in name near rest =
    split_of 32 rest >>= λ a.
    number_below 256 a.0 >>= λ priority.
    answers_of a.1 >>= λ b.
    hexadecimal_of b.0 >>= λ metadata.
    Some (Call name (Flow near priority metadata b.1))

unfoldable pub flow_of : List ℕ → Option ScriptLine
flow_of rest = session_at rest >>= λ s. flow_in s.0 s.1 s.2

-- the message that an end queues in a session
unfoldable pub queue_in : List ℕ → ℕ → List ℕ → Option ScriptLine
queue_in name near rest =
    split_of 32 rest >>= λ a.
    split_of 32 a.1 >>= λ b.
    split_of 32 b.1 >>= λ c.
    number_of a.0 >>= λ flow.
    limit_by number_of b.0 >>= λ deadline.
    limit_by (number_below (2 ^ 32)) c.0 >>= λ resends.
    content_of c.1 >>= λ content.
    Some (Call name (Queue near flow deadline resends content))

unfoldable pub queue_of : List ℕ → Option ScriptLine
queue_of rest = session_at rest >>= λ s. queue_in s.0 s.1 s.2

unfoldable pub abandon_of : List ℕ → Option ScriptLine
abandon_of rest =
    split_of 32 rest >>= λ a.
    split_of 32 a.1 >>= λ b.
    split_of 32 b.1 >>= λ c.
    name_of a.0 >>= λ name.
    number_below (2 ^ 32) b.0 >>= λ near.
    number_of c.0 >>= λ flow.
    number_of c.1 >>= λ seq.
    Some (Call name (Abandon near flow seq))

unfoldable pub finish_of : List ℕ → Option ScriptLine
finish_of rest =
    split_of 32 rest >>= λ a.
    split_of 32 a.1 >>= λ b.
    name_of a.0 >>= λ name.
    number_below (2 ^ 32) b.0 >>= λ near.
    number_of b.1 >>= λ flow.
    Some (Call name (Finish near flow))

unfoldable pub learn_of : List ℕ → Option ScriptLine
learn_of rest = name_of rest >>= λ name. Some (Call name Learn)

unfoldable pub advance_of : List ℕ → Option ScriptLine
advance_of rest = name_of rest >>= λ name. Some (Call name Advance)

unfoldable pub tick_of : List ℕ → Option ScriptLine
tick_of rest = name_of rest >>= λ name. Some (Call name Tick)

unfoldable pub deliver_of : List ℕ → Option ScriptLine
deliver_of rest =
    split_of 32 rest >>= λ a.
    split_of 32 a.1 >>= λ b.
    number_of a.0 >>= λ number.
    name_of b.0 >>= λ name.
    address_of b.1 >>= λ from.
    Some (Bring name from (Deliver number))

unfoldable pub bent_of : List ℕ → Option ScriptLine
bent_of rest =
    split_of 32 rest >>= λ a.
    split_of 32 a.1 >>= λ b.
    split_of 32 b.1 >>= λ c.
    number_of a.0 >>= λ number.
    number_of b.0 >>= λ place.
    name_of c.0 >>= λ name.
    address_of c.1 >>= λ from.
    Some (Bring name from (Bent number place))

-- an end, an address, and bytes, at most so many
unfoldable pub bytes_at : ℕ → List ℕ → Option (List ℕ × AddressParts × List ℕ)
bytes_at most rest =
    split_of 32 rest >>= λ a.
    split_of 32 a.1 >>= λ b.
    name_of a.0 >>= λ name.
    address_of b.0 >>= λ from.
    bytes_of most b.1 >>= λ bytes.
    Some (name, from, bytes)

unfoldable pub inject_of : List ℕ → Option ScriptLine
inject_of rest = bytes_at 2048 rest >>= λ d. Some (Bring d.0 d.1 (Inject d.2))

unfoldable pub forge_of : List ℕ → Option ScriptLine
forge_of rest = bytes_at 1164 rest >>= λ d. Some (Bring d.0 d.1 (Forge d.2))

unfoldable pub translator_of : List ℕ → Option ScriptLine
translator_of rest =
    split_of 32 rest >>= λ a.
    split_of 32 a.1 >>= λ b.
    split_of 32 b.1 >>= λ c.
    split_of 32 c.1 >>= λ d.
    name_of a.0 >>= λ name.
    rule_of b.0 >>= λ mapping.
    rule_of c.0 >>= λ filter.
    v4_of d.0 >>= λ host.
    number_below (2 ^ 16) d.1 >>= λ first.
    Some (Translator name mapping filter host first)

unfoldable pub place_at : List ℕ → List ℕ → Option ScriptLine
place_at name rest = either
    (address_of rest >>= λ at. Some (Place name at None))
    (λ parts. address_of parts.0 >>= λ at. name_of parts.1 >>= λ behind. Some
    (Place name at (Some behind)))
    (split_of 32 rest)

unfoldable pub place_of : List ℕ → Option ScriptLine
place_of rest = split_of 32 rest >>= λ a. name_of a.0 >>= λ name. place_at name a.1

unfoldable pub carry_of : List ℕ → Option ScriptLine
carry_of rest = number_of rest >>= λ number. Some (Carry number)

-- by the first word, and what stands behind its space
unfoldable pub word_of : List ℕ → List ℕ → Option ScriptLine
word_of word rest =
    if bytes_eq word (codes "end") then end_of rest
    else if bytes_eq word (codes "introduce") then introduce_of rest
    else if bytes_eq word (codes "narrow") then narrow_of rest
    else if bytes_eq word (codes "redirect") then redirect_of rest
    else if bytes_eq word (codes "at") then at_of rest
    else if bytes_eq word (codes "open") then open_of rest
    else if bytes_eq word (codes "seek") then seek_of rest
    else if bytes_eq word (codes "cancel") then cancel_of rest
    else if bytes_eq word (codes "unseek") then unseek_of rest
    else if bytes_eq word (codes "close") then close_of rest
    else if bytes_eq word (codes "flow") then flow_of rest
    else if bytes_eq word (codes "queue") then queue_of rest
    else if bytes_eq word (codes "abandon") then abandon_of rest
    else if bytes_eq word (codes "finish") then finish_of rest
    else if bytes_eq word (codes "learn") then learn_of rest
    else if bytes_eq word (codes "advance") then advance_of rest
    else if bytes_eq word (codes "tick") then tick_of rest
    else if bytes_eq word (codes "deliver") then deliver_of rest
    else if bytes_eq word (codes "bent") then bent_of rest
    else if bytes_eq word (codes "inject") then inject_of rest
    else if bytes_eq word (codes "forge") then forge_of rest
    else if bytes_eq word (codes "translator") then translator_of rest
    else if bytes_eq word (codes "place") then place_of rest
    else if bytes_eq word (codes "carry") then carry_of rest
    else None

unfoldable pub step_of : List ℕ → Option ScriptLine
step_of line = if nat_le (length line) line_limit then (split_of 32 line >>= λ a. word_of a.0 a.1)
    else None

-- it is a step, and takes memory
abbrev pub StepTakesMemory : Option ScriptLine → Type 0
StepTakesMemory None = ⊥
StepTakesMemory (Some said) = TakesMemory said

-- what is said of a line
abbrev pub Says : List ℕ → Said → Type 0
Says line Nothing = IsSkipped line
Says line (Step said) = IsLineOf line said
Says line Outside = (IsSkipped line → ⊥) × ((said : ScriptLine) → IsLineOf line said → ⊥)
