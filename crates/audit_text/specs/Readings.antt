-- How a line is read, as a function.
use Rattle.std.specs.Prelude.{ℕ, ◌==◌, ◌≡◌, ◌^◌, ◌||◌, nat_le, Bool, false, if◌then◌else◌, List, [], ◌∷◌, length, codes, replicate, Option, Some, None, Result, Ok, Err}
use Rattle.std.specs.Str.{bytes_eq}
use Rattle.crypto_profile.specs.declared.keys.Context.{Context}
use Rattle.crypto_profile.specs.declared.keys.Context.TheVariants.{Startup, Session}
use Rattle.glare_core.specs.declared.facts.Fact.TheVariants.{Started, Born, Opened, Confirmed, Ended}
use Rattle.glare_core.specs.declared.facts.Joined.{Joined}
use Rattle.rtmfp_script.specs.Fields.{split_of, name_of, number_of, number_below, hexadecimal_of, address_of, either, only_if, ◌>>=◌}
use Rattle.audit_text.specs.declared.line.LogCall.{LogCall}
use Rattle.audit_text.specs.declared.line.LogCall.TheVariants.{Open, Seek, Cancel, Unseek, Close, Learn, Advance, Receive, Tick, Other}
use Rattle.audit_text.specs.declared.line.LogEntry.{LogEntry}
use Rattle.audit_text.specs.declared.line.LogEntry.TheVariants.{Fact as FactEntry, Closed, Sought, Unsought, Learnt, Advanced, Out}
use Rattle.audit_text.specs.declared.line.LogLine.{LogLine}
use Rattle.audit_text.specs.declared.line.LogLine.TheVariants.{Skip, Log, Event, Entry}
use Rattle.audit_text.specs.declared.reading.LogLineRefusal.{LogLineRefusal}
use Rattle.audit_text.specs.declared.reading.LogLineRefusal.TheVariants.{BadLine, Memory}
use Rattle.audit_text.specs.Grammar.{draws, HoldsDatagram, BearsDatagram, TakesMemory, line_limit}
use Rattle.audit_text.specs.Fields.{first_by, of_digits, service_of, certificate_of, why_of, sender_of}

-- ---- calls, behind their word

unfoldable pub open_of : List ℕ → Option LogCall
open_of rest =
    first_by (of_digits 64) rest >>= λ a.
    of_digits 32 a.1 >>= λ tag.
    Some (Open a.0 tag)

unfoldable pub seek_of : List ℕ → Option LogCall
seek_of rest =
    first_by service_of rest >>= λ a.
    of_digits 32 a.1 >>= λ tag.
    Some (Seek a.0 tag)

unfoldable pub cancel_of : List ℕ → Option LogCall
cancel_of rest = number_of rest >>= λ n. Some (Cancel n)

unfoldable pub unseek_of : List ℕ → Option LogCall
unseek_of rest = number_below (2 ^ 32) rest >>= λ near. Some (Unseek near)

unfoldable pub close_of : List ℕ → Option LogCall
close_of rest = number_below (2 ^ 32) rest >>= λ near. Some (Close near)

unfoldable pub learn_of : List ℕ → Option LogCall
learn_of rest = of_digits 64 rest >>= λ secret. Some (Learn secret)

unfoldable pub receive_of : List ℕ → Option LogCall
receive_of rest =
    first_by address_of rest >>= λ a.
    hexadecimal_of a.1 >>= λ datagram.
    Some (Receive a.0 datagram)

-- by their word, and what stands behind its space
unfoldable pub call_by : List ℕ → List ℕ → Option LogCall
call_by word rest =
    if bytes_eq word (codes "open") then open_of rest
    else if bytes_eq word (codes "seek") then seek_of rest
    else if bytes_eq word (codes "cancel") then cancel_of rest
    else if bytes_eq word (codes "unseek") then unseek_of rest
    else if bytes_eq word (codes "close") then close_of rest
    else if bytes_eq word (codes "learn") then learn_of rest
    else if bytes_eq word (codes "receive") then receive_of rest
    else None

-- a word alone
unfoldable pub bare_of : List ℕ → Option LogCall
bare_of word =
    if bytes_eq word (codes "advance") then Some Advance
    else if bytes_eq word (codes "tick") then Some Tick
    else if bytes_eq word (codes "other") then Some Other
    else None

unfoldable pub call_of : List ℕ → Option LogCall
call_of text = either (bare_of text) (λ a. call_by a.0 a.1) (split_of 32 text)

-- ---- entries, behind their word

unfoldable pub started_of : List ℕ → Option LogEntry
started_of rest =
    first_by (of_digits 64) rest >>= λ a.
    first_by number_of a.1 >>= λ b.
    first_by (number_below (2 ^ 32)) b.1 >>= λ c.
    of_digits 32 c.1 >>= λ ni.
    Some (FactEntry (Started a.0 b.0 c.0 ni))

unfoldable pub joined_of : List ℕ → Option Joined
joined_of rest =
    first_by (of_digits 64) rest >>= λ a.
    first_by number_of a.1 >>= λ b.
    first_by (number_below (2 ^ 32)) b.1 >>= λ c.
    first_by (number_below (2 ^ 32)) c.1 >>= λ d.
    first_by (of_digits 32) d.1 >>= λ e.
    first_by (of_digits 32) e.1 >>= λ f.
    number_of f.1 >>= λ k.
    Some (record {
      peer = a.0;
      n = b.0;
      near = c.0;
      far = d.0;
      ni = e.0;
      nr = f.0;
      k = k;
    })

unfoldable pub born_of : List ℕ → Option LogEntry
born_of rest = joined_of rest >>= λ joined. Some (FactEntry (Born joined))

unfoldable pub opened_of : List ℕ → Option LogEntry
opened_of rest = joined_of rest >>= λ joined. Some (FactEntry (Opened joined))

unfoldable pub confirmed_of : List ℕ → Option LogEntry
confirmed_of rest =
    first_by (of_digits 64) rest >>= λ a.
    number_below (2 ^ 32) a.1 >>= λ near.
    Some (FactEntry (Confirmed a.0 near))

unfoldable pub ended_of : List ℕ → Option LogEntry
ended_of rest =
    first_by (of_digits 64) rest >>= λ a.
    first_by (number_below (2 ^ 32)) a.1 >>= λ b.
    why_of b.1 >>= λ why.
    Some (FactEntry (Ended a.0 b.0 why))

unfoldable pub closed_of : List ℕ → Option LogEntry
closed_of rest = number_below (2 ^ 32) rest >>= λ near. Some (Closed near)

unfoldable pub sought_of : List ℕ → Option LogEntry
sought_of rest =
    first_by (number_below (2 ^ 32)) rest >>= λ a.
    service_of a.1 >>= λ name.
    Some (Sought a.0 name)

unfoldable pub unsought_of : List ℕ → Option LogEntry
unsought_of rest =
    first_by (number_below (2 ^ 32)) rest >>= λ a.
    why_of a.1 >>= λ why.
    Some (Unsought a.0 why)

unfoldable pub learnt_of : List ℕ → Option LogEntry
learnt_of rest = number_of rest >>= λ generation. Some (Learnt generation)

unfoldable pub advanced_of : List ℕ → Option LogEntry
advanced_of rest = number_of rest >>= λ generation. Some (Advanced generation)

-- a context, and what stands behind it
unfoldable pub startup_at : List ℕ → Option (Context × List ℕ)
startup_at rest = first_by number_of rest >>= λ a. Some (Startup a.0, a.1)

unfoldable pub session_at : List ℕ → Option (Context × List ℕ)
session_at rest =
    first_by number_of rest >>= λ a.
    first_by (of_digits 32) a.1 >>= λ b.
    first_by (of_digits 32) b.1 >>= λ c.
    first_by (of_digits 64) c.1 >>= λ d.
    first_by (of_digits 64) d.1 >>= λ e.
    first_by (number_below (2 ^ 32)) e.1 >>= λ f.
    first_by (number_below (2 ^ 32)) f.1 >>= λ g.
    first_by sender_of g.1 >>= λ h.
    Some (Session a.0 b.0 c.0 d.0 e.0 f.0 g.0 h.0, h.1)

unfoldable pub context_by : List ℕ → List ℕ → Option (Context × List ℕ)
context_by word rest =
    if bytes_eq word (codes "startup") then startup_at rest
    else if bytes_eq word (codes "session") then session_at rest
    else None

unfoldable pub context_at : List ℕ → Option (Context × List ℕ)
context_at rest = split_of 32 rest >>= λ a. context_by a.0 a.1

unfoldable pub out_of : List ℕ → Option LogEntry
out_of rest =
    first_by address_of rest >>= λ a.
    context_at a.1 >>= λ b.
    hexadecimal_of b.1 >>= λ datagram.
    Some (Out a.0 datagram b.0)

-- by their word, and what stands behind its space
unfoldable pub entry_by : List ℕ → List ℕ → Option LogEntry
entry_by word rest =
    if bytes_eq word (codes "started") then started_of rest
    else if bytes_eq word (codes "born") then born_of rest
    else if bytes_eq word (codes "opened") then opened_of rest
    else if bytes_eq word (codes "confirmed") then confirmed_of rest
    else if bytes_eq word (codes "ended") then ended_of rest
    else if bytes_eq word (codes "closed") then closed_of rest
    else if bytes_eq word (codes "sought") then sought_of rest
    else if bytes_eq word (codes "unsought") then unsought_of rest
    else if bytes_eq word (codes "learnt") then learnt_of rest
    else if bytes_eq word (codes "advanced") then advanced_of rest
    else if bytes_eq word (codes "out") then out_of rest
    else None

unfoldable pub entry_of : List ℕ → Option LogEntry
entry_of rest = split_of 32 rest >>= λ a. entry_by a.0 a.1

-- ---- lines, behind their first word

unfoldable pub log_of : List ℕ → Option LogLine
log_of rest =
    first_by name_of rest >>= λ a.
    first_by (number_below (2 ^ 32)) a.1 >>= λ b.
    first_by (number_below (2 ^ 32)) b.1 >>= λ c.
    first_by number_of c.1 >>= λ d.
    first_by (of_digits 64) d.1 >>= λ e.
    first_by (of_digits 64) e.1 >>= λ f.
    certificate_of f.1 >>= λ cert.
    Some (Log a.0 (record {
      max_peers = b.0;
      max_sessions = c.0;
      generation = d.0;
      secret = e.0;
      cookie_secret = f.0;
      cert = cert;
    }))

-- a call that draws no nonce has one of zeros
unfoldable pub event_said : List ℕ → ℕ → List ℕ → LogCall → Option LogLine
event_said name moment nonce call =
    only_if (draws call || bytes_eq nonce (replicate 16 0))
    (Event name (record { moment = moment; nonce = nonce; call = call }))

-- behind the nonce
unfoldable pub drawn_of : List ℕ → ℕ → List ℕ → List ℕ → Option LogLine
drawn_of name moment nonce rest = call_of rest >>= λ call. event_said name moment nonce call

unfoldable pub event_of : List ℕ → Option LogLine
event_of rest =
    first_by name_of rest >>= λ a.
    first_by number_of a.1 >>= λ b.
    first_by (of_digits 32) b.1 >>= λ c.
    drawn_of a.0 b.0 c.0 c.1

unfoldable pub entry_line_of : List ℕ → Option LogLine
entry_line_of rest = entry_of rest >>= λ entry. Some (Entry entry)

-- by the first word, and what stands behind its space
unfoldable pub line_by : List ℕ → List ℕ → Option LogLine
line_by word rest =
    if bytes_eq word (codes "log") then log_of rest
    else if bytes_eq word (codes "event") then event_of rest
    else if bytes_eq word (codes "+") then entry_line_of rest
    else None

abbrev pub is_hashed : List ℕ → Bool
is_hashed [] = false
is_hashed (b ∷ bytes) = b == 35

-- a line that isn't skipped
unfoldable pub told_of : List ℕ → Option LogLine
told_of line = split_of 32 line >>= λ a. line_by a.0 a.1

-- what a line says
unfoldable pub line_of : List ℕ → Option LogLine
line_of line =
    if nat_le (length line) line_limit then (if is_hashed line then Some Skip else told_of line)
    else None

-- ---- where memory can be wanting

abbrev pub CallTakesMemory : Option LogCall → Type 0
CallTakesMemory None = ⊥
CallTakesMemory (Some call) = HoldsDatagram call

abbrev pub EntryTakesMemory : Option LogEntry → Type 0
EntryTakesMemory None = ⊥
EntryTakesMemory (Some entry) = BearsDatagram entry

abbrev pub LineTakesMemory : Option LogLine → Type 0
LineTakesMemory None = ⊥
LineTakesMemory (Some said) = TakesMemory said

-- what is read of a line, where this is said of it
abbrev pub IsRead : Option LogLine → Result LogLine LogLineRefusal → Type 0
IsRead said (Ok read) = said ≡ Some read
IsRead said (Err BadLine) = said ≡ None
IsRead said (Err Memory) = LineTakesMemory said
