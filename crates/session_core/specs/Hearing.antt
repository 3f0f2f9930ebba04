-- Sealed parts heard in a session.
use Rattle.std.specs.Prelude.{◌≡◌, ◌↔◌, ◌≤◌, ℕ, List, ◌++◌, length, take, drop, replicate, Bool, true, false, not, ◌&&◌, nat_lt, if◌then◌else◌, IsTrue, Option, None, Some, is_none, Result, Ok, Err}
use Rattle.std.specs.Int.{w64, from_be_bytes}
use Rattle.std.specs.Str.{bytes_eq}
use Rattle.std.specs.declared.ops.Range.{Range}
use Rattle.crypto_profile.specs.declared.window.Seen.{Seen}
use Rattle.crypto_profile.specs.Keys.{Keys}
use Rattle.crypto_profile.specs.Window.{window_answer, window_after, window_of}
use Rattle.crypto_profile.specs.Taken.{answer, taken_after}
use Rattle.crypto_profile.specs.Opening.{open_refusal, plain_of}
use Rattle.crypto_profile.specs.Sealing.{number_of, sealed, Opens}
use Rattle.session_core.specs.declared.hearing.Unheard.{Unheard}
use Rattle.session_core.specs.declared.hearing.Unheard.TheVariants.{Short, BadTag, Repeated}
use Rattle.session_core.specs.Session.{SessionState, IsKeyed, context_of}

-- a number of a session's packet begins with 8 zero bytes
abbrev pub is_session_number : List ℕ → Bool
is_session_number number = bytes_eq (take 8 number) (replicate 8 0)

-- the count that the number of a part has
abbrev pub count_of : List ℕ → ℕ
count_of part = from_be_bytes w64 (drop 8 (number_of part))

-- whether a part opens under keys and a session ID, with a number of a session
abbrev pub opens_under : Keys → ℕ → List ℕ → Bool
opens_under keys sid part = is_none (open_refusal keys sid part)
    && is_session_number (number_of part)

-- whether a part opens by the keys towards this end
abbrev pub opens_in : SessionState → List ℕ → Bool
opens_in s part = opens_under s.inward s.joined.near part

-- the part is the sealed part of this plain packet by these keys, under the number that it carries,
-- which is one of a session
abbrev pub OpensBy : Keys → ℕ → List ℕ → List ℕ → Type 0
OpensBy keys sid part plain =
    (32 ≤ length part) × (part ≡ sealed keys sid (number_of part) plain) ×
    (take 8 (number_of part) ≡ replicate 8 0)

-- whether the numbers taken have room for this one
abbrev pub is_new : Result (Unit {0}) Seen → Bool
is_new (Ok done) = true
is_new (Err why) = false

-- why a part isn't heard, by whether it opens and whether its number is new: the first of these
-- that stands
abbrev pub unheard_by : Bool → Bool → List ℕ → Option Unheard
unheard_by opens new part =
    if nat_lt (length part) 32 then Some Short
    else if not opens then Some BadTag
    else if not new then Some Repeated
    else None

abbrev pub unheard : SessionState → List ℕ → Option Unheard
unheard s part = unheard_by (opens_in s part) (is_new (window_answer s.window (count_of part))) part

-- where the plain packet stands, or why it wasn't heard
abbrev pub answered : Option Unheard → List ℕ → Result (Range ℕ) Unheard
answered None part = Ok (record { start = 32; end = length part })
answered (Some why) part = Err why

abbrev pub heard_answer : SessionState → List ℕ → Result (Range ℕ) Unheard
heard_answer s part = answered (unheard s part) part

-- the session after a part: what opens leaves its number, where that is new
abbrev pub after_heard : SessionState → List ℕ → SessionState
after_heard s part = if opens_in s part then
    record s { window = window_after s.window (count_of part) } else s

-- the session after the number of a part was taken
abbrev pub counted : SessionState → List ℕ → SessionState
counted s part = record s { window = window_after s.window (count_of part) }

-- the buffer after a part: what opens leaves its plain packet from byte 32 on, anything else stays
-- as it was
abbrev pub opened : SessionState → List ℕ → List ℕ
opened s part = if opens_in s part then take 32 part ++ plain_of s.inward part else part

-- ---- by the whole list of the numbers taken

abbrev pub heard_by : SessionState → List ℕ → List ℕ → Result (Range ℕ) Unheard
heard_by s taken part =
    answered (unheard_by (opens_in s part) (is_new (answer taken (count_of part))) part) part

abbrev pub taken_hearing : SessionState → List ℕ → List ℕ → List ℕ
taken_hearing s taken part = if opens_in s part then taken_after taken (count_of part) else taken

-- ---- laws

-- the window of the numbers taken hears each part as the whole list does, and goes on with it
abbrev pub HearsByTaken : Type 0
HearsByTaken = (s : SessionState) (taken part : List ℕ) → s.window ≡ window_of taken
    → (heard_answer s part ≡ heard_by s taken part) ×
    ((after_heard s part).window ≡ window_of (taken_hearing s taken part))

-- a part opens exactly where it is the sealed part of a plain packet by the keys towards this end
abbrev pub OpensSomePlain : Type 0
OpensSomePlain = (s : SessionState) (part : List ℕ)
    → IsTrue (opens_in s part) ↔ ((plain : List ℕ) × OpensBy s.inward s.joined.near part plain)

-- and then its plain packet is the one that is given
abbrev pub OpensThisPlain : Type 0
OpensThisPlain = (s : SessionState) (part plain : List ℕ) →
    OpensBy s.inward s.joined.near part plain → plain ≡ plain_of s.inward part

-- what is sealed by the keys towards this end is sealed under the secret of which they are, in the
-- context towards this end
abbrev pub OpensInItsContext : Type 0
OpensInItsContext = (secret : List ℕ) (s : SessionState) (part plain : List ℕ) → IsKeyed secret s →
    OpensBy s.inward s.joined.near part plain
    ↔ Opens secret (context_of s false) s.joined.near part plain
