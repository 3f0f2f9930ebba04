-- The lines of a log's text: the text of what a line says, and the limits (own).
use Rattle.std.specs.Prelude.{◌≡◌, ℕ, ◌^◌, ◌<◌, ◌≤◌, nat_lt, Bool, true, false, List, [], ◌∷◌, length, codes, decimal, replicate}
use Rattle.std.specs.List.{list_all}
use Rattle.hex.specs.Hex.{encode_lower}
use Rattle.crypto_profile.specs.declared.keys.Context.{Context}
use Rattle.crypto_profile.specs.declared.keys.Context.TheVariants.{Startup, Session}
use Rattle.glare_core.specs.declared.facts.Fact.{Fact}
use Rattle.glare_core.specs.declared.facts.Fact.TheVariants.{Started, Born, Opened, Confirmed, Ended}
use Rattle.glare_core.specs.declared.facts.Joined.{Joined}
use Rattle.glare_core.specs.declared.facts.Why.{Why}
use Rattle.glare_core.specs.declared.facts.Why.TheVariants.{Cancelled, Expired, Glare, Override, Unconfirmed, Near, Far, Idle}
use Rattle.identity.specs.Certificates.{IsCertificate}
use Rattle.identity.specs.ServiceNames.{IsServiceName}
use Rattle.rtmfp_text.specs.AddressText.{address_text}
use Rattle.rtmfp_text.specs.Words.{bytes_text}
use Rattle.rtmfp_script.specs.Grammar.{AreBytes, IsName, IsPlainAddress, words_text}
use Rattle.audit_text.specs.declared.line.LogCall.{LogCall}
use Rattle.audit_text.specs.declared.line.LogCall.TheVariants.{Open, Seek, Cancel, Unseek, Close, Learn, Advance, Receive, Tick, Other}
use Rattle.audit_text.specs.declared.line.LogEntry.{LogEntry}
use Rattle.audit_text.specs.declared.line.LogEntry.TheVariants.{Fact as FactEntry, Closed, Sought, Unsought, Learnt, Advanced, Out}
use Rattle.audit_text.specs.declared.line.LogEvent.{LogEvent}
use Rattle.audit_text.specs.declared.line.LogHead.{LogHead}
use Rattle.audit_text.specs.declared.line.LogLine.{LogLine}
use Rattle.audit_text.specs.declared.line.LogLine.TheVariants.{Skip, Log, Event, Entry}

-- ---- texts
--
-- Fingerprints and secrets have 64 digits, nonces and tags 32; certificates, service names and
-- datagrams have two for each byte. All digits are lower-case. Numbers are decimal.

unfoldable pub call_text : LogCall → List ℕ
call_text (Open peer tag) = words_text (codes "open" ∷ encode_lower peer ∷ encode_lower tag ∷ [])
call_text (Seek name tag) = words_text (codes "seek" ∷ encode_lower name ∷ encode_lower tag ∷ [])
call_text (Cancel n) = words_text (codes "cancel" ∷ decimal n ∷ [])
call_text (Unseek near) = words_text (codes "unseek" ∷ decimal near ∷ [])
call_text (Close near) = words_text (codes "close" ∷ decimal near ∷ [])
call_text (Learn secret) = words_text (codes "learn" ∷ encode_lower secret ∷ [])
call_text Advance = codes "advance"
call_text (Receive from datagram) = words_text
    (codes "receive" ∷ address_text from ∷ bytes_text datagram ∷ [])
call_text Tick = codes "tick"
call_text Other = codes "other"

unfoldable pub why_text : Why → List ℕ
why_text Cancelled = codes "cancelled"
why_text Expired = codes "expired"
why_text Glare = codes "glare"
why_text Override = codes "override"
why_text Unconfirmed = codes "unconfirmed"
why_text Near = codes "near"
why_text Far = codes "far"
why_text Idle = codes "idle"

-- the values of a session
unfoldable pub joined_text : Joined → List ℕ
joined_text joined = words_text (encode_lower joined.peer ∷ decimal joined.n ∷ decimal joined.near
    ∷ decimal joined.far ∷ encode_lower joined.ni ∷ encode_lower joined.nr ∷ decimal joined.k ∷ [])

unfoldable pub fact_text : Fact → List ℕ
fact_text (Started peer n near ni) = words_text
    (codes "started" ∷ encode_lower peer ∷ decimal n ∷ decimal near ∷ encode_lower ni ∷ [])
fact_text (Born joined) = words_text (codes "born" ∷ joined_text joined ∷ [])
fact_text (Opened joined) = words_text (codes "opened" ∷ joined_text joined ∷ [])
fact_text (Confirmed peer near) = words_text
    (codes "confirmed" ∷ encode_lower peer ∷ decimal near ∷ [])
fact_text (Ended peer near why) = words_text
    (codes "ended" ∷ encode_lower peer ∷ decimal near ∷ why_text why ∷ [])

-- towards the responder, the initiator sends
unfoldable pub sender_text : Bool → List ℕ
sender_text true = codes "i"
sender_text false = codes "r"

-- a context, and what stands behind it
unfoldable pub context_text : Context → List ℕ → List ℕ
context_text (Startup generation) behind = words_text
    (codes "startup" ∷ decimal generation ∷ behind ∷ [])
context_text (Session generation ni nr fp_i fp_r sid_i sid_r to_responder) behind = words_text
    (codes "session" ∷ decimal generation ∷ encode_lower ni ∷ encode_lower nr ∷ encode_lower fp_i
    ∷ encode_lower fp_r ∷ decimal sid_i ∷ decimal sid_r ∷ sender_text to_responder ∷ behind ∷ [])

unfoldable pub entry_text : LogEntry → List ℕ
entry_text (FactEntry fact) = fact_text fact
entry_text (Closed near) = words_text (codes "closed" ∷ decimal near ∷ [])
entry_text (Sought near name) = words_text
    (codes "sought" ∷ decimal near ∷ encode_lower name ∷ [])
entry_text (Unsought near why) = words_text (codes "unsought" ∷ decimal near ∷ why_text why ∷ [])
entry_text (Learnt generation) = words_text (codes "learnt" ∷ decimal generation ∷ [])
entry_text (Advanced generation) = words_text (codes "advanced" ∷ decimal generation ∷ [])
entry_text (Out to datagram context) = words_text
    (codes "out" ∷ address_text to ∷ context_text context (bytes_text datagram) ∷ [])

-- the one text of what a line says; a line that is skipped has none
unfoldable pub line_text : LogLine → List ℕ
line_text Skip = []
line_text (Log name head) = words_text (codes "log" ∷ name ∷ decimal head.max_peers
    ∷ decimal head.max_sessions ∷ decimal head.generation ∷ encode_lower head.secret
    ∷ encode_lower head.cookie_secret ∷ encode_lower head.cert ∷ [])
line_text (Event name event) = words_text (codes "event" ∷ name ∷ decimal event.moment
    ∷ encode_lower event.nonce ∷ call_text event.call ∷ [])
line_text (Entry entry) = words_text (codes "+" ∷ entry_text entry ∷ [])

-- ---- what lines may say

-- so many bytes
pub record IsBytesOf (count : ℕ) (bytes : List ℕ) : Type 0 where
  pub many : length bytes ≡ count
  pub each : list_all (λ b. nat_lt b 256) bytes ≡ true

abbrev pub IsCall : LogCall → Type 0
IsCall (Open peer tag) = IsBytesOf 32 peer × IsBytesOf 16 tag
IsCall (Seek name tag) = IsServiceName name × IsBytesOf 16 tag
IsCall (Cancel n) = n < 2 ^ 64
IsCall (Unseek near) = near < 2 ^ 32
IsCall (Close near) = near < 2 ^ 32
IsCall (Learn secret) = IsBytesOf 32 secret
IsCall Advance = Unit {0}
IsCall (Receive from datagram) = IsPlainAddress from × AreBytes datagram
IsCall Tick = Unit {0}
IsCall Other = Unit {0}

-- the calls that draw a nonce
abbrev pub draws : LogCall → Bool
draws (Open peer tag) = true
draws (Seek name tag) = true
draws (Cancel n) = false
draws (Unseek near) = false
draws (Close near) = false
draws (Learn secret) = false
draws Advance = false
draws (Receive from datagram) = true
draws Tick = true
draws Other = false

pub record IsHead (head : LogHead) : Type 0 where
  pub max_peers : head.max_peers < 2 ^ 32
  pub max_sessions : head.max_sessions < 2 ^ 32
  pub generation : head.generation < 2 ^ 64
  pub secret : IsBytesOf 32 head.secret
  pub cookie_secret : IsBytesOf 32 head.cookie_secret
  pub cert : IsCertificate head.cert
  pub bytes : AreBytes head.cert

-- the nonce of a call that draws none is 0
pub record IsEvent (event : LogEvent) : Type 0 where
  pub moment : event.moment < 2 ^ 64
  pub nonce : IsBytesOf 16 event.nonce
  pub call : IsCall event.call
  pub drawn : draws event.call ≡ false → event.nonce ≡ replicate 16 0

pub record IsJoined (joined : Joined) : Type 0 where
  pub peer : IsBytesOf 32 joined.peer
  pub n : joined.n < 2 ^ 64
  pub near : joined.near < 2 ^ 32
  pub far : joined.far < 2 ^ 32
  pub ni : IsBytesOf 16 joined.ni
  pub nr : IsBytesOf 16 joined.nr
  pub k : joined.k < 2 ^ 64

abbrev pub IsFact : Fact → Type 0
IsFact (Started peer n near ni) = IsBytesOf 32 peer × (n < 2 ^ 64) × (near < 2 ^ 32) ×
    IsBytesOf 16 ni
IsFact (Born joined) = IsJoined joined
IsFact (Opened joined) = IsJoined joined
IsFact (Confirmed peer near) = IsBytesOf 32 peer × (near < 2 ^ 32)
IsFact (Ended peer near why) = IsBytesOf 32 peer × (near < 2 ^ 32)

abbrev pub IsContext : Context → Type 0
IsContext (Startup generation) = generation < 2 ^ 64
IsContext (Session generation ni nr fp_i fp_r sid_i sid_r to_responder) = (generation < 2 ^ 64) ×
    IsBytesOf 16 ni × IsBytesOf 16 nr × IsBytesOf 32 fp_i × IsBytesOf 32 fp_r ×
    (sid_i < 2 ^ 32) × (sid_r < 2 ^ 32)

abbrev pub IsEntry : LogEntry → Type 0
IsEntry (FactEntry fact) = IsFact fact
IsEntry (Closed near) = near < 2 ^ 32
IsEntry (Sought near name) = (near < 2 ^ 32) × IsServiceName name
IsEntry (Unsought near why) = near < 2 ^ 32
IsEntry (Learnt generation) = generation < 2 ^ 64
IsEntry (Advanced generation) = generation < 2 ^ 64
IsEntry (Out to datagram context) = IsPlainAddress to × IsContext context × AreBytes datagram

-- what a line with a text may say
abbrev pub IsWithin : LogLine → Type 0
IsWithin Skip = ⊥
IsWithin (Log name head) = IsName name × IsHead head
IsWithin (Event name event) = IsName name × IsEvent event
IsWithin (Entry entry) = IsEntry entry

-- ---- lines

-- the longest line, without its LF
abbrev pub line_limit : ℕ
line_limit = 8192

-- the line begins with `#`
abbrev pub IsHashed : List ℕ → Type 0
IsHashed [] = ⊥
IsHashed (b ∷ bytes) = b ≡ 35

abbrev pub Says : List ℕ → LogLine → Type 0
Says line Skip = IsHashed line
Says line (Log name head) = (line ≡ line_text (Log name head)) × IsWithin (Log name head)
Says line (Event name event) = (line ≡ line_text (Event name event)) × IsWithin (Event name event)
Says line (Entry entry) = (line ≡ line_text (Entry entry)) × IsWithin (Entry entry)

-- the line says this
pub record IsLineOf (line : List ℕ) (said : LogLine) : Type 0 where
  pub fits : length line ≤ line_limit
  pub says : Says line said

-- the line is outside the grammar
abbrev pub IsOutside : List ℕ → Type 0
IsOutside line = (said : LogLine) → IsLineOf line said → ⊥

-- a line says this, and it has a text
pub record IsWritable (said : LogLine) : Type 0 where
  pub within : IsWithin said
  pub fits : length (line_text said) ≤ line_limit

-- what is read of the line takes memory: it has a datagram
abbrev pub HoldsDatagram : LogCall → Type 0
HoldsDatagram (Receive from datagram) = Unit {0}
HoldsDatagram _ = ⊥

abbrev pub BearsDatagram : LogEntry → Type 0
BearsDatagram (Out to datagram context) = Unit {0}
BearsDatagram _ = ⊥

abbrev pub TakesMemory : LogLine → Type 0
TakesMemory Skip = ⊥
TakesMemory (Log name head) = ⊥
TakesMemory (Event name event) = HoldsDatagram event.call
TakesMemory (Entry entry) = BearsDatagram entry
