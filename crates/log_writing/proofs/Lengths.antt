-- How long the texts of lines are.
use Rattle.std.proofs.Common.{◌≡◌, ℕ, zero, suc, ◌+◌, ◌*◌, ◌^◌, ◌<◌, ◌≤◌, nat_lt, Bool, true, false, List, [], ◌∷◌, ◌++◌, length, codes, slice_index, arith, lit≤, lit<, le_trans, lt_of_lt_of_le, length-append, if◌then◌else◌}
use Rattle.std.specs.Prelude.{decimal}
use Rattle.std.specs.List.{list_all}
use Rattle.std.proofs.lemmas.Bool.Decides.{nat_tests}
use Rattle.std.proofs.lemmas.Fmt.{length-decimal-le}
use Rattle.hex.specs.Hex.{encode_lower}
use Rattle.rtmfp_forms.specs.Address.{AddressParts}
use Rattle.rtmfp_text.specs.AddressText.{address_text, v4_host_text, v6_host_text}
use Rattle.rtmfp_text.specs.Words.{bytes_text}
use Rattle.rtmfp_script.specs.Grammar.{IsName, IsPlainAddress}
use Rattle.rtmfp_script.proofs.Digits.{length-encoded}
use Rattle.crypto_profile.specs.declared.keys.Context.{Context}
use Rattle.crypto_profile.specs.declared.keys.Context.TheVariants.{Startup, Session}
use Rattle.glare_core.specs.declared.facts.Fact.{Fact}
use Rattle.glare_core.specs.declared.facts.Fact.TheVariants.{Started, Born, Opened, Confirmed, Ended}
use Rattle.glare_core.specs.declared.facts.Joined.{Joined}
use Rattle.glare_core.specs.declared.facts.Why.{Why}
use Rattle.glare_core.specs.declared.facts.Why.TheVariants.{Cancelled, Expired, Glare, Override, Unconfirmed, Near, Far, Idle}
use Rattle.identity.specs.Certificates.{IsCertificate}
use Rattle.identity.specs.ServiceNames.{IsServiceName}
use Rattle.audit_text.specs.declared.line.LogCall.{LogCall}
use Rattle.audit_text.specs.declared.line.LogCall.TheVariants.{Open, Seek, Cancel, Unseek, Close, Learn, Advance, Receive, Tick, Other}
use Rattle.audit_text.specs.declared.line.LogEntry.{LogEntry}
use Rattle.audit_text.specs.declared.line.LogEntry.TheVariants.{Fact as FactEntry, Closed, Sought, Unsought, Learnt, Advanced, Out}
use Rattle.audit_text.specs.declared.line.LogEvent.{LogEvent}
use Rattle.audit_text.specs.declared.line.LogHead.{LogHead}
use Rattle.audit_text.specs.declared.line.LogLine.TheVariants.{Log, Event, Entry}
use Rattle.audit_text.specs.Grammar.{IsBytesOf, IsCall, IsContext, IsEntry, IsEvent, IsFact, IsHead, IsJoined, IsWritable, call_text, context_text, entry_text, fact_text, joined_text, line_limit, line_text, sender_text, why_text}
use Rattle.log_writing.specs.Told.{IsShortCall, IsShortEntry}

-- no longer than this
pub record UpTo (most : ℕ) (xs : List ℕ) : Type 0 where
  pub few : length xs ≤ most

at_most : {n : ℕ} {xs : List ℕ} (most : ℕ) → UpTo n xs → n ≤ most → UpTo most xs
at_most most is h = record { few = le_trans is.few h }

exactly : (xs : List ℕ) → UpTo (length xs) xs
exactly xs = record { few = omega arith }

-- two parts, and two words
joined_parts : {n m : ℕ} {a b : List ℕ} → UpTo n a → UpTo m b → UpTo (n + m) (a ++ b)
joined_parts {n} {m} {a} {b} x y = record { few = omega (arith, length-append a b, x.few, y.few) }

words : {n m : ℕ} {a b : List ℕ} → UpTo n a → UpTo m b → UpTo (n + suc m) (a ++ 32 ∷ b)
words {n} {m} {a} {b} x y =
    let behind : UpTo (suc m) (32 ∷ b) = record { few = omega (arith, y.few) } in
    joined_parts x behind

-- ---- fields

digits : {count : ℕ} {bytes : List ℕ} → IsBytesOf count bytes → UpTo (2 * count) (encode_lower bytes)
digits {count} {bytes} are = record { few = omega (arith, length-encoded bytes, are.many) }

number : (n : ℕ) → n < 2 ^ 64 → UpTo 20 (decimal n)
number n h = record { few = length-decimal-le 20 n (lit< tt) (lt_of_lt_of_le h (lit≤ tt)) h }

short_number : (n : ℕ) → n < 2 ^ 32 → UpTo 20 (decimal n)
short_number n h = number n (lt_of_lt_of_le h (lit≤ tt))

service : (name : List ℕ) → IsServiceName name → UpTo 128 (encode_lower name)
service name is = record { few = omega (arith, length-encoded name, is.few) }

certificate : (cert : List ℕ) → IsCertificate cert → UpTo 160 (encode_lower cert)
certificate cert is = record { few = omega (arith, length-encoded cert, is.short_named) }

datagram : (bytes : List ℕ) → length bytes ≤ 2048 → UpTo 4096 (bytes_text bytes)
datagram [] h = at_most 4096 (exactly (codes "-")) (lit≤ tt)
datagram (b ∷ bytes) h = record { few = omega (arith, length-encoded (b ∷ bytes), h) }

reason : (why : Why) → UpTo 11 (why_text why)
unfolding why_text
reason Cancelled = at_most 11 (exactly (codes "cancelled")) (lit≤ tt)
reason Expired = at_most 11 (exactly (codes "expired")) (lit≤ tt)
reason Glare = at_most 11 (exactly (codes "glare")) (lit≤ tt)
reason Override = at_most 11 (exactly (codes "override")) (lit≤ tt)
reason Unconfirmed = at_most 11 (exactly (codes "unconfirmed")) (lit≤ tt)
reason Near = at_most 11 (exactly (codes "near")) (lit≤ tt)
reason Far = at_most 11 (exactly (codes "far")) (lit≤ tt)
reason Idle = at_most 11 (exactly (codes "idle")) (lit≤ tt)

sender : (bit : Bool) → UpTo 1 (sender_text bit)
unfolding sender_text
sender true = exactly (codes "i")
sender false = exactly (codes "r")

-- ---- addresses

host_byte : (host : List ℕ) (i : ℕ) → list_all (λ b. nat_lt b 256) host ≡ true → slice_index host i < 2 ^ 64
host_byte [] i h = lit< tt
host_byte (b ∷ host) zero h =
    let small : b < 256 = grind (arith, nat_tests) in
    lt_of_lt_of_le small (lit≤ tt)
host_byte (b ∷ host) (suc i) h =
    let rest : list_all (λ b. nat_lt b 256) host ≡ true = grind (arith, nat_tests) in
    host_byte host i rest

v4_host : (host : List ℕ) → list_all (λ b. nat_lt b 256) host ≡ true → UpTo 83 (v4_host_text host)
unfolding v4_host_text
v4_host host h =
    let dot = exactly (codes ".") in
    let byte : (i : ℕ) → UpTo 20 (decimal (slice_index host i)) = λ i. number (slice_index host i) (host_byte host i h) in
    joined_parts (byte 0) (joined_parts dot (joined_parts (byte 1) (joined_parts dot (joined_parts (byte 2) (joined_parts dot (joined_parts (byte 3) (exactly [])))))))

v6_host : (host : List ℕ) → length host ≡ 16 → UpTo 34 (v6_host_text host)
unfolding v6_host_text
v6_host host h =
    let inside : UpTo 32 (encode_lower host) = record { few = omega (arith, length-encoded host, h) } in
    joined_parts (exactly (codes "[")) (joined_parts inside (joined_parts (exactly (codes "]")) (exactly [])))

host_text : (v6 : Bool) (host : List ℕ) → list_all (λ b. nat_lt b 256) host ≡ true → length host ≡ 16 → UpTo 83 (if v6 then v6_host_text host else v4_host_text host)
host_text true host each long = at_most 83 (v6_host host long) (lit≤ tt)
host_text false host each long = v4_host host each

address : (a : AddressParts) → IsPlainAddress a → UpTo 104 (address_text a)
unfolding address_text
address a is =
    joined_parts (host_text a.v6 a.host is.each is.form.host) (joined_parts (exactly (codes ":")) (joined_parts (number a.port (lt_of_lt_of_le is.form.port (lit≤ tt))) (exactly [])))

-- ---- calls and entries

call_few : (call : LogCall) → IsCall call → IsShortCall call → UpTo 5000 (call_text call)
unfolding call_text
call_few (Open peer tag) is h = at_most 5000 (words (exactly (codes "open")) (words (digits is.0) (digits is.1))) (lit≤ tt)
call_few (Seek name tag) is h = at_most 5000 (words (exactly (codes "seek")) (words (service name is.0) (digits is.1))) (lit≤ tt)
call_few (Cancel n) is h = at_most 5000 (words (exactly (codes "cancel")) (number n is)) (lit≤ tt)
call_few (Unseek near) is h = at_most 5000 (words (exactly (codes "unseek")) (short_number near is)) (lit≤ tt)
call_few (Close near) is h = at_most 5000 (words (exactly (codes "close")) (short_number near is)) (lit≤ tt)
call_few (Learn secret) is h = at_most 5000 (words (exactly (codes "learn")) (digits is)) (lit≤ tt)
call_few Advance is h = at_most 5000 (exactly (codes "advance")) (lit≤ tt)
call_few (Receive from bytes) is h = at_most 5000 (words (exactly (codes "receive")) (words (address from is.0) (datagram bytes h))) (lit≤ tt)
call_few Tick is h = at_most 5000 (exactly (codes "tick")) (lit≤ tt)
call_few Other is h = at_most 5000 (exactly (codes "other")) (lit≤ tt)

joined_few : (j : Joined) → IsJoined j → UpTo 300 (joined_text j)
unfolding joined_text
joined_few j is = at_most 300 (words (digits is.peer) (words (number j.n is.n) (words (short_number j.near is.near) (words (short_number j.far is.far) (words (digits is.ni) (words (digits is.nr) (number j.k is.k))))))) (lit≤ tt)

fact_few : (fact : Fact) → IsFact fact → UpTo 400 (fact_text fact)
unfolding fact_text
fact_few (Started peer n near ni) is = at_most 400 (words (exactly (codes "started")) (words (digits is.0) (words (number n is.1) (words (short_number near is.2) (digits is.3))))) (lit≤ tt)
fact_few (Born joined) is = at_most 400 (words (exactly (codes "born")) (joined_few joined is)) (lit≤ tt)
fact_few (Opened joined) is = at_most 400 (words (exactly (codes "opened")) (joined_few joined is)) (lit≤ tt)
fact_few (Confirmed peer near) is = at_most 400 (words (exactly (codes "confirmed")) (words (digits is.0) (short_number near is.1))) (lit≤ tt)
fact_few (Ended peer near why) is = at_most 400 (words (exactly (codes "ended")) (words (digits is.0) (words (short_number near is.1) (reason why)))) (lit≤ tt)

context_few : (context : Context) (behind : List ℕ) → IsContext context → UpTo 4096 behind → UpTo 4500 (context_text context behind)
unfolding context_text
context_few (Startup generation) behind is few = at_most 4500 (words (exactly (codes "startup")) (words (number generation is) few)) (lit≤ tt)
context_few (Session generation ni nr fp_i fp_r sid_i sid_r to_responder) behind is few =
    at_most 4500 (words (exactly (codes "session")) (words (number generation is.0) (words (digits is.1) (words (digits is.2) (words (digits is.3) (words (digits is.4)
    (words (short_number sid_i is.5) (words (short_number sid_r is.6) (words (sender to_responder) few))))))))) (lit≤ tt)

entry_few : (entry : LogEntry) → IsEntry entry → IsShortEntry entry → UpTo 5000 (entry_text entry)
unfolding entry_text
entry_few (FactEntry fact) is h = at_most 5000 (fact_few fact is) (lit≤ tt)
entry_few (Closed near) is h = at_most 5000 (words (exactly (codes "closed")) (short_number near is)) (lit≤ tt)
entry_few (Sought near name) is h = at_most 5000 (words (exactly (codes "sought")) (words (short_number near is.0) (service name is.1))) (lit≤ tt)
entry_few (Unsought near why) is h = at_most 5000 (words (exactly (codes "unsought")) (words (short_number near is) (reason why))) (lit≤ tt)
entry_few (Learnt generation) is h = at_most 5000 (words (exactly (codes "learnt")) (number generation is)) (lit≤ tt)
entry_few (Advanced generation) is h = at_most 5000 (words (exactly (codes "advanced")) (number generation is)) (lit≤ tt)
entry_few (Out to bytes context) is h = at_most 5000 (words (exactly (codes "out")) (words (address to is.0) (context_few context (bytes_text bytes) is.1 (datagram bytes h)))) (lit≤ tt)

-- ---- lines

name_few : (name : List ℕ) → IsName name → UpTo 16 name
name_few name is = record { few = is.short }

pub event_writable : (name : List ℕ) (event : LogEvent) → IsName name → IsEvent event → IsShortCall event.call → IsWritable (Event name event)
unfolding line_text
event_writable name event named is h =
    let few = at_most line_limit (words (exactly (codes "event")) (words (name_few name named) (words (number event.moment is.moment) (words (digits is.nonce) (call_few event.call is.call h))))) (lit≤ tt) in
    record { within = (named, is); fits = few.few }

pub entry_writable : (entry : LogEntry) → IsEntry entry → IsShortEntry entry → IsWritable (Entry entry)
unfolding line_text
entry_writable entry is h =
    let few = at_most line_limit (words (exactly (codes "+")) (entry_few entry is h)) (lit≤ tt) in
    record { within = is; fits = few.few }

pub head_writable : (name : List ℕ) (head : LogHead) → IsName name → IsHead head → IsWritable (Log name head)
unfolding line_text
head_writable name head named is =
    let few = at_most line_limit (words (exactly (codes "log")) (words (name_few name named) (words (short_number head.max_peers is.max_peers) (words (short_number head.max_sessions is.max_sessions)
    (words (number head.generation is.generation) (words (digits is.secret) (words (digits is.cookie_secret) (certificate head.cert is.cert)))))))) (lit≤ tt) in
    record { within = (named, is); fits = few.few }
