-- A datagram (RFC 7016 section 2.2.2): a scrambled session ID of 4 bytes, and the encrypted packet,
-- here called the sealed part.
use Rattle.std.specs.Prelude.{◌≡◌, ℕ, ◌<◌, ◌≤◌, ◌^◌, List, ◌++◌, length, take, drop, replicate, bit_xor, All}
use Rattle.std.specs.Int.{w32, to_be_bytes, from_be_bytes}

-- each number is a byte
abbrev pub AreBytes : List ℕ → Type 0
AreBytes bytes = All (λ byte. byte < 2 ^ 8) bytes

-- the first 8 bytes of a sealed part; a shorter one is padded with zeros
abbrev pub padded : List ℕ → List ℕ
padded part = take 8 (part ++ replicate 8 0)

-- the two 32-bit words that it begins with
abbrev pub first_word : List ℕ → ℕ
first_word part = from_be_bytes w32 (take 4 (padded part))

abbrev pub second_word : List ℕ → ℕ
second_word part = from_be_bytes w32 (drop 4 (padded part))

-- the scrambled session ID: the session ID XOR these two words
abbrev pub scrambled : ℕ → List ℕ → ℕ
scrambled sid part = bit_xor (bit_xor sid (first_word part)) (second_word part)

-- the session ID of a scrambled one: the same XOR
abbrev pub unscrambled : ℕ → List ℕ → ℕ
unscrambled ssid part = bit_xor (bit_xor ssid (first_word part)) (second_word part)

-- the datagram that carries a sealed part under a session ID
abbrev pub datagram : ℕ → List ℕ → List ℕ
datagram sid part = to_be_bytes w32 (scrambled sid part) ++ part

-- the session ID of a datagram
abbrev pub sid_of : List ℕ → ℕ
sid_of bytes = unscrambled (from_be_bytes w32 (take 4 bytes)) (drop 4 bytes)

-- ---- laws

-- unscrambling undoes scrambling
abbrev pub UnscramblingUndoesScrambling : Type 0
UnscramblingUndoesScrambling = (sid : ℕ) (part : List ℕ) →
    unscrambled (scrambled sid part) part ≡ sid

-- scrambling undoes unscrambling
abbrev pub ScramblingUndoesUnscrambling : Type 0
ScramblingUndoesUnscrambling = (ssid : ℕ) (part : List ℕ) →
    scrambled (unscrambled ssid part) part ≡ ssid

-- a datagram has the session ID that it was made under, and no other
abbrev pub HasItsSessionId : Type 0
HasItsSessionId = (sid : ℕ) (part : List ℕ) → sid < 2 ^ 32 → AreBytes part →
    sid_of (datagram sid part) ≡ sid

-- 4 bytes or more are the datagram of their session ID and of what follows the first 4
abbrev pub IsDatagramOfItsSessionId : Type 0
IsDatagramOfItsSessionId = (bytes : List ℕ) → 4 ≤ length bytes → AreBytes bytes
    → (sid_of bytes < 2 ^ 32) × (datagram (sid_of bytes) (drop 4 bytes) ≡ bytes)
