-- The words of what attempts are found by: 8 bytes of a tag, and of the hash of a cookie.
use Rattle.std.specs.Prelude.{ℕ, List, take}
use Rattle.std.specs.Int.{w64, from_be_bytes}
use Rattle.sha2.specs.Sha256.{sha256}

-- the front of a tag
abbrev pub word_of : List ℕ → ℕ
word_of bytes = from_be_bytes w64 (take 8 bytes)

-- the word of a cookie: the first 8 bytes of its SHA-256. Cookies with one word may be two, where
-- somebody looked long enough for them
unfoldable pub cookie_word : List ℕ → ℕ
cookie_word cookie = word_of (sha256 cookie)
