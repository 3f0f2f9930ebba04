-- Keys of datagrams: a list of keys in which the indices of a key are found from the last one to
-- the first.
use Rattle.std.specs.Prelude.{ℕ, ◌≡◌, ◌≢◌, ◌<◌, nat_lt, Bool, false, List, [], ◌∷◌, map, length, take, drop, slice_get, Option, Some, None, if◌then◌else◌}
use Rattle.std.specs.Int.{w64, from_be_bytes}
use Rattle.std.specs.Ordering.{nat_cmp}
use Rattle.std.specs.BTreeMap.{BTreeMap, get}
use Rattle.crypto_profile.specs.declared.keys.Context.{Context}
use Rattle.rendezvous_world.specs.declared.keyed.Row.{Row}
use Rattle.rendezvous_world.specs.Sent.{Sent}
use Rattle.rendezvous_world.specs.Faults.{is_sent}

-- It is the last index of this key, and none where the key isn't among these.
abbrev pub IsLast : Option ℕ → ℕ → List ℕ → Type 0
IsLast None key keys = (k : ℕ) → slice_get keys k ≢ Some key
IsLast (Some at) key keys = (slice_get keys at ≡ Some key) ×
    ((k : ℕ) → at < k → slice_get keys k ≢ Some key)

abbrev pub keys_of : List Row → List ℕ
keys_of rows = map (λ row. row.key) rows

-- Each row has the last index of its key before it, and the map has the last index of each key.
pub record IsChained (rows : List Row) (tops : BTreeMap ℕ ℕ) : Type 0 where
  pub before : (k : ℕ) (row : Row) → slice_get rows k ≡ Some row →
      IsLast row.before row.key (take k (keys_of rows))
  pub last : (key : ℕ) → IsLast (get nat_cmp tops key) key (keys_of rows)

-- the key of a datagram: the first eight bytes behind its session ID, and 0 where they aren't there
abbrev pub key_of : List ℕ → ℕ
key_of bytes = if nat_lt (length bytes) 12 then 0 else from_be_bytes w64 (take 8 (drop 4 bytes))

-- These are the keys of the first datagrams that were sent.
abbrev pub AreKeys : List ℕ → List Sent → Type 0
AreKeys [] sent = Unit {0}
AreKeys (key ∷ keys) [] = ⊥
AreKeys (key ∷ keys) (one ∷ sent) = (key ≡ key_of one.datagram) × AreKeys keys sent

-- the datagram is there, and was sent with these bytes in this context
abbrev pub is_one_sent : List ℕ → Context → Option Sent → Bool
is_one_sent bytes context None = false
is_one_sent bytes context (Some sent) = is_sent bytes context sent
