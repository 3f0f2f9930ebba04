-- Messages and their fragments.
use Rattle.std.specs.Prelude.{ℕ, ◌+◌, ◌-◌, ◌*◌, ◌/◌, ◌<◌, ◌≤◌, ◌==◌, if◌then◌else◌, nat_lt, nat_le, List, [], ◌∷◌, Option, Some, None, length, take, drop}
use Rattle.rtmfp_data_chunks.specs.declared.user_data.Part.{Part}
use Rattle.rtmfp_data_chunks.specs.declared.user_data.Part.TheVariants.{Whole, Begin, End, Middle}

-- the bytes of each fragment but the last
abbrev pub fragment_size : ℕ
fragment_size = 1000

-- a message and the number of its first fragment
pub record Message : Type 0 where
  pub number : ℕ
  pub bytes : List ℕ

-- how many fragments a message of this length has. An empty message has one
abbrev pub fragments_of_length : ℕ → ℕ
fragments_of_length n = if n == 0 then 1 else (n + 999) / 1000

abbrev pub fragment_count : Message → ℕ
fragment_count m = fragments_of_length (length m.bytes)

-- the part of fragment k of so many
abbrev pub part_of : ℕ → ℕ → Part
part_of count k = if count == 1 then Whole else if k == 0 then Begin else if k + 1 == count then End
    else Middle

-- the bytes of fragment k of a message
abbrev pub piece : List ℕ → ℕ → List ℕ
piece bytes k = take fragment_size (drop (fragment_size * k) bytes)

pub record Fragment : Type 0 where
  pub part : Part
  pub bytes : List ℕ

-- number n is one of the message's
abbrev pub Spans : Message → ℕ → Type 0
Spans m n = (m.number ≤ n) × (n < m.number + fragment_count m)

-- the fragment of number n, where the messages were queued one after another, the newest first
abbrev pub fragment_at : Message → ℕ → Fragment
fragment_at m n = record {
  part = part_of (fragment_count m) (n - m.number);
  bytes = piece m.bytes (n - m.number);
}

abbrev pub fragment_of : List Message → ℕ → Option Fragment
fragment_of [] n = None
fragment_of (m ∷ earlier) n =
    if nat_le m.number n
    then (if nat_lt n (m.number + fragment_count m) then Some (fragment_at m n) else None)
    else fragment_of earlier n

-- the first number that no message of a flow has, which begins at first
abbrev pub next_number : ℕ → List Message → ℕ
next_number first [] = first
next_number first (m ∷ earlier) = m.number + fragment_count m
