-- The only chunk of a plain packet, as far as the packet's first bytes tell it.
use Rattle.std.specs.Prelude.{ℕ, ◌+◌, ◌-◌, ◌*◌, ◌%◌, ◌==◌, ◌||◌, nat_lt, List, [], ◌∷◌, drop, Option, Some, None, if◌then◌else◌}
use Rattle.rtmfp_packet.specs.Head.{flag, flagged_len}
use Rattle.rtmfp_packet.specs.Walk.{is_ignored}

-- The type of a chunk that begins with these bytes and fills a body of so many bytes, but for at
-- most two.
abbrev pub filling_kind : ℕ → List ℕ → Option ℕ
filling_kind size (kind ∷ high ∷ low ∷ rest) =
    if nat_lt size (3 + (high * 256 + low))
    || (nat_lt (5 + (high * 256 + low)) size || is_ignored kind)
    then None else Some kind
filling_kind size short = None

-- how many bytes of timestamps these flags announce
abbrev pub stamps_len : ℕ → ℕ
stamps_len flags = flagged_len (flag flags 3) + flagged_len (flag flags 2)

-- The type of the only chunk of a packet of so many bytes that begins with these; none where they
-- don't tell that there is only one, or which.
abbrev pub lone_kind : ℕ → List ℕ → Option ℕ
lone_kind size [] = None
lone_kind size (flags ∷ front) = if flags % 4 == 0 then None
    else filling_kind (size - (1 + stamps_len flags)) (drop (stamps_len flags) front)
