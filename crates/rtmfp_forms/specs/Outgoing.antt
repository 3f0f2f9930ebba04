-- Plain packets that go out.
use Rattle.std.specs.Prelude.{ℕ}

-- the most bytes of one (own)
abbrev pub packet_limit : ℕ
packet_limit = 1164
