-- Timestamps: the sender's clock in units of 4 ms, modulo 65,536 (RFC 7016 section 2.2.4).
use Rattle.std.specs.Prelude.{ℕ, ◌+◌, ◌-◌, ◌/◌, ◌%◌, Option, None, Some, nat_lt, if◌then◌else◌}
use Rattle.session_core.specs.declared.stamps.Stamp.{Stamp}

-- the timestamp of a moment
abbrev pub tick_of : ℕ → ℕ
tick_of moment = moment / 4 % 65536

-- The echo of a timestamp at a moment: with the time since it was taken, where that is less than
-- 128,000 ms. A moment before that counts as none later.
abbrev pub echo_of : Option Stamp → ℕ → Option ℕ
echo_of None moment = None
echo_of (Some s) moment = if nat_lt (moment - s.at) 128000 then
    Some ((s.value + (moment - s.at) / 4) % 65536) else None

-- the timestamp that is kept once a packet with this one, or with none, was taken at a moment
abbrev pub stamp_after : Option Stamp → Option ℕ → ℕ → Option Stamp
stamp_after kept None moment = kept
stamp_after kept (Some value) moment = Some (record { value = value; at = moment })
