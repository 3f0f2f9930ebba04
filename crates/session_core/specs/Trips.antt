-- The times of round trips (after RFC 7016 section 3.5.2.2; the numbers are this project's own).
use Rattle.std.specs.Prelude.{ℕ, ◌+◌, ◌-◌, ◌*◌, ◌/◌, ◌%◌, max, min, Option, None, Some, nat_lt, if◌then◌else◌}
use Rattle.session_core.specs.declared.trips.RoundTrip.{RoundTrip}
use Rattle.session_core.specs.Stamps.{tick_of}

-- the milliseconds of so many units of 4 ms; half of all units or more are no time that passed
abbrev pub sample_by : ℕ → Option ℕ
sample_by units = if nat_lt units 32768 then Some (4 * units) else None

-- the time that an echo tells at a moment
abbrev pub sample_of : Option ℕ → ℕ → Option ℕ
sample_of None moment = None
sample_of (Some echo) moment = sample_by ((tick_of moment + 65536 - echo) % 65536)

-- how far two numbers are apart
abbrev pub apart : ℕ → ℕ → ℕ
apart a b = (a - b) + (b - a)

-- the smoothed time and its variation with a sample
abbrev pub trip_with : Option RoundTrip → ℕ → RoundTrip
trip_with None sample = record { srtt = sample; var = sample / 2 }
trip_with (Some t) sample = record {
  srtt = (7 * t.srtt + sample) / 8;
  var = (3 * t.var + apart t.srtt sample) / 4;
}

abbrev pub trip_by : Option RoundTrip → Option ℕ → Option RoundTrip
trip_by trip None = trip
trip_by trip (Some sample) = Some (trip_with trip sample)

-- what is kept once a packet with this echo, or with none, was taken at a moment
abbrev pub trip_after : Option RoundTrip → Option ℕ → ℕ → Option RoundTrip
trip_after trip echo moment = trip_by trip (sample_of echo moment)

-- the milliseconds after which what was sent is sent again
abbrev pub resend_time : Option RoundTrip → ℕ
resend_time None = 1000
resend_time (Some t) = max 250 (min 10000 (t.srtt + 4 * t.var + 200))
