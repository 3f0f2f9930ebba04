-- How faults of the outside are counted.
use Rattle.std.specs.Prelude.{◌≡◌, ℕ, ◌+◌, ◌-◌, ◌^◌, ◌≤◌, min}
use Rattle.rtmfp_host.specs.declared.source.Taken.{Taken}
use Rattle.rtmfp_host.specs.declared.source.Taken.TheVariants as taken
use Rattle.rtmfp_host.specs.declared.sink.Wrote.{Wrote}
use Rattle.rtmfp_host.specs.declared.sink.Wrote.TheVariants as wrote
use Rattle.rtmfp_host.specs.declared.link.Bound.{Bound}
use Rattle.rtmfp_host.specs.declared.link.Bound.TheVariants as bound
use Rattle.rtmfp_host.specs.declared.link.Got.{Got}
use Rattle.rtmfp_host.specs.declared.link.Got.TheVariants as got
use Rattle.rtmfp_host.specs.declared.link.Sent.{Sent}
use Rattle.rtmfp_host.specs.declared.link.Sent.TheVariants as sent
use Rattle.rtmfp_host.specs.declared.entropy.Drawn.{Drawn}
use Rattle.rtmfp_host.specs.declared.entropy.Drawn.TheVariants as drawn
use Rattle.rtmfp_host.specs.declared.spawner.Begun.{Begun}
use Rattle.rtmfp_host.specs.declared.spawner.Begun.TheVariants as begun
use Rattle.rtmfp_host.specs.declared.spawner.Ran.{Ran}
use Rattle.rtmfp_host.specs.declared.spawner.Ran.TheVariants as ran

-- a count that is kept in a u64 is larger than before, or stands at its end
abbrev pub Rose : ℕ → ℕ → Type 0
Rose before now = min (before + 1) (2 ^ 64 - 1) ≤ now

-- one more fault was counted; a count never falls
abbrev pub Counted : ℕ → ℕ → Type 0
Counted before now = Rose before now × (before ≤ now)

-- a read counts a fault where it fails, and else none
abbrev pub CountsTaken : Taken → ℕ → ℕ → Type 0
CountsTaken (taken.Done count) before now = now ≡ before
CountsTaken taken.End before now = now ≡ before
CountsTaken taken.Failed before now = Counted before now

-- and so does a write, or a flush
abbrev pub CountsWrote : Wrote → ℕ → ℕ → Type 0
CountsWrote wrote.Done before now = now ≡ before
CountsWrote wrote.Failed before now = Counted before now

-- the same of each call of a link; a send has a count of its own
abbrev pub CountsBound : Bound → ℕ → ℕ → Type 0
CountsBound bound.Done before now = now ≡ before
CountsBound bound.Failed before now = Counted before now

abbrev pub CountsGot : Got → ℕ → ℕ → Type 0
CountsGot (got.Datagram from length) before now = now ≡ before
CountsGot got.Quiet before now = now ≡ before
CountsGot got.Failed before now = Counted before now

abbrev pub CountsSent : Sent → ℕ → ℕ → Type 0
CountsSent sent.Done before now = now ≡ before
CountsSent sent.Failed before now = Counted before now

-- of a draw
abbrev pub CountsDrawn : Drawn → ℕ → ℕ → Type 0
CountsDrawn drawn.Done before now = now ≡ before
CountsDrawn drawn.Failed before now = Counted before now

-- and of a start and a wait; want of memory is no fault
abbrev pub CountsBegun : Begun → ℕ → ℕ → Type 0
CountsBegun (begun.Child number) before now = now ≡ before
CountsBegun begun.Failed before now = Counted before now
CountsBegun begun.Memory before now = now ≡ before

abbrev pub CountsRan : Ran → ℕ → ℕ → Type 0
CountsRan (ran.Ended status text) before now = now ≡ before
CountsRan ran.Failed before now = Counted before now
CountsRan ran.Memory before now = now ≡ before
