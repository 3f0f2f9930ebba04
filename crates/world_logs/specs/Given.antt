-- What the call of a line is given and that is written.
use Rattle.std.specs.Prelude.{ℕ, ◌≡◌, List}
use Rattle.log_writing.specs.Written.{written_call}
use Rattle.rendezvous_world.specs.Deed.{Deed}
use Rattle.rendezvous_world.specs.History.{call_by, given_by}

-- With these bytes in place of those that its call is given, the same is written of the call: only
-- the fingerprint of an open and the secret of a learn are.
abbrev pub IsGivenTo : List ℕ → ℕ → Deed → List ℕ → Type 0
IsGivenTo print generation deed given = (line : ℕ) (bytes : List ℕ) →
    written_call (call_by (given_by print generation deed) line bytes deed)
    ≡ written_call (call_by given line bytes deed)
