-- What the test of an address leaves, by the row that is kept under the session ID.
use Rattle.std.specs.Prelude.{ℕ, List, Option, Some, None}
use Rattle.rtmfp_forms.specs.Address.{AddressParts}
use Rattle.mobility.specs.Tests.{after_seen}
use Rattle.endpoint_model.specs.declared.row.Row.{Row}
use Rattle.endpoint_model.specs.State.{State, with_row}

-- a test of an address is pending
abbrev pub test_pending : State → ℕ → AddressParts → List ℕ → Option Row → State
test_pending s near from token None = s
test_pending s near from token (Some row) = with_row s near (record row {
  moves = after_seen row.moves row.session.address from token s.moment;
})
