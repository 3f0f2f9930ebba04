-- One session of an end is changed.
use Rattle.std.proofs.Common.{ℕ, ◌≡◌, Option, Some, None, sym, ap, ◌∙◌}
use Rattle.std.specs.FinMap.{get}
use Rattle.startup.specs.State.{StartupState}
use Rattle.session_table.specs.Table.{with_changed, in_row}
use Rattle.end_state.specs.declared.settings.Settings.{Settings}
use Rattle.end_state.specs.declared.groups.Groups.{Groups}
use Rattle.endpoint_model.specs.declared.row.Row.{Row}
use Rattle.endpoint_model.specs.State.{State, Sessions, with_sessions, with_row}
use Rattle.end_state.specs.Stored.{state_of}

-- the state in which the row under a session ID was changed so, where there is one
pub changed_state : (settings : Settings) (moment sealed limit : ℕ) (groups : Groups) (startup : StartupState) (old new : Sessions) (s : State) (near : ℕ) (change : Row → Row) (did : State → Option Row → State) →
    state_of settings moment sealed limit groups startup old ≡ s → new ≡ in_row change old near → did (state_of settings moment sealed limit groups startup old) None ≡ state_of settings moment sealed limit groups startup old →
    ((row : Row) → did (state_of settings moment sealed limit groups startup old) (Some row) ≡ with_row (state_of settings moment sealed limit groups startup old) near (change row)) →
    state_of settings moment sealed limit groups startup new ≡ did s (get s.sessions near)
changed_state settings moment sealed limit groups startup old new s near change did view is none some =
    ap (with_sessions before) is ∙ by (get old near) ∙ ap (λ (t : State). did t (get t.sessions near)) view
  where
    before : State
    before = state_of settings moment sealed limit groups startup old

    by : (o : Option Row) → with_sessions before (with_changed change old near o) ≡ did before o
    by None = sym none
    by (Some row) = sym (some row)
