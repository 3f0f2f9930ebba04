-- Marking the numbers that are lost by time leaves what a table keeps of its rows, and changes none
-- whose sending flows are idle.
use Rattle.std.proofs.Common.{ℕ, ◌≡◌, Bool, true, false, if◌then◌else◌, refl, ap}
use Rattle.session_core.specs.declared.stage.Stage.{Stage}
use Rattle.session_core.specs.declared.stage.Stage.TheVariants.{Opening, Open, NearClose, FarLinger, Closed}
use Rattle.session_core.specs.Session.{SessionState}
use Rattle.session_core.specs.Closing.{with_loss}
use Rattle.session_core.specs.Deadline.{deadline, deadline_at}
use Rattle.session_flows.specs.Timing.{is_any_late}
use Rattle.session_flows.specs.Laws.{HasNothingDue}
use Rattle.session_flows.proofs.Idles.{idle_have_nothing_due, late_may_be_due}
use Rattle.endpoint_model.specs.declared.row.Row.{Row}
use Rattle.endpoint_model.specs.FlowTimes.{late_marked}
use Rattle.session_table.specs.Inside.{due_from, may_be_due_of}

-- ---- a row whose sending flows are idle stays as it is

pub late_idle : (moment : ℕ) (row : Row) → may_be_due_of row ≡ false → late_marked moment row ≡ row
late_idle moment row idle =
    let none : HasNothingDue row.session row.flows moment = idle_have_nothing_due row.session row.flows moment idle in
    let same : (if is_any_late row.session row.flows moment then with_loss true row.session else row.session) ≡ row.session = ap (λ (b : Bool). if b then with_loss true row.session else row.session) none.late in
    (λ i. record row { session = same i; flows = none.stays i })

-- ---- what is kept of a row stays

lossy : (stage : Stage) (s : SessionState) → deadline_at stage (with_loss true s) ≡ deadline_at stage s
lossy Opening s = refl
lossy Open s = refl
lossy NearClose s = refl
lossy FarLinger s = refl
lossy Closed s = refl

keeps_deadline : (b : Bool) (s : SessionState) → deadline (if b then with_loss true s else s) ≡ deadline s
keeps_deadline true s = lossy s.stage s
keeps_deadline false s = refl

pub late_deadline : (moment : ℕ) (row : Row) → due_from (late_marked moment row) ≡ due_from row
late_deadline moment row = keeps_deadline (is_any_late row.session row.flows moment) row.session

pub late_may_be_due_of : (moment : ℕ) (row : Row) → may_be_due_of (late_marked moment row) ≡ may_be_due_of row
late_may_be_due_of moment row = late_may_be_due row.session row.flows moment
