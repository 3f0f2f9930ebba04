use Rattle.std.proofs.Common.{◌≡◌, ℕ, Option, Some, None, IfSome, IfNone, is_some, rules, sym, ap, subst, ◌∙◌}
use Rattle.std.specs.List.{find}
use Rattle.std.specs.FinMap.{entries}
use Rattle.keyed_slab.proofs.Walked.{first_is_found, none_is_found}
use Rattle.endpoint_model.specs.declared.row.Row.{Row}
use Rattle.endpoint_model.specs.FlowTimes.{is_row_due}
use Rattle.session_table.specs.Table.{near_of, entry_of, due_of}
use Rattle.session_table.specs.Inside.{IsFirst, NonePasses, rows_in}
use Rattle.session_table.proofs.due.due_at.Goals as goal

pub index-requires : goal.index-requires
index-requires c =
    let is : c.args.slot ≡ Some c.in-Some.slot = search rules in
    ap is_some (subst (λ (o : Option ℕ). IfSome o (IsFirst (is_row_due c.args.moment) c.args.kept.now.rows)) is c.requires.some).stands

pub returns-in-Some : goal.returns-in-Some
returns-in-Some c =
    let k = c.args.kept.now in
    let is : c.args.slot ≡ Some c.in-Some.slot = search rules in
    let first = subst (λ (o : Option ℕ). IfSome o (IsFirst (is_row_due c.args.moment) k.rows)) is c.requires.some in
    let found : find (λ (e : ℕ × Row). is_row_due c.args.moment e.1) (entries (rows_in k.rows)) ≡ Some (entry_of c.index.result.now) =
    first_is_found near_of (is_row_due c.args.moment) k.rows.things k.rows.generations k.keys.keys c.requires.kept.seats.names c.in-Some.slot c.index.result.now c.index.ensures first in
    c.due_of.ensures ∙ sym (ap (due_of c.args.moment) found)

pub returns-in-None : goal.returns-in-None
returns-in-None c =
    let k = c.args.kept.now in
    let is : c.args.slot ≡ None = search rules in
    let none = subst (λ (o : Option ℕ). IfNone o (NonePasses (is_row_due c.args.moment) k.rows)) is c.requires.none in
    let found : find (λ (e : ℕ × Row). is_row_due c.args.moment e.1) (entries (rows_in k.rows)) ≡ None =
    none_is_found near_of (is_row_due c.args.moment) k.rows.things k.rows.generations k.keys.keys c.requires.kept.seats.names none in
    sym (ap (due_of c.args.moment) found)
