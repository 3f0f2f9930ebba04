use Rattle.std.proofs.Common.{◌≡◌, ◌≤◌, None, Option, length, ap, sym, subst, ◌∙◌}
use Rattle.std.specs.FinMap.{len}
use Rattle.introducer.specs.Directory.{AddressRows, DirectoryState, row_refusal}
use Rattle.introducer.specs.declared.refusal.RowRefusal.{RowRefusal}
use Rattle.introducer.proofs.Choices.{on_both}
use Rattle.introducer.proofs.FewRows.{few_addresses, few_rows}
use Rattle.introducer.proofs.directory.Directory.add_row.Goals as goal

pub invariant_of-self : goal.invariant_of-self
invariant_of-self c =
    let rows = c.self.inside.rows in
    let same = ap (λ (d : DirectoryState). d.rows) c.self.view_is in
    let none = subst (λ (rs : AddressRows). ◌≡◌ {A = Option RowRefusal} None (row_refusal rs c.args.print (length c.args.addresses.now))) (sym same) (sym c.in_default.is ∙ c.row_refusal.ensures) in
    on_both c.put.result c.put.ensures.ok c.put.ensures.err
    (λ e. subst (λ (rs : AddressRows). len rs ≤ 1024) (sym e) (few_rows rows c.args.print c.args.addresses.now (length c.args.addresses.now) none c.self.invariant))
    (λ e. subst (λ (rs : AddressRows). len rs ≤ 1024) (sym e) c.self.invariant)

pub put-requires : goal.put-requires
put-requires c =
    let same = ap (λ (d : DirectoryState). d.rows) c.self.view_is in
    few_addresses c.self.inside.rows c.args.print (length c.args.addresses.now)
    (subst (λ (rs : AddressRows). ◌≡◌ {A = Option RowRefusal} None (row_refusal rs c.args.print (length c.args.addresses.now))) (sym same) (sym c.in_default.is ∙ c.row_refusal.ensures))
