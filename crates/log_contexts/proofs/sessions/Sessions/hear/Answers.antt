use Rattle.std.proofs.Common.{rules, ◌≡◌, ◌∙◌, sym, ap, Option, Some, None}
use Rattle.std.specs.FinMap.{from_entries, get, insert}
use Rattle.keyed_slab.proofs.KeyMaps.{get_keys, keys_put}
use Rattle.log_contexts.specs.declared.sessions.Session.{Session}
use Rattle.log_contexts.specs.Kept.{SessionTable}
use Rattle.log_contexts.specs.Changes.{heard_if, takes_if}
use Rattle.log_contexts.proofs.sessions.Sessions.hear.Goals as goal

pub returns-in_default-clause-takes : goal.returns-in_default-clause-takes
returns-in_default-clause-takes c =
    let none : None ≡ get c.args.self.now c.args.near = c.in_default.ensures.value ∙ sym (get_keys c.self.inside.map.entries c.args.near) ∙ ap (λ (m : SessionTable). get m c.args.near) c.self.view_is in
    ap (takes_if c.args.count c.args.fits) none

pub returns-in_default-clause-table : goal.returns-in_default-clause-table
returns-in_default-clause-table c =
    let none : None ≡ get c.args.self.now c.args.near = c.in_default.ensures.value ∙ sym (get_keys c.self.inside.map.entries c.args.near) ∙ ap (λ (m : SessionTable). get m c.args.near) c.self.view_is in
    (λ i. from_entries (c.get_mut.follows.holds-at-none i).entries) ∙ c.self.view_is
    ∙ ap (λ (o : Option Session). heard_if c.args.near c.args.count c.args.moment c.args.fits o c.args.self.now) none

pub returns-clause-takes : goal.returns-clause-takes
returns-clause-takes c =
    let found : Some c.in-Some.session.now ≡ get c.args.self.now c.args.near = c.in-Some.ensures.value ∙ sym (get_keys c.self.inside.map.entries c.args.near) ∙ ap (λ (m : SessionTable). get m c.args.near) c.self.view_is in
    c.hear.ensures.takes ∙ ap (takes_if c.args.count c.args.fits) found

pub returns-clause-table : goal.returns-clause-table
returns-clause-table c =
    let found : Some c.in-Some.session.now ≡ get c.args.self.now c.args.near = c.in-Some.ensures.value ∙ sym (get_keys c.self.inside.map.entries c.args.near) ∙ ap (λ (m : SessionTable). get m c.args.near) c.self.view_is in
    keys_put c.self.inside.map (c.get_mut.follows.lender c.hear.new.self) c.args.near c.hear.new.self ((c.get_mut.follows.holds c.hear.new.self).3 (search rules))
    ∙ ap (λ (m : SessionTable). insert m c.args.near c.hear.new.self) c.self.view_is
    ∙ ap (λ (s : Session). insert c.args.self.now c.args.near s) c.hear.ensures.value
    ∙ ap (λ (o : Option Session). heard_if c.args.near c.args.count c.args.moment c.args.fits o c.args.self.now) found
