use Rattle.std.proofs.Common.{◌≡◌, ◌≤◌, ◌∙◌, length, refl, ap, arith}
use Rattle.std.specs.FinMap.{get, insert}
use Rattle.keyed_slab.specs.Seating.{key_to}
use Rattle.startup.specs.declared.attempt.Row.{Row}
use Rattle.startup.specs.Table.{Table}
use Rattle.startup.proofs.Seats.{no_key, ready_inside, free_for, come_loose, come_is_put, settled_kept}
use Rattle.startup.proofs.table.AttemptTable.keep.Goals as goal

pub set-requires-clause-room : goal.set-requires-clause-room
set-requires-clause-room c =
    let i = c.self.inside in
    let room : i.rows.room ≤ length i.deadlines = ready_inside i.rows i.keys i.deadlines (ap (λ (t : Table). t.ready) c.self.view_is ∙ c.requires.ready) in
    let below = c.put-key.ensures.below in
    omega (arith, below, room)

pub set-requires-clause-free : goal.set-requires-clause-free
set-requires-clause-free c =
    let i = c.self.inside in
    let row : Row = record { near = c.args.near; attempt = c.args.attempt } in
    let slot = c.put-key.result.slot in
    let none = no_key i.rows i.keys.keys c.self.invariant.names c.args.near (ap (λ (t : Table). get t.attempts c.args.near) c.self.view_is ∙ c.requires.free) in
    let put : c.put.new.self.keys ≡ insert i.keys.keys c.args.near (key_to i.rows.generations slot) = c.put.ensures ∙ ap (λ g. insert i.keys.keys c.args.near (record { slot = slot; generation = g })) c.put-key.ensures.generation in
    let room : i.rows.room ≤ length i.deadlines = ready_inside i.rows i.keys i.deadlines (ap (λ (t : Table). t.ready) c.self.view_is ∙ c.requires.ready) in
    let loose = come_loose i.rows i.keys.keys i.deadlines slot c.self.invariant c.put-key.new.self c.put.new.self.keys row none c.put-key.ensures.vacant c.put-key.ensures.things put c.put-key.ensures.generations room c.put-key.ensures.below in
    free_for c.put-key.new.self c.put.new.self.keys i.deadlines slot row loose c.put-key.ensures.things.changed

pub invariant_of-self : goal.invariant_of-self
invariant_of-self c =
    let i = c.self.inside in
    let row : Row = record { near = c.args.near; attempt = c.args.attempt } in
    let slot = c.put-key.result.slot in
    let none = no_key i.rows i.keys.keys c.self.invariant.names c.args.near (ap (λ (t : Table). get t.attempts c.args.near) c.self.view_is ∙ c.requires.free) in
    let put : c.put.new.self.keys ≡ insert i.keys.keys c.args.near (key_to i.rows.generations slot) = c.put.ensures ∙ ap (λ g. insert i.keys.keys c.args.near (record { slot = slot; generation = g })) c.put-key.ensures.generation in
    let room : i.rows.room ≤ length i.deadlines = ready_inside i.rows i.keys i.deadlines (ap (λ (t : Table). t.ready) c.self.view_is ∙ c.requires.ready) in
    let loose = come_loose i.rows i.keys.keys i.deadlines slot c.self.invariant c.put-key.new.self c.put.new.self.keys row none c.put-key.ensures.vacant c.put-key.ensures.things put c.put-key.ensures.generations room c.put-key.ensures.below in
    settled_kept c.put-key.new.self c.put.new.self.keys i.deadlines slot row loose c.put-key.ensures.things.changed c.due_from-at.result c.args.near c.set.new.self c.set.ensures c.due_from-at.ensures refl

pub returns : goal.returns
returns c =
    let i = c.self.inside in
    let row : Row = record { near = c.args.near; attempt = c.args.attempt } in
    let slot = c.put-key.result.slot in
    let none = no_key i.rows i.keys.keys c.self.invariant.names c.args.near (ap (λ (t : Table). get t.attempts c.args.near) c.self.view_is ∙ c.requires.free) in
    let put : c.put.new.self.keys ≡ insert i.keys.keys c.args.near (key_to i.rows.generations slot) = c.put.ensures ∙ ap (λ g. insert i.keys.keys c.args.near (record { slot = slot; generation = g })) c.put-key.ensures.generation in
    come_is_put i.rows i.keys.keys i.deadlines slot c.self.invariant c.put-key.new.self c.put.new.self.keys row none c.put-key.ensures.vacant c.put-key.ensures.things put
    ∙ ap (λ (t : Table). insert t.attempts c.args.near c.args.attempt) c.self.view_is
