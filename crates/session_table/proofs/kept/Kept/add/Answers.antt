use Rattle.std.proofs.Common.{ℕ, List, ◌≡◌, ◌≤◌, ◌∙◌, length, min, Some, sym, subst, arith}
use Rattle.std.specs.FinMap.{insert}
use Rattle.keyed_slab.specs.declared.keys.Key.{Key}
use Rattle.keyed_slab.specs.Keys.{KeyTable}
use Rattle.keyed_slab.specs.Seating.{IsLoose, key_to}
use Rattle.keyed_slab.proofs.Seated.{come_named, come_put, comes_loose}
use Rattle.session_table.specs.Inside.{due_from, may_be_due_of}
use Rattle.session_table.specs.Table.{near_of}
use Rattle.session_table.proofs.Rounds.{beside_awaits}
use Rattle.session_table.proofs.Rooms.{deadline_room, flag_room}
use Rattle.session_table.proofs.kept.Kept.add.Goals as goal

keyed : (keys more : KeyTable) (near id : ℕ) (key : Key) (generations : List ℕ) → more ≡ insert keys near key → near ≡ id → key.generation ≡ (key_to generations key.slot).generation → more ≡ insert keys id (key_to generations key.slot)
keyed keys more near id key generations put is generation = put ∙ (λ i. insert keys (is i) (record { slot = key.slot; generation = generation i }))

pub settle-requires : goal.settle-requires
settle-requires c =
    let k = c.args.self.now in
    let room = k.rows.room in
    let more = min k.rows.free k.keys.spare in
    let slot = c.put-key.result.slot in
    let below = c.put-key.ensures.below in
    let timers : room ≤ length k.deadlines = deadline_room room (length k.deadlines) (length k.busy) more c.requires.room in
    let marks : room ≤ length k.busy = flag_room room (length k.deadlines) (length k.busy) more c.requires.room in
    let put = keyed k.keys.keys c.put.new.self.keys c.near_of-near.result (near_of c.args.row) c.put-key.result k.rows.generations c.put.ensures c.near_of-near.ensures c.put-key.ensures.generation in
    let names = come_named near_of k.rows.things c.put-key.new.self.things k.rows.generations k.keys.keys slot c.requires.kept.seats.names c.args.row c.put.new.self.keys c.put-key.ensures.vacant c.requires.none c.put-key.ensures.things put in
    record {
      seats = subst (λ (g : List ℕ). IsLoose near_of due_from may_be_due_of c.put-key.new.self.things g c.put.new.self.keys k.deadlines k.busy slot) (sym c.put-key.ensures.generations)
          (comes_loose near_of due_from may_be_due_of k.rows.things k.rows.generations k.keys.keys k.deadlines k.busy c.put-key.new.self.things c.put.new.self.keys slot c.args.row c.requires.kept.seats names c.put-key.ensures.things
          (omega (arith, below, marks)) (omega (arith, below, timers)));
      rises = c.requires.kept.rises;
      awaits = beside_awaits k.rows.things c.put-key.new.self.things slot (Some c.args.row) k.round c.put-key.ensures.things c.requires.kept.awaits;
    }

pub returns-clause-table : goal.returns-clause-table
returns-clause-table c =
    let k = c.args.self.now in
    let put = keyed k.keys.keys c.put.new.self.keys c.near_of-near.result (near_of c.args.row) c.put-key.result k.rows.generations c.put.ensures c.near_of-near.ensures c.put-key.ensures.generation in
    c.settle.ensures.table
    ∙ come_put near_of k.rows.things c.put-key.new.self.things k.rows.generations k.keys.keys c.put-key.result.slot c.requires.kept.seats.names c.args.row c.put.new.self.keys c.put-key.ensures.vacant c.requires.none c.put-key.ensures.things put
