use Rattle.std.proofs.Common.{sym, arith}
use Rattle.rtmfp_data_chunks.specs.Spelling.{shown}
use Rattle.rtmfp_data_chunks.specs.Reader.{data_reading}
use Rattle.rtmfp_data_chunks.proofs.ReadingLaws.{shown_is, reads_shown, only_shown, view_whole, stays_ordered}
use Rattle.rtmfp_data_chunks.proofs.cursor.DataCursor.read.Goals as goal

pub returns-clause-reads : goal.returns-clause-reads
returns-clause-reads c =
    rw (sym c.self.view_is) (reads_shown c.self.inside.before c.args.kind c.args.payload.now c.read_kind-read.result (λ i. omega (arith, c.type_inv.payload i)) c.read_kind-read.ensures)

pub returns-clause-only : goal.returns-clause-only
returns-clause-only c other h =
    only_shown c.self.inside.before c.args.kind c.args.payload.now c.read_kind-read.result (λ i. omega (arith, c.type_inv.payload i)) c.read_kind-read.ensures other (rw (sym c.self.view_is) at h)

pub returns-clause-exact : goal.returns-clause-exact
returns-clause-exact c =
    rw (sym c.self.view_is) (sym (shown_is c.read_kind-read.result (data_reading c.self.inside.before c.args.kind c.args.payload.now) c.read_kind-read.ensures))

pub returns-clause-whole : goal.returns-clause-whole
returns-clause-whole c =
    view_whole c.self.inside.before c.args.kind c.args.payload.now c.read_kind-read.result c.self.invariant
    (reads_shown c.self.inside.before c.args.kind c.args.payload.now c.read_kind-read.result (λ i. omega (arith, c.type_inv.payload i)) c.read_kind-read.ensures)

pub invariant_of-self : goal.invariant_of-self
invariant_of-self c =
    rw c.before_next-self-inside.ensures
    (stays_ordered c.self.inside.before c.args.kind c.args.payload.now (shown c.read_kind-read.result) c.self.invariant
    (reads_shown c.self.inside.before c.args.kind c.args.payload.now c.read_kind-read.result (λ i. omega (arith, c.type_inv.payload i)) c.read_kind-read.ensures))
