use Rattle.std.proofs.Common.{sym, arith}
use Rattle.rtmfp_data_chunks.proofs.Spanning.{none_holes, none_after, none_past, some_past}
use Rattle.rtmfp_data_chunks.proofs.acked.next_in_pairs.Goals as goal

pub returns-in_default : goal.returns-in_default
returns-in_default c = none_holes c.args.above c.args.bytes.now c.in_default.field-0 (sym c.in_default.ensures.exact)

pub returns-in_default-read_vlu : goal.returns-in_default-read_vlu
returns-in_default-read_vlu c = none_after c.args.above c.args.bytes.now _ _ _ c.in_default-read_vlu.field-0 (sym c.in-Ok.ensures.exact) c.split_at.ensures.back (sym c.in_default-read_vlu.ensures.exact)

pub returns-then-last-from : goal.returns-then-last-from
returns-then-last-from c = none_past c.args.above c.args.bytes.now _ _ _ _ _ _ _ _ (sym c.in-Ok.ensures.exact) c.split_at.ensures.back (sym c.in-Ok-read_vlu.ensures.exact) c.from.ensures c.from-2.ensures c.from-3.ensures (omega arith)

pub returns : goal.returns
returns c = some_past c.args.above c.args.bytes.now _ _ _ _ _ _ _ _ _ (sym c.in-Ok.ensures.exact) c.split_at.ensures.back (sym c.in-Ok-read_vlu.ensures.exact) c.split_at-2.ensures.back c.from.ensures c.from-2.ensures c.from-3.ensures (omega arith)
