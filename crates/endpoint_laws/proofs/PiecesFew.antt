-- In every log the pieces that a session holds are within the limits: those of a new one are none,
-- and a piece that is taken keeps them.
use Rattle.std.proofs.Common.{ℕ, [], refl, sym, subst}
use Rattle.rtmfp_fragments.specs.Held.{IsWithinLimits}
use Rattle.rtmfp_fragments.specs.Answers.{taken}
use Rattle.rtmfp_fragments.proofs.Limits.{no_packets, limits_taken}
use Rattle.endpoint_model.specs.declared.row.Row.{Row}
use Rattle.endpoint_laws.specs.Within.{PiecesHoldFew}
use Rattle.endpoint_laws.proofs.Small.{FlowThing, Called, Came, Acked, Unowed, Late, Overdue}
use Rattle.endpoint_laws.proofs.Small.{Packed, row_after}
use Rattle.endpoint_laws.proofs.EachRow.{IsKeptAlone, in_every_log}

abbrev IsWithin : ℕ → Row → Type 0
IsWithin near row = IsWithinLimits row.gathering

-- what is done with flows leaves the pieces
pieces_left : (near moment : ℕ) (row : Row) (thing : FlowThing) → IsWithin near row →
    IsWithin near (row_after moment row thing)
pieces_left near moment row (Called call) h = h
pieces_left near moment row (Came chunk) h = h
pieces_left near moment row Acked h = h
pieces_left near moment row Unowed h = h
pieces_left near moment row Late h = h
pieces_left near moment row (Overdue flow seq) h = h
pieces_left near moment row Packed h = h

kept : IsKeptAlone IsWithin
kept = record {
  begins = λ near session. no_packets [] refl;
  changed = λ near row session h. h;
  goes_on = λ near old new goes h. subst IsWithinLimits (sym goes.pieces) h;
  gathers = λ near moment id row x h.
      limits_taken (taken row.gathering id x moment).1 row.gathering _ id moment x refl h;
  alone = λ near moment row thing may alone h. pieces_left near moment row thing h;
}

pub pieces_hold_few : PiecesHoldFew
pieces_hold_few setup log s near row stands there =
    in_every_log IsWithin kept (λ near moment row c may h. h) setup log s stands near row there
