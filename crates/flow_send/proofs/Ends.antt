-- Where the numbers of a sender end.
use Rattle.std.proofs.Common.{◌≡◌, ℕ, ◌+◌, ◌^◌, ◌<◌, ◌≤◌, List, length, drop, Option, Some, None, ap, ◌∙◌, arith}
use Rattle.flow_send.specs.declared.waiting.Waiting.{Waiting}
use Rattle.flow_send.specs.Rows.{Row, settled_front}
use Rattle.flow_send.specs.Sender.{sender_of, Sender, next_of, with_rows}
use Rattle.flow_send.specs.Steady.{Steady, Line, line_end, end_of, IsLast}
use Rattle.flow_send.proofs.Keeping.{line_higher}

end_le : (o : Option ℕ) (next : ℕ) → IsLast o next → (line_end o next ≤ next) × (next ≤ line_end o next + 1)
end_le None next h = (omega arith, omega arith)
end_le (Some n) next h = (omega (arith, h), omega (arith, h))

-- messages end where the rows do, or one before
pub inside_rows : (s : Sender) → Steady s → end_of s ≤ s.forward + 1 + length s.rows
inside_rows s k = (end_le s.finish (next_of s) k.last).0

pub next_small : (s : Sender) → Steady s → next_of s ≤ 2 ^ 64
next_small s k = let e = (end_le s.finish (next_of s) k.last).1 in omega (arith, e, k.numbers)

pub next_unfinished : (s : Sender) → Steady s → s.finish ≡ None → next_of s < 2 ^ 64
next_unfinished s k e = let f : end_of s ≡ next_of s = ap (λ (o : Option ℕ). line_end o (next_of s)) e in omega (arith, f, k.numbers)

-- a sender whose rows were settled
pub settle_eq : (s : Sender) (rows : List Row) (ws : List Waiting) (f : ℕ) (rs : List Row) (vs : List Waiting) → f ≡ s.forward + settled_front rows → rs ≡ drop (settled_front rows) rows → vs ≡ ws
    → sender_of f rs vs s.finish s.sent s.upto s.told s.notice s.order ≡ with_rows rows ws s
settle_eq s rows ws f rs vs a b c =
    ap (λ x. sender_of x rs vs s.finish s.sent s.upto s.told s.notice s.order) a
    ∙ (ap (λ x. sender_of (s.forward + settled_front rows) x vs s.finish s.sent s.upto s.told s.notice s.order) b
    ∙ ap (λ x. sender_of (s.forward + settled_front rows) (drop (settled_front rows) rows) x s.finish s.sent s.upto s.told s.notice s.order) c)

pub line_rows : (s : Sender) → Steady s → Line 0 (s.forward + 1 + length s.rows) s.waiting
line_rows s k = line_higher 0 (end_of s) (s.forward + 1 + length s.rows) s.waiting (inside_rows s k) k.line
