-- Where no message can be overdue.
use Rattle.std.proofs.Common.{◌≡◌, ◌⊎◌, ℕ, cond, ◌+◌, ◌≤◌, nat_le, ◌==◌, Bool, true, false, ◌&&◌, ◌||◌, List, [], ◌∷◌, ◌++◌, Option, Some, None, refl, sym, ◌∙◌, arith, inl, inr}
use Rattle.std.specs.List.{sum_by}
use Rattle.std.proofs.lemmas.Bool.{le-ltb}
use Rattle.std.proofs.lemmas.List.Sums.{sum_by-cons}
use Rattle.flow_send.specs.declared.waiting.Waiting.{Waiting}
use Rattle.flow_send.specs.Rows.{Row, any_row, lost_of, is_lost}
use Rattle.flow_send.specs.Sender.{without_message, has_number, is_past, is_spent, is_spent_row, is_overdue, first_overdue}
use Rattle.flow_send.specs.Deadlines.{IsNotBefore, NoneBefore, NoneLimited, Reach}
use Rattle.flow_send.proofs.Summing.{zero_if}

pub not_past : (deadline : Option ℕ) (soonest moment : ℕ) → IsNotBefore soonest deadline → moment ≤ soonest → is_past deadline moment ≡ false
not_past None soonest moment h le = refl
not_past (Some deadline) soonest moment h le = le-ltb deadline moment (omega (arith, h, le))

and_lost : (a l s rest : Bool) → l ≡ false → rest ≡ false → ((a && (l && s)) || rest) ≡ false
and_lost true true s rest e f = absurd cc
and_lost true false s rest e f = f
and_lost false l s rest e f = f

none_lost_any : (w : Waiting) (limit n : ℕ) (rows : List Row) → sum_by lost_of rows ≡ 0 → any_row (λ k r. has_number w k && is_spent_row limit r) n rows ≡ false
none_lost_any w limit n [] e = refl
none_lost_any w limit n (r ∷ rows) e =
    let z = zero_if (is_lost r.state) (sum_by lost_of rows) (sym (sum_by-cons lost_of r rows) ∙ e) in
    and_lost (has_number w n) (is_lost r.state) (nat_le limit r.resends) (any_row (λ k r. has_number w k && is_spent_row limit r) (n + 1) rows) z.0 (none_lost_any w limit (n + 1) rows z.1)

-- a message isn't spent where it has no limit, or no row is lost
pub unspent : (limit : Option ℕ) (w : Waiting) (n : ℕ) (rows : List Row) → (limit ≡ None) ⊎ (sum_by lost_of rows ≡ 0) → is_spent limit w n rows ≡ false
unspent None w n rows h = refl
unspent (Some limit) w n rows (inl e) = absurd cc
unspent (Some limit) w n rows (inr e) = none_lost_any w limit n rows e

pub neither : (a b : Bool) → a ≡ false → b ≡ false → (a || b) ≡ false
neither true b e f = absurd cc
neither false b e f = f

go_on : (t : Bool) (n : ℕ) (rest : Option ℕ) → t ≡ false → rest ≡ None → cond t (Some n) rest ≡ None
go_on true n rest e f = absurd cc
go_on false n rest e f = f

pub none_overdue : (moment n soonest : ℕ) (rows : List Row) (ws : List Waiting) → moment ≤ soonest → NoneBefore soonest ws → NoneLimited ws ⊎ (sum_by lost_of rows ≡ 0) → first_overdue moment n rows ws ≡ None
none_overdue moment n soonest rows [] le h l = refl
none_overdue moment n soonest rows (w ∷ later) le h (inl l) =
    go_on (is_overdue moment n rows w) w.number (first_overdue moment n rows later)
    (neither (is_past w.options.deadline moment) (is_spent w.options.resends w n rows) (not_past w.options.deadline soonest moment h.0 le) (unspent w.options.resends w n rows (inl l.0)))
    (none_overdue moment n soonest rows later le h.1 (inl l.1))
none_overdue moment n soonest rows (w ∷ later) le h (inr z) =
    go_on (is_overdue moment n rows w) w.number (first_overdue moment n rows later)
    (neither (is_past w.options.deadline moment) (is_spent w.options.resends w n rows) (not_past w.options.deadline soonest moment h.0 le) (unspent w.options.resends w n rows (inr z)))
    (none_overdue moment n soonest rows later le h.1 (inr z))

-- ---- what keeps it

pub not_before_lower : (low high : ℕ) (deadline : Option ℕ) → low ≤ high → IsNotBefore high deadline → IsNotBefore low deadline
not_before_lower low high None le h = tt
not_before_lower low high (Some deadline) le h = omega (arith, le, h)

pub none_before_lower : (low high : ℕ) (ws : List Waiting) → low ≤ high → NoneBefore high ws → NoneBefore low ws
none_before_lower low high [] le h = tt
none_before_lower low high (w ∷ later) le h = (not_before_lower low high w.options.deadline le h.0, none_before_lower low high later le h.1)

none_before_push : (soonest latest : ℕ) (ws : List Waiting) (w : Waiting) → NoneBefore soonest ws → soonest ≤ latest → IsNotBefore latest w.options.deadline → NoneBefore soonest (ws ++ w ∷ [])
none_before_push soonest latest [] w h le d = (not_before_lower soonest latest w.options.deadline le d, tt)
none_before_push soonest latest (x ∷ ws) w h le d = (h.0, none_before_push soonest latest ws w h.1 le d)

none_limited_push : (ws : List Waiting) (w : Waiting) → NoneLimited ws → w.options.resends ≡ None → NoneLimited (ws ++ w ∷ [])
none_limited_push [] w h e = (e, tt)
none_limited_push (x ∷ ws) w h e = (h.0, none_limited_push ws w h.1 e)

none_before_without : (soonest n : ℕ) (ws : List Waiting) → NoneBefore soonest ws → NoneBefore soonest (without_message n ws)
none_before_without soonest n [] h = tt
none_before_without soonest n (x ∷ ws) h = without_if (x.number == n) (none_before_without soonest n ws h.1)
  where
    without_if : (t : Bool) → NoneBefore soonest (without_message n ws) → NoneBefore soonest (cond t ws (x ∷ without_message n ws))
    without_if true k = h.1
    without_if false k = (h.0, k)

none_limited_without : (n : ℕ) (ws : List Waiting) → NoneLimited ws → NoneLimited (without_message n ws)
none_limited_without n [] h = tt
none_limited_without n (x ∷ ws) h = without_if (x.number == n) (none_limited_without n ws h.1)
  where
    without_if : (t : Bool) → NoneLimited (without_message n ws) → NoneLimited (cond t ws (x ∷ without_message n ws))
    without_if true k = h.1
    without_if false k = (h.0, k)

pub reach_without : (soonest : ℕ) (limited : Bool) (n : ℕ) (ws : List Waiting) → Reach soonest limited ws → Reach soonest limited (without_message n ws)
reach_without soonest limited n ws r = record { deadlines = none_before_without soonest n ws r.deadlines; limits = λ e. none_limited_without n ws (r.limits e) }

-- one message more
pub reach_push : (before soonest latest : ℕ) (limited after : Bool) (ws : List Waiting) (w : Waiting) → Reach before limited ws → soonest ≤ before → soonest ≤ latest → IsNotBefore latest w.options.deadline
    → (after ≡ false → (limited ≡ false) × (w.options.resends ≡ None)) → Reach soonest after (ws ++ w ∷ [])
reach_push before soonest latest limited after ws w r lb ll d e = record {
  deadlines = none_before_push soonest latest ws w (none_before_lower soonest before ws lb r.deadlines) ll d;
  limits = λ f. let g = e f in none_limited_push ws w (r.limits g.0) g.1;
}
