-- An idle flow has no number, no message that waits, and no notice to send.
use Rattle.std.proofs.Common.{◌≡◌, ℕ, ◌+◌, ◌==◌, ◌&&◌, nat_le, nat_lt, Bool, true, false, cond, List, [], ◌∷◌, map, length, refl, sym, ap, ◌∙◌, arith}
use Rattle.std.specs.List.{list_any}
use Rattle.std.proofs.lemmas.Bool.Decides.{nat_tests}
use Rattle.flow_send.specs.declared.waiting.Waiting.{Waiting}
use Rattle.flow_send.specs.Rows.{Row, is_lost, is_unsent}
use Rattle.flow_send.specs.Sender.{Sender, is_idle, is_late, lost_if_late, first_overdue, overdue}
use Rattle.flow_send.specs.Choice.{Choice, Nothing, Notify, choice_bytes, first_in, is_quiet, next_choice, notice_due, or_else, within_limit}
use Rattle.flow_send.specs.Idle.{IdleDoNothing}

first_of : (a b : Bool) → (a && b) ≡ true → a ≡ true
first_of true b e = refl
first_of false b e = absurd cc

second_of : (a b : Bool) → (a && b) ≡ true → b ≡ true
second_of true b e = e
second_of false b e = absurd cc

no_rows : (rows : List Row) → (length rows == 0) ≡ true → rows ≡ []
no_rows [] e = refl
no_rows (r ∷ later) e = absurd (grind (arith, nat_tests, e))

no_messages : (waiting : List Waiting) → (length waiting == 0) ≡ true → waiting ≡ []
no_messages [] e = refl
no_messages (w ∷ later) e = absurd (grind (arith, nat_tests, e))

not_behind : (forward upto : ℕ) → nat_le forward upto ≡ true → nat_lt upto forward ≡ false
not_behind forward upto e = grind (arith, nat_tests, e)

-- no notice is due, whether one was sent lately or not
no_notice : (quiet behind : Bool) → behind ≡ false → ◌≡◌ {A = Choice} (cond (behind && quiet) Notify Nothing) Nothing
no_notice quiet true e = absurd cc
no_notice quiet false e = refl

none_chosen : (s : Sender) (within : Bool) (next : Choice) → next ≡ Nothing → ◌≡◌ {A = Choice} (cond within next Nothing) Nothing
none_chosen s true next e = e
none_chosen s false next e = refl

pub rows_of_idle : (s : Sender) → is_idle s ≡ true → s.rows ≡ []
rows_of_idle s e = no_rows s.rows (first_of _ _ e)

pub waiting_of_idle : (s : Sender) → is_idle s ≡ true → s.waiting ≡ []
waiting_of_idle s e = no_messages s.waiting (first_of _ _ (second_of (length s.rows == 0) _ e))

next_of_idle : (moment resend : ℕ) (s : Sender) → is_idle s ≡ true → next_choice moment resend s ≡ Nothing
next_of_idle moment resend s e =
    let told : nat_le s.forward s.upto ≡ true = second_of (length s.waiting == 0) _ (second_of (length s.rows == 0) _ e) in
    ap (λ (rows : List Row). or_else (first_in is_lost (s.forward + 1) rows) (or_else (first_in is_unsent (s.forward + 1) rows) (notice_due moment resend s))) (rows_of_idle s e)
    ∙ no_notice (is_quiet s.notice moment resend) (nat_lt s.upto s.forward) (not_behind s.forward s.upto told)

pub idle_does_nothing : IdleDoNothing
idle_does_nothing moment resend s e =
    let none : s.rows ≡ [] = rows_of_idle s e in
    record {
      late = ap (λ (rows : List Row). list_any (is_late moment resend) rows) none;
      stays = ap (λ (rows : List Row). record s { rows = rows }) (ap (map (lost_if_late moment resend)) none ∙ sym none);
      overdue = ap (λ (waiting : List Waiting). first_overdue moment (s.forward + 1) s.rows waiting) (waiting_of_idle s e);
      sends = none_chosen s (within_limit s (choice_bytes (next_choice moment resend s))) (next_choice moment resend s) (next_of_idle moment resend s e);
    }
