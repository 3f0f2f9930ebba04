-- An exception leaves no message.
use Rattle.std.proofs.Common.{◌≡◌, ℕ, ◌==◌, Bool, true, cond, List, [], ◌∷◌, Option, Some, refl, ap, ◌∙◌}
use Rattle.std.proofs.lemmas.Bool.{eq-eqb}
use Rattle.flow_send.specs.declared.waiting.Waiting.{Waiting}
use Rattle.flow_send.specs.Sender.{Sender, message_at, without_message, abandoned, abandoned_with}
use Rattle.session_flows.specs.Chunks.{all_abandoned}
use Rattle.session_flows.specs.Laws.{LeavesNoMessage}

same : (n : ℕ) → (n == n) ≡ true
same n = eq-eqb n n refl

-- the first message is gone, and the others are left
pub first_gone : (w : Waiting) (later : List Waiting) (s : Sender) → s.waiting ≡ w ∷ later → (abandoned w.number s).waiting ≡ later
first_gone w later s e =
    let found : message_at w.number s.waiting ≡ Some w =
    ap (λ (ws : List Waiting). message_at w.number ws) e ∙ ap (λ (b : Bool). cond b (Some w) (message_at w.number later)) (same w.number) in
    let left : without_message w.number s.waiting ≡ later =
    ap (λ (ws : List Waiting). without_message w.number ws) e ∙ ap (λ (b : Bool). cond b later (w ∷ without_message w.number later)) (same w.number) in
    ap (λ (o : Option Waiting). (abandoned_with o w.number s).waiting) found ∙ left

pub all_gone : (ws : List Waiting) (s : Sender) → s.waiting ≡ ws → (all_abandoned ws s).waiting ≡ []
all_gone [] s e = e
all_gone (w ∷ later) s e = all_gone later (abandoned w.number s) (first_gone w later s e)

pub no_message : LeavesNoMessage
no_message s = all_gone s.waiting s refl
